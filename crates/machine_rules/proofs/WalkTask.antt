-- The rules of ops as chains of primitives: what a rule owes, the ops on registers and memory cells, and the ops that end a task or
-- an activation.
use Rattle.machine_rules.specs.Primitives.{Arrive}
use Rattle.machine_rules.specs.Progress.{OneOf}
use Rattle.machine_rules.specs.Step.{is_among}
unfoldable use Rattle.machine_data.specs.Write.{arrive}
use Rattle.machine_rules.proofs.Walks.{[], Advance, advanced, after_placing, and_parts, answered, answered_by, ap, ap₂, arith, Asks, assigned, AwaitsEvent, backpressure_of, begun_holder, blocking_exit_rule, blocking_exits, blocking_returned, Bool, both_none, BySetHandle, Call, call_ends, CallEnd, Caller, cancel_was_delivered, cancelled, cancelled_rest, cancelled_tells, checked, checked_shifts, Choice, chosen_released, code_exits, code_finds, code_kind_rule, code_rule, code_stops, code_wait_rule, code_waits, code_yields, ComesAgain, Component, component_of, Core, data_rule, DataLabel, DataOp, Delivery, direct_exit_to, direct_exits, direct_return, Doer, end_for, end_reopens, EndCall, ended, ended_halts, ended_last, ended_walks, ends_activation, ends_untold, EndsActivation, EndsByExit, EndsCall, EndsOwn, EndTells, EndPrimitives, exit_label, exit_restores, exit_rule_for, exit_stops, Exits, exits_trip, ExportKind, Fails, false, find_passes, FindsEvent, finish, foot_of, get, get-change, Given, given_code, given_handle, given_result, GivesUp, Goal, goal_of, Continues, GoesBack, Going, Gone, Halted, halted_from, halted_on, handed_as, HandsOut, has_ended, has_event_for, has_ready_member, HasSet, held_by_flag, holder_at_exit, HostPoll, OpProgress, if◌then◌else◌, implicit_exit_rule, inl, InOp, inr, instance_of, is_async_lifted, is_at, is_code_op, is_direct, is_ending_exit, is_exit, is_exit_op, is_explicit, is_guest_call, is_holding, is_mute, is_none, is_other, is_over, is_running, is_under, IsPermutation, IsRunner, join, Keep, keep_at, keep_position, keep_stay, kind_exit_rule, kind_of, Label, lands, last_of, last_shifted, LastEnds, LastPrimitives, Leaves, leaves_no_result, Left, left_gone, left_walk, length, List, Main, Mark, may, may_tell, MayBar, MayEnd, MayOwe, min, Move, moved_to, mute_primitives, nat_le, nat_lt, nat_tests, Never, NoAnswer, None, none_said, NoneHeldIn, not, NoPrimitive, numbers, on_call, on_instance, on_thread, OneEvent, OneNumber, Op, op_at_place, op_in, op_of, OpAnswer, Option, option_map_or, or_never, or_trap, Ordered, outcome_of_label, task_event_of, own_or_none, TaskEvent, OwnScript, passes_after_return, passes_after_stop, passes_check, Place, place_of, placing_shifted, position_of, Progress, Put, ready_same, Records, refl, register_of, release_leaves, released_on, released_shifts, Remains, ret_label, returned, returned_holder, returned_last, returned_rest, returned_tells, ReturnsNow, said_is, saved_own_of, says_by, SaysEnd, Scene, script_of, set_at, set_backpressure, set_do_not_enter, set_do_not_suspend, set_end, set_op_progress, set_place, SetBackpressure, SetDoNotEnter, SetDoNotSuspend, SetOpProgress, SetTaskEvent, SetRegister, SetSavedCallee, Setting, SetMemoryCell, Shifted, shifted, shifted_after, shifted_calls, shifted_ready, shifted_task, shifts_shifted, skip_rule, skipped, Some, SomeHost, spared_released, Status, stay_walk, StillAt, Stop, stopped_on, Stops, stored, subst, Subtask, SubtaskEnd, suc, sym, sync_exit_rule, sync_exits, T, task_cancel_label, task_end, task_of, TaskLabel, TaskOp, TellsNever, Then, Thread, thread_exit_rule, told_spares, told_to, ToldSpares, ToldTo, Trap, trap_if, Traps, Trip, trip_walk, true, Turn, Uncovers, under_of, unwrap_or, value_of, Walk, Why, primitive, Writes, writes_by, WritesCall, WritesToo, written_as, zero, ℕ, ◌%◌, ◌&&◌, ◌*◌, ◌+◌, ◌-◌, ◌/◌, ◌==◌, ◌||◌, ◌∙◌, ◌∷◌, ◌≡◌, ◌≤◌, ◌⊎◌}
use Rattle.machine_rules.specs.{Finish.set_given, Task.dec_by, Task.held_by_counter, Task.pressure_gone, Task.pressure_lowered, Task.pressure_raised, Task.ret_rule, Task.task_cancel_rule, Task.task_rule}

-- ---- The op in its script

in_script : (ops : List Op) (p : ℕ) → is_exit_op (op_at_place ops p) ≡ false → p + 1 ≤ length ops
in_script [] p other = absurd (grind arith)
in_script (o ∷ ops) p other = grind (arith, in_script ops)

pub op_stands : (c : Component) (n : ℕ) (s : Core) → is_exit_op (op_of c n s) ≡ false → position_of n s + 1 ≤ length (script_of c n s)
unfolding op_of
op_stands c n s other = in_script (script_of c n s) (position_of n s) other

-- the thread runs, and there is an op at the place in its script at which it is in b
abbrev pub Stands : Scene → Core → ℕ → Type 0
Stands a b n = (a.turn ≡ Turn.Run n) × (position_of n b + 1 ≤ length (script_of (component_of a) n a.base))

-- the op may be done: a script isn't at its end, and for a host the thread is where it was
abbrev pub CanFinish : Doer → Scene → Core → ℕ → Type 0
CanFinish (OwnScript r) a b n = Stands a b n
CanFinish SomeHost a b n = (a.turn ≡ Turn.Run n) × StillAt n a.base b

-- ---- What a rule owes

-- the scene of a step of the thread n, which runs or was taken
abbrev pub seen : (ℕ → Op) → Setting → Main → Turn → Core → ℕ → Label → Turn → Scene
seen ops x main u s n l next = record { setting = x; main = main; turn = u; base = s; runner = Some n; label = l; next = next; ops = ops }

-- From b a chain of primitives leads to what the rule results in, where that shows the scene's label and leads to its turn.
abbrev pub Leads : Scene → Core → Progress → Type 0
Leads a b (Continues l new m) = a.label ≡ l → a.next ≡ Turn.Run m → Trip a b new × LastPrimitives a new
Leads a b (Stops l new) = a.label ≡ l → a.next ≡ Turn.Main → Trip a b new × LastPrimitives a new
Leads a b (Traps t) = Unit {0}
Leads a b (Fails i) = Unit {0}
Leads a b Never = Unit {0}
Leads a b (Ordered ns next) = (order : List ℕ) → IsPermutation ns order → Leads a b (next order)
Leads a b (OneOf ns next) = (m : ℕ) → is_among m ns ≡ true → Leads a b (next m)
Leads a b (Asks next) = (answer : HostPoll) → Leads a b (next answer)

module _ (a : Scene) (b : Core) where
  pub trap_if_leads : (c : Bool) (t : Trap) (p : Progress) → (c ≡ false → Leads a b p) → Leads a b (trap_if c t p)
  trap_if_leads true t p k = tt
  trap_if_leads false t p k = k refl

  pub may_leads : (c : Bool) (p : Progress) → (c ≡ true → Leads a b p) → Leads a b (may c p)
  may_leads true p k = k refl
  may_leads false p k = tt

  pub or_trap_leads : {X : Type 0} (o : Option X) (t : Trap) (next : X → Progress) → ((y : X) → o ≡ Some y → Leads a b (next y)) → Leads a b (or_trap o t next)
  or_trap_leads None t next k = tt
  or_trap_leads (Some y) t next k = k y refl

  pub or_never_leads : {X : Type 0} (o : Option X) (next : X → Progress) → ((y : X) → o ≡ Some y → Leads a b (next y)) → Leads a b (or_never o next)
  or_never_leads None next k = tt
  or_never_leads (Some y) next k = k y refl

-- ---- Labels

-- the label gives no outcome, and no holding entry begins with it
abbrev pub is_quiet : Core → Label → Bool
is_quiet s k = is_none (outcome_of_label k) && is_none (begun_holder s k)

-- nor is it that of an exit
abbrev pub is_plain : Core → Label → Bool
is_plain s k = is_quiet s k && not (is_exit k)

-- and it says nothing of ends
abbrev pub is_still : Scene → Core → Label → Bool
is_still a t k = is_plain a.base k && is_mute a t k

-- a label of a task that ends, or is cancelled, says that
abbrev pub SaysTask : (ℕ → Op) → Main → ℕ → Status → Core → Core → Label → Type 0
SaysTask c m n f s t k = (is_plain s k ≡ true) × ((written_as c s k t ≡ task_end n f s) × (handed_as c m s k t ≡ None))

pub ret_is : (c : ℕ → Op) (m : Main) (n v : ℕ) (w : Option ℕ) (s t : Core) → SaysTask c m n Status.Returned s t (ret_label n v w)
ret_is c m n v w s t = (grind arith, (grind arith, grind arith))

task_cancel_is : (c : ℕ → Op) (m : Main) (n : ℕ) (w : Option ℕ) (s t : Core) → SaysTask c m n Status.ReturnCancelled s t (task_cancel_label n w)
task_cancel_is c m n w s t = (grind arith, (grind arith, grind arith))

-- the call of which an end speaks
pub over_now : (k : ℕ) (e : CallEnd) (s : Core) → is_over k (call_ends k e s) ≡ true
unfolding on_call
over_now k e s = grind (arith, nat_tests, get-change)

exit_is : (n : ℕ) (w : Option ℕ) (s : Core) → (is_quiet s (exit_label n w) ≡ true) × ((is_exit (exit_label n w) ≡ true) × (returned_holder s (exit_label n w) ≡ holder_at_exit n s))
exit_is n w s = (grind arith, (grind arith, grind arith))

pub one_runner : (n m : ℕ) → Turn.Run n ≡ Turn.Run m → n ≡ m
one_runner n m e = grind arith

pub not_main : {A : Type 0} (n : ℕ) → Turn.Main ≡ Turn.Run n → A
not_main n e = absurd (grind arith)

pub unnot : (c : Bool) → not c ≡ false → c ≡ true
unnot c h = grind arith

pub moved_passes : (test : Place → Bool) (p : Place) → test p ≡ true → (m : ℕ) (t : Core) → option_map_or test (place_of m (set_place m p t)) true ≡ true
unfolding set_place on_thread
moved_passes test p passes m t = grind (arith, nat_tests, get-change)

reopened_shifted : (i : ℕ) (order : List ℕ) (s : Core) → Shifted (set_do_not_enter i false s) (end_reopens i order s)
unfolding end_reopens
reopened_shifted i order s = shifts_shifted (released_shifts order (set_do_not_enter i false s))

module _ {a : Scene} {b : Core} (n : ℕ) (is : IsRunner a n) where
  -- ---- Registers and memory cells

  pub moved_to_walks : (p : ℕ) {t : Core} → a.turn ≡ Turn.Run n → p ≤ length (script_of (component_of a) n a.base) → Keep a b t → Going a b n (moved_to n p t)
  unfolding moved_to
  moved_to_walks p {t = t} runs within c = λ to. Then t (Advance n p) (keep_stay c) (is, (runs, (to, within)))

  pub advanced_walks : Stands a b n → {t : Core} → Keep a b t → Going a b n (advanced n t)
  unfolding advanced
  advanced_walks on {t = t} c = moved_to_walks (position_of n t + 1) on.0 (let low = keep_position n c in let high = on.1 in omega (arith, low, high)) c

  pub assigned_walks : Stands a b n → (r v : ℕ) {t : Core} → Keep a b t → Going a b n (assigned n r v t)
  unfolding assigned
  assigned_walks on r v c = advanced_walks on (primitive (SetRegister n r v) tt c)

  pub set_given_walks : (r : ℕ) (v : Given) {t : Core} → Keep a b t → Keep a b (set_given n r v t)
  unfolding set_given
  set_given_walks r v c = primitive (SetRegister n (r + 2) (given_result v)) tt (primitive (SetRegister n (r + 1) (given_handle v)) tt (primitive (SetRegister n r (given_code v)) tt c))

  -- the op is done
  pub finished_walks : (d : Doer) → CanFinish d a b n → (answer : OpAnswer) {t : Core} → Keep a b t → Going a b n (finish d n answer t)
  finished_walks (OwnScript r) on NoAnswer c = advanced_walks on c
  finished_walks (OwnScript r) on (OneNumber v) c = assigned_walks on r v c
  finished_walks (OwnScript r) on (OneEvent v) c = advanced_walks on (set_given_walks r v c)
  finished_walks SomeHost on k {t = t} c = λ to. Then t (SetOpProgress n OpProgress.Fresh) (keep_stay c) (is, InOp (keep_at n on.0 on.1 c) refl)

  pub answered_walks : (d : Doer) → CanFinish d a b n → (v : ℕ) {t : Core} → Keep a b t → Going a b n (answered_by d n v t)
  answered_walks d on v c = finished_walks d on (OneNumber v) (primitive (SetSavedCallee n None) tt c)

  -- ---- Ends

  -- the threads are released first, so that none is held that is admitted
  reopens_walks : (i : ℕ) (order : List ℕ) {t : Core} → MayBar a i false → IsPermutation (held_by_flag i t) order → Keep a b t → Keep a b (end_reopens i order t)
  unfolding end_reopens held_by_flag set_do_not_enter
  reopens_walks i order {t = t} ok perm c =
      let same = released_on i (λ r. record r { do_not_enter = false }) order t in
      subst (λ (u : Core). Keep a b u) (sym same) (primitive (SetDoNotEnter i false) (ok, subst (λ (u : Core). NoneHeldIn i u) same (release_leaves i (set_do_not_enter i false t) order perm)) (shifted (released_shifts order t) c))

  -- once the task has returned
  sync_exits_walks : (w : Option ℕ) (t : Core) → ToldTo (task_of n t) w (exit_restores n t) → Leaves a n → Keep a b (returned (task_of n t) (register_of n 0 t) w (exit_restores n t)) → Left a b n (sync_exits n w t)
  unfolding sync_exits exit_restores set_do_not_suspend on_instance
  sync_exits_walks w t to leave c =
      let r = returned (task_of n t) (register_of n 0 t) w (exit_restores n t) in
      ended_walks n (last_shifted n (placing_shifted (Stop (foot_of n t)) r) (returned_last n (task_of n t) (register_of n 0 t) w (exit_restores n t) to refl)) (stopped_on (foot_of n t) leave.1.0 c)

  exit_stops_walks : {t : Core} → LastEnds n t → Leaves a n → Keep a b t → Left a b n (exit_stops n t)
  unfolding exit_stops
  exit_stops_walks {t = t} last leave c =
      ended_walks n (last_shifted n (shifted_after (shifts_shifted (checked_shifts (instance_of n t) t)) (placing_shifted (Stop (foot_of n t)) (checked (instance_of n t) t))) last) (stopped_on (foot_of n t) leave.1.0 (shifted (checked_shifts (instance_of n t) t) c))

  blocking_exits_walks : (w : Option ℕ) (order : List ℕ) (t : Core) → ToldTo (task_of n t) w (end_reopens (instance_of n t) order t) → Leaves a n → Keep a b (blocking_returned n w order t) → Left a b n (blocking_exits n w order t)
  unfolding blocking_exits set_do_not_enter on_instance
  blocking_exits_walks w order t to leave c =
      let r = end_reopens (instance_of n t) order t in
      exit_stops_walks (returned_last n (task_of n t) (register_of n 0 t) w r to (shifted_task (reopened_shifted (instance_of n t) order t) n)) leave c

  -- the thread m goes on, under which n ran
  direct_exits_walks : (m v : ℕ) (t : Core) → is_direct (goal_of (task_of n t) t) ≡ true → a.turn ≡ Turn.Run n → a.next ≡ Turn.Run m → place_of m a.base ≡ Some (Place.Under n) → direct_return a.base a.label ≡ Some (m, task_of n a.base) → Keep a b (call_ends (task_of n t) CallEnd.Returned t) → Trip a b (direct_exits n m v t) × (get (direct_exits n m v t).threads n ≡ None)
  unfolding direct_exits set_op_progress set_place on_thread
  direct_exits_walks m v t direct runs to under back c =
      let u = set_end (task_of n t) CallEnd.Returned t in
      let e = ended_walks n (ended_last n (task_of n t) CallEnd.Returned t refl) (subst (λ (u : Core). Keep a b u) (sym (ends_untold (task_of n t) CallEnd.Returned t (grind (arith, direct)))) c) in
      let gone = left_gone n e in
      (subst (λ (y : Core). Trip a b (set_op_progress m (OpProgress.Answered v) y)) (placing_shifted (Move m Place.Running) (ended n u)).only (GoesBack e.before (ended n u) n m v (keep_stay e.stays) is runs to under back e.settles (Uncovers n is to under (ap (λ (o : Option Thread). is_none o) gone) refl)), grind (arith, nat_tests, get-change, gone))

-- As before, with the strand stopped.
module _ {a : Scene} {b : Core} (n : ℕ) (is : IsRunner a n) where
  exit_stops_gone : {t : Core} → LastEnds n t → Leaves a n → Keep a b t → Gone a b n (exit_stops n t)
  unfolding exit_stops
  exit_stops_gone {t = t} last leave c =
      let i = instance_of n t in
      ended_halts n (last_shifted n (shifted_after (shifts_shifted (checked_shifts i t)) (placing_shifted (Stop (foot_of n t)) (checked i t))) last) (stopped_on (foot_of n t) leave.1.0 (shifted (checked_shifts i t) c)) (halted_from n c (shifted (checked_shifts i t) NoPrimitive))

  sync_exits_gone : (w : Option ℕ) (t : Core) → ToldTo (task_of n t) w (exit_restores n t) → Leaves a n → Keep a b t → Keep a t (returned (task_of n t) (register_of n 0 t) w (exit_restores n t)) → Gone a b n (sync_exits n w t)
  unfolding sync_exits exit_restores set_do_not_suspend on_instance
  sync_exits_gone w t to leave c d =
      let r = returned (task_of n t) (register_of n 0 t) w (exit_restores n t) in
      ended_halts n (last_shifted n (placing_shifted (Stop (foot_of n t)) r) (returned_last n (task_of n t) (register_of n 0 t) w (exit_restores n t) to refl)) (stopped_on (foot_of n t) leave.1.0 (join c d)) (halted_from n c d)

  blocking_exits_gone : (w : Option ℕ) (order : List ℕ) (t : Core) → ToldTo (task_of n t) w (end_reopens (instance_of n t) order t) → Leaves a n → Keep a b (blocking_returned n w order t) → Gone a b n (blocking_exits n w order t)
  unfolding blocking_exits set_do_not_enter on_instance
  blocking_exits_gone w order t to leave c =
      let r = end_reopens (instance_of n t) order t in
      exit_stops_gone (returned_last n (task_of n t) (register_of n 0 t) w r to (shifted_task (reopened_shifted (instance_of n t) order t) n)) leave c

  code_stops_walks : (order : List ℕ) {t : Core} → MayBar a (instance_of n t) false → IsPermutation (held_by_flag (instance_of n t) t) order → Leaves a n → Keep a b t → Keep a b (code_stops n order t) × Halted a b n (code_stops n order t)
  unfolding code_stops
  code_stops_walks order {t = t} bar perm leave c =
      let d = reopens_walks {b = t} n is (instance_of n t) order bar perm NoPrimitive in (stopped_on (foot_of n t) leave.1.0 (join c d), halted_from n c d)

-- which members are ready doesn't hang on who has come
pub arrived_ready : (y n : ℕ) (t : Core) → has_ready_member y (arrive n t) ≡ has_ready_member y t
unfolding arrive on_thread
arrived_ready y n t = ready_same y t (arrive n t) refl refl

-- the thread that is under n
pub under_place : (n m : ℕ) (s : Core) → under_of n s ≡ Some m → place_of m s ≡ Some (Place.Under n)
unfolding under_of
under_place n m s h = grind (arith, nat_tests, find_passes (λ k. is_at k s (is_under n)) (numbers s.threads) m)

direct_exits_runs : (n m v : ℕ) (t : Core) → option_map_or is_running (place_of m (direct_exits n m v t)) true ≡ true
unfolding direct_exits set_op_progress set_place on_thread
direct_exits_runs n m v t = grind (arith, nat_tests, get-change)

-- ---- The running thread

module _ (ops : ℕ → Op) (x : Setting) (main : Main) (s : Core) (n : ℕ) (l : Label) (next : Turn) where
  abbrev pub running_scene : Scene
  running_scene = seen ops x main (Turn.Run n) s n l next

  abbrev a : Scene
  a = running_scene

  quiet_ends : {k : Label} {t : Core} → l ≡ k → is_quiet s k ≡ true → ((m : ℕ) → next ≡ Turn.Run m → (Turn.Run n ≡ Turn.Run m) ⊎ (option_map_or is_running (place_of m t) true ≡ true)) → (is_exit k ≡ true → get t.threads n ≡ None) → EndPrimitives a t → LastPrimitives a t
  quiet_ends {k = k} {t = t} is quiet runs gone says =
      let p = both_none (outcome_of_label k) (begun_holder s k) quiet in
      record {
        laid = λ m at take. absurd (subst T (sym take) tt);
        runs = runs;
        outcome = λ o at. none_said (ap outcome_of_label is ∙ p.0) at;
        gone = λ m at exit. subst (λ (j : ℕ). get t.threads j ≡ None) (ap (λ (o : Option ℕ). unwrap_or o 0) at) (gone (sym (ap is_exit is) ∙ exit));
        says = says;
        shut = λ i begun. none_said (ap (λ (y : Label). begun_holder s y) is ∙ p.1) begun;
      }

  -- n goes on, as the label says
  pub goes_on_told : (k : Label) (t : Core) → is_plain s k ≡ true → (l ≡ k → next ≡ Turn.Run n → EndPrimitives a t) → (l ≡ k → Going a s n t) → Leads a s (Continues k t n)
  goes_on_told k t plain says c is to =
      let p = and_parts (is_quiet s k) (not (is_exit k)) plain in
      (Remains t (c is to) (λ m at. sym to ∙ at) (λ m runs. to ∙ ap (λ (o : Option ℕ). Turn.Run (unwrap_or o 0)) runs), quiet_ends is p.0 (λ m at. inl (sym to ∙ at)) (λ exit. absurd (subst T (sym p.1 ∙ ap not exit) tt)) (says is to))

  -- n goes on
  pub goes_on : (k : Label) (t : Core) → is_still a t k ≡ true → Going a s n t → Leads a s (Continues k t n)
  goes_on k t still c = let p = and_parts (is_plain s k) (is_mute a t k) still in goes_on_told k t p.0 (λ is to. mute_primitives a t is p.1) (λ is. c)

  -- no thread goes on
  stops_so : (k : Label) (t : Core) → is_quiet s k ≡ true → (l ≡ k → Leaves a n → EndPrimitives a t) → (l ≡ k → Leaves a n → Trip a s t × (is_exit k ≡ true → get t.threads n ≡ None)) → Leads a s (Stops k t)
  stops_so k t quiet says c is to = let r = c is (refl, (to, refl)) in (r.0, quiet_ends is quiet (λ m at. not_main m (sym to ∙ at)) r.1 (says is (refl, (to, refl))))

  -- n is gone
  gone_here : (k : Label) (t : Core) → is_quiet s k ≡ true → (l ≡ k → Leaves a n → EndPrimitives a t) → (l ≡ k → Leaves a n → Gone a s n t) → Leads a s (Stops k t)
  gone_here k t quiet says c = stops_so k t quiet says (λ is leave. let e = c is leave in (exits_trip n leave e, λ exit. left_gone n e.0))

  -- n stops
  pub stops_here : (k : Label) (t : Core) → is_still a t k ≡ true → (Leaves a n → Trip a s t) → Leads a s (Stops k t)
  stops_here k t still c =
      let r = and_parts (is_plain s k) (is_mute a t k) still in
      let p = and_parts (is_quiet s k) (not (is_exit k)) r.0 in
      stops_so k t p.0 (λ is leave. mute_primitives a t is r.1) (λ is leave. (c leave, λ exit. absurd (subst T (sym p.1 ∙ ap not exit) tt)))

  -- another thread, which runs now, goes on
  pub goes_over : (k : Label) (m : ℕ) (t : Core) → is_quiet s k ≡ true → (Turn.Run n ≡ Turn.Run m) ⊎ (option_map_or is_running (place_of m t) true ≡ true) → (l ≡ k → EndPrimitives a t) → (l ≡ k → next ≡ Turn.Run m → Trip a s t × (is_exit k ≡ true → get t.threads n ≡ None)) → Leads a s (Continues k t m)
  goes_over k m t quiet runs says c is to =
      let r = c is to in
      (r.0, quiet_ends is quiet (λ j at. subst (λ (i : ℕ). (Turn.Run n ≡ Turn.Run i) ⊎ (option_map_or is_running (place_of i t) true ≡ true)) (one_runner m j (sym to ∙ at)) runs) r.1 (says is))

  -- ---- The ops on registers and memory cells

  skip_rule_leads : Stands a s n → (k : ℕ) (b : Bool) → Leads a s (skip_rule x.component n k s b)
  unfolding skipped
  skip_rule_leads on k true = goes_on (Label.Data (DataLabel.SkipEq n)) (skipped x.component n k s) refl (moved_to_walks n refl (min (position_of n s + 1 + k) (length (script_of x.component n s))) refl (grind arith) NoPrimitive)
  skip_rule_leads on k false = goes_on (Label.Data (DataLabel.SkipEq n)) (advanced n s) refl (advanced_walks n refl on NoPrimitive)

  pub data_rule_leads : Stands a s n → (o : DataOp) → Leads a s (data_rule x.component n s o)
  unfolding stored
  data_rule_leads on (DataOp.Store w y) = goes_on _ _ refl (advanced_walks n refl on (primitive (SetMemoryCell (instance_of n s) w (value_of n s y)) tt NoPrimitive))
  data_rule_leads on (DataOp.SkipEq y z k) = skip_rule_leads on k (value_of n s y == value_of n s z)
  data_rule_leads on o = goes_on _ _ refl (assigned_walks n refl on _ _ NoPrimitive)

  -- ---- Exits

  exit_ends : (w : Option ℕ) (t : Core) → is_explicit n s ≡ false → (is_direct (goal_of (task_of n s) s) ≡ true) ⊎ (is_async_lifted (kind_of (task_of n s) s) ≡ false) → written_as ops s (exit_label n w) t ≡ task_end n Status.Returned s
  exit_ends w t implicit kind = grind (arith, implicit, kind)

  exit_says : (t : Core) (w : Option ℕ) → l ≡ exit_label n w → is_explicit n s ≡ false → (is_direct (goal_of (task_of n s) s) ≡ true) ⊎ (is_async_lifted (kind_of (task_of n s) s) ≡ false) → written_as ops s l t ≡ task_end n Status.Returned s
  exit_says t w is implicit kind = ap (λ (k : Label). written_as ops s k t) is ∙ exit_ends w t implicit kind

  -- the label says an end of the task
  pub writes_task : (f : Status) (t u : Core) {o : Option SubtaskEnd} → o ≡ task_end n f s → EndsCall a (task_of n s) → is_over (task_of n s) u ≡ true → Walk a u t → EndTells a t (Subtask.Guest (task_of n s)) f → (sub : Subtask) (e : Status) → o ≡ Some (end_for e sub) → Writes a t sub × EndTells a t sub e
  writes_task f t u is ends over c tells sub e says = said_is (λ d g. Writes a t d × EndTells a t d g) (sym is ∙ says) (WritesCall (task_of n s) u ends over c, tells)

  -- an exit that ends no task
  exit_is_none : (t : Core) → is_ending_exit n s ≡ false → l ≡ exit_label n None → EndPrimitives a t
  exit_is_none t none is = mute_primitives a t is (grind (arith, none))

  -- an exit that ends the task
  exit_says_end : (w : Option ℕ) (t : Core) → l ≡ exit_label n w → is_explicit n s ≡ false → is_async_lifted (kind_of (task_of n s) s) ≡ false → is_direct (goal_of (task_of n s) s) ≡ false → (u : Core) → is_over (task_of n s) u ≡ true → Walk a u t → EndTells a t (Subtask.Guest (task_of n s)) Status.Returned → EndPrimitives a t
  exit_says_end w t is implicit kind direct u over c tells = writes_by a t is (grind arith) (grind (arith, direct)) (writes_task Status.Returned t u (exit_ends w t implicit (inr kind)) (EndsByExit (n, (refl, (refl, (implicit, inr kind))))) over c tells)

  thread_exit_rule_leads : is_ending_exit n s ≡ false → Leads a s (thread_exit_rule n s)
  thread_exit_rule_leads none =
      trap_if_leads a s (not (passes_check (instance_of n s) s)) Trap.CannotBlockSyncTask _ (λ e.
      trap_if_leads a s (leaves_no_result n s) Trap.NoAsyncResult _ (λ f.
      gone_here (exit_label n None) (exit_stops n s) refl (λ is leave. exit_is_none (exit_stops n s) none is) (λ is leave. exit_stops_gone n refl (last_of n s f) leave NoPrimitive)))

  exits : (w : Option ℕ) (t : Core) → l ≡ exit_label n w → is_explicit n s ≡ false → (is_direct (goal_of (task_of n s) s) ≡ true) ⊎ (is_async_lifted (kind_of (task_of n s) s) ≡ false) → t.calls ≡ s.calls → MayEnd a (task_of n s) CallEnd.Returned t
  exits w t is implicit kind same = Exits n refl refl (ap is_exit is ∙ (exit_is n w s).1.0) refl implicit kind (ap (λ (m : Records Call). get m (task_of n s)) same) refl

  sync_exit_rule_leads : (w : Option ℕ) → is_explicit n s ≡ false → is_async_lifted (kind_of (task_of n s) s) ≡ false → is_direct (goal_of (task_of n s) s) ≡ false → Leads a s (sync_exit_rule n w s)
  unfolding exit_restores set_do_not_suspend on_instance
  sync_exit_rule_leads w implicit kind direct =
      may_leads a s (may_tell (task_of n s) w s) _ (λ may.
      let k = task_of n s in
      let t = exit_restores n s in
      let told = told_to k w s may in
      let over : l ≡ exit_label n w → Keep a s (call_ends k CallEnd.Returned t) = λ at. primitive (EndCall k CallEnd.Returned) (exits w t at implicit (inr kind) refl, exit_says s w at implicit (inr kind)) (primitive (SetDoNotSuspend (instance_of n s) (unwrap_or (saved_own_of n s) false)) tt NoPrimitive) in
      gone_here (exit_label n w) (sync_exits n w s) (exit_is n w s).0
      (λ at leave.
      let says = exit_says s w at implicit (inr kind) in
      exit_says_end w (sync_exits n w s) at implicit kind direct (call_ends k CallEnd.Returned t) (over_now k CallEnd.Returned t) (left_walk n leave (sync_exits_walks n refl w s told leave (returned_rest k (register_of n 0 s) w t says told NoPrimitive)))
      (returned_tells k (register_of n 0 s) w t says told (told_spares k w s may) refl refl (over at) (left_walk n leave (sync_exits_walks n refl w s told leave NoPrimitive))))
      (λ at leave. sync_exits_gone n refl w s told leave NoPrimitive (returned_rest k (register_of n 0 s) w t (exit_says s w at implicit (inr kind)) told (over at))))

  -- where a holding entry returns
  bars : (w : Option ℕ) → l ≡ exit_label n w → is_explicit n s ≡ false → is_holding (kind_of (task_of n s) s) ≡ true → is_direct (goal_of (task_of n s) s) ≡ false → MayBar a (instance_of n s) false
  bars w is implicit holding direct = ap (λ k. returned_holder s k) is ∙ ((exit_is n w s).1.1 ∙ grind (arith, implicit, holding, direct))

  blocking_exit_rule_leads : (w : Option ℕ) → is_explicit n s ≡ false → kind_of (task_of n s) s ≡ ExportKind.Blocking → is_direct (goal_of (task_of n s) s) ≡ false → Leads a s (blocking_exit_rule n w s)
  unfolding end_reopens set_do_not_enter on_instance
  blocking_exit_rule_leads w implicit kind direct =
      trap_if_leads a s (not (passes_after_return n w s)) Trap.CannotBlockSyncTask _ (λ e.
      may_leads a s (may_tell (task_of n s) w s) _ (λ may order perm.
      let i = instance_of n s in
      let k = task_of n s in
      let t = end_reopens i order s in
      let same = shifted_calls (reopened_shifted i order s) in
      let lifted : is_async_lifted (kind_of (task_of n s) s) ≡ false = ap (λ y. is_async_lifted y) kind in
      let told : ToldTo k w t = λ is y at. chosen_released order y w (set_do_not_enter i false s) (told_to k w s may (grind (arith, is, same)) y (grind (arith, at, same))) in
      let spare : ToldSpares k w t = λ is y at none m. spared_released order y m (set_do_not_enter i false s) (told_spares k w s may (grind (arith, is, same)) y (grind (arith, at, same)) none m) in
      let over : l ≡ exit_label n w → Keep a s (call_ends k CallEnd.Returned t) = λ at. primitive (EndCall k CallEnd.Returned) (exits w t at implicit (inr lifted) same, exit_says s w at implicit (inr lifted)) (reopens_walks n refl i order (bars w at implicit (ap (λ y. is_holding y) kind) direct) perm NoPrimitive) in
      gone_here (exit_label n w) (blocking_exits n w order s) (exit_is n w s).0
      (λ at leave.
      let says = exit_says s w at implicit (inr lifted) in
      exit_says_end w (blocking_exits n w order s) at implicit lifted direct (call_ends k CallEnd.Returned t) (over_now k CallEnd.Returned t) (left_walk n leave (blocking_exits_walks n refl w order s told leave (returned_rest k (register_of n 0 s) w t says told NoPrimitive)))
      (returned_tells k (register_of n 0 s) w t says told spare refl (ap (λ (m : Records Call). is_guest_call (option_map_or (λ (c : Call). c.caller) (get m k) Caller.Main) && not (is_direct (option_map_or (λ (c : Call). c.goal) (get m k) Goal.Nowhere))) same) (over at) (left_walk n leave (blocking_exits_walks n refl w order s told leave NoPrimitive))))
      (λ at leave. blocking_exits_gone n refl w order s told leave (returned_rest k (register_of n 0 s) w t (exit_says s w at implicit (inr lifted)) told (over at)))))

  direct_leads : (m : ℕ) (t : Core) → under_of n s ≡ Some m → is_explicit n s ≡ false → is_direct (goal_of (task_of n s) s) ≡ true → task_of n t ≡ task_of n s → t.calls ≡ s.calls → Keep a s t → Leads a s (Continues (exit_label n None) (direct_exits n m (register_of n 0 s) t) m)
  direct_leads m t under implicit direct task calls c =
      let v = register_of n 0 s in
      let k = task_of n s in
      let is_so : is_direct (goal_of (task_of n t) t) ≡ true = grind arith in
      let says : l ≡ exit_label n None → SaysEnd a (task_of n t) Status.Returned = λ is. subst (λ (k : ℕ). SaysEnd a k Status.Returned) (sym task) (exit_says s None is implicit (inl direct)) in
      let back : l ≡ exit_label n None → direct_return s l ≡ Some (m, k) = λ is. ap (λ (y : Label). direct_return s y) is ∙ grind (arith, implicit, direct, under) in
      λ here over.
      goes_over (exit_label n None) m (direct_exits n m v t) refl (inr (direct_exits_runs n m v t))
      (λ at. says_by a _ at refl
      (writes_task Status.Returned _ (call_ends (task_of n t) CallEnd.Returned t) (exit_ends None (direct_exits n m v t) implicit (inl direct)) (EndsByExit (n, (refl, (refl, (implicit, inl direct))))) (subst (λ (i : ℕ). is_over k (call_ends i CallEnd.Returned t) ≡ true) (sym task) (over_now k CallEnd.Returned t)) (trip_walk (direct_exits_walks n refl m v t is_so refl over (under_place n m s under) (back at) NoPrimitive).0) (TellsNever k Status.Returned (grind (arith, direct))))
      (λ sub e out. said_is (HandsOut a (direct_exits n m v t)) (sym (ap₂ (λ (f g : Bool). if not f && g then task_end n Status.Returned s else None) implicit direct) ∙ out) (WritesToo k Status.Returned (exit_says s None at implicit (inl direct)) (inl direct))))
      (λ is to.
      let r = direct_exits_walks n refl m v t is_so refl to (under_place n m s under) (back is) (primitive (EndCall (task_of n t) CallEnd.Returned) (subst (λ (k : ℕ). MayEnd a k CallEnd.Returned t) (sym task) (exits None t is implicit (inl direct) calls), says is) c) in
      (r.0, λ exit. r.1)) here over

  pub direct_exit_to_leads : (k : ExportKind) (o : Option ℕ) → under_of n s ≡ o → is_explicit n s ≡ false → is_direct (goal_of (task_of n s) s) ≡ true → Leads a s (direct_exit_to n k s o)
  unfolding exit_restores set_do_not_suspend on_instance
  direct_exit_to_leads k None under implicit direct = tt
  direct_exit_to_leads ExportKind.Sync (Some m) under implicit direct = direct_leads m (exit_restores n s) under implicit direct refl refl (primitive (SetDoNotSuspend (instance_of n s) (unwrap_or (saved_own_of n s) false)) tt NoPrimitive)
  direct_exit_to_leads k (Some m) under implicit direct =
      let h : Shifted s (checked (instance_of n s) s) = shifts_shifted (checked_shifts (instance_of n s) s) in
      trap_if_leads a s (not (passes_check (instance_of n s) s)) Trap.CannotBlockSyncTask _ (λ e.
      direct_leads m (checked (instance_of n s) s) under implicit direct (shifted_task h n) (shifted_calls h) (shifted (checked_shifts (instance_of n s) s) NoPrimitive))

  -- ---- The ends of activations

  owes : (o : Option TaskEvent) → task_event_of (task_of n s) s ≡ o → EndsActivation a n → (t : Core) → MayOwe a (task_of n s) (own_or_none o) t
  owes None has ends t = inr (n, (ends, (refl, ap own_or_none has)))
  owes (Some e) has ends t = inr (n, (ends, (refl, ap own_or_none has)))

  code_wait_rule_leads : (k : Label) (y : ℕ) (b : Bool) → has_event_for (task_of n s) y s ≡ b → ((t : Core) → is_still a t k ≡ true) → (l ≡ k → MayBar a (instance_of n s) false) → EndsActivation a n → HasSet a n y → Leads a s (code_wait_rule k n y (held_by_flag (instance_of n s) s) s b)
  unfolding code_finds code_waits code_stops has_event_for set_do_not_enter on_instance arrive on_thread
  code_wait_rule_leads k y true is_so plain bar ends has = λ order perm is to. stops_here k (code_finds n y order s) (plain _) (λ leave. lands (Put Mark.High n (Why.Delivery (Delivery.Set y))) refl (FindsEvent y leave ends has refl) tt (code_stops_walks n refl order (bar is) perm leave NoPrimitive).0) is to
  code_wait_rule_leads k y false is_so plain bar ends has = let open_ready : has_ready_member y (set_do_not_enter (instance_of n s) false s) ≡ false = ready_same y s (set_do_not_enter (instance_of n s) false s) refl refl ∙ grind arith in λ order perm is to. stops_here k (code_waits n y order s) (plain _) (λ leave. let c = code_stops_walks n refl order (bar is) perm leave NoPrimitive in lands (Move n (Place.Waiting y true)) refl (AwaitsEvent y leave ends has (arrived_ready y n (after_placing (Stop (foot_of n s)) (end_reopens (instance_of n s) order s)) ∙ (shifted_ready (shifted_after (reopened_shifted (instance_of n s) order s) (placing_shifted (Stop (foot_of n s)) (end_reopens (instance_of n s) order s))) y ∙ open_ready)) refl) (halted_on c.1 (primitive (Arrive n) refl NoPrimitive)) (primitive (Arrive n) refl c.0)) is to

  code_exits_leads : (k : Label) → is_quiet s k ≡ true → ((t : Core) → l ≡ k → EndPrimitives a t) → (l ≡ k → MayBar a (instance_of n s) false) → (rest : ℕ) → Leads a s (code_kind_rule k n (held_by_flag (instance_of n s) s) s zero rest)
  unfolding code_exits code_stops set_do_not_enter on_instance
  code_exits_leads k quiet says bar rest =
      trap_if_leads a s (not (passes_after_stop (instance_of n s) (foot_of n s) (held_by_flag (instance_of n s) s) s)) Trap.CannotBlockSyncTask _ (λ e.
      trap_if_leads a s (leaves_no_result n s) Trap.NoAsyncResult _ (λ f order perm.
      let h = checked_shifts (instance_of n s) (code_stops n order s) in
      gone_here k (code_exits n order s) quiet (λ is leave. says (code_exits n order s) is) (λ is leave.
      let c = code_stops_walks n refl order (bar is) perm leave NoPrimitive in
      ended_halts n (last_shifted n (shifted_after (reopened_shifted (instance_of n s) order s) (shifted_after (placing_shifted (Stop (foot_of n s)) (end_reopens (instance_of n s) order s)) (shifts_shifted h))) (last_of n s f)) (shifted h c.0) (halted_on c.1 (shifted h NoPrimitive)))))

  code_kind_rule_leads : (k : Label) (low rest : ℕ) → ((t : Core) → is_still a t k ≡ true) → (l ≡ k → MayBar a (instance_of n s) false) → EndsActivation a n → Leads a s (code_kind_rule k n (held_by_flag (instance_of n s) s) s low rest)
  unfolding code_yields
  code_kind_rule_leads k zero rest plain bar ends =
      code_exits_leads k (and_parts (is_quiet s k) (not (is_exit k)) (and_parts (is_plain s k) (is_mute a s k) (plain s)).0).0 (λ t is. mute_primitives a t is (and_parts (is_plain s k) (is_mute a t k) (plain t)).1) bar rest
  code_kind_rule_leads k (suc zero) rest plain bar ends = λ order perm is to. stops_here k (code_yields n order s) (plain _) (λ leave. lands (Put Mark.Low n (Why.Delivery Delivery.Yield)) refl (ComesAgain leave ends refl) tt (primitive (SetTaskEvent (task_of n s) (own_or_none (task_event_of (task_of n s) s))) (owes (task_event_of (task_of n s) s) refl ends (code_stops n order s)) (code_stops_walks n refl order (bar is) perm leave NoPrimitive).0)) is to
  code_kind_rule_leads k (suc (suc zero)) rest plain bar ends = or_trap_leads a s (set_at (instance_of n s) rest s) Trap.BadHandle _ (λ y named. code_wait_rule_leads k y (has_event_for (task_of n s) y s) refl plain bar ends (BySetHandle rest named))
  code_kind_rule_leads k (suc (suc (suc low))) rest plain bar ends = tt

  code_rule_leads : (k : Label) (code : ℕ) → ((t : Core) → is_still a t k ≡ true) → (l ≡ k → MayBar a (instance_of n s) false) → EndsActivation a n → Leads a s (code_rule k n s code)
  code_rule_leads k code plain bar ends = trap_if_leads a s (nat_lt 4294967295 code) Trap.UnsupportedCallbackCode _ (λ e. code_kind_rule_leads k (code % 16) (code / 16) plain bar ends)

  not_ending : is_explicit n s ≡ false → is_direct (goal_of (task_of n s) s) ≡ false → is_async_lifted (kind_of (task_of n s) s) ≡ true → is_ending_exit n s ≡ false
  not_ending implicit direct lifted = ap₂ (λ e d. not e && (d || not (is_async_lifted (kind_of (task_of n s) s)))) implicit direct ∙ ap (λ h. not h) lifted

  kind_exit_rule_leads : (w : Option ℕ) (k : ExportKind) → kind_of (task_of n s) s ≡ k → is_explicit n s ≡ false → is_direct (goal_of (task_of n s) s) ≡ false → Leads a s (kind_exit_rule n w s k)
  kind_exit_rule_leads w ExportKind.Sync kind implicit direct = sync_exit_rule_leads w implicit (ap (λ y. is_async_lifted y) kind) direct
  kind_exit_rule_leads w ExportKind.Blocking kind implicit direct = blocking_exit_rule_leads w implicit kind direct
  kind_exit_rule_leads w ExportKind.Stackful kind implicit direct = thread_exit_rule_leads (not_ending implicit direct (ap (λ y. is_async_lifted y) kind))
  kind_exit_rule_leads w ExportKind.Callback kind implicit direct = code_exits_leads (exit_label n None) refl (λ t is. exit_is_none t (not_ending implicit direct (ap (λ y. is_async_lifted y) kind)) is) (λ is. bars None is implicit (ap (λ y. is_holding y) kind) direct) 0

  implicit_exit_rule_leads : (w : Option ℕ) (b : Bool) → is_direct (goal_of (task_of n s) s) ≡ b → is_explicit n s ≡ false → Leads a s (implicit_exit_rule n w s b)
  implicit_exit_rule_leads w true direct implicit = direct_exit_to_leads (kind_of (task_of n s) s) (under_of n s) refl implicit direct
  implicit_exit_rule_leads w false direct implicit = kind_exit_rule_leads w (kind_of (task_of n s) s) refl implicit direct

  exit_rule_for_leads : (w : Option ℕ) (b : Bool) → is_explicit n s ≡ b → Leads a s (exit_rule_for n w s b)
  exit_rule_for_leads w true explicit = thread_exit_rule_leads (ap (λ e. not e && (is_direct (goal_of (task_of n s) s) || not (is_async_lifted (kind_of (task_of n s) s)))) explicit)
  exit_rule_for_leads w false explicit = implicit_exit_rule_leads w (is_direct (goal_of (task_of n s) s)) refl explicit

  -- ---- The task and backpressure

  -- the task comes to an end that it hadn't
  task_says : (f : Status) (t : Core) {k : Label} → l ≡ k → written_as ops s k t ≡ task_end n f s → handed_as ops main s k t ≡ None → is_other k ≡ true → has_ended (task_of n s) s ≡ false → (u : Core) → is_over (task_of n s) u ≡ true → Walk a u t → EndTells a t (Subtask.Guest (task_of n s)) f → EndPrimitives a t
  task_says f t at is none other unended u over c tells = writes_by a t at other none (writes_task f t u is (EndsOwn n refl refl unended) over c tells)

  -- the op is done
  finishes_last : (d : Doer) → CanFinish d a s n → {r : Core} → Keep a s r → next ≡ Turn.Run n → Walk a r (finish d n NoAnswer r)
  unfolding advanced
  finishes_last (OwnScript q) on {r = r} c to = stay_walk (moved_to_walks n refl (position_of n r + 1) refl (let low = keep_position n c in let high = on.1 in omega (arith, low, high)) NoPrimitive to)
  finishes_last SomeHost on {r = r} c to = stay_walk (Then r (SetOpProgress n OpProgress.Fresh) NoPrimitive (refl, InOp (keep_at n on.0 on.1 c) refl))

  on_after_end : (d : Doer) → CanFinish d a s n → (k : ℕ) (e : CallEnd) → CanFinish d a (call_ends k e s) n
  unfolding on_call
  on_after_end (OwnScript r) on k e = on
  on_after_end SomeHost on k e = (on.0, record { made = on.1.made; position = on.1.position })

  ret_rule_leads : (d : Doer) → CanFinish d a s n → (v : ℕ) (w : Option ℕ) → Leads a s (ret_rule d n v w s)
  ret_rule_leads d on v w =
      trap_if_leads a s (has_ended (task_of n s) s) Trap.TaskCancelOrReturnTwice _ (λ unended.
      trap_if_leads a s (not (is_async_lifted (kind_of (task_of n s) s))) Trap.TaskReturnInvalid _ (λ lifted.
      may_leads a s (may_tell (task_of n s) w s) _ (λ may.
      let k = task_of n s in
      let told = told_to k w s may in
      let is_so = ret_is ops main n v w s in
      let over : l ≡ ret_label n v w → Keep a s (call_ends k CallEnd.Returned s) = λ is. primitive (EndCall k CallEnd.Returned) (ReturnsNow n refl refl refl unended (unnot (is_async_lifted (kind_of k s)) lifted) refl, ap (λ (k : Label). written_as ops s k s) is ∙ (is_so s).1.0) NoPrimitive in
      let t = finish d n NoAnswer (returned k v w s) in
      goes_on_told (ret_label n v w) t (is_so s).0
      (λ is to.
      let says : SaysEnd a k Status.Returned = ap (λ (k : Label). written_as ops s k s) is ∙ (is_so s).1.0 in
      task_says Status.Returned t is (is_so t).1.0 (is_so t).1.1 (grind arith) unended (call_ends k CallEnd.Returned s) (over_now k CallEnd.Returned s)
      (stay_walk (finished_walks n refl d (on_after_end d on k CallEnd.Returned) NoAnswer (returned_rest k v w s says told NoPrimitive) to))
      (returned_tells k v w s says told (told_spares k w s may) refl refl (over is) (finishes_last d on (returned_rest k v w s says told (over is)) to)))
      (λ is. finished_walks n refl d on NoAnswer (returned_rest k v w s (ap (λ (k : Label). written_as ops s k s) is ∙ (is_so s).1.0) told (over is))))))

  task_cancel_rule_leads : (d : Doer) → CanFinish d a s n → (w : Option ℕ) → Leads a s (task_cancel_rule d n w s)
  task_cancel_rule_leads d on w =
      trap_if_leads a s (not (cancel_was_delivered (task_of n s) s)) Trap.TaskCancelNotCancelled _ (λ delivered.
      trap_if_leads a s (has_ended (task_of n s) s) Trap.TaskCancelOrReturnTwice _ (λ unended.
      may_leads a s (may_tell (task_of n s) w s) _ (λ may.
      let k = task_of n s in
      let told = told_to k w s may in
      let is_so = task_cancel_is ops main n w s in
      let over : l ≡ task_cancel_label n w → Keep a s (call_ends k CallEnd.ReturnCancelled s) = λ is. primitive (EndCall k CallEnd.ReturnCancelled) (GivesUp n refl refl refl unended (unnot (cancel_was_delivered k s) delivered) refl, ap (λ (k : Label). written_as ops s k s) is ∙ (is_so s).1.0) NoPrimitive in
      let t = finish d n NoAnswer (cancelled k w s) in
      goes_on_told (task_cancel_label n w) t (is_so s).0
      (λ is to. task_says Status.ReturnCancelled t is (is_so t).1.0 (is_so t).1.1 (grind arith) unended (call_ends k CallEnd.ReturnCancelled s) (over_now k CallEnd.ReturnCancelled s)
      (stay_walk (finished_walks n refl d (on_after_end d on k CallEnd.ReturnCancelled) NoAnswer (cancelled_rest k w s told NoPrimitive) to))
      (cancelled_tells k w s told (told_spares k w s may) refl refl (over is) (finishes_last d on (cancelled_rest k w s told (over is)) to)))
      (λ is. finished_walks n refl d on NoAnswer (cancelled_rest k w s told (over is))))))

  dec_leads : (d : Doer) → CanFinish d a s n → (b : ℕ) → backpressure_of (instance_of n s) s ≡ b → Leads a s (dec_by d n s b)
  unfolding pressure_lowered pressure_gone held_by_counter set_backpressure
  dec_leads d on zero is = tt
  dec_leads d on (suc zero) is = λ order perm.
      let i = instance_of n s in
      let same = released_on i (λ r. record r { backpressure = 0 }) order s in
      goes_on (Label.Task (TaskLabel.BpDec n)) (finish d n NoAnswer (pressure_gone n order s)) refl (finished_walks n refl d on NoAnswer (subst (λ (u : Core). Keep a s u) (sym same) (primitive (SetBackpressure i 0) (λ none. subst (λ (u : Core). NoneHeldIn i u) same (release_leaves i (set_backpressure i 0 s) order perm)) (shifted (released_shifts order s) NoPrimitive))))
  dec_leads d on (suc (suc b)) is = goes_on (Label.Task (TaskLabel.BpDec n)) (finish d n NoAnswer (pressure_lowered n s)) refl (finished_walks n refl d on NoAnswer (primitive (SetBackpressure (instance_of n s) (backpressure_of (instance_of n s) s - 1)) (λ zero. absurd (omega (arith, zero, is))) NoPrimitive))

  ends_by : (o : TaskOp) → op_in a n ≡ Op.Task o → is_code_op o ≡ true → EndsActivation a n
  ends_by o is code = (refl, ap (λ p. ends_activation p) is ∙ code)

  pub task_rule_leads : (d : Doer) (ch : Choice) (o : TaskOp) → (is_exit_op (Op.Task o) ≡ false → CanFinish d a s n) → op_in a n ≡ Op.Task o → Leads a s (task_rule d n s ch o)
  unfolding pressure_raised
  task_rule_leads d ch (TaskOp.Ret v) on is = ret_rule_leads d (on refl) (value_of n s v) ch.woken
  task_rule_leads d ch (TaskOp.RetBad v) on is = trap_if_leads a s (has_ended (task_of n s) s) Trap.TaskCancelOrReturnTwice _ (λ e. tt)
  task_rule_leads d ch TaskOp.TaskCancel on is = task_cancel_rule_leads d (on refl) ch.woken
  task_rule_leads d ch TaskOp.Exit on is = exit_rule_for_leads ch.woken (is_explicit n s) refl
  task_rule_leads d ch TaskOp.CbYield on is = code_rule_leads (Label.Task (TaskLabel.CbYield n)) 1 (λ t. refl) (λ shows. ap (λ k. returned_holder s k) shows) (ends_by TaskOp.CbYield is refl)
  task_rule_leads d ch (TaskOp.CbWait v) on is = code_rule_leads (Label.Task (TaskLabel.CbWait n)) (16 * value_of n s v + 2) (λ t. refl) (λ shows. ap (λ k. returned_holder s k) shows) (ends_by (TaskOp.CbWait v) is refl)
  task_rule_leads d ch (TaskOp.Code v) on is = code_rule_leads (Label.Task (TaskLabel.Code n)) (value_of n s v) (λ t. refl) (λ shows. ap (λ k. returned_holder s k) shows) (ends_by (TaskOp.Code v) is refl)
  task_rule_leads d ch TaskOp.BpInc on is =
      trap_if_leads a s (nat_le 65535 (backpressure_of (instance_of n s) s)) Trap.BackpressureOverflow _ (λ e. goes_on (Label.Task (TaskLabel.BpInc n)) (finish d n NoAnswer (pressure_raised n s)) refl (finished_walks n refl d (on refl) NoAnswer (primitive (SetBackpressure (instance_of n s) (backpressure_of (instance_of n s) s + 1)) (λ zero. absurd (omega (arith, zero))) NoPrimitive)))
  task_rule_leads d ch TaskOp.BpDec on is = dec_leads d (on refl) (backpressure_of (instance_of n s) s) refl
