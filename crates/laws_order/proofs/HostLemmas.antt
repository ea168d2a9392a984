-- An op that a host has done is done: the thread runs on, no op of it is under way, and the state is in order.
use Rattle.laws_order.proofs.HostCallLemmas.{host_calls_keep}
use Rattle.machine_data.specs.declared.component.HostDef.{HostDef}
use Rattle.machine_data.specs.declared.component.HostDef.TheVariants as host_def
use Rattle.machine_rules.specs.Calls.{AtOnce, Failing, FirstPoll, Later, call_host_by, call_sync_host_by, first_polled, heard_first, polled_first}
use Rattle.laws_order.proofs.GivenLemmas.{given_done, host_keeps}
use Rattle.laws_order.specs.Given.{GivenDone, HostCallsDone, HostCallsKeep, HostDone, HostKeeps, HostLosesNone, host_op, host_rule, is_host_op}
use Rattle.std.proofs.Common.{ap, arith, refl, sym, ◌∙◌}
use Rattle.std.proofs.lemmas.Bool.Decides.{nat_tests}
use Rattle.std.specs.Prelude.{Bool, List, None, Option, Some, false, is_some, nat_le, not, suc, true, zero, ℕ, ◌==◌, ◌≡◌}
use Rattle.machine_data.proofs.CommuteLemmas.{get-change}
use Rattle.machine_data.specs.Core.{Core, State}
use Rattle.machine_data.specs.Labels.{Choice, choice_of}
use Rattle.machine_data.specs.Moves.{PickedEvent, PickedMember, NothingPicked, PickedTaskEvent, picked_event, may_hand_on, passes_check, waits_cancellable}
use Rattle.machine_data.specs.Read.{at_handle_limit, backpressure_of, cancel_was_delivered, event_of, fits, has_ended, has_member, has_waiters, op_progress_of, instance_of, is_async_lifted, is_joined, is_watched, join_of, kind_of, set_at, subtask_at, subtask_ended, task_of, thread_at, undelivered_end, was_cancelled}
use Rattle.machine_data.specs.Write.{on_thread, set_op_progress, set_join}
use Rattle.machine_data.specs.declared.component.Component.{Component}
use Rattle.machine_data.specs.declared.component.Slot.{Slot}
use Rattle.machine_data.specs.declared.component.Slot.TheVariants as slot
use Rattle.machine_data.specs.declared.label.Label.{Label}
use Rattle.machine_data.specs.declared.label.Label.TheVariants as label
use Rattle.machine_data.specs.declared.label.ThreadLabel.{ThreadLabel}
use Rattle.machine_data.specs.declared.label.ThreadLabel.TheVariants as thread_label
use Rattle.machine_data.specs.declared.op.CallOp.TheVariants as call_op
use Rattle.machine_data.specs.declared.op.Op.{Op}
use Rattle.machine_data.specs.declared.op.Op.TheVariants as op
use Rattle.machine_data.specs.declared.op.SetOp.{SetOp}
use Rattle.machine_data.specs.declared.op.SetOp.TheVariants as set_op
use Rattle.machine_data.specs.declared.op.TaskOp.{TaskOp}
use Rattle.machine_data.specs.declared.op.TaskOp.TheVariants as task_op
use Rattle.machine_data.specs.declared.op.ThreadOp.{ThreadOp}
use Rattle.machine_data.specs.declared.op.ThreadOp.TheVariants as thread_op
use Rattle.machine_data.specs.declared.records.OpProgress.{OpProgress}
use Rattle.machine_data.specs.declared.records.OpProgress.TheVariants as op_progress
use Rattle.machine_data.specs.declared.records.Join.TheVariants as join
use Rattle.machine_data.specs.declared.records.Subtask.{Subtask}
use Rattle.machine_data.specs.declared.records.Subtask.TheVariants as subtask
use Rattle.machine_data.specs.declared.records.Turn.TheVariants as turn
use Rattle.machine_data.specs.declared.trap.Trap.{Trap}
use Rattle.machine_data.specs.declared.statuses.HostPoll.{HostPoll}
use Rattle.machine_data.specs.declared.statuses.Status.{Status}
use Rattle.machine_rules.specs.Cancels.{AlreadyEnded, Async, AskedBefore, ThreadWaits, CallbackYields, CancelCase, Mode, OtherwiseRuns, StartNotRun, Sync, after_cancel_by, cancel_aborts_host, cancel_asks, cancel_by, cancel_case, cancel_ended_by, cancel_found_by, cancel_guest_by, cancel_resumed, cancel_rule, cancel_subtask_by, cancel_unended_by, drop_by}
use Rattle.machine_rules.specs.Ends.{may_tell}
use Rattle.machine_rules.specs.Finish.{SomeHost}
use Rattle.machine_rules.specs.OpParts.{ends_activation, is_data_op}
use Rattle.machine_rules.specs.Progress.{Asks, Fails, Continues, Never, OneOf, Ordered, Progress, Stops, Traps, may, or_never, or_trap, trap_if}
use Rattle.machine_rules.specs.Scripts.{slot_at, value_of}
use Rattle.machine_rules.specs.Sets.{chosen, finds_nothing, join_done_by, join_to_by, may_wake_new, poll_takes_by, set_drop_by, set_rule, wait_begins_by, wait_goes_on_by, wait_rule, wait_takes_by}
use Rattle.machine_rules.specs.Step.{Progresses, op_rule}
use Rattle.machine_rules.specs.Task.{dec_by, task_rule}
use Rattle.machine_rules.specs.Threads.{Halt, Suspension, Yielding, halt_rule, halting_by, halts_by, has_yielded, resume_later_by, resume_why, resumed_by, then_promote_by, then_promote_found_by, then_promote_rule, then_resume_found, then_resume_rule, thread_new_rule, thread_rule}
use Rattle.machine_rules.specs.Turns.{at_turn}
use Rattle.laws_order.proofs.GroundLemmas.{order_loses_no_wake_as}
use Rattle.laws_order.specs.WakesKept.{OrderLosesNoWakeAs}

-- this thread goes on, if one does, and no op of it is under way then
abbrev DoneFor : ℕ → Progress → Type 0
DoneFor n (Continues l new m) = (m ≡ n) × (op_progress_of n new ≡ op_progress.Fresh)
DoneFor n (Ordered ns next) = (order : List ℕ) → DoneFor n (next order)
DoneFor n (OneOf ns next) = (m : ℕ) → DoneFor n (next m)
DoneFor n (Asks next) = (answer : HostPoll) → DoneFor n (next answer)
DoneFor n p = Unit {0}

fresh : (n : ℕ) (u : Core) → op_progress_of n (set_op_progress n op_progress.Fresh u) ≡ op_progress.Fresh
unfolding set_op_progress on_thread
fresh n u = grind (arith, nat_tests, get-change)

if_traps : (n : ℕ) (b : Bool) (why : Trap) (p : Progress) → DoneFor n p → DoneFor n (trap_if b why p)
if_traps n true why p g = tt
if_traps n false why p g = g

if_lawful : (n : ℕ) (b : Bool) (p : Progress) → DoneFor n p → DoneFor n (may b p)
if_lawful n true p g = g
if_lawful n false p g = tt

if_found : {X : Type 0} (n : ℕ) (o : Option X) (why : Trap) (next : X → Progress) → ((x : X) → DoneFor n (next x)) → DoneFor n (or_trap o why next)
if_found n None why next g = tt
if_found n (Some x) why next g = g x

if_given : {X : Type 0} (n : ℕ) (o : Option X) (next : X → Progress) → ((x : X) → DoneFor n (next x)) → DoneFor n (or_never o next)
if_given n None next g = tt
if_given n (Some x) next g = g x

-- what the rule of such an op leads to
leads : (x t : State) (n m : ℕ) (l : Label) (p : Progress) → DoneFor n p → Progresses x x.core n p l t → t.turn ≡ turn.Run m → (m ≡ n) × (op_progress_of n t.core ≡ op_progress.Fresh)
unfolding at_turn
leads x t n m l (Continues k new j) g h to =
    let run = ap (λ (v : State). v.turn) h.1 in
    let one : j ≡ m = cc in
    (sym one ∙ g.0, ap (λ (v : State). op_progress_of n v.core) h.1 ∙ g.1)
leads x t n m l (Ordered ns next) g h to = leads x t n m l (next h.0) (g h.0) h.1.1 to
leads x t n m l (OneOf ns next) g h to = leads x t n m l (next h.0) (g h.0) h.1.1 to
leads x t n m l (Asks next) g h to = leads x t n m l (next h.0) (g h.0) h.1 to
leads x t n m l (Stops k new) g h to = absurd (let main = ap (λ (v : State). v.turn) h.1 in cc)
leads x t n m l (Traps w) g h to = absurd (let over = ap (λ (v : State). v.turn) h.1 in cc)
leads x t n m l (Fails i) g h to = absurd (let over = ap (λ (v : State). v.turn) h.1 in cc)
leads x t n m l Never g h to = absurd h

module _ (n : ℕ) (s : Core) where
  -- ---- Ops of the task

  lowers : (b : ℕ) → DoneFor n (dec_by SomeHost n s b)
  lowers zero = tt
  lowers (suc zero) = λ order. (refl, fresh n _)
  lowers (suc (suc b)) = (refl, fresh n _)

  tasks : (ch : Choice) (o : TaskOp) → is_host_op (op.Task o) ≡ true → DoneFor n (task_rule SomeHost n s ch o)
  tasks ch (task_op.Ret x) e =
      if_traps n (has_ended (task_of n s) s) _ _ (if_traps n (not (is_async_lifted (kind_of (task_of n s) s))) _ _ (if_lawful n (may_tell (task_of n s) ch.woken s) _ (refl, fresh n _)))
  tasks ch (task_op.RetBad x) e = if_traps n (has_ended (task_of n s) s) _ _ tt
  tasks ch task_op.TaskCancel e =
      if_traps n (not (cancel_was_delivered (task_of n s) s)) _ _ (if_traps n (has_ended (task_of n s) s) _ _ (if_lawful n (may_tell (task_of n s) ch.woken s) _ (refl, fresh n _)))
  tasks ch task_op.BpInc e = if_traps n (nat_le 65535 (backpressure_of (instance_of n s) s)) _ _ (refl, fresh n _)
  tasks ch task_op.BpDec e = lowers (backpressure_of (instance_of n s) s)
  tasks ch o e = absurd (cc)

  -- ---- Ops on sets

  begins : (ch : Choice) (x : ℕ) (b : Bool) → DoneFor n (wait_begins_by SomeHost n ch s x b)
  begins ch x true = if_traps n (not (passes_check (instance_of n s) s)) _ _ tt
  begins ch x false = if_given n (picked_event (waits_cancellable (task_of n s) s) (task_of n s) x (chosen n ch s) s) (wait_takes_by SomeHost n ch s) (λ g. (refl, fresh n _))

  goes_on : (ch : Choice) (x : ℕ) (g : PickedEvent) → DoneFor n (wait_goes_on_by SomeHost n x ch s g)
  goes_on ch x NothingPicked = tt
  goes_on ch x (PickedTaskEvent e) = if_lawful n (may_hand_on x (PickedTaskEvent e) ch.woken s) _ (refl, fresh n _)
  goes_on ch x (PickedMember sub) = if_lawful n (may_hand_on x (PickedMember sub) ch.woken s) _ (refl, fresh n _)

  waits : (ch : Choice) (h : ℕ) (f : OpProgress) → DoneFor n (wait_rule SomeHost n h ch s f)
  waits ch h (op_progress.Waits x) = if_given n (picked_event (waits_cancellable (task_of n s) s) (task_of n s) x (chosen n ch s) s) (wait_goes_on_by SomeHost n x ch s) (goes_on ch x)
  waits ch h _ = if_found n (set_at (instance_of n s) h s) _ (λ x. wait_begins_by SomeHost n ch s x (finds_nothing n x s)) (λ x. begins ch x (finds_nothing n x s))

  joined : (w x : Option ℕ) (sub : Subtask) → DoneFor n (join_done_by SomeHost n sub w s x)
  joined w x sub = if_traps n (is_watched (join_of sub s)) _ _ (if_lawful n (may_wake_new (event_of sub s) x w s) _ (refl, fresh n _))

  joins : (y : ℕ) (w : Option ℕ) (sub : Subtask) → DoneFor n (join_to_by SomeHost n y w s sub)
  joins zero w sub = joined w None sub
  joins (suc h) w sub = if_found n (set_at (instance_of n s) (suc h) s) _ (λ x. join_done_by SomeHost n sub w s (Some x)) (λ x. joined w (Some x) sub)

  sets : (ch : Choice) (o : SetOp) → DoneFor n (set_rule SomeHost n s ch o)
  sets ch (set_op.New r) = if_traps n (not (fits 1 s)) _ _ (if_traps n (at_handle_limit s) _ _ (refl, fresh n _))
  sets ch (set_op.Drop x) =
      if_found n (set_at (instance_of n s) (value_of n s x) s) _ (set_drop_by SomeHost n (value_of n s x) s)
      (λ y. if_traps n (has_waiters y s) _ _ (if_traps n (has_member y s) _ _ (refl, fresh n _)))
  sets ch (set_op.Wait r x) = waits ch (value_of n s x) (op_progress_of n s)
  sets ch (set_op.Poll r x) =
      if_found n (set_at (instance_of n s) (value_of n s x) s) _ (λ y. or_never (picked_event false (task_of n s) y (chosen n ch s) s) (poll_takes_by SomeHost n ch s))
      (λ y. if_given n (picked_event false (task_of n s) y (chosen n ch s) s) (poll_takes_by SomeHost n ch s) (λ g. (refl, fresh n _)))
  sets ch (set_op.Join x y) =
      if_found n (subtask_at (instance_of n s) (value_of n s x) s) _ (join_to_by SomeHost n (value_of n s y) ch.woken s) (joins (value_of n s y) ch.woken)

  -- ---- Ops on threads

  made : (x v : ℕ) (k : Slot) → DoneFor n (thread_new_rule SomeHost n x v s k)
  made x v slot.Empty = tt
  made x v slot.Bad = tt
  made x v (slot.Script ops) = if_traps n (not (fits 2 s)) _ _ (if_traps n (at_handle_limit s) _ _ (refl, fresh n _))

  later : (m : ℕ) → DoneFor n (resume_later_by SomeHost n s m)
  later m = if_traps n (m == n) _ _ (if_found n (resume_why m s) _ _ (λ w. (refl, fresh n _)))

  halted : (x : Halt) (l : Label) (b : Bool) → DoneFor n (halts_by SomeHost x n l s b)
  halted x l true = tt
  halted Suspension l false = tt
  halted Yielding l false = (refl, fresh n s)

  resumed : (x : Halt) (h : ℕ) → DoneFor n (then_resume_rule x n h s)
  resumed x h = if_found n (thread_at (instance_of n s) h s) _ (then_resume_found x n s) (λ m. if_traps n (m == n) _ _ (if_found n (resume_why m s) _ _ (λ w. tt)))

  promotes : (x : Halt) (l : Label) (m : ℕ) (b : Bool) → DoneFor n (then_promote_by SomeHost x n l s m b)
  promotes x l m true = tt
  promotes x l m false = halted x l (passes_check (instance_of n s) s)

  promoted : (x : Halt) (h : ℕ) (l : Label) → DoneFor n (then_promote_rule SomeHost x n h l s)
  promoted x h l =
      if_found n (thread_at (instance_of n s) h s) _ (then_promote_found_by SomeHost x n l s) (λ m. if_traps n (m == n) _ _ (promotes x l m (has_yielded m s)))

  far : (f : OpProgress) (l : Label) (p : Progress) → DoneFor n p → DoneFor n (resumed_by SomeHost f n l s p)
  far op_progress.Suspends l p g = (refl, fresh n s)
  far op_progress.Yields l p g = (refl, fresh n s)
  far _ l p g = g

  halting : (k : ThreadLabel) (row : Label → Progress) → DoneFor n (row (label.Thread k)) → DoneFor n (halting_by SomeHost n s k row)
  halting k row g = far (op_progress_of n s) (label.Thread k) (row (label.Thread k)) g

  threads : (c : Component) (o : ThreadOp) → DoneFor n (thread_rule SomeHost c n s o)
  threads c (thread_op.New r x v) = made x (value_of n s v) (slot_at c (instance_of n s) x)
  threads c (thread_op.Index r) = (refl, fresh n s)
  threads c (thread_op.ResumeLater x) = if_found n (thread_at (instance_of n s) (value_of n s x) s) _ (resume_later_by SomeHost n s) later
  threads c thread_op.Suspend = halting (thread_label.Suspend n) (λ l. halt_rule SomeHost Suspension n l s) (halted Suspension (label.Thread (thread_label.Suspend n)) (passes_check (instance_of n s) s))
  threads c thread_op.Yield = halting (thread_label.Yield n) (λ l. halt_rule SomeHost Yielding n l s) (halted Yielding (label.Thread (thread_label.Yield n)) (passes_check (instance_of n s) s))
  threads c (thread_op.SuspendThenResume x) =
      halting (thread_label.SuspendThenResume n) (λ l. then_resume_rule Suspension n (value_of n s x) s) (resumed Suspension (value_of n s x))
  threads c (thread_op.YieldThenResume x) =
      halting (thread_label.YieldThenResume n) (λ l. then_resume_rule Yielding n (value_of n s x) s) (resumed Yielding (value_of n s x))
  threads c (thread_op.SuspendThenPromote x) =
      halting (thread_label.SuspendThenPromote n) (λ l. then_promote_rule SomeHost Suspension n (value_of n s x) l s) (promoted Suspension (value_of n s x) (label.Thread (thread_label.SuspendThenPromote n)))
  threads c (thread_op.YieldThenPromote x) =
      halting (thread_label.YieldThenPromote n) (λ l. then_promote_rule SomeHost Yielding n (value_of n s x) l s) (promoted Yielding (value_of n s x) (label.Thread (thread_label.YieldThenPromote n)))

-- ---- Cancels and drops

module _ (mode : Mode) (n : ℕ) where
  ended : (sub : Subtask) (s : Core) (o : Option Status) → DoneFor n (cancel_ended_by SomeHost mode n sub s o)
  ended sub s None = tt
  ended sub s (Some e) = (refl, fresh n _)

unended : (mode : Mode) (n : ℕ) (sub : Subtask) (s : Core) → DoneFor n (cancel_unended_by SomeHost mode n sub s)
unended Async n sub s = (refl, fresh n _)
unended Sync n sub s = if_traps n (not (passes_check (instance_of n s) s)) _ _ tt

module _ (mode : Mode) (n : ℕ) where
  by_end : (sub : Subtask) (s : Core) (b : Bool) → DoneFor n (cancel_by SomeHost mode n sub s b)
  by_end sub s true = ended mode n sub s (undelivered_end (event_of sub s))
  by_end sub s false = unended mode n sub s

  after : (sub : Subtask) (s : Core) → DoneFor n (after_cancel_by SomeHost mode n sub s)
  after sub s = by_end sub s (subtask_ended sub s)

  guests : (k : ℕ) (s : Core) (x : CancelCase) → DoneFor n (cancel_guest_by SomeHost mode n k s x)
  guests k s AlreadyEnded = ended mode n (subtask.Guest k) s (undelivered_end (event_of (subtask.Guest k) s))
  guests k s StartNotRun = (refl, fresh n _)
  guests k s AskedBefore = tt
  guests k s ThreadWaits = λ m. tt
  guests k s CallbackYields = tt
  guests k s OtherwiseRuns = after (subtask.Guest k) (cancel_asks k s)

  subtasks : (s : Core) (sub : Subtask) → DoneFor n (cancel_subtask_by SomeHost mode n s sub)
  subtasks s (subtask.Guest k) = guests k s (cancel_case k s)
  subtasks s (subtask.Host i) = if_traps n (was_cancelled i s) _ _ (after (subtask.Host i) (cancel_aborts_host i s))

  cancels : (h : ℕ) (s : Core) (f : OpProgress) → DoneFor n (cancel_rule SomeHost mode n h s f)
  cancels h s (op_progress.Cancels sub) = after sub (cancel_resumed n sub s)
  cancels h s (op_progress.AwaitsEnd sub) = ended mode n sub (set_join sub join.Nowhere s) (undelivered_end (event_of sub (set_join sub join.Nowhere s)))
  cancels h s _ = if_found n (subtask_at (instance_of n s) h s) _ (cancel_found_by SomeHost mode n s) (λ sub. if_traps n (is_joined (join_of sub s)) _ _ (subtasks s sub))

drops : (n h : ℕ) (s : Core) (sub : Subtask) → DoneFor n (drop_by SomeHost n h s sub)
drops n h s sub = if_traps n (is_watched (join_of sub s)) _ _ (if_traps n (not (subtask_ended sub s)) _ _ (if_traps n (is_some (event_of sub s)) _ _ (refl, fresh n _)))

-- ---- All of them

rules : (c : Component) (n : ℕ) (s : Core) (ch : Choice) (o : Op) → is_host_op o ≡ true → DoneFor n (op_rule SomeHost c n s ch o)
rules c n s ch (op.Task o) e = tasks n s ch o e
rules c n s ch (op.Set o) e = sets n s ch o
rules c n s ch (op.Thread o) e = threads n s c o
rules c n s ch (op.Call (call_op.Cancel r x)) e = cancels Async n (value_of n s x) s (op_progress_of n s)
rules c n s ch (op.Call (call_op.CancelSync r x)) e = cancels Sync n (value_of n s x) s (op_progress_of n s)
rules c n s ch (op.Call (call_op.Drop x)) e = if_found n (subtask_at (instance_of n s) (value_of n s x) s) _ (drop_by SomeHost n (value_of n s x) s) (drops n (value_of n s x) s)
rules c n s ch o e = absurd (cc)

unending : (o : Op) → is_host_op o ≡ true → ends_activation o ≡ false
unending o on = grind arith

not_data : (o : Op) → is_host_op o ≡ true → is_data_op o ≡ false
not_data o on = grind arith

pub host_done : HostDone
unfolding HostDone HostKeeps GivenDone
host_done x o n m s t l at asked none h row to =
    let done = leads s t n m l (op_rule SomeHost x.component n s.core (choice_of l) o) (rules x.component n s.core (choice_of l) o asked) row to in
    let on = to ∙ ap (λ (k : ℕ). turn.Run k) done.0 in
    (done.0, given_done x o n t on done.1 (host_keeps x o n s t l at (unending o asked) (not_data o asked) none h row))

-- ---- A call of a host

polled : (n q : ℕ) (s : Core) (p : FirstPoll) → DoneFor n (call_host_by SomeHost n q s p)
polled n q s (AtOnce v) = (refl, fresh n _)
polled n q s Failing = tt
polled n q s (Later left) = if_traps n (not (fits 1 s)) _ _ (if_traps n (at_handle_limit s) _ _ (refl, fresh n _))

blocked : (n : ℕ) (s : Core) (p : FirstPoll) → DoneFor n (call_sync_host_by SomeHost n s p)
blocked n s (AtOnce v) = (refl, fresh n _)
blocked n s Failing = tt
blocked n s (Later left) = if_traps n (not (fits 1 s)) _ _ (if_traps n (not (passes_check (instance_of n s) s)) _ _ tt)

first_done : (n : ℕ) (host : HostDef) (next : FirstPoll → Progress) → ((p : FirstPoll) → DoneFor n (next p)) → DoneFor n (first_polled host next)
first_done n (host_def.Settled polls value) next done = done (polled_first polls value)
first_done n host_def.Open next done = λ answer. done (heard_first answer)

called : (q : Option ℕ) (host : HostDef) (n : ℕ) (s : Core) → DoneFor n (host_rule q host n s)
called (Some q) host n s = first_done n host (call_host_by SomeHost n q s) (λ p. polled n q s p)
called None host n s = first_done n host (call_sync_host_by SomeHost n s) (λ p. blocked n s p)

pub host_calls_done : HostCallsDone
unfolding HostCallsDone HostCallsKeep GivenDone
host_calls_done x host q n m s t l at none h row to =
    let done = leads s t n m l (host_rule q host n s.core) (called q host n s.core) row to in
    let on = to ∙ ap (λ (k : ℕ). turn.Run k) done.0 in
    (done.0, given_done x (host_op q) n t on done.1 (host_calls_keep x host q n s t l at none h row).0)

pub host_loses_none : HostLosesNone
unfolding HostLosesNone HostKeeps OrderLosesNoWakeAs
host_loses_none x o n s t l at plain other none h row on = order_loses_no_wake_as _ x.component t (host_keeps x o n s t l at plain other none h row) on
