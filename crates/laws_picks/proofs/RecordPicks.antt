-- A step that picks by what the records of a core say of the order of arrival picks by what the run has shown.
use Rattle.laws_picks.proofs.CameOrderLemmas.{runs_say_order}
use Rattle.laws_picks.proofs.NumberLists.{in_filter, later}
use Rattle.laws_picks.specs.CameOrder.{AllSayOrder, RecordsPick, SaysOrder, by_records}
use Rattle.machine_data.specs.Core.{Core, State}
use Rattle.machine_data.specs.Labels.{Choice, choice_of, exit_label, woken_of}
use Rattle.machine_data.specs.Maps.{numbers}
use Rattle.machine_data.specs.Read.{backpressure_of, foot_of, goal_of, held_why, instance_of, is_direct, is_explicit, is_held_admitted, is_joined, is_waiter, is_waiting_on, join_of, kind_of, op_progress_of, place_of, set_at, subtask_at, task_of, under_of}
use Rattle.machine_data.specs.declared.component.Component.{Component}
use Rattle.machine_data.specs.declared.component.ExportKind.{ExportKind}
use Rattle.machine_data.specs.declared.label.Label.{Label}
use Rattle.machine_data.specs.declared.label.TaskLabel.{TaskLabel}
use Rattle.machine_data.specs.declared.op.CallOp.{CallOp}
use Rattle.machine_data.specs.declared.op.Op.{Op}
use Rattle.machine_data.specs.declared.op.SetOp.{SetOp}
use Rattle.machine_data.specs.declared.op.TaskOp.{TaskOp}
use Rattle.machine_data.specs.declared.records.OpProgress.{OpProgress}
use Rattle.machine_data.specs.declared.records.Place.{Place}
use Rattle.machine_data.specs.declared.records.Subtask.{Subtask}
use Rattle.machine_data.specs.declared.records.Turn.{Turn}
use Rattle.machine_data.specs.declared.statuses.HostPoll.{HostPoll}
use Rattle.machine_data.specs.declared.trap.Trap.{Trap}
use Rattle.machine_rules.proofs.CalmLemmas.{awaiting_calm, calls_calm, cancelling_calm, data_calm, direct_exit_none, guest_calm, host_cancel_calm, inc_calm, join_to_none, poll_none, ret_bad_calm, ret_none, set_drop_calm, set_new_calm, sync_exit_none, task_cancel_none, thread_calm, thread_exit_none, wait_none}
use Rattle.machine_rules.specs.Arrivals.{came_by, is_kept_back, preferred, stays_back}
use Rattle.machine_rules.specs.Cancels.{AlreadyEnded, AskedBefore, Async, CallbackYields, CancelCase, Mode, OtherwiseRuns, StartNotRun, Sync, ThreadWaits, cancel_case, cancel_found_by, cancel_guest_by, cancel_host_by, cancel_rule, cancel_subtask_by, subtask_rule}
use Rattle.machine_rules.specs.Data.{data_rule}
use Rattle.machine_rules.specs.Ends.{blocking_exit_rule, code_kind_rule, code_rule, code_wait_rule, direct_exit_to, exit_rule_for, has_event_for, implicit_exit_rule, kind_exit_rule, leaves_no_result, may_tell, passes_after_return, passes_after_stop, sync_exit_rule, thread_exit_rule}
use Rattle.machine_rules.specs.Finish.{Doer}
use Rattle.machine_rules.specs.History.{Moment, history}
use Rattle.machine_rules.specs.Notices.{is_in}
use Rattle.machine_rules.specs.Picks.{LeavesNoChoice, Picks, Preference, ReleasesNone, Seats, ShowsFirst, TakesFirst, TurnStepIn, WakesFirst, cancel_before, goes_in_order, held_before, in_order, taken_of}
use Rattle.machine_rules.specs.Progress.{Asks, Continues, Fails, Never, OneOf, Ordered, Progress, Stops, Traps, may, or_trap, trap_if}
use Rattle.machine_rules.specs.Run.{Run, opening}
use Rattle.machine_rules.specs.Scripts.{op_of, value_of}
use Rattle.machine_rules.specs.Sets.{join_to_by, poll_rule, set_drop_by, set_new_rule, set_rule, wait_rule}
use Rattle.machine_rules.specs.Stalled.{Setting}
use Rattle.machine_rules.specs.Step.{Progresses, op_rule, own_script}
use Rattle.machine_rules.specs.TablePlaces.{PicksAll, TablePlaces, reseated}
use Rattle.machine_rules.specs.Task.{dec_by, inc_rule, ret_bad_rule, ret_rule, task_cancel_rule, task_rule}
use Rattle.machine_rules.specs.Threads.{thread_rule}
use Rattle.std.proofs.Common.{ap, ap₂, refl, subst, sym, ◌∙◌}
use Rattle.std.proofs.lemmas.Bool.{eq-eqb}
use Rattle.std.proofs.lemmas.List.Sorted.{list_any-IsPermutation}
use Rattle.std.specs.List.{list_any}
use Rattle.std.specs.Option.{option_map_or}
use Rattle.std.specs.Prelude.{[], Bool, IfSome, List, None, Option, Some, false, nat_lt, not, option_and_then, suc, true, zero, ℕ, ◌%◌, ◌&&◌, ◌*◌, ◌+◌, ◌/◌, ◌==◌, ◌||◌, ◌∷◌, ◌≡◌}
unfoldable use Rattle.laws_picks.specs.CameOrder.{RecordsPickAll, RunsSayOrder}
unfoldable use Rattle.machine_data.specs.Read.{admitted_held}
unfoldable use Rattle.machine_data.specs.Write.{on_instance, set_backpressure, set_do_not_enter}
unfoldable use Rattle.machine_rules.specs.Ends.{held_by_flag}
unfoldable use Rattle.machine_rules.specs.Picks.{StepIn}
unfoldable use Rattle.machine_rules.specs.Step.{did}
unfoldable use Rattle.machine_rules.specs.Task.{held_by_counter}

-- ---- Only threads that wait or are held are released

abbrev AllBack : Core → List ℕ → Type 0
AllBack b ns = (n : ℕ) → is_in ns n ≡ true → stays_back b n ≡ true

abbrev HeldBack : Core → Progress → Type 0
HeldBack b (Ordered ns next) = AllBack b ns × ((order : List ℕ) → HeldBack b (next order))
HeldBack b (OneOf ns next) = (m : ℕ) → HeldBack b (next m)
HeldBack b (Asks next) = (answer : HostPoll) → HeldBack b (next answer)
HeldBack b p = Unit {0}

none_held : (b : Core) (p : Progress) → ReleasesNone p → HeldBack b p
none_held b (Continues l new m) h = tt
none_held b (Stops l new) h = tt
none_held b (Traps y) h = tt
none_held b (Fails i) h = tt
none_held b Never h = tt
none_held b (Ordered ns next) h = absurd h
none_held b (OneOf ns next) h = absurd h
none_held b (Asks next) h = λ answer. none_held b (next answer) (h answer)

calm_held : (b : Core) (p : Progress) → LeavesNoChoice p → HeldBack b p
calm_held b (Continues l new m) h = tt
calm_held b (Stops l new) h = tt
calm_held b (Traps y) h = tt
calm_held b (Fails i) h = tt
calm_held b Never h = tt
calm_held b (Ordered ns next) h = absurd h
calm_held b (OneOf ns next) h = absurd h
calm_held b (Asks next) h = λ answer. calm_held b (next answer) (h answer)

module _ (b : Core) where
  trap_if_held : (c : Bool) (y : Trap) (p : Progress) → HeldBack b p → HeldBack b (trap_if c y p)
  trap_if_held true y p h = tt
  trap_if_held false y p h = h

  or_trap_held : {X : Type 0} (o : Option X) (y : Trap) (next : X → Progress) → ((x : X) → HeldBack b (next x)) → HeldBack b (or_trap o y next)
  or_trap_held None y next h = tt
  or_trap_held (Some x) y next h = h x

  may_held : (c : Bool) (p : Progress) → HeldBack b p → HeldBack b (may c p)
  may_held true p h = h
  may_held false p h = tt

right_of : (a b : Bool) → (a && b) ≡ true → b ≡ true
right_of true b h = h
right_of false b h = absurd (cc)

-- who is held and admitted is held
admitted_back : (i : ℕ) (t : Core) (n : ℕ) (o : Option Place) → is_held_admitted i t n (option_and_then held_why o) ≡ true → option_map_or is_kept_back o false ≡ true
admitted_back i t n (Some (Place.Held w)) on = refl
admitted_back i t n o on = absurd (cc)

list_back : (i : ℕ) (t : Core) (n : ℕ) → is_in (admitted_held i t) n ≡ true → stays_back t n ≡ true
unfolding admitted_held
list_back i t n there =
    admitted_back i t n (place_of n t) (right_of (is_in (numbers t.threads) n) (is_held_admitted i t n (option_and_then held_why (place_of n t)))
    (sym (in_filter (λ m. is_held_admitted i t m (option_and_then held_why (place_of m t))) (numbers t.threads) n) ∙ there))

flag_back : (i : ℕ) (s : Core) → AllBack s (held_by_flag i s)
unfolding held_by_flag set_do_not_enter on_instance
flag_back i s n there = list_back i (set_do_not_enter i false s) n there

counter_back : (i : ℕ) (s : Core) → AllBack s (held_by_counter i s)
unfolding held_by_counter set_backpressure on_instance
counter_back i s n there = list_back i (set_backpressure i 0 s) n there

-- ---- Ops on tasks

module _ (d : Doer) (n : ℕ) (s : Core) where
  wait_code_held : (l : Label) (x : ℕ) (b : Bool) → HeldBack s (code_wait_rule l n x (held_by_flag (instance_of n s) s) s b)
  wait_code_held l x true = (flag_back (instance_of n s) s, λ order. tt)
  wait_code_held l x false = (flag_back (instance_of n s) s, λ order. tt)

  kind_held : (l : Label) (kind rest : ℕ) → HeldBack s (code_kind_rule l n (held_by_flag (instance_of n s) s) s kind rest)
  kind_held l zero rest =
      trap_if_held s (not (passes_after_stop (instance_of n s) (foot_of n s) (held_by_flag (instance_of n s) s) s)) _ _ (
      trap_if_held s (leaves_no_result n s) _ _ (flag_back (instance_of n s) s, λ order. tt))
  kind_held l (suc zero) rest = (flag_back (instance_of n s) s, λ order. tt)
  kind_held l (suc (suc zero)) rest = or_trap_held s (set_at (instance_of n s) rest s) _ _ (λ x. wait_code_held l x (has_event_for (task_of n s) x s))
  kind_held l (suc (suc (suc k))) rest = tt

  code_held : (l : Label) (code : ℕ) → HeldBack s (code_rule l n s code)
  code_held l code = trap_if_held s (nat_lt 4294967295 code) _ _ (kind_held l (code % 16) (code / 16))

  blocking_held : (w : Option ℕ) → HeldBack s (blocking_exit_rule n w s)
  blocking_held w =
      trap_if_held s (not (passes_after_return n w s)) _ _ (may_held s (may_tell (task_of n s) w s) _ (flag_back (instance_of n s) s, λ order. tt))

  exit_kind_held : (w : Option ℕ) (x : ExportKind) → HeldBack s (kind_exit_rule n w s x)
  exit_kind_held w ExportKind.Sync = none_held s (sync_exit_rule n w s) (sync_exit_none d n s w)
  exit_kind_held w ExportKind.Blocking = blocking_held w
  exit_kind_held w ExportKind.Stackful = none_held s (thread_exit_rule n s) (thread_exit_none d n s)
  exit_kind_held w ExportKind.Callback = code_held (exit_label n None) 0

  implicit_held : (w : Option ℕ) (direct : Bool) → HeldBack s (implicit_exit_rule n w s direct)
  implicit_held w true = none_held s (direct_exit_to n (kind_of (task_of n s) s) s (under_of n s)) (direct_exit_none d n s (kind_of (task_of n s) s) (under_of n s))
  implicit_held w false = exit_kind_held w (kind_of (task_of n s) s)

  exit_held : (w : Option ℕ) (explicit : Bool) → HeldBack s (exit_rule_for n w s explicit)
  exit_held w true = none_held s (thread_exit_rule n s) (thread_exit_none d n s)
  exit_held w false = implicit_held w (is_direct (goal_of (task_of n s) s))

  dec_held : (k : ℕ) → HeldBack s (dec_by d n s k)
  dec_held zero = tt
  dec_held (suc zero) = (counter_back (instance_of n s) s, λ order. tt)
  dec_held (suc (suc k)) = tt

  task_held : (ch : Choice) (o : TaskOp) → HeldBack s (task_rule d n s ch o)
  task_held ch (TaskOp.Ret x) = none_held s (ret_rule d n (value_of n s x) ch.woken s) (ret_none d n s (value_of n s x) ch.woken)
  task_held ch (TaskOp.RetBad x) = calm_held s (ret_bad_rule n s) (ret_bad_calm d n s)
  task_held ch TaskOp.TaskCancel = none_held s (task_cancel_rule d n ch.woken s) (task_cancel_none d n s ch.woken)
  task_held ch TaskOp.Exit = exit_held ch.woken (is_explicit n s)
  task_held ch TaskOp.CbYield = code_held (Label.Task (TaskLabel.CbYield n)) 1
  task_held ch (TaskOp.CbWait x) = code_held (Label.Task (TaskLabel.CbWait n)) (16 * value_of n s x + 2)
  task_held ch (TaskOp.Code x) = code_held (Label.Task (TaskLabel.Code n)) (value_of n s x)
  task_held ch TaskOp.BpInc = calm_held s (inc_rule d n s) (inc_calm d n s)
  task_held ch TaskOp.BpDec = dec_held (backpressure_of (instance_of n s) s)

  -- ---- Ops on sets and subtasks

  set_held : (ch : Choice) (o : SetOp) → HeldBack s (set_rule d n s ch o)
  set_held ch (SetOp.New r) = calm_held s (set_new_rule d n s) (set_new_calm d n s)
  set_held ch (SetOp.Drop x) = or_trap_held s (set_at (instance_of n s) (value_of n s x) s) _ _ (λ y. calm_held s (set_drop_by d n (value_of n s x) s y) (set_drop_calm d n s (value_of n s x) y))
  set_held ch (SetOp.Wait r x) = none_held s (wait_rule d n (value_of n s x) ch s (op_progress_of n s)) (wait_none d n s (value_of n s x) ch (op_progress_of n s))
  set_held ch (SetOp.Poll r x) = none_held s (poll_rule d n (value_of n s x) ch s) (poll_none d n s (value_of n s x) ch)
  set_held ch (SetOp.Join x y) =
      or_trap_held s (subtask_at (instance_of n s) (value_of n s x) s) _ _
      (λ sub. none_held s (join_to_by d n (value_of n s y) ch.woken s sub) (join_to_none d n s (value_of n s y) ch.woken sub))

  guest_held : (mode : Mode) (k : ℕ) (x : CancelCase) → HeldBack s (cancel_guest_by d mode n k s x)
  guest_held mode k ThreadWaits = λ m. tt
  guest_held mode k AlreadyEnded = calm_held s (cancel_guest_by d mode n k s AlreadyEnded) (guest_calm d mode n k s AlreadyEnded (λ e. absurd (cc)))
  guest_held mode k StartNotRun = tt
  guest_held mode k AskedBefore = tt
  guest_held mode k CallbackYields = tt
  guest_held mode k OtherwiseRuns = calm_held s (cancel_guest_by d mode n k s OtherwiseRuns) (guest_calm d mode n k s OtherwiseRuns (λ e. absurd (cc)))

  subtask_held : (mode : Mode) (sub : Subtask) → HeldBack s (cancel_subtask_by d mode n s sub)
  subtask_held mode (Subtask.Guest k) = guest_held mode k (cancel_case k s)
  subtask_held mode (Subtask.Host i) = calm_held s (cancel_host_by d mode n i s) (host_cancel_calm d mode n s i)

  named_held : (mode : Mode) (h : ℕ) → HeldBack s (or_trap (subtask_at (instance_of n s) h s) Trap.BadHandle (cancel_found_by d mode n s))
  named_held mode h = or_trap_held s (subtask_at (instance_of n s) h s) _ _ (λ sub. trap_if_held s (is_joined (join_of sub s)) _ _ (subtask_held mode sub))

  cancel_held : (mode : Mode) (h : ℕ) (far : OpProgress) → HeldBack s (cancel_rule d mode n h s far)
  cancel_held mode h (OpProgress.Cancels sub) = calm_held s (cancel_rule d mode n h s (OpProgress.Cancels sub)) (cancelling_calm d mode n h s sub)
  cancel_held mode h (OpProgress.AwaitsEnd sub) = calm_held s (cancel_rule d mode n h s (OpProgress.AwaitsEnd sub)) (awaiting_calm d mode n h s sub)
  cancel_held mode h far = named_held mode h

  call_held : (c : Component) (o : CallOp) → HeldBack s (subtask_rule d c n s o)
  call_held c (CallOp.Cancel r x) = cancel_held Async (value_of n s x) (op_progress_of n s)
  call_held c (CallOp.CancelSync r x) = cancel_held Sync (value_of n s x) (op_progress_of n s)
  call_held c (CallOp.Call r q e xs) = calm_held s (subtask_rule d c n s (CallOp.Call r q e xs)) (calls_calm d c n s (CallOp.Call r q e xs) refl)
  call_held c (CallOp.CallSync r e xs) = calm_held s (subtask_rule d c n s (CallOp.CallSync r e xs)) (calls_calm d c n s (CallOp.CallSync r e xs) refl)
  call_held c (CallOp.CallHost r q h) = calm_held s (subtask_rule d c n s (CallOp.CallHost r q h)) (calls_calm d c n s (CallOp.CallHost r q h) refl)
  call_held c (CallOp.CallSyncHost r h) = calm_held s (subtask_rule d c n s (CallOp.CallSyncHost r h)) (calls_calm d c n s (CallOp.CallSyncHost r h) refl)
  call_held c (CallOp.Drop x) = calm_held s (subtask_rule d c n s (CallOp.Drop x)) (calls_calm d c n s (CallOp.Drop x) refl)

-- who is released waited or was held, whatever the op
op_held : (d : Doer) (c : Component) (n : ℕ) (s : Core) (ch : Choice) (o : Op) → HeldBack s (op_rule d c n s ch o)
op_held d c n s ch (Op.Data o) = calm_held s (data_rule c n s o) (data_calm c n s o)
op_held d c n s ch (Op.Task o) = task_held d n s ch o
op_held d c n s ch (Op.Set o) = set_held d n s ch o
op_held d c n s ch (Op.Call o) = call_held d n s c o
op_held d c n s ch (Op.Thread o) = calm_held s (thread_rule d c n s o) (thread_calm d n s c o)

-- ---- One preference for another

any_in_same : (f g : ℕ → Bool) (ns : List ℕ) → ((m : ℕ) → is_in ns m ≡ true → f m ≡ g m) → list_any f ns ≡ list_any g ns
any_in_same f g [] same = refl
any_in_same f g (k ∷ ks) same =
    ap₂ (λ b c. b || c) (same k (ap (λ b. b || is_in ks k) (eq-eqb k k refl))) (any_in_same f g ks (λ m there. same m (later (m == k) (is_in ks m) there)))

waiter_back : (x n : ℕ) (s : Core) → is_waiter x n s ≡ true → stays_back s n ≡ true
waiter_back x n s on = by (place_of n s) on
  where
    by : (o : Option Place) → option_map_or (is_waiting_on x) o false ≡ true → option_map_or is_kept_back o false ≡ true
    by (Some (Place.Waiting y b)) h = refl
    by o h = absurd (cc)

if_some : {X : Type 0} (A B : X → Type 0) (o : Option X) → ((x : X) → A x → B x) → IfSome o A → IfSome o B
if_some A B None f h = tt
if_some A B (Some x) f h = f x h

module _ (x : Setting) (st : State) (came : List ℕ) (seats : Seats) (says : SaysOrder came st.core) where
  abbrev s : Core
  s = st.core

  abbrev by_core : Preference
  by_core = by_records s seats

  abbrev by_run : Preference
  by_run = preferred s.version came seats

  same : (m n : ℕ) → stays_back s m ≡ true → stays_back s n ≡ true → by_core.earlier m n ≡ by_run.earlier m n
  same m n on_m on_n = says seats m n on_m on_n

  goes_same : (order : List ℕ) → AllBack s order → goes_in_order by_core order ≡ goes_in_order by_run order
  goes_same [] back = refl
  goes_same (n ∷ ns) back =
      let own : stays_back s n ≡ true = back n (ap (λ b. b || is_in ns n) (eq-eqb n n refl)) in
      let rest : AllBack s ns = λ m there. back m (later (m == n) (is_in ns m) there) in
      ap₂ (λ b c. not b && c) (any_in_same (λ m. held_before by_core m n) (λ m. held_before by_run m n) ns (λ m there. same m n (rest m there) own)) (goes_same ns rest)

  module _ (base : Core) (n : ℕ) (l : Label) (t : State) where
    may_map : (b : Bool) (p q : Progress) → (Progresses st base n p l t → Progresses st base n q l t) → Progresses st base n (may b p) l t → Progresses st base n (may b q) l t
    may_map true p q f h = f h
    may_map false p q f h = absurd h

    in_order_same : (row : Progress) → HeldBack s row → Progresses st base n (in_order by_core row) l t → Progresses st base n (in_order by_run row) l t
    in_order_same (Continues k new m) held h = h
    in_order_same (Stops k new) held h = h
    in_order_same (Traps y) held h = h
    in_order_same (Fails i) held h = h
    in_order_same Never held h = h
    in_order_same (Ordered ns next) held h =
        let order = h.0 in
        let back : AllBack s order = λ m there. held.0 m (list_any-IsPermutation (λ j. m == j) ns order h.1.0 ∙ there) in (
          order,
          (
            h.1.0,
            may_map (goes_in_order by_run order) (in_order by_core (next order)) (in_order by_run (next order)) (in_order_same (next order) (held.1 order))
                (subst (λ b. Progresses st base n (may b (in_order by_core (next order))) l t) (goes_same order back) h.1.1),
          ),
        )
    in_order_same (OneOf ns next) held h =
        let m = h.0 in
        (m, (h.1.0, may_map (not (list_any (λ j. cancel_before by_run j m) ns)) (in_order by_core (next m)) (in_order by_run (next m)) (in_order_same (next m) (held m)) h.1.1))
    in_order_same (Asks next) held h = (h.0, in_order_same (next h.0) (held h.0) h.1)

  turn_same : (p : Turn) (l : Label) (t : State) → TurnStepIn by_core x st p l t → TurnStepIn by_run x st p l t
  unfolding did
  turn_same (Turn.Run n) l t h =
      let o = op_of x.component n s in
      in_order_same s n l t (did x.component n s (choice_of l)) (op_held (own_script o) x.component n s (choice_of l) o) h
  turn_same Turn.Main l t h = h
  turn_same (Turn.Futures n) l t h = h
  turn_same (Turn.Take ended) l t h = h
  turn_same Turn.Over l t h = h

  wakes_same : (w : ℕ) → WakesFirst by_core s w → WakesFirst by_run s w
  wakes_same w h = record {
    set = h.set;
    waits = h.waits;
    first = λ n on. sym (same n w (waiter_back h.set n s on) (waiter_back h.set w s h.waits)) ∙ h.first n on;
  }

  takes_same : (i h : ℕ) → TakesFirst by_core s i h → TakesFirst by_run s i h
  takes_same i h k = record { set = k.set; member = k.member; named = k.named; ready = k.ready; first = k.first }

  shows_same : (l : Label) → ShowsFirst by_core s l → ShowsFirst by_run s l
  shows_same l h = record {
    waiter = if_some (WakesFirst by_core s) (WakesFirst by_run s) (woken_of l) wakes_same h.waiter;
    member = if_some (λ e. TakesFirst by_core s (instance_of e.0 s) e.1) (λ e. TakesFirst by_run s (instance_of e.0 s) e.1) (taken_of l) (λ e. takes_same (instance_of e.0 s) e.1) h.member;
  }

  pub picks_same : (l : Label) (t : State) → Picks by_core x st l t → Picks by_run x st l t
  unfolding StepIn
  picks_same l t h = record { shows = shows_same l h.shows; step = turn_same st.turn l t h.step }

-- ---- Runs

pick_all : (x : Setting) (s : State) (ls : List Label) (t : State) (run : Run x s ls t) (came : List ℕ) (p : TablePlaces) →
    AllSayOrder came (history x s ls t run) → RecordsPick x p (history x s ls t run) → PicksAll x p came (history x s ls t run)
pick_all x s [] t run came p say pick = tt
pick_all x s (l ∷ ls) t run came p say pick =
    let k : Moment = record { before = s; label = l; after = run.0 } in
    (picks_same x s came p.seats say.0 l run.0 pick.0, pick_all x run.0 ls t run.1.1 (came_by k came) (reseated k p) say.1 pick.1)

pub records_pick_all : RecordsPickAll
unfolding RecordsPickAll RunsSayOrder
records_pick_all x codes v instances handle_limit capacity main ls t run low p pick =
    pick_all x (opening v instances handle_limit capacity main) ls t run [] p (runs_say_order x codes v instances handle_limit capacity main ls t run low) pick
