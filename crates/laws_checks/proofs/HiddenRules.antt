-- Which rule takes one of several threads: that of a cancel alone, which pauses its own thread, whatever it takes.
use Rattle.laws_choices.proofs.Forms.{IsSilent}
use Rattle.laws_choices.proofs.SilentRules.{after_silent, call_silent, data_silent, direct_exit_silent, drop_silent, ended_silent, first_silent, host_silent, inc_silent, ret_bad_silent, set_drop_silent, set_new_silent, silent_or_trap, silent_trap_if, sync_host_silent, sync_silent, thread_exit_silent, thread_silent}
use Rattle.laws_choices.specs.Chooses.{hides, no_choice}
use Rattle.laws_choices.specs.Offer.{Chosen, shown}
use Rattle.laws_choices.specs.Offers.{call_offer, cancel_found_offer, cancel_offer, cancel_offer_by, of_found, op_offer, unless}
use Rattle.laws_choices.specs.Steps.{ProgressesBy}
use Rattle.laws_states.proofs.SettledLemmas.{known_open}
use Rattle.machine_data.specs.Core.{Core, State}
use Rattle.machine_data.specs.Labels.{Choice, exit_label}
use Rattle.machine_data.specs.Moves.{NothingPicked, PickedEvent, PickedMember, PickedTaskEvent, may_hand_on, may_wake, passes_check, picked_event, waits_cancellable}
use Rattle.machine_data.specs.Read.{backpressure_of, cancel_was_delivered, event_of, goal_of, has_ended, instance_of, foot_of, is_async_lifted, is_direct, is_explicit, is_joined, is_watched, join_of, kind_of, op_progress_of, registers_of, set_at, subtask_at, task_of, under_of, undelivered_end, was_cancelled}
use Rattle.machine_data.specs.Write.{set_join}
use Rattle.machine_data.specs.declared.component.Component.{Component}
use Rattle.machine_data.specs.declared.component.ExportKind.TheVariants as kind
use Rattle.machine_data.specs.declared.component.ExportKind.{ExportKind}
use Rattle.machine_data.specs.declared.label.Label.TheVariants as label
use Rattle.machine_data.specs.declared.label.Label.{Label}
use Rattle.machine_data.specs.declared.label.TaskLabel.TheVariants as task_label
use Rattle.machine_data.specs.declared.op.CallOp.TheVariants as call_op
use Rattle.machine_data.specs.declared.op.CallOp.{CallOp}
use Rattle.machine_data.specs.declared.op.Op.TheVariants as op
use Rattle.machine_data.specs.declared.op.Op.{Op}
use Rattle.machine_data.specs.declared.op.SetOp.TheVariants as set_op
use Rattle.machine_data.specs.declared.op.SetOp.{SetOp}
use Rattle.machine_data.specs.declared.op.TaskOp.TheVariants as task_op
use Rattle.machine_data.specs.declared.op.TaskOp.{TaskOp}
use Rattle.machine_data.specs.declared.records.Join.TheVariants as join
use Rattle.machine_data.specs.declared.records.OpProgress.TheVariants as op_progress
use Rattle.machine_data.specs.declared.records.OpProgress.{OpProgress}
use Rattle.machine_data.specs.declared.records.Subtask.TheVariants as subtask
use Rattle.machine_data.specs.declared.records.Subtask.{Subtask}
use Rattle.machine_data.specs.declared.trap.Trap.TheVariants as trap
use Rattle.machine_data.specs.declared.trap.Trap.{Trap}
use Rattle.machine_rules.specs.Calls.{call_host_polled}
use Rattle.machine_rules.specs.Cancels.{AlreadyEnded, AskedBefore, Async, CallbackYields, CancelCase, Mode, OtherwiseRuns, StartNotRun, Sync, ThreadWaits, cancellable, cancel_aborts_host, cancel_asks, cancel_case, cancel_found, cancel_guest, cancel_resumed, cancel_wakes, pauses, scripted_cancel_rule, scripted_subtask_rule}
use Rattle.machine_rules.specs.Ends.{code_kind_rule, code_rule, code_wait_rule, exit_rule_for, has_event_for, held_by_flag, implicit_exit_rule, kind_exit_rule, leaves_no_result, may_tell, passes_after_return, passes_after_stop}
use Rattle.machine_rules.specs.Progress.{Asks, Continues, Fails, Never, OneOf, Ordered, Progress, Stops, Traps, may, or_never, or_trap, trap_if}
use Rattle.machine_rules.specs.Scripts.{HasOpen, host_at, op_of, value_of, values_in}
use Rattle.machine_rules.specs.Sets.{chosen, finds_nothing, join_done, join_to, may_wake_new, scripted_set_rule, scripted_wait_rule, wait_begins, wait_goes_on}
use Rattle.machine_rules.specs.Stalled.{Setting}
use Rattle.machine_data.specs.declared.records.Turn.TheVariants as turn
use Rattle.machine_rules.specs.Step.{did, is_among, scripted_op_rule}
use Rattle.machine_rules.specs.Turns.{goes_to}
use Rattle.machine_rules.specs.Task.{dec_from, scripted_task_rule}
use Rattle.std.proofs.Common.{refl, subst, sym, ◌∙◌}
use Rattle.std.specs.Prelude.{Bool, List, None, Option, Some, [], false, nat_lt, not, suc, true, zero, ℕ, ◌%◌, ◌*◌, ◌+◌, ◌/◌, ◌≡◌}

-- ---- Rules that take none

silent_takes : (p : Progress) → IsSilent p → hides p ≡ false
silent_takes (Continues l new m) h = refl
silent_takes (Stops l new) h = refl
silent_takes (Traps t) h = refl
silent_takes (Fails i) h = refl
silent_takes Never h = refl
silent_takes (Ordered ns next) h = refl
silent_takes (OneOf ns next) h = absurd h
silent_takes (Asks next) h = refl

may_takes : (b : Bool) (p : Progress) → hides p ≡ false → hides (may b p) ≡ false
may_takes true p h = h
may_takes false p h = refl

never_takes : {X : Type 0} (o : Option X) (next : X → Progress) → ((x : X) → hides (next x) ≡ false) → hides (or_never o next) ≡ false
never_takes None next h = refl
never_takes (Some x) next h = h x

trap_takes : (b : Bool) (t : Trap) (p : Progress) → hides p ≡ false → hides (trap_if b t p) ≡ false
trap_takes true t p h = refl
trap_takes false t p h = h

found_takes : {X : Type 0} (o : Option X) (t : Trap) (next : X → Progress) → ((x : X) → hides (next x) ≡ false) → hides (or_trap o t next) ≡ false
found_takes None t next h = refl
found_takes (Some x) t next h = h x

none_taken : (p : Progress) → hides p ≡ false → hides p ≡ true → ⊥
none_taken p none some = absurd (let bad = sym none ∙ some in cc)

-- ---- Ops on tasks and sets

module _ (n : ℕ) (s : Core) (ch : Choice) where
  code_wait_takes : (l : Label) (x : ℕ) (held : List ℕ) (b : Bool) → hides (code_wait_rule l n x held s b) ≡ false
  code_wait_takes l x held true = refl
  code_wait_takes l x held false = refl

  code_kind_takes : (l : Label) (held : List ℕ) (code rest : ℕ) → hides (code_kind_rule l n held s code rest) ≡ false
  code_kind_takes l held zero rest = trap_takes (not (passes_after_stop (instance_of n s) (foot_of n s) held s)) _ _ (trap_takes (leaves_no_result n s) _ _ refl)
  code_kind_takes l held (suc zero) rest = refl
  code_kind_takes l held (suc (suc zero)) rest = found_takes (set_at (instance_of n s) rest s) _ _ (λ x. code_wait_takes l x held (has_event_for (task_of n s) x s))
  code_kind_takes l held (suc (suc (suc code))) rest = refl

  code_takes : (l : Label) (code : ℕ) → hides (code_rule l n s code) ≡ false
  code_takes l code = trap_takes (nat_lt 4294967295 code) _ _ (code_kind_takes l (held_by_flag (instance_of n s) s) (code % 16) (code / 16))

  kind_exit_takes : (x : ExportKind) → hides (kind_exit_rule n ch.woken s x) ≡ false
  kind_exit_takes kind.Sync = may_takes (may_tell (task_of n s) ch.woken s) _ refl
  kind_exit_takes kind.Blocking = trap_takes (not (passes_after_return n ch.woken s)) _ _ (may_takes (may_tell (task_of n s) ch.woken s) _ refl)
  kind_exit_takes kind.Stackful = silent_takes _ (thread_exit_silent n s)
  kind_exit_takes kind.Callback = code_takes (exit_label n None) 0

  implicit_exit_takes : (b : Bool) → hides (implicit_exit_rule n ch.woken s b) ≡ false
  implicit_exit_takes true = silent_takes _ (direct_exit_silent n s (kind_of (task_of n s) s) (under_of n s))
  implicit_exit_takes false = kind_exit_takes (kind_of (task_of n s) s)

  exit_takes : (b : Bool) → hides (exit_rule_for n ch.woken s b) ≡ false
  exit_takes true = silent_takes _ (thread_exit_silent n s)
  exit_takes false = implicit_exit_takes (is_direct (goal_of (task_of n s) s))

  dec_takes : (b : ℕ) → hides (dec_from n s b) ≡ false
  dec_takes zero = refl
  dec_takes (suc zero) = refl
  dec_takes (suc (suc b)) = refl

  task_takes : (o : TaskOp) → hides (scripted_task_rule n s ch o) ≡ false
  task_takes (task_op.Ret x) =
      trap_takes (has_ended (task_of n s) s) _ _ (trap_takes (not (is_async_lifted (kind_of (task_of n s) s))) _ _ (may_takes (may_tell (task_of n s) ch.woken s) _ refl))
  task_takes (task_op.RetBad x) = silent_takes _ (ret_bad_silent n s)
  task_takes task_op.TaskCancel =
      trap_takes (not (cancel_was_delivered (task_of n s) s)) _ _ (trap_takes (has_ended (task_of n s) s) _ _ (may_takes (may_tell (task_of n s) ch.woken s) _ refl))
  task_takes task_op.Exit = exit_takes (is_explicit n s)
  task_takes task_op.CbYield = code_takes (label.Task (task_label.CbYield n)) 1
  task_takes (task_op.CbWait x) = code_takes (label.Task (task_label.CbWait n)) (16 * value_of n s x + 2)
  task_takes (task_op.Code x) = code_takes (label.Task (task_label.Code n)) (value_of n s x)
  task_takes task_op.BpInc = silent_takes _ (inc_silent n s)
  task_takes task_op.BpDec = dec_takes (backpressure_of (instance_of n s) s)

  wait_begins_takes : (r x : ℕ) (b : Bool) → hides (wait_begins n r ch s x b) ≡ false
  wait_begins_takes r x true = trap_takes (not (passes_check (instance_of n s) s)) _ _ refl
  wait_begins_takes r x false = never_takes (picked_event (waits_cancellable (task_of n s) s) (task_of n s) x (chosen n ch s) s) _ (λ g. refl)

  wait_goes_takes : (x r : ℕ) (g : PickedEvent) → hides (wait_goes_on n x r ch s g) ≡ false
  wait_goes_takes x r NothingPicked = refl
  wait_goes_takes x r (PickedTaskEvent e) = may_takes (may_hand_on x (PickedTaskEvent e) ch.woken s) _ refl
  wait_goes_takes x r (PickedMember sub) = may_takes (may_hand_on x (PickedMember sub) ch.woken s) _ refl

  wait_takes : (r h : ℕ) (far : OpProgress) → hides (scripted_wait_rule n r h ch s far) ≡ false
  wait_takes r h (op_progress.Waits x) =
      never_takes (picked_event (waits_cancellable (task_of n s) s) (task_of n s) x (chosen n ch s) s) _ (wait_goes_takes x r)
  wait_takes r h _ = found_takes (set_at (instance_of n s) h s) _ _ (λ x. wait_begins_takes r x (finds_nothing n x s))

  join_done_takes : (sub : Subtask) (x : Option ℕ) → hides (join_done n sub ch.woken s x) ≡ false
  join_done_takes sub x = trap_takes (is_watched (join_of sub s)) _ _ (may_takes (may_wake_new (event_of sub s) x ch.woken s) _ refl)

  join_to_takes : (h : ℕ) (sub : Subtask) → hides (join_to n h ch.woken s sub) ≡ false
  join_to_takes zero sub = join_done_takes sub None
  join_to_takes (suc h) sub = found_takes (set_at (instance_of n s) (suc h) s) _ _ (λ x. join_done_takes sub (Some x))

  set_takes : (o : SetOp) → hides (scripted_set_rule n s ch o) ≡ false
  set_takes (set_op.New r) = silent_takes _ (set_new_silent n s r)
  set_takes (set_op.Drop x) = silent_takes _ (silent_or_trap (set_at (instance_of n s) (value_of n s x) s) _ _ (λ y. set_drop_silent n s (value_of n s x) y))
  set_takes (set_op.Wait r x) = wait_takes r (value_of n s x) (op_progress_of n s)
  set_takes (set_op.Poll r x) = found_takes (set_at (instance_of n s) (value_of n s x) s) _ _
      (λ y. never_takes (picked_event false (task_of n s) y (chosen n ch s) s) _ (λ g. refl))
  set_takes (set_op.Join x y) = found_takes (subtask_at (instance_of n s) (value_of n s x) s) _ _ (λ sub. join_to_takes (value_of n s y) sub)

-- ---- Cancels

-- it takes one of the threads of the call that a cancel may take, and its own pauses, whatever it takes
abbrev pub PausesAll : ℕ → Core → ℕ → Progress → Type 0
PausesAll n s k (OneOf ns next) = (ns ≡ cancellable k s) × ((m : ℕ) → next m ≡ Stops (pauses n) (cancel_wakes n k m s))
PausesAll n s k _ = ⊥

-- no member is offered
abbrev IsTaking : ℕ → Core → List ℕ → Progress → Type 0
IsTaking n s members p = (members ≡ []) × ((k : ℕ) × PausesAll n s k p)

module _ (mode : Mode) (n r : ℕ) (s : Core) where
  guest_pauses : (k : ℕ) (x : CancelCase) → hides (cancel_guest mode n r k s x) ≡ true → IsTaking n s (cancel_offer_by k s x).members (cancel_guest mode n r k s x)
  guest_pauses k AlreadyEnded h = absurd (none_taken _ (silent_takes _ (ended_silent mode n r (subtask.Guest k) s (undelivered_end (event_of (subtask.Guest k) s)))) h)
  guest_pauses k StartNotRun h = absurd (cc)
  guest_pauses k AskedBefore h = absurd (cc)
  guest_pauses k ThreadWaits h = (refl, (k, (refl, λ m. refl)))
  guest_pauses k CallbackYields h = absurd (cc)
  guest_pauses k OtherwiseRuns h = absurd (none_taken _ (silent_takes _ (after_silent mode n r (subtask.Guest k) (cancel_asks k s))) h)

  joined_pauses : (k : ℕ) (b : Bool) → hides (trap_if b trap.WaitableSyncAndAsync (cancel_guest mode n r k s (cancel_case k s))) ≡ true →
      IsTaking n s (unless b (cancel_offer_by k s (cancel_case k s))).members (trap_if b trap.WaitableSyncAndAsync (cancel_guest mode n r k s (cancel_case k s)))
  joined_pauses k true h = absurd (cc)
  joined_pauses k false h = guest_pauses k (cancel_case k s) h

  found_pauses : (sub : Subtask) → hides (cancel_found mode n r s sub) ≡ true → IsTaking n s (cancel_found_offer s sub).members (cancel_found mode n r s sub)
  found_pauses (subtask.Guest k) h = joined_pauses k (is_joined (join_of (subtask.Guest k) s)) h
  found_pauses (subtask.Host i) h = absurd (none_taken _ (silent_takes _
      (silent_trap_if (is_joined (join_of (subtask.Host i) s)) _ _
      (silent_trap_if (was_cancelled i s) _ _ (after_silent mode n r (subtask.Host i) (cancel_aborts_host i s))))) h)

  named_pauses : (o : Option Subtask) → hides (or_trap o trap.BadHandle (cancel_found mode n r s)) ≡ true →
      IsTaking n s (of_found o (cancel_found_offer s)).members (or_trap o trap.BadHandle (cancel_found mode n r s))
  named_pauses None h = absurd (cc)
  named_pauses (Some sub) h = found_pauses sub h

  cancel_pauses : (h : ℕ) (far : OpProgress) → hides (scripted_cancel_rule mode n r h s far) ≡ true → IsTaking n s (cancel_offer n h s far).members (scripted_cancel_rule mode n r h s far)
  cancel_pauses h (op_progress.Cancels sub) it = absurd (none_taken _ (silent_takes _ (after_silent mode n r sub (cancel_resumed n sub s))) it)
  cancel_pauses h (op_progress.AwaitsEnd sub) it =
      absurd (let t = set_join sub join.Nowhere s in none_taken _ (silent_takes _ (ended_silent mode n r sub t (undelivered_end (event_of sub t)))) it)
  cancel_pauses h _ it = named_pauses (subtask_at (instance_of n s) h s) it

call_pauses : (c : Component) (n : ℕ) (s : Core) (o : CallOp) → (HasOpen c → ⊥) → hides (scripted_subtask_rule c n s o) ≡ true →
    IsTaking n s (call_offer n s o).members (scripted_subtask_rule c n s o)
call_pauses c n s (call_op.Call r q e xs) hosts h = absurd (none_taken _ (silent_takes _ (call_silent n s c r q e (values_in (registers_of n s) xs) (op_progress_of n s))) h)
call_pauses c n s (call_op.CallSync r e xs) hosts h = absurd (none_taken _ (silent_takes _ (sync_silent n s c r e (values_in (registers_of n s) xs) (op_progress_of n s))) h)
call_pauses c n s (call_op.CallHost r q i) hosts h =
    absurd (none_taken _ (silent_takes _ (first_silent n s (host_at c i) (call_host_polled n r q s) (known_open c hosts i) (λ x. host_silent n s r q x))) h)
call_pauses c n s (call_op.CallSyncHost r i) hosts h = absurd (none_taken _ (silent_takes _ (sync_host_silent n s c r i (op_progress_of n s) (known_open c hosts i))) h)
call_pauses c n s (call_op.Cancel r x) hosts h = cancel_pauses Async n r s (value_of n s x) (op_progress_of n s) h
call_pauses c n s (call_op.CancelSync r x) hosts h = cancel_pauses Sync n r s (value_of n s x) (op_progress_of n s) h
call_pauses c n s (call_op.Drop x) hosts h = absurd (none_taken _ (silent_takes _
    (silent_or_trap (subtask_at (instance_of n s) (value_of n s x) s) _ _ (λ sub. drop_silent n (value_of n s x) s sub))) h)

-- ---- Each op

-- whatever its choice is
abbrev pub TakesOne : Component → ℕ → Core → Op → Type 0
TakesOne c n s o = ((op_offer n s o).members ≡ []) × ((k : ℕ) × ((ch : Choice) → PausesAll n s k (scripted_op_rule c n s ch o)))

op_pauses : (c : Component) (n : ℕ) (s : Core) (o : Op) → (HasOpen c → ⊥) → hides (scripted_op_rule c n s no_choice o) ≡ true → TakesOne c n s o
op_pauses c n s (op.Data o) hosts h = absurd (none_taken _ (silent_takes _ (data_silent c n s o)) h)
op_pauses c n s (op.Task o) hosts h = absurd (none_taken _ (task_takes n s no_choice o) h)
op_pauses c n s (op.Set o) hosts h = absurd (none_taken _ (set_takes n s no_choice o) h)
op_pauses c n s (op.Call o) hosts h = let is = call_pauses c n s o hosts h in (is.0, (is.1.0, λ ch. is.1.1))
op_pauses c n s (op.Thread o) hosts h = absurd (none_taken _ (silent_takes _ (thread_silent n s c o)) h)

-- What a choice takes of the threads of a call.
pub record Took (n k : ℕ) (s : State) (c : Chosen) (l : Label) (t : State) : Type 0 where
  pub who : ℕ
  pub waiter : c.waiter ≡ Some who
  pub among : is_among who (cancellable k s.core) ≡ true
  pub label : l ≡ pauses n
  pub state : t ≡ goes_to s (cancel_wakes n k who s.core) turn.Main

by_pauses : (c : Chosen) (s : State) (n k : ℕ) (p : Progress) → PausesAll n s.core k p → (l : Label) (t : State) → ProgressesBy c s s.core n p l t → Took n k s c l t
by_pauses c s n k (Continues j new m) all l t h = absurd all
by_pauses c s n k (Stops j new) all l t h = absurd all
by_pauses c s n k (Traps j) all l t h = absurd all
by_pauses c s n k (Fails i) all l t h = absurd all
by_pauses c s n k Never all l t h = absurd all
by_pauses c s n k (Ordered ns next) all l t h = absurd all
by_pauses c s n k (OneOf ns next) all l t h =
    let step = subst (λ (p : Progress). ProgressesBy c s s.core n p l t) (all.1 h.0) h.1.1 in
    record { who = h.0; waiter = h.1.0.0; among = subst (λ (ms : List ℕ). is_among h.0 ms ≡ true) all.0 h.1.0.1; label = step.0; state = step.1 }
by_pauses c s n k (Asks next) all l t h = absurd all

-- the running thread's op takes one of several threads: then no member is offered, and the label is `pauses`, whatever is taken
pub run_takes : (x : Setting) (s : State) → (HasOpen x.component → ⊥) → (n : ℕ) → hides (did x.component n s.core no_choice) ≡ true →
    TakesOne x.component n s.core (op_of x.component n s.core)
unfolding did
run_takes x s hosts n h = op_pauses x.component n s.core (op_of x.component n s.core) hosts h

pub took : (x : Setting) (s : State) (n : ℕ) (one : TakesOne x.component n s.core (op_of x.component n s.core)) (c : Chosen) (l : Label) (t : State) →
    ProgressesBy c s s.core n (did x.component n s.core (shown c)) l t → Took n one.1.0 s c l t
unfolding did
took x s n one c l t step = by_pauses c s n one.1.0 (scripted_op_rule x.component n s.core (shown c) (op_of x.component n s.core)) (one.1.1 (shown c)) l t step
