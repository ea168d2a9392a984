-- The rules of the ops that don't pause.
use Rattle.machine_data.specs.declared.statuses.HostPoll.{HostPoll}
use Rattle.std.proofs.Common.{ap}
use Rattle.std.specs.Prelude.{Bool, List, None, Option, Some, false, nat_le, not, is_some, suc, true, zero, ℕ, ◌==◌, ◌≡◌}
use Rattle.ops_calls.specs.OpAnswers.{has_stopped}
use Rattle.ops_calls.specs.HostOps.{is_at_once}
use Rattle.machine_data.specs.Core.{Core}
use Rattle.machine_data.specs.Labels.{Choice, join_label, task_cancel_label}
use Rattle.machine_data.specs.Moves.{picked_event}
use Rattle.machine_data.specs.Read.{at_handle_limit, backpressure_of, cancel_was_delivered, event_of, fits, has_ended, has_member, has_waiters, instance_of, is_watched, join_of, new_handle, set_at, subtask_at, subtask_ended, task_of, thread_at}
use Rattle.machine_data.specs.declared.component.Component.{Component}
use Rattle.machine_data.specs.declared.component.Slot.{Slot}
use Rattle.machine_data.specs.declared.component.Slot.TheVariants as slot
use Rattle.machine_data.specs.declared.label.CallLabel.TheVariants as call_label
use Rattle.machine_data.specs.declared.label.Label.TheVariants as label
use Rattle.machine_data.specs.declared.label.SetLabel.TheVariants as set_label
use Rattle.machine_data.specs.declared.label.TaskLabel.TheVariants as task_label
use Rattle.machine_data.specs.declared.label.ThreadLabel.TheVariants as thread_label
use Rattle.machine_data.specs.declared.op.CallOp.{CallOp}
use Rattle.machine_data.specs.declared.op.CallOp.TheVariants as call_op
use Rattle.machine_data.specs.declared.op.Op.{Op}
use Rattle.machine_data.specs.declared.op.Op.TheVariants as op
use Rattle.machine_data.specs.declared.op.SetOp.{SetOp}
use Rattle.machine_data.specs.declared.op.SetOp.TheVariants as set_op
use Rattle.machine_data.specs.declared.op.TaskOp.{TaskOp}
use Rattle.machine_data.specs.declared.op.TaskOp.TheVariants as task_op
use Rattle.machine_data.specs.declared.op.ThreadOp.{ThreadOp}
use Rattle.machine_data.specs.declared.op.ThreadOp.TheVariants as thread_op
use Rattle.machine_data.specs.declared.records.Subtask.{Subtask}
use Rattle.machine_data.specs.declared.records.Why.{Why}
use Rattle.machine_data.specs.declared.trap.Trap.{Trap}
use Rattle.machine_data.specs.declared.trap.Trap.TheVariants as trap
use Rattle.ops_guests.specs.OpResult.{Implements}
use Rattle.ops_guests.specs.declared.op_result.OpResult.{OpResult}
use Rattle.machine_rules.specs.Cancels.{drop_by, subtask_rule}
use Rattle.machine_rules.specs.Ends.{may_tell}
use Rattle.machine_rules.specs.Finish.{SomeHost}
use Rattle.machine_rules.specs.Progress.{Asks, Fails, Continues, Never, OneOf, Ordered, Progress, Stops, Traps, may, or_never, or_trap, trap_if}
use Rattle.machine_rules.specs.Scripts.{slot_at, value_of}
use Rattle.machine_rules.specs.Sets.{chosen, join_done_by, join_to_by, may_wake_new, poll_takes_by, set_drop_by, set_rule}
use Rattle.machine_rules.specs.Step.{op_rule}
use Rattle.machine_rules.specs.Task.{dec_by, task_rule}
use Rattle.machine_rules.specs.Threads.{resume_later_by, resume_why, thread_new_rule, thread_rule}

-- no strand stops
abbrev pub IsFree : Progress → Type 0
IsFree (Stops l new) = ⊥
IsFree (Ordered ns next) = (order : List ℕ) → IsFree (next order)
IsFree (OneOf ns next) = (m : ℕ) → IsFree (next m)
IsFree (Asks next) = (answer : HostPoll) → IsFree (next answer)
IsFree p = Unit {0}

pub goes_on : (p : Progress) (s : Core) (r : OpResult) (t : Core) → IsFree p → Implements p s r t → has_stopped r ≡ false
goes_on (Continues l new m) s r t g h = ap has_stopped h.0
goes_on (Stops l new) s r t g h = absurd g
goes_on (Traps why) s r t g h = ap has_stopped h.0
goes_on (Fails i) s r t g h = ap has_stopped h.0
goes_on Never s r t g h = absurd h
goes_on (Ordered ns next) s r t g h = goes_on (next h.0) s r t (g h.0) h.1.1
goes_on (OneOf ns next) s r t g h = goes_on (next h.0) s r t (g h.0) h.1.1
goes_on (Asks next) s r t g h = goes_on (next h.0) s r t (g h.0) h.1

if_traps : (b : Bool) (why : Trap) (p : Progress) → IsFree p → IsFree (trap_if b why p)
if_traps true why p g = tt
if_traps false why p g = g

-- after two tests, and after two and a lawful choice
pub two_traps : (a b : Bool) (x y : Trap) (p : Progress) → IsFree p → IsFree (trap_if a x (trap_if b y p))
two_traps true b x y p g = tt
two_traps false true x y p g = tt
two_traps false false x y p g = g

trap_lawful : (a b : Bool) (x : Trap) (p : Progress) → IsFree p → IsFree (trap_if a x (may b p))
trap_lawful true b x p g = tt
trap_lawful false true x p g = g
trap_lawful false false x p g = tt

if_lawful : (b : Bool) (p : Progress) → IsFree p → IsFree (may b p)
if_lawful true p g = g
if_lawful false p g = tt

if_found : {X : Type 0} (o : Option X) (why : Trap) (next : X → Progress) → ((x : X) → IsFree (next x)) → IsFree (or_trap o why next)
if_found None why next g = tt
if_found (Some x) why next g = g x

if_given : {X : Type 0} (o : Option X) (next : X → Progress) → ((x : X) → IsFree (next x)) → IsFree (or_never o next)
if_given None next g = tt
if_given (Some x) next g = g x

lowers : (n : ℕ) (s : Core) (k : ℕ) → IsFree (dec_by SomeHost n s k)
lowers n s zero = tt
lowers n s (suc zero) = λ order. tt
lowers n s (suc (suc k)) = tt

task_free : (n : ℕ) (s : Core) (ch : Choice) (o : TaskOp) → is_at_once (op.Task o) ≡ true → IsFree (task_rule SomeHost n s ch o)
task_free n s ch task_op.TaskCancel e =
    let k = task_of n s in
    two_traps (not (cancel_was_delivered k s)) (has_ended k s) _ _ _ (if_lawful (may_tell k ch.woken s) _ tt)
task_free n s ch task_op.BpInc e = if_traps (nat_le 65535 (backpressure_of (instance_of n s) s)) _ _ tt
task_free n s ch task_op.BpDec e = lowers n s (backpressure_of (instance_of n s) s)
task_free n s ch o e = absurd (cc)

joined_free : (n : ℕ) (sub : Subtask) (w : Option ℕ) (s : Core) (x : Option ℕ) → IsFree (join_done_by SomeHost n sub w s x)
joined_free n sub w s x = trap_lawful (is_watched (join_of sub s)) (may_wake_new (event_of sub s) x w s) _ _ tt

joins : (n y : ℕ) (w : Option ℕ) (s : Core) (sub : Subtask) → IsFree (join_to_by SomeHost n y w s sub)
joins n zero w s sub = joined_free n sub w s None
joins n (suc h) w s sub = if_found (set_at (instance_of n s) (suc h) s) _ (λ x. join_done_by SomeHost n sub w s (Some x)) (λ x. joined_free n sub w s (Some x))

set_free : (n : ℕ) (s : Core) (ch : Choice) (o : SetOp) → is_at_once (op.Set o) ≡ true → IsFree (set_rule SomeHost n s ch o)
set_free n s ch (set_op.New r) e = two_traps (not (fits 1 s)) (at_handle_limit s) _ _ _ tt
set_free n s ch (set_op.Drop x) e =
    let h = value_of n s x in
    if_found (set_at (instance_of n s) h s) _ (set_drop_by SomeHost n h s) (λ y. two_traps (has_waiters y s) (has_member y s) _ _ _ tt)
set_free n s ch (set_op.Wait r x) e = absurd (cc)
set_free n s ch (set_op.Poll r x) e =
    let h = value_of n s x in
    if_found (set_at (instance_of n s) h s) _ (λ y. or_never (picked_event false (task_of n s) y (chosen n ch s) s) (poll_takes_by SomeHost n ch s))
    (λ y. if_given (picked_event false (task_of n s) y (chosen n ch s) s) (poll_takes_by SomeHost n ch s) (λ g. tt))
set_free n s ch (set_op.Join x y) e =
    let h = value_of n s x in
    let z = value_of n s y in
    if_found (subtask_at (instance_of n s) h s) _ (join_to_by SomeHost n z ch.woken s) (λ sub. joins n z ch.woken s sub)

call_free : (c : Component) (n : ℕ) (s : Core) (o : CallOp) → is_at_once (op.Call o) ≡ true → IsFree (subtask_rule SomeHost c n s o)
call_free c n s (call_op.Drop x) e =
    let h = value_of n s x in
    if_found (subtask_at (instance_of n s) h s) _ (drop_by SomeHost n h s)
    (λ sub. if_traps (is_watched (join_of sub s)) _ _ (two_traps (not (subtask_ended sub s)) (is_some (event_of sub s)) _ _ _ tt))
call_free c n s o e = absurd (cc)

makes : (n x v : ℕ) (s : Core) (o : Slot) → IsFree (thread_new_rule SomeHost n x v s o)
makes n x v s slot.Empty = tt
makes n x v s slot.Bad = tt
makes n x v s (slot.Script ops) = two_traps (not (fits 2 s)) (at_handle_limit s) _ _ _ tt

thread_free : (c : Component) (n : ℕ) (s : Core) (o : ThreadOp) → is_at_once (op.Thread o) ≡ true → IsFree (thread_rule SomeHost c n s o)
thread_free c n s (thread_op.New r x v) e = makes n x (value_of n s v) s (slot_at c (instance_of n s) x)
thread_free c n s (thread_op.Index r) e = tt
thread_free c n s (thread_op.ResumeLater x) e =
    if_found (thread_at (instance_of n s) (value_of n s x) s) _ (resume_later_by SomeHost n s)
    (λ m. if_traps (m == n) _ _ (if_found (resume_why m s) _ _ (λ w. tt)))
thread_free c n s o e = absurd (cc)

op_free : (c : Component) (n : ℕ) (s : Core) (ch : Choice) (o : Op) → is_at_once o ≡ true → IsFree (op_rule SomeHost c n s ch o)
op_free c n s ch (op.Data o) e = absurd (cc)
op_free c n s ch (op.Task o) e = task_free n s ch o e
op_free c n s ch (op.Set o) e = set_free n s ch o e
op_free c n s ch (op.Call o) e = call_free c n s o e
op_free c n s ch (op.Thread o) e = thread_free c n s o e

pub never_stops : (c : Component) (n : ℕ) (s : Core) (ch : Choice) (o : Op) → is_at_once o ≡ true → (r : OpResult) (t : Core) → Implements (op_rule SomeHost c n s ch o) s r t → has_stopped r ≡ false
never_stops c n s ch o e r t h = goes_on (op_rule SomeHost c n s ch o) s r t (op_free c n s ch o e) h
