-- The ops on threads.
use Rattle.std.specs.Option.{option_map_or}
use Rattle.std.specs.Prelude.{Bool, None, Option, Some, [], false, not, option_and_then, true, unwrap_or, ℕ, ◌&&◌, ◌==◌, ◌∷◌}
use Rattle.machine_data.specs.declared.component.Component.{Component}
use Rattle.machine_data.specs.declared.records.OpProgress.{OpProgress}
use Rattle.machine_data.specs.declared.label.Label.{Label}
use Rattle.machine_data.specs.declared.records.Place.{Place}
use Rattle.machine_data.specs.declared.component.Slot.{Slot}
use Rattle.machine_data.specs.declared.label.ThreadLabel.{ThreadLabel}
use Rattle.machine_data.specs.declared.op.ThreadOp.{ThreadOp}
use Rattle.machine_data.specs.declared.records.Why.{Why}
use Rattle.machine_data.specs.declared.records.OpProgress.TheVariants as op_progress
use Rattle.machine_data.specs.declared.label.Label.TheVariants as label
use Rattle.machine_data.specs.declared.records.Place.TheVariants as place
use Rattle.machine_data.specs.declared.records.Script.TheVariants as script
use Rattle.machine_data.specs.declared.component.Slot.TheVariants as slot
use Rattle.machine_data.specs.declared.label.ThreadLabel.TheVariants as thread_label
use Rattle.machine_data.specs.declared.op.ThreadOp.TheVariants as thread_op
use Rattle.machine_data.specs.declared.trap.Trap.TheVariants as trap
use Rattle.machine_data.specs.declared.records.Why.TheVariants as why
use Rattle.machine_data.specs.Core.{Core}
use Rattle.machine_data.specs.Moves.{checked, passes_check, promoted_unless, put_low, put_switch, stopped, stopped_at}
use Rattle.machine_data.specs.Read.{at_handle_limit, fits, foot_of, op_progress_of, instance_of, is_explicit, is_ready_to_resume, is_yielded, new_thread_handle, place_of, task_of, thread_at, thread_handle_of}
use Rattle.machine_data.specs.Write.{add_thread, set_op_progress}
use Rattle.machine_rules.specs.Calls.{new_thread, next_thread, with_thread_handle}
use Rattle.machine_rules.specs.Cancels.{pauses}
use Rattle.machine_rules.specs.Finish.{Doer, NoAnswer, OneNumber, OwnScript, finish}
use Rattle.machine_rules.specs.Progress.{Continues, Progress, Stops, Traps, or_trap, trap_if}
use Rattle.machine_rules.specs.Scripts.{registers_for, slot_at, value_of}

-- ---- Making a thread

-- a thread of the task is made with v in r0, not started, and has a handle
unfoldable pub thread_added : ℕ → ℕ → ℕ → Core → Core
thread_added n x v s =
    let thread = new_thread (task_of n s) true (script.Slot x) (registers_for (v ∷ [])) None in
    with_thread_handle (instance_of n s) (next_thread s) (add_thread thread s)

-- its handle goes to r
abbrev pub thread_made : ℕ → ℕ → ℕ → ℕ → Core → Core
thread_made n r x v s = finish (OwnScript r) n (OneNumber (new_thread_handle (instance_of n s) s)) (thread_added n x v s)

abbrev pub thread_new_label : ℕ → Core → Label
thread_new_label n s = label.Thread (thread_label.New (new_thread_handle (instance_of n s) s) n (next_thread s))

-- `thread_new R S X`: trap 13 (ThreadNewIndirectUninitialized) where the slot has no line,
-- trap 14 (ThreadNewIndirectInvalidType) where it is bad,
-- trap 18 (TableFull) where 2 entries don't fit, trap 17 (HandleLimit) where no handle may be given
abbrev pub thread_new_rule : Doer → ℕ → ℕ → ℕ → Core → Slot → Progress
thread_new_rule d n x v s slot.Empty = Traps trap.ThreadNewIndirectUninitialized
thread_new_rule d n x v s slot.Bad = Traps trap.ThreadNewIndirectInvalidType
thread_new_rule d n x v s (slot.Script ops) =
    trap_if (not (fits 2 s)) trap.TableFull (
    trap_if (at_handle_limit s) trap.HandleLimit (
    Continues (thread_new_label n s) (finish d n (OneNumber (new_thread_handle (instance_of n s) s)) (thread_added n x v s)) n))

abbrev pub scripted_thread_new_rule : ℕ → ℕ → ℕ → ℕ → Core → Slot → Progress
scripted_thread_new_rule n r x v s k = thread_new_rule (OwnScript r) n x v s k

-- `thread_index R`; default: no handle of its own
abbrev pub thread_index_rule : Doer → ℕ → Core → Progress
thread_index_rule d n s =
    let h = unwrap_or (thread_handle_of n s) 0 in
    Continues (label.Thread (thread_label.Index h n)) (finish d n (OneNumber h) s) n

abbrev pub scripted_thread_index_rule : ℕ → ℕ → Core → Progress
scripted_thread_index_rule n r s = thread_index_rule (OwnScript r) n s

-- ---- Resuming a thread

-- the entry that a resume gives to a thread at this place: one that wasn't started, or a suspended one
abbrev pub resume_at : Bool → Place → Option Why
resume_at true place.New = Some why.Start
resume_at explicit place.Suspended = Some why.Resumption
resume_at explicit _ = None

abbrev pub resume_why : ℕ → Core → Option Why
resume_why m s = option_and_then (resume_at (is_explicit m s)) (place_of m s)

abbrev pub resumed_later : ℕ → ℕ → Why → Core → Core
resumed_later n m w s = finish (OwnScript 0) n NoAnswer (put_low m w s)

-- trap 11 (CannotResumeThread) where it is this thread, or neither an explicit one that wasn't started nor suspended
abbrev pub resume_later_by : Doer → ℕ → Core → ℕ → Progress
resume_later_by d n s m =
    trap_if (m == n) trap.CannotResumeThread (
    or_trap (resume_why m s) trap.CannotResumeThread (
    λ w. Continues (label.Thread (thread_label.ResumeLater n)) (finish d n NoAnswer (put_low m w s)) n))

abbrev pub resume_later_found : ℕ → Core → ℕ → Progress
resume_later_found n s m = resume_later_by (OwnScript 0) n s m

-- `resume_later X`: trap 16 (BadHandle) where X names no thread
abbrev pub resume_later_rule : Doer → ℕ → ℕ → Core → Progress
resume_later_rule d n h s = or_trap (thread_at (instance_of n s) h s) trap.BadHandle (resume_later_by d n s)

abbrev pub scripted_resume_later_rule : ℕ → ℕ → Core → Progress
scripted_resume_later_rule n h s = resume_later_rule (OwnScript 0) n h s

-- ---- Suspending and yielding

-- Whether the thread suspends or yields.
pub data Halt : Type 0 where
  Suspension : Halt
  Yielding : Halt

-- the strand stops; its top is suspended, or gets a low entry
unfoldable pub halted : Halt → ℕ → Core → Core
halted Suspension n s = set_op_progress n op_progress.Suspends (stopped_at n place.Suspended s)
halted Yielding n s = set_op_progress n op_progress.Yields (put_low n why.Resumption (stopped (foot_of n s) s))

unfoldable pub halted_checked : Halt → ℕ → Core → Core
halted_checked x n s = halted x n (checked (instance_of n s) s)

-- by whether the check passes: where it fails, trap 9 (CannotBlockSyncTask) for a suspension, and a yield is done at once
abbrev pub halts_by : Doer → Halt → ℕ → Label → Core → Bool → Progress
halts_by d x n l s true = Stops (pauses n) (halted_checked x n s)
halts_by d Suspension n l s false = Traps trap.CannotBlockSyncTask
halts_by d Yielding n l s false = Continues l (finish d n NoAnswer s) n

abbrev pub halts : Halt → ℕ → Label → Core → Bool → Progress
halts x n l s b = halts_by (OwnScript 0) x n l s b

-- `suspend`, `yield`: a check, then Stop
abbrev pub halt_rule : Doer → Halt → ℕ → Label → Core → Progress
halt_rule d x n l s = halts_by d x n l s (passes_check (instance_of n s) s)

abbrev pub scripted_halt_rule : Halt → ℕ → Label → Core → Progress
scripted_halt_rule x n l s = halt_rule (OwnScript 0) x n l s

unfoldable pub halted_resuming : Halt → ℕ → ℕ → Why → Core → Core
halted_resuming x n m w s = halted x n (put_switch m w s)

-- trap 11 (CannotResumeThread), as in `resume_later`; no check
abbrev pub then_resume_found : Halt → ℕ → Core → ℕ → Progress
then_resume_found x n s m =
    trap_if (m == n) trap.CannotResumeThread (
    or_trap (resume_why m s) trap.CannotResumeThread (
    λ w. Stops (pauses n) (halted_resuming x n m w s)))

-- `suspend_then_resume X`, `yield_then_resume X`: trap 16 (BadHandle) where X names no thread
abbrev pub then_resume_rule : Halt → ℕ → ℕ → Core → Progress
then_resume_rule x n h s = or_trap (thread_at (instance_of n s) h s) trap.BadHandle (then_resume_found x n s)

-- the thread has yielded, and its entry is queued
unfoldable pub has_yielded : ℕ → Core → Bool
has_yielded m s = option_map_or is_ready_to_resume (place_of m s) false && is_yielded (op_progress_of m s)

unfoldable pub halted_promoting : Halt → ℕ → ℕ → Core → Core
halted_promoting x n m s = halted x n (promoted_unless m s)

-- where the other thread has yielded its entry moves to switch, without a check; else the plain op
abbrev pub then_promote_by : Doer → Halt → ℕ → Label → Core → ℕ → Bool → Progress
then_promote_by d x n l s m true = Stops (pauses n) (halted_promoting x n m s)
then_promote_by d x n l s m false = halt_rule d x n l s

abbrev pub then_promote : Halt → ℕ → Label → Core → ℕ → Bool → Progress
then_promote x n l s m b = then_promote_by (OwnScript 0) x n l s m b

-- trap 11 (CannotResumeThread) where it is this thread
abbrev pub then_promote_found_by : Doer → Halt → ℕ → Label → Core → ℕ → Progress
then_promote_found_by d x n l s m =
    trap_if (m == n) trap.CannotResumeThread (
    then_promote_by d x n l s m (has_yielded m s))

abbrev pub then_promote_found : Halt → ℕ → Label → Core → ℕ → Progress
then_promote_found x n l s m = then_promote_found_by (OwnScript 0) x n l s m

-- `suspend_then_promote X`, `yield_then_promote X`: trap 16 (BadHandle) where X names no thread
abbrev pub then_promote_rule : Doer → Halt → ℕ → ℕ → Label → Core → Progress
then_promote_rule d x n h l s = or_trap (thread_at (instance_of n s) h s) trap.BadHandle (then_promote_found_by d x n l s)

abbrev pub scripted_then_promote_rule : Halt → ℕ → ℕ → Label → Core → Progress
scripted_then_promote_rule x n h l s = then_promote_rule (OwnScript 0) x n h l s

-- the op as it begins, or done once the thread was resumed inside it
abbrev pub resumed_by : Doer → OpProgress → ℕ → Label → Core → Progress → Progress
resumed_by d op_progress.Suspends n l s p = Continues l (finish d n NoAnswer s) n
resumed_by d op_progress.Yields n l s p = Continues l (finish d n NoAnswer s) n
resumed_by d _ n l s p = p

abbrev pub by_op_progress : OpProgress → ℕ → Label → Core → Progress → Progress
by_op_progress f n l s p = resumed_by (OwnScript 0) f n l s p

abbrev pub halting_by : Doer → ℕ → Core → ThreadLabel → (Label → Progress) → Progress
halting_by d n s l row = resumed_by d (op_progress_of n s) n (label.Thread l) s (row (label.Thread l))

abbrev pub halting : ℕ → Core → ThreadLabel → (Label → Progress) → Progress
halting n s l row = halting_by (OwnScript 0) n s l row

abbrev pub thread_rule : Doer → Component → ℕ → Core → ThreadOp → Progress
thread_rule d c n s (thread_op.New r x v) = thread_new_rule d n x (value_of n s v) s (slot_at c (instance_of n s) x)
thread_rule d c n s (thread_op.Index r) = thread_index_rule d n s
thread_rule d c n s (thread_op.ResumeLater x) = resume_later_rule d n (value_of n s x) s
thread_rule d c n s thread_op.Suspend = halting_by d n s (thread_label.Suspend n) (λ l. halt_rule d Suspension n l s)
thread_rule d c n s thread_op.Yield = halting_by d n s (thread_label.Yield n) (λ l. halt_rule d Yielding n l s)
thread_rule d c n s (thread_op.SuspendThenResume x) =
    halting_by d n s (thread_label.SuspendThenResume n) (λ l. then_resume_rule Suspension n (value_of n s x) s)
thread_rule d c n s (thread_op.YieldThenResume x) =
    halting_by d n s (thread_label.YieldThenResume n) (λ l. then_resume_rule Yielding n (value_of n s x) s)
thread_rule d c n s (thread_op.SuspendThenPromote x) =
    halting_by d n s (thread_label.SuspendThenPromote n) (λ l. then_promote_rule d Suspension n (value_of n s x) l s)
thread_rule d c n s (thread_op.YieldThenPromote x) =
    halting_by d n s (thread_label.YieldThenPromote n) (λ l. then_promote_rule d Yielding n (value_of n s x) l s)

-- the register of the op's answer; default: it has none
abbrev pub thread_answer : ThreadOp → ℕ
thread_answer (thread_op.New r x v) = r
thread_answer (thread_op.Index r) = r
thread_answer _ = 0

abbrev pub scripted_thread_rule : Component → ℕ → Core → ThreadOp → Progress
scripted_thread_rule c n s o = thread_rule (OwnScript (thread_answer o)) c n s o
