-- The ends of host works: each is said by a label as it is written, told as it is recorded, and handed out as it is told.
use Rattle.std.specs.Option.{option_map_or}
use Rattle.std.specs.Prelude.{Bool, None, Some, false, is_some, true, ℕ, ◌+◌, ◌≡◌, ◌⊎◌}
use Rattle.laws_states.specs.Settings.{Reached}
use Rattle.machine_data.specs.Core.{Core, State}
use Rattle.machine_data.specs.Maps.{get}
use Rattle.machine_data.specs.Read.{course_of, course_value, event_of, op_progress_of, is_stage_ended, stage_of, undelivered_end, work_caller_of}
use Rattle.machine_data.specs.declared.label.Label.{Label}
use Rattle.machine_data.specs.declared.records.OpProgress.TheVariants as op_progress
use Rattle.machine_data.specs.declared.records.Subtask.TheVariants as subtask
use Rattle.machine_data.specs.declared.records.WorkCaller.TheVariants as work_caller
use Rattle.machine_data.specs.declared.statuses.Status.{Status}
use Rattle.machine_data.specs.declared.statuses.Status.TheVariants as status
use Rattle.machine_rules.specs.Allowed.{is_async_work}
use Rattle.machine_rules.specs.Chains.{host_taken}
use Rattle.machine_rules.specs.Once.{covers_end}
use Rattle.machine_rules.specs.Stalled.{Setting}
use Rattle.machine_rules.specs.Step.{Step}
use Rattle.machine_rules.specs.SubtaskEnds.{end_for, handed_by, written_by}
use Rattle.machine_rules.specs.Takes.{host_status}
use Rattle.machine_rules.specs.Works.{has_end}

-- the end to which the work has come by its record
abbrev pub recorded_end : ℕ → Core → Status
recorded_end i s = host_status (course_value (course_of i s))

-- the work is there, and has come to an end by its record
abbrev pub has_recorded : ℕ → Core → Bool
has_recorded i s = option_map_or (λ w. has_end w.course) (get s.works i) false

-- The end is that in the record of the work, which is of an async call, and whose entry was taken.
pub record IsRecorded (i : ℕ) (e : Status) (s : Core) : Type 0 where
  pub async : is_async_work (work_caller_of i s) ≡ true
  pub over : is_stage_ended (stage_of i s) ≡ true
  pub has : has_recorded i s ≡ true
  pub same : e ≡ recorded_end i s

-- what a host work has still to hand out is the end in its record
unfoldable pub WorkEndsToldAsRecorded : Type 0
WorkEndsToldAsRecorded = (x : Setting) (s : State) → Reached x s → (i : ℕ) (e : Status) →
    undelivered_end (event_of (subtask.Host i) s.core) ≡ Some e → IsRecorded i e s.core

-- no step puts another end in its place
unfoldable pub NoWorkEndIsCovered : Type 0
NoWorkEndIsCovered = (x : Setting) (s : State) (l : Label) (t : State) → Reached x s → Step x s l t → (i : ℕ) →
    covers_end (subtask.Host i) (record { before = s; label = l; after = t }) ≡ false

-- An end in a record after a step was there before it, or the label says that the step writes it. One that is to be handed out after a step
-- was so before it, or the step takes the work's entry.
pub record SaysEnds (x : Setting) (s : State) (l : Label) (t : State) (i : ℕ) : Type 0 where
  pub written : has_recorded i t.core ≡ true → (has_recorded i s.core ≡ true) ⊎
      (written_by x.component s.core l t.core ≡ Some (end_for (recorded_end i t.core) (subtask.Host i)))
  pub told : (e : Status) → undelivered_end (event_of (subtask.Host i) t.core) ≡ Some e →
      (undelivered_end (event_of (subtask.Host i) s.core) ≡ Some e) ⊎ (host_taken l ≡ Some i)

unfoldable pub WorkEndsAreSaid : Type 0
WorkEndsAreSaid = (x : Setting) (s : State) (l : Label) (t : State) → Step x s l t → (i : ℕ) → SaysEnds x s l t i

-- The sync call of a host is answered with a value, as its work, which had ended, is gone.
pub record Answered (i : ℕ) (e : Status) (s t : Core) : Type 0 where
  pub caller : ℕ
  pub called : work_caller_of i s ≡ work_caller.Sync caller
  pub inside : op_progress_of caller s ≡ op_progress.Calls (subtask.Host i)
  pub over : is_stage_ended (stage_of i s) ≡ true
  pub status : e ≡ status.Returned
  pub gone : get t.works i ≡ None

-- what a step hands out of a host work the work had to hand out, and has no more; or it answers a sync call; or the label says that the
-- step writes it
unfoldable pub WorkEndsHandedAsTold : Type 0
WorkEndsHandedAsTold = (x : Setting) (s : State) (l : Label) (t : State) → Reached x s → Step x s l t → (i : ℕ) (e : Status) →
    handed_by x.component s.main s.core l t.core ≡ Some (end_for e (subtask.Host i)) →
    ((undelivered_end (event_of (subtask.Host i) s.core) ≡ Some e) × (undelivered_end (event_of (subtask.Host i) t.core) ≡ None)) ⊎
    (Answered i e s.core t.core ⊎ (written_by x.component s.core l t.core ≡ Some (end_for e (subtask.Host i))))

-- The work has come to no end by its record, and is there, or is the next to be made.
pub record IsUnended (i : ℕ) (s : Core) : Type 0 where
  pub unended : has_recorded i s ≡ false
  pub known : (is_some (get s.works i) ≡ true) ⊎ (i ≡ s.made.works + 1)

-- so is a host work of which the label says that the step writes its end
unfoldable pub WrittenWorkEndsAreNew : Type 0
WrittenWorkEndsAreNew = (x : Setting) (s : State) (l : Label) (t : State) → Reached x s → Step x s l t → (i : ℕ) (e : Status) →
    written_by x.component s.core l t.core ≡ Some (end_for e (subtask.Host i)) → IsUnended i s.core
