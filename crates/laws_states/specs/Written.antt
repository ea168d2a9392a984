-- The end of each record is written at most once, and what a call has to hand out is that end.
use Rattle.machine_rules.specs.SubtaskEnds.{end_for, written_by, handed_by}
use Rattle.machine_rules.specs.Step.{Step}
use Rattle.machine_rules.specs.Primitives.{status_of_end}
use Rattle.machine_data.specs.declared.statuses.Status.{Status}
use Rattle.machine_data.specs.declared.records.CallEnd.{CallEnd}
use Rattle.machine_data.specs.Read.{end_of, event_of, undelivered_end, has_ended}
use Rattle.machine_data.specs.Maps.{get}
use Rattle.std.specs.Prelude.{List, count_by, ◌≤◌, Some, false, is_some, true, ◌≡◌, ◌⊎◌, ℕ, None}
use Rattle.laws_states.specs.Settings.{Reached}
use Rattle.machine_data.specs.Core.{State}
use Rattle.machine_data.specs.declared.label.Label.{Label}
use Rattle.machine_data.specs.declared.records.Subtask.{Subtask}
use Rattle.machine_rules.specs.History.{history}
use Rattle.machine_rules.specs.Once.{changes_end, covers_end}
use Rattle.machine_rules.specs.Run.{Run}
use Rattle.machine_rules.specs.Stalled.{Setting}
use Rattle.machine_data.specs.declared.records.CallEnd.TheVariants as call_end
use Rattle.machine_data.specs.declared.records.Subtask.TheVariants as subtask
use Rattle.machine_data.specs.declared.statuses.Status.TheVariants as status

-- the end in the record of each call and of each host work is written at most once
unfoldable pub EndsWrittenOnce : Type 0
EndsWrittenOnce = (x : Setting) (s : State) (ls : List Label) (t : State) → Reached x s → (run : Run x s ls t) → (sub : Subtask) →
    count_by (changes_end sub) (history x s ls t run) ≤ 1

-- What a call has still to hand out is the end in its record, and not that of a start that was withdrawn.
unfoldable pub EndsToldAsRecorded : Type 0
EndsToldAsRecorded = (x : Setting) (s : State) → Reached x s → (k : ℕ) (e : Status) →
    undelivered_end (event_of (subtask.Guest k) s.core) ≡ Some e → (c : CallEnd) ×
    ((end_of k s.core ≡ Some c) × ((status_of_end c ≡ e) × (c ≡ call_end.StartCancelled → ⊥)))

-- No step puts another end in its place.
unfoldable pub NoEndIsCovered : Type 0
NoEndIsCovered = (x : Setting) (s : State) (l : Label) (t : State) → Reached x s → Step x s l t → (k : ℕ) →
    covers_end (subtask.Guest k) (record { before = s; label = l; after = t }) ≡ false

-- What a call has to hand out after a step it had before, or the label says that the step writes that end.
unfoldable pub NewEndsAreSaid : Type 0
NewEndsAreSaid = (x : Setting) (s : State) (l : Label) (t : State) → Reached x s → Step x s l t → (k : ℕ) (e : Status) →
    undelivered_end (event_of (subtask.Guest k) t.core) ≡ Some e → (undelivered_end (event_of (subtask.Guest k) s.core) ≡ Some e) ⊎
    (written_by x.component s.core l t.core ≡ Some (end_for e (subtask.Guest k)))

-- So with a result that is there for main.
abbrev pub NewResultsAreSaid : Type 0
NewResultsAreSaid = (x : Setting) (s : State) (l : Label) (t : State) → Reached x s → Step x s l t → (k : ℕ) →
    is_some (get t.core.results k) ≡ true → (is_some (get s.core.results k) ≡ true) ⊎
    (written_by x.component s.core l t.core ≡ Some (end_for status.Returned (subtask.Guest k)))

-- An end of a call that a step hands out the call had to hand out, and has no more; or it was a result that was there for main, and is
-- taken; or the label says that the step writes it.
unfoldable pub EndsHandedAsTold : Type 0
EndsHandedAsTold = (x : Setting) (s : State) (l : Label) (t : State) → Step x s l t → (k : ℕ) (e : Status) →
    handed_by x.component s.main s.core l t.core ≡ Some (end_for e (subtask.Guest k)) →
    ((undelivered_end (event_of (subtask.Guest k) s.core) ≡ Some e) × (undelivered_end (event_of (subtask.Guest k) t.core) ≡ None)) ⊎
    (((is_some (get s.core.results k) ≡ true) × ((e ≡ status.Returned) × (get t.core.results k ≡ None))) ⊎
    (written_by x.component s.core l t.core ≡ Some (end_for e (subtask.Guest k))))

-- A call of which the label says that the step writes its end had none before.
abbrev pub WrittenEndsAreNew : Type 0
WrittenEndsAreNew = (x : Setting) (s : State) (l : Label) (t : State) → Reached x s → Step x s l t → (k : ℕ) (e : Status) →
    written_by x.component s.core l t.core ≡ Some (end_for e (subtask.Guest k)) → has_ended k s.core ≡ false
