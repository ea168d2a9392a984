-- Records without the numbers that are kept of what belongs to them, and a number that falls.
use Rattle.std.specs.Prelude.{◌≡◌, ◌-◌, ◌<◌, ℕ, Ok, Option, None, Some}
use Rattle.core_records.specs.Keys.{group_key}
use Rattle.core_records.specs.Kinds.{entry_of, item_of}
use Rattle.core_records.specs.declared.call_records.GuestTask.{GuestTask}
use Rattle.core_records.specs.declared.call_records.TaskGroup.{TaskGroup}
use Rattle.core_records.specs.declared.single.Single.{Single}
use Rattle.task_table.specs.TableAnswers.{item_at}
use Rattle.task_table.specs.Changes.{with_entry}
use Rattle.task_table.specs.Records.{number_of}
use Rattle.task_table.specs.Table.{Table}
use Rattle.task_table.specs.declared.id.TableId.{TableId}
use Rattle.task_wait.specs.declared.keys.GroupKey.{GroupKey}

-- a call without the number of its threads
abbrev pub unthreaded : GuestTask → GuestTask
unthreaded g = record g { threads = 0 }

-- a group without the number of its calls
abbrev pub uncalled : TaskGroup → TaskGroup
uncalled r = record r { calls = 0 }

-- The group that is named, if one is, has one call less, and the id names it.
abbrev pub Lowers : Table (Single TaskGroup) → Table (Single TaskGroup) → Option ℕ → Option (TableId GroupKey) → Type 0
Lowers old new None None = new ≡ old
Lowers old new None (Some id) = ⊥
Lowers old new (Some n) None = ⊥
Lowers old new (Some n) (Some id) = (r : TaskGroup) × ((Ok r ≡ item_at item_of old id.rep id.serial) × ((r.number ≡ n) ×
    (new ≡ with_entry id.rep (entry_of (record r { calls = r.calls - 1 })) old)))

-- The group is in the table.
abbrev pub IsIn : TaskGroup → Table (Single TaskGroup) → Type 0
IsIn r t = (rep : ℕ) × ((serial : ℕ) × (Ok r ≡ item_at item_of t rep serial))

-- The id names the group, if one is named.
abbrev pub IsNamedBy : Table (Single TaskGroup) → Option ℕ → Option (TableId GroupKey) → Type 0
IsNamedBy t None None = Unit {0}
IsNamedBy t None (Some id) = ⊥
IsNamedBy t (Some n) None = ⊥
IsNamedBy t (Some n) (Some id) = (number_of group_key t id.rep id.serial ≡ n) × (0 < n)
