-- What of the tags stays whatever an op does: what ids of host works name, and which groups are tracked.
use Rattle.std.specs.Prelude.{◌≡◌, ◌<◌, ◌⊎◌, None}
use Rattle.machine_data.specs.Maps.{get}
use Rattle.task_table.specs.declared.id.TableId.{TableId}
use Rattle.task_wait.specs.declared.keys.HostTaskKey.{HostTaskKey}
use Rattle.core_primitives.specs.StateView.{StateView, work_of}

-- each id of a work names it still
abbrev pub KeepsWorks : StateView → StateView → Type 0
KeepsWorks s t = (id : TableId HostTaskKey) → 0 < work_of s id → work_of t id ≡ work_of s id

-- each id of a work names it still, unless the work is gone
abbrev pub NamesWorks : StateView → StateView → Type 0
NamesWorks s t =
    (id : TableId HostTaskKey) → 0 < work_of s id → (work_of t id ≡ work_of s id) ⊎ (get t.core.works (work_of s id) ≡ None)

-- The first, and the same groups are tracked.
abbrev pub KeepsTold : StateView → StateView → Type 0
KeepsTold s t = KeepsWorks s t × (t.tags.tracked ≡ s.tags.tracked)

-- The second, and the same groups are tracked.
abbrev pub NamesTold : StateView → StateView → Type 0
NamesTold s t = NamesWorks s t × (t.tags.tracked ≡ s.tags.tracked)
