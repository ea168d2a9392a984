-- The group of the work whose entry is taken.
use Rattle.std.proofs.Common.{ap, refl, sym, ◌∙◌, ◌≡◌}
use Rattle.std.specs.Prelude.{Option, Some, option_and_then, ℕ}
use Rattle.machine_data.specs.Core.{Core}
use Rattle.machine_data.specs.Read.{next_entry}
use Rattle.machine_data.specs.Write.{set_high, set_low, set_switch}
use Rattle.machine_data.specs.declared.records.Entry.{Entry}
use Rattle.machine_data.specs.declared.records.Entry.TheVariants as entry
use Rattle.machine_data.specs.declared.statuses.Mark.{Mark}
use Rattle.machine_data.specs.declared.statuses.Mark.TheVariants as mark
use Rattle.machine_rules.specs.Calls.{work_group}
use Rattle.machine_rules.specs.Takes.{popped}
use Rattle.task_table.specs.declared.id.TableId.{TableId}
use Rattle.ops_turns.specs.Worked.{tracked_entry_group}
use Rattle.task_wait.specs.declared.keys.HostTaskKey.{HostTaskKey}
use Rattle.core_primitives.specs.Groups.{tracked_work_group, some_if_tracked}
use Rattle.core_primitives.specs.StateView.{StateView, on_core, work_of}

-- an entry that leaves its mark leaves the works
worked_left : (m : Mark) (i : ℕ) (s : Core) → work_group i (popped m s) ≡ work_group i s
unfolding popped set_switch set_high set_low
worked_left mark.Switch i s = refl
worked_left mark.High i s = refl
worked_left mark.Low i s = refl

-- the group of the work whose entry was taken
pub worked_is : (s u : StateView) (m : Mark) (id : TableId HostTaskKey) → u ≡ on_core (popped m) s → next_entry s.core ≡ Some (m, entry.Host (work_of s id)) → tracked_work_group (work_of u id) u ≡ tracked_entry_group (next_entry s.core) s
worked_is s u m id left next =
    ap (λ (v : StateView). tracked_work_group (work_of v id) v) left
    ∙ (ap (option_and_then (some_if_tracked s.tags.tracked)) (worked_left m (work_of s id) s.core) ∙ ap (λ (o : Option (Mark × Entry)). tracked_entry_group o s) (sym next))
