use Rattle.std.proofs.Common.{◌≡◌, ◌≤◌, ◌-◌, length}
use Rattle.std.specs.Prelude.{replicate}
use Rattle.machine_data.specs.declared.component.Slot.TheVariants as slot
use Rattle.task_run.proofs.lower.empty_slots.Given as goal

abbrev pub invariant-loop-slots : goal.invariant-loop-slots
invariant-loop-slots l = record {
  same : l.slots.items ≡ replicate (length l.slots.items) slot.Empty;
  few : length l.slots.items ≤ 16;
}

abbrev pub decreases-loop-slots : goal.decreases-loop-slots
decreases-loop-slots l = 16 - length l.slots.items
