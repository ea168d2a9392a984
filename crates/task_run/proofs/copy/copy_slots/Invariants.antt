use Rattle.std.proofs.Common.{◌≡◌, take}
use Rattle.task_run.proofs.copy.copy_slots.Given as goal

abbrev pub invariant-loop-slot : goal.invariant-loop-slot
invariant-loop-slot l = l.copies ≡ take l.slot-index l.slot-items
