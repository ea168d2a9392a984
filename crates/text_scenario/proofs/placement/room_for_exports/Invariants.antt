use Rattle.std.proofs.Common.{◌≡◌, ◌+◌, ◌-◌, take}
use Rattle.text_scenario.specs.Placement.{export_count}
use Rattle.text_scenario.proofs.placement.room_for_exports.Given as goal

abbrev pub invariant-loop-i : goal.invariant-loop-i
invariant-loop-i l = l.room ≡ 256 - (export_count (take l.i-index l.instances) + l.more)
