-- What a trap leaves.
use Rattle.std.specs.Prelude.{◌≡◌}
use Rattle.ops_guests.specs.declared.op_result.OpResult.{OpResult}
use Rattle.ops_guests.specs.declared.op_result.OpResult.TheVariants as op_result
use Rattle.core_primitives.specs.StateView.{StateView}

-- an op that trapped, or whose host work failed, has changed nothing
abbrev pub StaysAfter : OpResult → StateView → StateView → Type 0
StaysAfter (op_result.Traps why) s t = t ≡ s
StaysAfter (op_result.Fails i) s t = t ≡ s
StaysAfter _ s t = Unit {0}
