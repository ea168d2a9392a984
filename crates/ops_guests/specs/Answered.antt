-- What an op resulted in, by an answer apart from its label.
use Rattle.std.specs.Prelude.{Err, Ok, Result, ℕ}
use Rattle.machine_data.specs.declared.label.Label.{Label}
use Rattle.machine_data.specs.declared.trap.Trap.{Trap}
use Rattle.ops_guests.specs.declared.op_result.OpResult.{OpResult}
use Rattle.ops_guests.specs.declared.op_result.OpResult.TheVariants as op_result
use Rattle.ops_guests.specs.Shown.{goes_as}

-- the thread of the number goes on, unless there is why it traps
abbrev pub goes_by : Label → Result ℕ Trap → OpResult
goes_by l (Ok n) = goes_as l n
goes_by l (Err why) = op_result.Traps why
