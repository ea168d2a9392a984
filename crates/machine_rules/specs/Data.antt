-- The ops on registers and memory cells.
use Rattle.std.specs.Prelude.{Bool, false, length, min, true, ℕ, ◌%◌, ◌+◌, ◌/◌, ◌==◌, ◌^◌}
use Rattle.machine_data.specs.declared.component.Component.{Component}
use Rattle.machine_data.specs.declared.op.DataOp.{DataOp}
use Rattle.machine_data.specs.declared.label.DataLabel.TheVariants as data_label
use Rattle.machine_data.specs.declared.op.DataOp.TheVariants as data_op
use Rattle.machine_data.specs.declared.records.OpProgress.TheVariants as op_progress
use Rattle.machine_data.specs.declared.label.Label.TheVariants as label
use Rattle.machine_data.specs.Core.{Core}
use Rattle.machine_data.specs.Read.{instance_of, position_of, register_of, memory_cell_of}
use Rattle.machine_data.specs.Write.{set_op_progress, set_position, set_register, set_memory_cell}
use Rattle.machine_rules.specs.Progress.{Continues, Progress}
use Rattle.machine_rules.specs.Scripts.{script_of, value_of}

-- the thread goes on with the op at p
unfoldable pub moved_to : ℕ → ℕ → Core → Core
moved_to n p s = set_op_progress n op_progress.Fresh (set_position n p s)

-- the op is done
unfoldable pub advanced : ℕ → Core → Core
advanced n s = moved_to n (position_of n s + 1) s

-- the op is done, with its answer in register r
unfoldable pub assigned : ℕ → ℕ → ℕ → Core → Core
assigned n r v s = advanced n (set_register n r v s)

unfoldable pub stored : ℕ → ℕ → ℕ → Core → Core
stored n w v s = advanced n (set_memory_cell (instance_of n s) w v s)

-- this many ops are passed over, at most to the script's end
unfoldable pub skipped : Component → ℕ → ℕ → Core → Core
skipped c n ops s = moved_to n (min (position_of n s + 1 + ops) (length (script_of c n s))) s

abbrev pub skip_rule : Component → ℕ → ℕ → Core → Bool → Progress
skip_rule c n ops s true = Continues (label.Data (data_label.SkipEq n)) (skipped c n ops s) n
skip_rule c n ops s false = Continues (label.Data (data_label.SkipEq n)) (advanced n s) n

abbrev pub data_rule : Component → ℕ → Core → DataOp → Progress
data_rule c n s (data_op.Set r x) = let v = value_of n s x in Continues (label.Data (data_label.Set n v)) (assigned n r v s) n
data_rule c n s (data_op.Add r x) =
    let v = (register_of n r s + value_of n s x) % 2 ^ 64 in
    Continues (label.Data (data_label.Add n v)) (assigned n r v s) n
data_rule c n s (data_op.Handle r x) = let v = value_of n s x / 16 in Continues (label.Data (data_label.Handle n v)) (assigned n r v s) n
data_rule c n s (data_op.Load r w) = let v = memory_cell_of (instance_of n s) w s in Continues (label.Data (data_label.Load n v)) (assigned n r v s) n
data_rule c n s (data_op.Store w x) = let v = value_of n s x in Continues (label.Data (data_label.Store n v)) (stored n w v s) n
data_rule c n s (data_op.SkipEq x y ops) = skip_rule c n ops s (value_of n s x == value_of n s y)
