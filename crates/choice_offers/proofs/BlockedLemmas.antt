-- Whether a check passes once a blocking export's task has returned, by whoever may be told.
use Rattle.machine_data.specs.Core.{Core}
use Rattle.machine_data.specs.Moves.{passes_check}
use Rattle.machine_data.specs.Read.{instance_of, is_nil, task_of}
use Rattle.machine_rules.specs.Ends.{held_by_flag, may_tell, passes_after_return}
use Rattle.ops_guests.proofs.BlockLemmas.{passes_any, passes_before}
use Rattle.ops_guests.specs.OpWakes.{WaitersTogether, wakes_in}
use Rattle.std.proofs.Common.{◌∙◌}
use Rattle.std.specs.Prelude.{None, Option, not, true, ℕ, ◌||◌, ◌≡◌}

pub passes_by : (n : ℕ) (w : Option ℕ) (s : Core) → WaitersTogether s → may_tell (task_of n s) w s ≡ true →
    passes_after_return n None s ≡ (passes_check (instance_of n s) s || (not (is_nil (held_by_flag (instance_of n s) s)) || wakes_in (instance_of n s) (task_of n s) w s))
passes_by n w s together may = passes_any n s together w may ∙ passes_before n w s may
