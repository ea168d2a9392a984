-- What is asked of a host work that an abort may be asked for.
use Rattle.std.specs.Prelude.{Bool, false, true, ℕ, ◌≡◌, ◌≤◌}
use Rattle.machine_data.specs.Core.{Core}
use Rattle.machine_data.specs.Read.{work_caller_of}
use Rattle.machine_data.specs.declared.records.WorkCaller.{WorkCaller}
use Rattle.machine_data.specs.declared.records.WorkCaller.TheVariants as work_caller

abbrev pub is_sync_work : WorkCaller → Bool
is_sync_work (work_caller.Sync n) = true
is_sync_work _ = false

-- the number was given, and not to the work of a sync call
pub record MayBeAborted (s : Core) (i : ℕ) : Type 0 where
  pub made : i ≤ s.made.works
  pub other : is_sync_work (work_caller_of i s) ≡ false
