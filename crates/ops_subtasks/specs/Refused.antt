-- When a cancel traps after it was asked for.
use Rattle.machine_rules.specs.Calls.{put_back}
use Rattle.std.specs.Prelude.{Bool, None, Option, Some, false, if◌then◌else◌, true, ℕ}
use Rattle.machine_data.specs.Core.{Core}
use Rattle.machine_data.specs.Moves.{passes_check}
use Rattle.machine_data.specs.Read.{event_of, instance_of, subtask_ended, undelivered_end, saved_callee_of}
use Rattle.machine_data.specs.declared.records.Subtask.{Subtask}
use Rattle.machine_data.specs.declared.trap.Trap.{Trap}
use Rattle.machine_data.specs.declared.trap.Trap.TheVariants as trap
use Rattle.machine_data.specs.declared.statuses.Status.{Status}
use Rattle.machine_rules.specs.Cancels.{Async, Mode, Sync, subtask_instance}

abbrev pub mode_of : (sync : Bool) → Mode
mode_of true = Sync
mode_of false = Async

-- the end was handed out before
abbrev pub refused_end : Option Status → Option Trap
refused_end None = Some trap.SubtaskCancelAfterTerminal
refused_end (Some e) = None

-- a `cancel_sync` may not block
abbrev pub refused_block : Mode → ℕ → Core → Option Trap
refused_block Async n s = None
refused_block Sync n s = if passes_check (instance_of n s) s then None else Some trap.CannotBlockSyncTask

-- why what follows a cancel traps, if it does
unfoldable pub refused : Mode → ℕ → Subtask → Core → Option Trap
refused mode n sub s = if subtask_ended sub s then refused_end (undelivered_end (event_of sub s)) else refused_block mode n s

-- the same, once the flag that the thread saved is written back
abbrev pub refused_after : Mode → ℕ → Subtask → Core → Option Trap
refused_after mode n sub s = refused mode n sub (put_back (saved_callee_of n s) (subtask_instance sub s) s)
