-- The numbers by which reports name traps.
use Rattle.std.specs.Prelude.{ℕ}
use Rattle.machine_data.specs.declared.trap.Trap.{Trap}
use Rattle.machine_data.specs.declared.trap.Trap.TheVariants as traps

abbrev pub number_of : Trap → ℕ
number_of traps.TaskCancelOrReturnTwice = 1
number_of traps.TaskCancelNotCancelled = 2
number_of traps.TaskReturnInvalid = 3
number_of traps.NoAsyncResult = 4
number_of traps.SubtaskCancelAfterTerminal = 5
number_of traps.SubtaskDropNotResolved = 6
number_of traps.WaitableSyncAndAsync = 7
number_of traps.WaitableSetDropHasWaiters = 8
number_of traps.CannotBlockSyncTask = 9
number_of traps.BackpressureOverflow = 10
number_of traps.CannotResumeThread = 11
number_of traps.UnsupportedCallbackCode = 12
number_of traps.ThreadNewIndirectUninitialized = 13
number_of traps.ThreadNewIndirectInvalidType = 14
number_of traps.AsyncDeadlock = 15
number_of traps.BadHandle = 16
number_of traps.HandleLimit = 17
number_of traps.TableFull = 18
number_of traps.ScopeExit = 19
number_of traps.CannotEnterComponent = 20
number_of traps.RecursiveRun = 21
number_of traps.HookFailed = 22
number_of traps.StoreTaken = 23
number_of traps.StoreAbsent = 24
number_of traps.TableHasChildren = 25
