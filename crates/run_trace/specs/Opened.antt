-- What a label is, by its kind and its numbers.
use Rattle.std.specs.Prelude.{ℕ, Bool, true, false, List, ◌∷◌, cond, eqb}
use Rattle.std.specs.Prelude.{slice_index as at}
use Rattle.machine_data.specs.declared.label.DataLabel.{DataLabel}
use Rattle.machine_data.specs.declared.label.Label.{Label}
use Rattle.machine_data.specs.declared.label.LoopLabel.{LoopLabel}
use Rattle.machine_data.specs.declared.label.MainLabel.{MainLabel}
use Rattle.machine_data.specs.declared.label.SetLabel.{SetLabel}
use Rattle.machine_data.specs.declared.label.TakeLabel.{TakeLabel}
use Rattle.machine_data.specs.declared.label.TaskLabel.{TaskLabel}
use Rattle.machine_data.specs.declared.label.ThreadLabel.{ThreadLabel}
use Rattle.machine_data.specs.declared.label.CallLabel.TheVariants as call_label
use Rattle.machine_data.specs.declared.label.DataLabel.TheVariants as data_label
use Rattle.machine_data.specs.declared.label.Label.TheVariants as label
use Rattle.machine_data.specs.declared.label.LoopLabel.TheVariants as loop_label
use Rattle.machine_data.specs.declared.label.MainLabel.TheVariants as main_label
use Rattle.machine_data.specs.declared.label.SetLabel.TheVariants as set_label
use Rattle.machine_data.specs.declared.label.TakeLabel.TheVariants as take
use Rattle.machine_data.specs.declared.label.TaskLabel.TheVariants as task_label
use Rattle.machine_data.specs.declared.label.ThreadLabel.TheVariants as thread_label
use Rattle.machine_data.specs.declared.statuses.Mark.{Mark}
use Rattle.machine_data.specs.declared.statuses.Given.TheVariants as given
use Rattle.machine_data.specs.declared.statuses.TaskEvent.TheVariants as own
use Rattle.run_trace.specs.declared.kinds.LabelKind.{LabelKind}
use Rattle.run_trace.specs.declared.kinds.LabelKind.TheVariants as kind
use Rattle.run_trace.specs.declared.kinds.MainKind.{MainKind}
use Rattle.run_trace.specs.declared.kinds.MainKind.TheVariants as main
use Rattle.run_trace.specs.declared.kinds.LoopKind.{LoopKind}
use Rattle.run_trace.specs.declared.kinds.LoopKind.TheVariants as loop
use Rattle.run_trace.specs.declared.kinds.TakeKind.{TakeKind}
use Rattle.run_trace.specs.declared.kinds.TakeKind.TheVariants as taken
use Rattle.run_trace.specs.declared.kinds.OwnKind.{OwnKind}
use Rattle.run_trace.specs.declared.kinds.OwnKind.TheVariants as owned
use Rattle.run_trace.specs.declared.kinds.DataKind.{DataKind}
use Rattle.run_trace.specs.declared.kinds.DataKind.TheVariants as data_kind
use Rattle.run_trace.specs.declared.kinds.TaskKind.{TaskKind}
use Rattle.run_trace.specs.declared.kinds.TaskKind.TheVariants as task
use Rattle.run_trace.specs.declared.kinds.SetKind.{SetKind}
use Rattle.run_trace.specs.declared.kinds.SetKind.TheVariants as set
use Rattle.run_trace.specs.declared.kinds.CallKind.{CallKind}
use Rattle.run_trace.specs.declared.kinds.CallKind.TheVariants as call
use Rattle.run_trace.specs.declared.kinds.ThreadKind.{ThreadKind}
use Rattle.run_trace.specs.declared.kinds.ThreadKind.TheVariants as thread
use Rattle.run_trace.specs.declared.kinds.HandleKind.{HandleKind}
use Rattle.run_trace.specs.declared.kinds.HandleKind.TheVariants as handle

-- ---- The groups: a kind with the head's number s and the other numbers, or with all numbers

abbrev pub main_of : MainKind → ℕ → ℕ → MainLabel
main_of main.Start s n = main_label.Start s n
main_of (main.StartRefused t) s n = main_label.StartRefused t s
main_of main.Finish s n = main_label.Finish s n
main_of (main.FinishRefused t) s n = main_label.FinishRefused t s
main_of main.Spawn s n = main_label.Spawn s n
main_of (main.Abort p) s n = main_label.Abort p s
main_of main.Await s n = main_label.Await s
main_of main.Quiet s n = main_label.Quiet
main_of main.Ready s n = main_label.Ready
main_of main.Answer s n = main_label.Answer n

abbrev pub loop_of : LoopKind → ℕ → LoopLabel
loop_of loop.MainPends n = loop_label.MainPends
loop_of loop.FuturePends n = loop_label.FuturePends n
loop_of loop.FutureEnds n = loop_label.FutureEnds n
loop_of loop.FutureFails n = loop_label.FutureFails n
loop_of loop.FutureAborted n = loop_label.FutureAborted n
loop_of loop.Rest n = loop_label.Rest
loop_of (loop.Deadlock t) n = loop_label.Deadlock t
loop_of (loop.Trap t) n = loop_label.Trap t n

abbrev pub take_of : Mark → TakeKind → ℕ → ℕ → TakeLabel
take_of m taken.Thread n w = take.Thread m n
take_of m taken.ThreadWakes n w = take.ThreadWakes m n w
take_of m taken.Held n w = take.Held m n
take_of m taken.HeldWakes n w = take.HeldWakes m n w
take_of m taken.Again n w = take.Again m n
take_of m taken.Push n w = take.Push m n
take_of m taken.Host n w = take.Host m n
take_of m taken.HostWakes n w = take.HostWakes m n w

abbrev pub own_of : Mark → OwnKind → ℕ → ℕ → TakeLabel
own_of m owned.Nothing n w = take.Event m given.Nothing n
own_of m owned.Cancelled n w = take.Event m given.Cancelled n
own_of m owned.NothingWakes n w = take.EventWakes m own.None n w
own_of m owned.CancelledWakes n w = take.EventWakes m own.Cancelled n w

abbrev pub data_of : DataKind → ℕ → ℕ → DataLabel
data_of data_kind.Set n v = data_label.Set n v
data_of data_kind.Add n v = data_label.Add n v
data_of data_kind.Handle n v = data_label.Handle n v
data_of data_kind.Load n v = data_label.Load n v
data_of data_kind.Store n v = data_label.Store n v
data_of data_kind.SkipEq n v = data_label.SkipEq n

abbrev pub task_of : TaskKind → ℕ → ℕ → TaskLabel
task_of task.Ret n v = task_label.Ret n v
task_of task.TaskCancel n v = task_label.TaskCancel n
task_of task.TaskCancelWakes n w = task_label.TaskCancelWakes n w
task_of task.Exit n v = task_label.Exit n
task_of task.ExitWakes n w = task_label.ExitWakes n w
task_of task.CbYield n v = task_label.CbYield n
task_of task.CbWait n v = task_label.CbWait n
task_of task.Code n v = task_label.Code n
task_of task.BpInc n v = task_label.BpInc n
task_of task.BpDec n v = task_label.BpDec n

abbrev pub set_of : SetKind → ℕ → ℕ → SetLabel
set_of set.Drop n w = set_label.Drop n
set_of set.WaitNothing n w = set_label.Wait given.Nothing n
set_of set.WaitCancelled n w = set_label.Wait given.Cancelled n
set_of (set.WaitWakes e) n w = set_label.WaitWakes e n w
set_of set.PollNothing n w = set_label.Poll given.Nothing n
set_of set.PollCancelled n w = set_label.Poll given.Cancelled n
set_of set.Join n w = set_label.Join n
set_of set.JoinWakes n w = set_label.JoinWakes n w

abbrev pub call_of : CallKind → ℕ → ℕ → ℕ → Label
call_of call.Calls n v w = label.Call (call_label.Calls n v)
call_of call.Enters n v w = label.Call (call_label.Enters n v)
call_of call.CallSync n v w = label.Call (call_label.CallSync n v)
call_of call.CallSyncPolls n v w = label.CallSyncPolls n v w
call_of call.PausesPolls n v w = label.Call (call_label.PausesPolls n v)
call_of call.Fails n v w = label.Call (call_label.Fails n v)
call_of call.Drop n v w = label.Call (call_label.Drop n)
call_of call.RetWakes n v w = label.RetWakes n v w

abbrev pub thread_of : ThreadKind → ℕ → ThreadLabel
thread_of thread.Pauses n = thread_label.Pauses n
thread_of thread.ResumeLater n = thread_label.ResumeLater n
thread_of thread.Suspend n = thread_label.Suspend n
thread_of thread.Yield n = thread_label.Yield n
thread_of thread.SuspendThenResume n = thread_label.SuspendThenResume n
thread_of thread.YieldThenResume n = thread_label.YieldThenResume n
thread_of thread.SuspendThenPromote n = thread_label.SuspendThenPromote n
thread_of thread.YieldThenPromote n = thread_label.YieldThenPromote n

abbrev pub handle_of : HandleKind → ℕ → ℕ → ℕ → Label
handle_of handle.SetNew s n m = label.Set (set_label.New s n)
handle_of (handle.Wait x) s n m = label.Set (set_label.Wait (given.Subtask x s) n)
handle_of (handle.Poll x) s n m = label.Set (set_label.Poll (given.Subtask x s) n)
handle_of handle.Call s n m = label.Call (call_label.Call s n)
handle_of handle.CallPolls s n m = label.Call (call_label.CallPolls s n m)
handle_of handle.Cancel s n m = label.Call (call_label.Cancel s n)
handle_of handle.CancelSync s n m = label.Call (call_label.CancelSync s n)
handle_of handle.ThreadNew s n m = label.Thread (thread_label.New s n m)
handle_of handle.ThreadIndex s n m = label.Thread (thread_label.Index s n)

-- ---- All kinds: s is the head's number, xs the numbers that are in the list, and ys all numbers

abbrev pub opened : LabelKind → ℕ → List ℕ → List ℕ → Label
opened (kind.Main k) s xs ys = label.Main (main_of k s (at xs 0))
opened (kind.Loop k) s xs ys = label.Loop (loop_of k (at ys 0))
opened (kind.Take m k) s xs ys = label.Take (take_of m k (at ys 0) (at ys 1))
opened (kind.Own m k) s xs ys = label.Take (own_of m k (at ys 0) (at ys 1))
opened (kind.Given m x) s xs ys = label.Take (take.Event m (given.Subtask x s) (at xs 0))
opened (kind.Data k) s xs ys = label.Data (data_of k (at ys 0) (at ys 1))
opened (kind.Task k) s xs ys = label.Task (task_of k (at ys 0) (at ys 1))
opened (kind.Set k) s xs ys = label.Set (set_of k (at ys 0) (at ys 1))
opened (kind.Call k) s xs ys = call_of k (at ys 0) (at ys 1) (at ys 2)
opened (kind.Thread k) s xs ys = label.Thread (thread_of k (at ys 0))
opened (kind.Handle k) s xs ys = handle_of k s (at xs 0) (at xs 1)

-- the head's number is the first of all numbers, where it isn't one that the kind shows beside them
abbrev pub has_first : LabelKind → Bool
has_first (kind.Main k) = false
has_first (kind.Given m x) = false
has_first (kind.Handle k) = false
has_first _ = true

-- all numbers of a label of such a kind
abbrev pub all : ℕ → List ℕ → List ℕ
all s xs = cond (eqb s 4294967295) xs (s ∷ xs)
