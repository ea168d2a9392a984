-- The printed lines: one spelling of each label and each outcome, as lists of bytes.
use Rattle.std.specs.List.{flat_map}
use Rattle.std.specs.Prelude.{List, [], codes, decimal, ℕ, ◌++◌, ◌∷◌}
use Rattle.machine_data.specs.Moves.{given_own}
use Rattle.machine_data.specs.declared.label.CallLabel.{CallLabel}
use Rattle.machine_data.specs.declared.label.DataLabel.{DataLabel}
use Rattle.machine_data.specs.declared.statuses.Given.{Given}
use Rattle.machine_data.specs.declared.label.Label.{Label}
use Rattle.machine_data.specs.declared.label.LoopLabel.{LoopLabel}
use Rattle.machine_data.specs.declared.label.MainLabel.{MainLabel}
use Rattle.machine_data.specs.declared.statuses.Mark.{Mark}
use Rattle.machine_data.specs.declared.outcome.Outcome.{Outcome}
use Rattle.machine_data.specs.declared.statuses.Phase.{Phase}
use Rattle.machine_data.specs.declared.label.SetLabel.{SetLabel}
use Rattle.machine_data.specs.declared.label.TakeLabel.{TakeLabel}
use Rattle.machine_data.specs.declared.label.TaskLabel.{TaskLabel}
use Rattle.machine_data.specs.declared.label.ThreadLabel.{ThreadLabel}
use Rattle.machine_data.specs.declared.trap.Trap.{Trap}
use Rattle.machine_data.specs.declared.label.CallLabel.TheVariants as call_label
use Rattle.machine_data.specs.declared.label.DataLabel.TheVariants as data_label
use Rattle.machine_data.specs.declared.label.Label.TheVariants as label
use Rattle.machine_data.specs.declared.label.LoopLabel.TheVariants as loop_label
use Rattle.machine_data.specs.declared.label.MainLabel.TheVariants as main_label
use Rattle.machine_data.specs.declared.statuses.Mark.TheVariants as mark
use Rattle.machine_data.specs.declared.outcome.Outcome.TheVariants as outcome
use Rattle.machine_data.specs.declared.statuses.Phase.TheVariants as phase
use Rattle.machine_data.specs.declared.label.SetLabel.TheVariants as set_label
use Rattle.machine_data.specs.declared.label.TakeLabel.TheVariants as take
use Rattle.machine_data.specs.declared.label.TaskLabel.TheVariants as task_label
use Rattle.machine_data.specs.declared.label.ThreadLabel.TheVariants as thread_label
use Rattle.machine_data.specs.Trap.{number_of}
use Rattle.machine_rules.specs.Sets.{given_code, given_handle, given_result}

-- ---- Parts

abbrev pub mark_text : Mark → List ℕ
mark_text mark.Switch = codes "switch"
mark_text mark.High = codes "high"
mark_text mark.Low = codes "low"

abbrev pub phase_text : Phase → List ℕ
phase_text phase.Running = codes "running"
phase_text phase.AbortRequested = codes "requested"
phase_text phase.Complete = codes "complete"

-- ` C H V`: code, handle and result
abbrev pub given_text : Given → List ℕ
given_text g = codes " " ++ decimal (given_code g) ++ codes " " ++ decimal (given_handle g) ++ codes " " ++ decimal (given_result g)

abbrev pub wakes : List ℕ → ℕ → List ℕ
wakes front w = front ++ codes " wakes " ++ decimal w

abbrev pub polls : List ℕ → ℕ → List ℕ
polls front i = front ++ codes " future " ++ decimal i

-- ---- Main, the loop, and takings

abbrev pub refused : List ℕ → Trap → List ℕ
refused front t = front ++ codes " refused " ++ decimal (number_of t)

abbrev pub main_text : MainLabel → List ℕ
main_text (main_label.Start k n) = codes "main start " ++ decimal k ++ codes " thread " ++ decimal n
main_text (main_label.StartRefused t k) = refused (codes "main start " ++ decimal k) t
main_text (main_label.Finish k v) = codes "main finish " ++ decimal k ++ codes " = " ++ decimal v
main_text (main_label.FinishRefused t k) = refused (codes "main finish " ++ decimal k) t
main_text (main_label.Spawn k i) = polls (codes "main spawn " ++ decimal k) i
main_text (main_label.Abort p k) = codes "main abort " ++ decimal k ++ codes " " ++ phase_text p
main_text (main_label.Await k) = codes "main await " ++ decimal k
main_text main_label.Quiet = codes "main quiet"
main_text main_label.Ready = codes "main ready"
main_text (main_label.Answer v) = codes "main answer " ++ decimal v

abbrev pub future_text : ℕ → List ℕ → List ℕ
future_text i what = codes "future " ++ decimal i ++ what

abbrev pub loop_text : LoopLabel → List ℕ
loop_text loop_label.MainPends = codes "main pends"
loop_text (loop_label.FuturePends i) = future_text i (codes " pends")
loop_text (loop_label.FutureEnds i) = future_text i (codes " ends")
loop_text (loop_label.FutureFails i) = future_text i (codes " fails")
loop_text (loop_label.FutureAborted i) = future_text i (codes " aborted")
loop_text loop_label.Rest = codes "rest"
loop_text (loop_label.Deadlock t) = codes "deadlock " ++ decimal (number_of t)
loop_text (loop_label.Trap t n) = codes "trap thread " ++ decimal n ++ codes " " ++ decimal (number_of t)

-- `take M`, whose entry it is, and its number
abbrev pub taken_text : Mark → List ℕ → ℕ → List ℕ
taken_text m what n = codes "take " ++ mark_text m ++ what ++ decimal n

abbrev pub event_text : Mark → ℕ → Given → List ℕ
event_text m n g = taken_text m (codes " thread ") n ++ codes " event" ++ given_text g

abbrev pub take_text : TakeLabel → List ℕ
take_text (take.Thread m n) = taken_text m (codes " thread ") n
take_text (take.ThreadWakes m n w) = wakes (taken_text m (codes " thread ") n) w
take_text (take.Held m n) = taken_text m (codes " thread ") n ++ codes " held"
take_text (take.HeldWakes m n w) = wakes (taken_text m (codes " thread ") n ++ codes " held") w
take_text (take.Again m n) = taken_text m (codes " thread ") n ++ codes " again"
take_text (take.Event m g n) = event_text m n g
take_text (take.EventWakes m e n w) = wakes (event_text m n (given_own e)) w
take_text (take.Push m i) = taken_text m (codes " push ") i
take_text (take.Host m i) = taken_text m (codes " host ") i
take_text (take.HostWakes m i w) = wakes (taken_text m (codes " host ") i) w

-- ---- Threads

-- `thread N` and what it does
abbrev pub op_text : ℕ → List ℕ → List ℕ
op_text n what = codes "thread " ++ decimal n ++ what

-- `thread N`, what it does, and a number
abbrev pub answer_text : ℕ → List ℕ → ℕ → List ℕ
answer_text n what v = op_text n what ++ decimal v

abbrev pub data_text : DataLabel → List ℕ
data_text (data_label.Set n v) = answer_text n (codes " set ") v
data_text (data_label.Add n v) = answer_text n (codes " add ") v
data_text (data_label.Handle n v) = answer_text n (codes " handle ") v
data_text (data_label.Load n v) = answer_text n (codes " load ") v
data_text (data_label.Store n v) = answer_text n (codes " store ") v
data_text (data_label.SkipEq n) = op_text n (codes " skip_eq")

abbrev pub task_text : TaskLabel → List ℕ
task_text (task_label.Ret n v) = answer_text n (codes " ret ") v
task_text (task_label.TaskCancel n) = op_text n (codes " task_cancel")
task_text (task_label.TaskCancelWakes n w) = wakes (op_text n (codes " task_cancel")) w
task_text (task_label.Exit n) = op_text n (codes " exit")
task_text (task_label.ExitWakes n w) = wakes (op_text n (codes " exit")) w
task_text (task_label.CbYield n) = op_text n (codes " cb_yield")
task_text (task_label.CbWait n) = op_text n (codes " cb_wait")
task_text (task_label.Code n) = op_text n (codes " code")
task_text (task_label.BpInc n) = op_text n (codes " bp_inc")
task_text (task_label.BpDec n) = op_text n (codes " bp_dec")

abbrev pub set_text : SetLabel → List ℕ
set_text (set_label.New h n) = answer_text n (codes " set_new ") h
set_text (set_label.Drop n) = op_text n (codes " set_drop")
set_text (set_label.Wait g n) = op_text n (codes " wait") ++ given_text g
set_text (set_label.WaitWakes e n w) = wakes (op_text n (codes " wait") ++ given_text (given_own e)) w
set_text (set_label.Poll g n) = op_text n (codes " poll") ++ given_text g
set_text (set_label.Join n) = op_text n (codes " join")
set_text (set_label.JoinWakes n w) = wakes (op_text n (codes " join")) w

abbrev pub call_text : CallLabel → List ℕ
call_text (call_label.Calls n m) = answer_text n (codes " calls thread ") m
call_text (call_label.Enters n m) = answer_text n (codes " enters thread ") m
call_text (call_label.Call v n) = answer_text n (codes " call ") v
call_text (call_label.CallPolls v n i) = polls (answer_text n (codes " call ") v) i
call_text (call_label.CallSync n v) = answer_text n (codes " call_sync ") v
call_text (call_label.PausesPolls n i) = polls (op_text n (codes " pauses")) i
call_text (call_label.Fails n i) = answer_text n (codes " fails ") i
call_text (call_label.Cancel v n) = answer_text n (codes " cancel ") v
call_text (call_label.CancelSync v n) = answer_text n (codes " cancel_sync ") v
call_text (call_label.Drop n) = op_text n (codes " drop")

abbrev pub thread_text : ThreadLabel → List ℕ
thread_text (thread_label.Pauses n) = op_text n (codes " pauses")
thread_text (thread_label.New h n m) = answer_text n (codes " thread_new ") h ++ codes " thread " ++ decimal m
thread_text (thread_label.Index h n) = answer_text n (codes " thread_index ") h
thread_text (thread_label.ResumeLater n) = op_text n (codes " resume_later")
thread_text (thread_label.Suspend n) = op_text n (codes " suspend")
thread_text (thread_label.Yield n) = op_text n (codes " yield")
thread_text (thread_label.SuspendThenResume n) = op_text n (codes " suspend_then_resume")
thread_text (thread_label.YieldThenResume n) = op_text n (codes " yield_then_resume")
thread_text (thread_label.SuspendThenPromote n) = op_text n (codes " suspend_then_promote")
thread_text (thread_label.YieldThenPromote n) = op_text n (codes " yield_then_promote")

-- ---- Labels, outcomes and the report

abbrev pub label_text : Label → List ℕ
label_text (label.Main l) = main_text l
label_text (label.Loop l) = loop_text l
label_text (label.Take l) = take_text l
label_text (label.Data l) = data_text l
label_text (label.Task l) = task_text l
label_text (label.Set l) = set_text l
label_text (label.Call l) = call_text l
label_text (label.Thread l) = thread_text l
label_text (label.RetWakes n v w) = wakes (answer_text n (codes " ret ") v) w
label_text (label.CallSyncPolls n v i) = polls (answer_text n (codes " call_sync ") v) i

abbrev pub outcome_text : Outcome → List ℕ
outcome_text (outcome.Done v) = codes "done " ++ decimal v
outcome_text (outcome.Trap t) = codes "trap " ++ decimal (number_of t)
outcome_text (outcome.HostFailed i) = codes "host failed " ++ decimal i
outcome_text (outcome.Deadlock t) = codes "deadlock " ++ decimal (number_of t)
outcome_text outcome.Idle = codes "idle"
outcome_text outcome.OutOfSteps = codes "out of steps"

-- a line, with the line feed that ends it
abbrev pub line_text : List ℕ → List ℕ
line_text line = line ++ 10 ∷ []

-- the report: the labels, one a line, and the outcome's line
abbrev pub text : List Label → Outcome → List ℕ
text labels o = flat_map (λ l. line_text (label_text l)) labels ++ line_text (outcome_text o)
