-- What an op answers, whoever has it done, by the label that it shows.
use Rattle.std.specs.Prelude.{ℕ}
use Rattle.machine_data.specs.Moves.{given_own}
use Rattle.machine_data.specs.declared.label.CallLabel.{CallLabel}
use Rattle.machine_data.specs.declared.label.CallLabel.TheVariants as call_label
use Rattle.machine_data.specs.declared.label.Label.{Label}
use Rattle.machine_data.specs.declared.label.Label.TheVariants as label
use Rattle.machine_data.specs.declared.label.SetLabel.{SetLabel}
use Rattle.machine_data.specs.declared.label.SetLabel.TheVariants as set_label
use Rattle.machine_data.specs.declared.label.TaskLabel.{TaskLabel}
use Rattle.machine_data.specs.declared.label.TaskLabel.TheVariants as task_label
use Rattle.machine_data.specs.declared.label.ThreadLabel.{ThreadLabel}
use Rattle.machine_data.specs.declared.label.ThreadLabel.TheVariants as thread_label
use Rattle.ops_guests.specs.declared.op_result.OpResult.{OpResult}
use Rattle.ops_guests.specs.declared.op_result.OpResult.TheVariants as op_result
use Rattle.ops_guests.specs.declared.op_result.OpAnswer.{OpAnswer}
use Rattle.ops_guests.specs.declared.op_result.OpAnswer.TheVariants as op_answer

abbrev pub shown_set : SetLabel → OpAnswer
shown_set (set_label.New h n) = op_answer.Number h
shown_set (set_label.Wait g n) = op_answer.Event g
shown_set (set_label.WaitWakes e n w) = op_answer.Event (given_own e)
shown_set (set_label.Poll g n) = op_answer.Event g
shown_set _ = op_answer.Nothing

abbrev pub shown_call : CallLabel → OpAnswer
shown_call (call_label.Enters n m) = op_answer.Entered m
shown_call (call_label.Call v n) = op_answer.Number v
shown_call (call_label.CallPolls v n i) = op_answer.Number v
shown_call (call_label.CallSync n v) = op_answer.Value v
shown_call (call_label.Cancel v n) = op_answer.Number v
shown_call (call_label.CancelSync v n) = op_answer.Number v
shown_call _ = op_answer.Nothing

abbrev pub shown_task : TaskLabel → OpAnswer
shown_task (task_label.Exit n) = op_answer.NoneDue
shown_task (task_label.ExitWakes n w) = op_answer.NoneDue
shown_task (task_label.CbYield n) = op_answer.NoneDue
shown_task (task_label.CbWait n) = op_answer.NoneDue
shown_task (task_label.Code n) = op_answer.NoneDue
shown_task _ = op_answer.Nothing

abbrev pub shown_thread : ThreadLabel → OpAnswer
shown_thread (thread_label.New h n m) = op_answer.Number h
shown_thread (thread_label.Index h n) = op_answer.Number h
shown_thread _ = op_answer.Nothing

-- What an op that is done answers, and shows by this label; a direct call that begins answers whom it enters. No answer is due of
-- an op on registers and memory cells, of an end of a thread or of an activation, nor of what the loop and main do.
abbrev pub shown : Label → OpAnswer
shown (label.Task l) = shown_task l
shown (label.Set l) = shown_set l
shown (label.Call l) = shown_call l
shown (label.Thread l) = shown_thread l
shown (label.RetWakes n v w) = op_answer.Nothing
shown (label.CallSyncPolls n v i) = op_answer.Value v
shown _ = op_answer.NoneDue

-- the thread m goes on, and what is answered is what the label shows
abbrev pub goes_as : Label → ℕ → OpResult
goes_as l m = op_result.Continues l m (shown l)
