-- Histories of two wrong machines: the steps of the right one, and a last one that it would not make.
use Rattle.std.specs.Prelude.{List, None, Some, [], replicate, ◌++◌, ◌∷◌}
use Rattle.machine_data.specs.declared.label.Label.{Label}
use Rattle.machine_data.specs.declared.scenario.Version.TheVariants as version
use Rattle.machine_data.specs.declared.scenario.ScenarioDef.{ScenarioDef}
use Rattle.machine_data.specs.declared.label.CallLabel.TheVariants as call_label
use Rattle.machine_data.specs.declared.op.CallOp.TheVariants as call_op
use Rattle.machine_data.specs.declared.statuses.Given.TheVariants as given
use Rattle.machine_data.specs.declared.scenario.IdleLine.TheVariants as idle_line
use Rattle.machine_data.specs.declared.component.ExportKind.TheVariants as kind
use Rattle.machine_data.specs.declared.label.Label.TheVariants as label
use Rattle.machine_data.specs.declared.label.LoopLabel.TheVariants as loop_label
use Rattle.machine_data.specs.declared.label.MainLabel.TheVariants as main_label
use Rattle.machine_data.specs.declared.scenario.MainOpDef.TheVariants as main_op
use Rattle.machine_data.specs.declared.statuses.Mark.TheVariants as mark
use Rattle.machine_data.specs.declared.op.Op.TheVariants as op
use Rattle.machine_data.specs.declared.op.Operand.TheVariants as operand
use Rattle.machine_data.specs.declared.component.Slot.TheVariants as slot
use Rattle.machine_data.specs.declared.statuses.Status.TheVariants as status
use Rattle.machine_data.specs.declared.label.TakeLabel.TheVariants as take
use Rattle.machine_data.specs.declared.label.TaskLabel.TheVariants as task_label
use Rattle.machine_data.specs.declared.op.TaskOp.TheVariants as task_op
use Rattle.machine_data.specs.declared.label.ThreadLabel.TheVariants as thread_label
use Rattle.machine_data.specs.declared.op.ThreadOp.TheVariants as thread_op
use Rattle.machine_data.specs.declared.records.Subtask.TheVariants as subtask
use Rattle.machine_data.specs.declared.records.Turn.TheVariants as turn
use Rattle.machine_data.specs.Core.{State}
use Rattle.machine_data.specs.Labels.{choice_of}
use Rattle.machine_rules.specs.Cancels.{cancel_takes_end}
use Rattle.machine_rules.specs.History.{Moment}
use Rattle.machine_rules.specs.Run.{opens}
use Rattle.machine_rules.specs.Stalled.{Setting, setting_of}
use Rattle.machine_rules.specs.Task.{ret_done}
use Rattle.machine_rules.specs.Turns.{goes_to}
use Rattle.laws_examples.specs.Play.{Next, play, turned}

abbrev pub step_then : State → (State → List Moment) → Next → List Moment
step_then s go None = []
step_then s go (Some x) = record { before = s; label = x.0; after = x.1 } ∷ go x.1

-- the steps of the run of as many labels as these, which tell the choices
unfoldable pub steps_of : Setting → List Label → State → List Moment
steps_of x [] s = []
steps_of x (l ∷ ls) s = step_then s (λ t. steps_of x ls t) (turned x s (choice_of l) [] s.turn)

-- the state to which these labels lead from the opening state
abbrev pub state_after : ScenarioDef → List Label → State
state_after x ls = (play (setting_of x) [] 0 ls (opens x)).last

-- ---- A second return that is no trap

-- a call whose callee returns 1 and then 2
abbrev pub returning_twice : ScenarioDef
returning_twice = record {
  version = version.One;
  handles = 10;
  table = 10;
  idle = idle_line.Trap;
  component = record {
    instances =
        (record { exports = (record { kind = kind.Stackful; params = 0; start = (op.Task (task_op.Ret (operand.Number 1)) ∷ op.Task (task_op.Ret (operand.Number 2)) ∷ op.Task task_op.Exit ∷ []); react = [] } ∷ []); slots = (replicate 16 slot.Empty) }
        ∷ record { exports = (record { kind = kind.Stackful; params = 0; start = (op.Call (call_op.Call 0 1 (record { instance = 0; export = 0 }) []) ∷ op.Task task_op.Exit ∷ []); react = [] } ∷ []); slots = (replicate 16 slot.Empty) } ∷ []);
    hosts = [];
  };
  names = [];
  main = (main_op.Start (record { instance = 1; export = 0 }) [] ∷ main_op.Finish 1 0 ∷ main_op.Answer (operand.Number 0) ∷ []);
  aborters = [];
}

-- up to the first return
abbrev pub returned_labels : List Label
returned_labels =
    label.Main (main_label.Start 1 1) ∷ label.Loop loop_label.MainPends ∷ label.Take (take.Thread mark.High 1) ∷ label.Call (call_label.Calls 1 2) ∷ label.Loop loop_label.MainPends
    ∷ label.Take (take.Thread mark.Switch 2) ∷ label.Task (task_label.Ret 2 1) ∷ []

-- the rule of `ret` without its first trap
abbrev pub returned_over : State → Moment
returned_over s = record { before = s; label = label.Task (task_label.Ret 2 2); after = goes_to s (ret_done 2 2 None s.core) (turn.Run 2) }

abbrev pub returned_twice : List Moment
returned_twice = steps_of (setting_of returning_twice) returned_labels (opens returning_twice) ++ returned_over (state_after returning_twice returned_labels) ∷ []

-- ---- A cancel that takes the place of a return

-- a call whose callee yields and returns 5; the caller yields, and then cancels it
abbrev pub cancelling_late : ScenarioDef
cancelling_late = record {
  version = version.One;
  handles = 10;
  table = 10;
  idle = idle_line.Trap;
  component = record {
    instances =
        (record { exports = (record { kind = kind.Callback; params = 0; start = (op.Task task_op.CbYield ∷ []); react = (op.Task (task_op.Ret (operand.Number 5)) ∷ op.Task task_op.Exit ∷ []) } ∷ []); slots = (replicate 16 slot.Empty) }
        ∷ record { exports = (record { kind = kind.Stackful; params = 0; start = (op.Call (call_op.Call 0 1 (record { instance = 0; export = 0 }) []) ∷ op.Thread thread_op.Yield ∷ op.Call (call_op.Cancel 2 (operand.Number 1)) ∷ op.Task task_op.Exit ∷ []); react = [] } ∷ []); slots = (replicate 16 slot.Empty) } ∷ []);
    hosts = [];
  };
  names = [];
  main = (main_op.Start (record { instance = 1; export = 0 }) [] ∷ main_op.Finish 1 0 ∷ main_op.Answer (operand.Number 0) ∷ []);
  aborters = [];
}

-- up to the cancel
abbrev pub cancelling_labels : List Label
cancelling_labels =
    label.Main (main_label.Start 1 1) ∷ label.Loop loop_label.MainPends ∷ label.Take (take.Thread mark.High 1) ∷ label.Call (call_label.Calls 1 2) ∷ label.Loop loop_label.MainPends
    ∷ label.Take (take.Thread mark.Switch 2) ∷ label.Task (task_label.CbYield 2) ∷ label.Loop loop_label.MainPends ∷ label.Take (take.Thread mark.Switch 1) ∷ label.Call (call_label.Call 17 1)
    ∷ label.Thread (thread_label.Pauses 1) ∷ label.Loop loop_label.MainPends ∷ label.Take (take.Event mark.Low given.Nothing 2) ∷ label.Task (task_label.Ret 2 5) ∷ label.Task (task_label.Exit 2)
    ∷ label.Loop loop_label.MainPends ∷ label.Take (take.Thread mark.Low 1) ∷ label.Thread (thread_label.Yield 1) ∷ []

-- the rule of `cancel` with another end in the place of the one that was not handed out
abbrev pub cancelled_over : State → Moment
cancelled_over s = record { before = s; label = label.Call (call_label.Cancel 4 1); after = goes_to s (cancel_takes_end 1 2 (subtask.Guest 2) status.ReturnCancelled s.core) (turn.Run 1) }

abbrev pub cancelled_after_return : List Moment
cancelled_after_return = steps_of (setting_of cancelling_late) cancelling_labels (opens cancelling_late) ++ cancelled_over (state_after cancelling_late cancelling_labels) ∷ []
