-- Scenarios, and the labels of their runs.
use Rattle.std.specs.Prelude.{List, Some, [], replicate, ◌∷◌}
use Rattle.machine_data.specs.declared.label.Label.{Label}
use Rattle.machine_data.specs.declared.scenario.Version.TheVariants as version
use Rattle.machine_data.specs.declared.scenario.ScenarioDef.{ScenarioDef}
use Rattle.machine_data.specs.declared.label.CallLabel.TheVariants as call_label
use Rattle.machine_data.specs.declared.op.CallOp.TheVariants as call_op
use Rattle.machine_data.specs.declared.label.DataLabel.TheVariants as data_label
use Rattle.machine_data.specs.declared.op.DataOp.TheVariants as data_op
use Rattle.machine_data.specs.declared.statuses.Given.TheVariants as given
use Rattle.machine_data.specs.declared.scenario.IdleLine.TheVariants as idle_line
use Rattle.machine_data.specs.declared.component.ExportKind.TheVariants as kind
use Rattle.machine_data.specs.declared.label.Label.TheVariants as label
use Rattle.machine_data.specs.declared.label.LoopLabel.TheVariants as loop_label
use Rattle.machine_data.specs.declared.label.MainLabel.TheVariants as main_label
use Rattle.machine_data.specs.declared.scenario.MainOpDef.TheVariants as main_op
use Rattle.machine_data.specs.declared.statuses.Mark.TheVariants as mark
use Rattle.machine_data.specs.declared.op.Op.TheVariants as op
use Rattle.machine_data.specs.declared.op.Operand.TheVariants as operand
use Rattle.machine_data.specs.declared.label.SetLabel.TheVariants as set_label
use Rattle.machine_data.specs.declared.op.SetOp.TheVariants as set_op
use Rattle.machine_data.specs.declared.component.Slot.TheVariants as slot
use Rattle.machine_data.specs.declared.statuses.Status.TheVariants as status
use Rattle.machine_data.specs.declared.label.TakeLabel.TheVariants as take
use Rattle.machine_data.specs.declared.label.TaskLabel.TheVariants as task_label
use Rattle.machine_data.specs.declared.op.TaskOp.TheVariants as task_op
use Rattle.machine_data.specs.declared.label.ThreadLabel.TheVariants as thread_label
use Rattle.machine_data.specs.declared.component.HostDef.TheVariants as host_def

-- db: get; api: do; edge: req
abbrev pub generated_scenario_of_one_request_runs_to_done : ScenarioDef
generated_scenario_of_one_request_runs_to_done = record {
  version = version.One;
  handles = 100000;
  table = 1000000;
  idle = idle_line.Trap;
  component = record {
    instances =
        (record {
          exports = (record {
            kind = kind.Callback;
            params = 1;
            start = (op.Task task_op.BpInc ∷ op.Data (data_op.Set 9 (operand.Register 0)) ∷
                op.Call (call_op.CallHost 3 8 0) ∷ op.Set (set_op.New 4) ∷ op.Data (data_op.Handle 5 (operand.Register 3)) ∷ op.Set (set_op.Join (operand.Register 5) (operand.Register 4)) ∷
                op.Task (task_op.CbWait (operand.Register 4)) ∷ []);
            react = (op.Data (data_op.Add 8 (operand.Register 9)) ∷ op.Call (call_op.Drop (operand.Register 1)) ∷
                op.Set (set_op.Drop (operand.Register 4)) ∷ op.Task task_op.BpDec ∷ op.Task (task_op.Ret (operand.Register 8)) ∷ op.Task task_op.Exit ∷ []);
          } ∷
              []);
          slots = (replicate 16 slot.Empty);
        } ∷ record {
          exports = (record {
            kind = kind.Callback;
            params = 1;
            start = (op.Data (data_op.Set 9 (operand.Register 0)) ∷
                op.Call (call_op.Call 3 8 (record { instance = 0; export = 0 }) ((operand.Register 9) ∷ [])) ∷ op.Data (data_op.Handle 5 (operand.Register 3)) ∷
                op.Set (set_op.New 4) ∷ op.Set (set_op.Join (operand.Register 5) (operand.Register 4)) ∷ op.Task (task_op.CbWait (operand.Register 4)) ∷ []);
            react = (op.Data (data_op.SkipEq (operand.Register 2) (operand.Number 2) 1) ∷ op.Task (task_op.CbWait (operand.Register 4)) ∷ op.Call (call_op.Drop (operand.Register 1)) ∷
                op.Set (set_op.Drop (operand.Register 4)) ∷ op.Data (data_op.Add 8 (operand.Number 1)) ∷ op.Task (task_op.Ret (operand.Register 8)) ∷ op.Task task_op.Exit ∷
                []);
          } ∷ []);
          slots = (replicate 16 slot.Empty);
        } ∷ record {
          exports = (record {
            kind = kind.Stackful;
            params = 1;
            start = (op.Call (call_op.CallSync 3 (record {
              instance = 1;
              export = 0;
            }) ((operand.Register 0) ∷ [])) ∷ op.Task (task_op.Ret (operand.Register 3)) ∷ op.Task task_op.Exit ∷ []);
            react = [];
          } ∷
              []);
          slots = (replicate 16 slot.Empty);
        } ∷ []);
    hosts = (host_def.Settled (Some 9) (Some 100) ∷ []);
  };
  names = [];
  main =
      (main_op.Start (record { instance = 2; export = 0 }) ((operand.Number 1) ∷ []) ∷ main_op.Finish 1 0 ∷ main_op.Answer (operand.Register 0) ∷ []);
  aborters = [];
}

abbrev pub generated_scenario_of_one_request_runs_to_done_labels : List Label
generated_scenario_of_one_request_runs_to_done_labels = label.Main (main_label.Start 1 1) ∷ label.Loop loop_label.MainPends ∷ label.Take (take.Thread mark.High 1) ∷
    label.Call (call_label.Calls 1 2) ∷ label.Loop loop_label.MainPends ∷ label.Take (take.Thread mark.Switch 2) ∷ label.Data (data_label.Set 2 1) ∷
    label.Call (call_label.Calls 2 3) ∷ label.Loop loop_label.MainPends ∷ label.Take (take.Thread mark.Switch 3) ∷ label.Task (task_label.BpInc 3) ∷
    label.Data (data_label.Set 3 1) ∷ label.Call (call_label.CallPolls 17 3 1) ∷ label.Set (set_label.New 2 3) ∷ label.Data (data_label.Handle 3 1) ∷
    label.Set (set_label.Join 3) ∷ label.Task (task_label.CbWait 3) ∷ label.Loop loop_label.MainPends ∷ label.Take (take.Thread mark.Switch 2) ∷
    label.Call (call_label.Call 17 2) ∷ label.Data (data_label.Handle 2 1) ∷ label.Set (set_label.New 2 2) ∷ label.Set (set_label.Join 2) ∷ label.Task (task_label.CbWait 2) ∷
    label.Loop loop_label.MainPends ∷ label.Take (take.Thread mark.Switch 1) ∷ label.Thread (thread_label.Pauses 1) ∷ label.Loop loop_label.MainPends ∷
    label.Take (take.Push mark.High 1) ∷ label.Loop loop_label.MainPends ∷ label.Loop (loop_label.FuturePends 1) ∷ label.Loop loop_label.Rest ∷
    label.Loop loop_label.MainPends ∷ label.Loop (loop_label.FuturePends 1) ∷ label.Loop loop_label.Rest ∷ label.Loop loop_label.MainPends ∷
    label.Loop (loop_label.FuturePends 1) ∷ label.Loop loop_label.Rest ∷ label.Loop loop_label.MainPends ∷ label.Loop (loop_label.FuturePends 1) ∷
    label.Loop loop_label.Rest ∷ label.Loop loop_label.MainPends ∷ label.Loop (loop_label.FuturePends 1) ∷ label.Loop loop_label.Rest ∷ label.Loop loop_label.MainPends ∷
    label.Loop (loop_label.FuturePends 1) ∷ label.Loop loop_label.Rest ∷ label.Loop loop_label.MainPends ∷ label.Loop (loop_label.FuturePends 1) ∷
    label.Loop loop_label.Rest ∷ label.Loop loop_label.MainPends ∷ label.Loop (loop_label.FuturePends 1) ∷ label.Loop loop_label.Rest ∷ label.Loop loop_label.MainPends ∷
    label.Loop (loop_label.FutureEnds 1) ∷ label.Take (take.HostWakes mark.High 1 3) ∷ label.Loop loop_label.MainPends ∷ label.Take (take.Event mark.High (given.Subtask status.Returned 1) 3) ∷
    label.Data (data_label.Add 3 101) ∷ label.Call (call_label.Drop 3) ∷ label.Set (set_label.Drop 3) ∷ label.Task (task_label.BpDec 3) ∷
    label.RetWakes 3 101 2 ∷ label.Task (task_label.Exit 3) ∷ label.Loop loop_label.MainPends ∷ label.Take (take.Event mark.High (given.Subtask status.Returned 1) 2) ∷
    label.Data (data_label.SkipEq 2) ∷ label.Call (call_label.Drop 2) ∷ label.Set (set_label.Drop 2) ∷ label.Data (data_label.Add 2 102) ∷ label.Task (task_label.Ret 2 102) ∷
    label.Task (task_label.Exit 2) ∷ label.Loop loop_label.MainPends ∷ label.Take (take.Thread mark.High 1) ∷ label.Call (call_label.CallSync 1 102) ∷
    label.Task (task_label.Ret 1 102) ∷ label.Task (task_label.Exit 1) ∷ label.Main (main_label.Finish 1 102) ∷ label.Main (main_label.Answer 102) ∷
    []

abbrev pub generated_scenario_of_one_request_runs_to_done_run : ScenarioDef × List Label
generated_scenario_of_one_request_runs_to_done_run =
    (generated_scenario_of_one_request_runs_to_done, generated_scenario_of_one_request_runs_to_done_labels)
