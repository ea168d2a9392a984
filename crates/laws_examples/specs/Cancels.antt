-- Scenarios, and the labels of their runs.
use Rattle.std.specs.Prelude.{List, [], replicate, ◌∷◌}
use Rattle.machine_data.specs.declared.label.Label.{Label}
use Rattle.machine_data.specs.declared.scenario.Version.TheVariants as version
use Rattle.machine_data.specs.declared.scenario.ScenarioDef.{ScenarioDef}
use Rattle.machine_data.specs.declared.label.CallLabel.TheVariants as call_label
use Rattle.machine_data.specs.declared.op.CallOp.TheVariants as call_op
use Rattle.machine_data.specs.declared.statuses.Given.TheVariants as given
use Rattle.machine_data.specs.declared.scenario.IdleLine.TheVariants as idle_line
use Rattle.machine_data.specs.declared.component.ExportKind.TheVariants as kind
use Rattle.machine_data.specs.declared.label.Label.TheVariants as label
use Rattle.machine_data.specs.declared.label.LoopLabel.TheVariants as loop_label
use Rattle.machine_data.specs.declared.label.MainLabel.TheVariants as main_label
use Rattle.machine_data.specs.declared.scenario.MainOpDef.TheVariants as main_op
use Rattle.machine_data.specs.declared.statuses.Mark.TheVariants as mark
use Rattle.machine_data.specs.declared.op.Op.TheVariants as op
use Rattle.machine_data.specs.declared.op.Operand.TheVariants as operand
use Rattle.machine_data.specs.declared.label.SetLabel.TheVariants as set_label
use Rattle.machine_data.specs.declared.op.SetOp.TheVariants as set_op
use Rattle.machine_data.specs.declared.component.Slot.TheVariants as slot
use Rattle.machine_data.specs.declared.label.TakeLabel.TheVariants as take
use Rattle.machine_data.specs.declared.label.TaskLabel.TheVariants as task_label
use Rattle.machine_data.specs.declared.op.TaskOp.TheVariants as task_op
use Rattle.machine_data.specs.declared.label.ThreadLabel.TheVariants as thread_label
use Rattle.machine_data.specs.declared.trap.Trap.TheVariants as trap

-- a: f; b: g
abbrev pub cancel_of_a_subtask_joined_to_a_set_traps : ScenarioDef
cancel_of_a_subtask_joined_to_a_set_traps = record {
  version = version.One;
  handles = 100000;
  table = 1000000;
  idle = idle_line.Trap;
  component = record {
    instances =
        (record {
          exports = (record {
            kind = kind.Callback;
            params = 0;
            start = (op.Set (set_op.New 3) ∷ op.Task (task_op.CbWait (operand.Register 3)) ∷
                []);
            react = (op.Task task_op.TaskCancel ∷ []);
          } ∷ []);
          slots = (replicate 16 slot.Empty);
        } ∷ record {
          exports = (record {
            kind = kind.Callback;
            params = 0;
            start = (op.Call (call_op.Call 3 8 (record { instance = 0; export = 0 }) []) ∷ op.Set (set_op.New 5) ∷ op.Set (set_op.Join (operand.Number 1) (operand.Register 5)) ∷
                op.Call (call_op.CancelSync 4 (operand.Number 1)) ∷ op.Call (call_op.Drop (operand.Number 1)) ∷ op.Task (task_op.Ret (operand.Register 4)) ∷ []);
            react = [];
          } ∷ []);
          slots = (replicate 16 slot.Empty);
        } ∷ []);
    hosts = [];
  };
  names = [];
  main = (main_op.Start (record { instance = 1; export = 0 }) [] ∷
      main_op.Finish 1 0 ∷ main_op.Answer (operand.Register 0) ∷ []);
  aborters = [];
}

abbrev pub cancel_of_a_subtask_joined_to_a_set_traps_labels : List Label
cancel_of_a_subtask_joined_to_a_set_traps_labels = label.Main (main_label.Start 1 1) ∷ label.Loop loop_label.MainPends ∷ label.Take (take.Thread mark.High 1) ∷
    label.Call (call_label.Calls 1 2) ∷ label.Loop loop_label.MainPends ∷ label.Take (take.Thread mark.Switch 2) ∷ label.Set (set_label.New 1 2) ∷
    label.Task (task_label.CbWait 2) ∷ label.Loop loop_label.MainPends ∷ label.Take (take.Thread mark.Switch 1) ∷ label.Call (call_label.Call 17 1) ∷
    label.Set (set_label.New 2 1) ∷ label.Set (set_label.Join 1) ∷ label.Loop (loop_label.Trap trap.WaitableSyncAndAsync 1) ∷ []

abbrev pub cancel_of_a_subtask_joined_to_a_set_traps_run : ScenarioDef × List Label
cancel_of_a_subtask_joined_to_a_set_traps_run =
    (cancel_of_a_subtask_joined_to_a_set_traps, cancel_of_a_subtask_joined_to_a_set_traps_labels)

-- a: up, down, f; b: g
abbrev pub cancel_withdraws_a_held_start : ScenarioDef
cancel_withdraws_a_held_start = record {
  version = version.One;
  handles = 100000;
  table = 1000000;
  idle = idle_line.Trap;
  component = record {
    instances = (record {
      exports =
          (record { kind = kind.Callback; params = 0; start = (op.Task task_op.BpInc ∷ op.Task (task_op.Ret (operand.Number 0)) ∷ []); react = [] } ∷ record {
            kind = kind.Sync;
            params = 0;
            start = (op.Task task_op.BpDec ∷ []);
            react = [];
          } ∷ record {
            kind = kind.Callback;
            params = 0;
            start = (op.Task (task_op.Ret (operand.Number 1)) ∷
                []);
            react = [];
          } ∷ []);
      slots = (replicate 16 slot.Empty);
    } ∷ record {
      exports = (record {
        kind = kind.Callback;
        params = 0;
        start = (op.Call (call_op.Call 3 8 (record {
          instance = 0;
          export = 2;
        }) []) ∷ op.Call (call_op.Cancel 4 (operand.Number 1)) ∷ op.Call (call_op.Drop (operand.Number 1)) ∷ op.Task (task_op.Ret (operand.Register 4)) ∷
            []);
        react = [];
      } ∷ []);
      slots = (replicate 16 slot.Empty);
    } ∷ []);
    hosts = [];
  };
  names = [];
  main = (main_op.Start (record {
    instance = 0;
    export =
        0;
  }) [] ∷ main_op.Finish 1 0 ∷ main_op.Start (record { instance = 1; export = 0 }) [] ∷ main_op.Finish 2 1 ∷ main_op.Start (record {
    instance = 0;
    export = 1;
  }) [] ∷ main_op.Finish 3 0 ∷ main_op.Answer (operand.Register 1) ∷ []);
  aborters = [];
}

abbrev pub cancel_withdraws_a_held_start_labels : List Label
cancel_withdraws_a_held_start_labels = label.Main (main_label.Start 1 1) ∷ label.Loop loop_label.MainPends ∷ label.Take (take.Thread mark.High 1) ∷
    label.Task (task_label.BpInc 1) ∷ label.Task (task_label.Ret 1 0) ∷ label.Task (task_label.Exit 1) ∷ label.Main (main_label.Finish 1 0) ∷
    label.Main (main_label.Start 2 2) ∷ label.Loop loop_label.MainPends ∷ label.Take (take.Thread mark.High 2) ∷ label.Call (call_label.Calls 2 3) ∷
    label.Loop loop_label.MainPends ∷ label.Take (take.Held mark.Switch 3) ∷ label.Loop loop_label.MainPends ∷ label.Take (take.Thread mark.Switch 2) ∷
    label.Call (call_label.Call 16 2) ∷ label.Call (call_label.Cancel 3 2) ∷ label.Call (call_label.Drop 2) ∷ label.Task (task_label.Ret 2 3) ∷
    label.Task (task_label.Exit 2) ∷ label.Main (main_label.Finish 2 3) ∷ label.Main (main_label.Start 3 4) ∷ label.Loop loop_label.MainPends ∷
    label.Take (take.Thread mark.High 4) ∷ label.Task (task_label.BpDec 4) ∷ label.Task (task_label.Exit 4) ∷ label.Main (main_label.Finish 3 0) ∷
    label.Main (main_label.Answer 3) ∷ []

abbrev pub cancel_withdraws_a_held_start_run : ScenarioDef × List Label
cancel_withdraws_a_held_start_run = (cancel_withdraws_a_held_start, cancel_withdraws_a_held_start_labels)

-- a: f; b: g
abbrev pub sync_cancel_of_a_waiting_callback : ScenarioDef
sync_cancel_of_a_waiting_callback = record {
  version = version.One;
  handles = 100000;
  table = 1000000;
  idle = idle_line.Trap;
  component = record {
    instances = (record {
      exports = (record {
        kind = kind.Callback;
        params = 0;
        start = (op.Set (set_op.New 3) ∷ op.Task (task_op.CbWait (operand.Register 3)) ∷ []);
        react =
            (op.Task task_op.TaskCancel ∷ []);
      } ∷ []);
      slots = (replicate 16 slot.Empty);
    } ∷ record {
      exports = (record {
        kind = kind.Callback;
        params = 0;
        start = (op.Call (call_op.Call 3 8 (record { instance = 0; export = 0 }) []) ∷ op.Call (call_op.CancelSync 4 (operand.Number 1)) ∷ op.Call (call_op.Drop (operand.Number 1)) ∷
            op.Task (task_op.Ret (operand.Register 4)) ∷ []);
        react = [];
      } ∷ []);
      slots = (replicate 16 slot.Empty);
    } ∷ []);
    hosts = [];
  };
  names = [];
  main =
      (main_op.Start (record { instance = 1; export = 0 }) [] ∷ main_op.Finish 1 0 ∷ main_op.Answer (operand.Register 0) ∷ []);
  aborters = [];
}

abbrev pub sync_cancel_of_a_waiting_callback_labels : List Label
sync_cancel_of_a_waiting_callback_labels = label.Main (main_label.Start 1 1) ∷ label.Loop loop_label.MainPends ∷ label.Take (take.Thread mark.High 1) ∷
    label.Call (call_label.Calls 1 2) ∷ label.Loop loop_label.MainPends ∷ label.Take (take.Thread mark.Switch 2) ∷ label.Set (set_label.New 1 2) ∷
    label.Task (task_label.CbWait 2) ∷ label.Loop loop_label.MainPends ∷ label.Take (take.Thread mark.Switch 1) ∷ label.Call (call_label.Call 17 1) ∷
    label.Thread (thread_label.Pauses 1) ∷ label.Loop loop_label.MainPends ∷ label.Take (take.Event mark.Switch given.Cancelled 2) ∷ label.Task (task_label.TaskCancel 2) ∷
    label.Task (task_label.Exit 2) ∷ label.Loop loop_label.MainPends ∷ label.Take (take.Thread mark.Switch 1) ∷ label.Call (call_label.CancelSync 4 1) ∷
    label.Call (call_label.Drop 1) ∷ label.Task (task_label.Ret 1 4) ∷ label.Task (task_label.Exit 1) ∷ label.Main (main_label.Finish 1 4) ∷
    label.Main (main_label.Answer 4) ∷ []

abbrev pub sync_cancel_of_a_waiting_callback_run : ScenarioDef × List Label
sync_cancel_of_a_waiting_callback_run = (sync_cancel_of_a_waiting_callback, sync_cancel_of_a_waiting_callback_labels)

-- a: f
abbrev pub task_cancel_without_a_request_traps : ScenarioDef
task_cancel_without_a_request_traps = record {
  version = version.One;
  handles = 100000;
  table = 1000000;
  idle = idle_line.Trap;
  component = record {
    instances = (record {
      exports = (record { kind = kind.Callback; params = 0; start = (op.Task task_op.TaskCancel ∷ []); react = [] } ∷ []);
      slots = (replicate 16 slot.Empty);
    } ∷
        []);
    hosts = [];
  };
  names = [];
  main = (main_op.Start (record { instance = 0; export = 0 }) [] ∷ main_op.Finish 1 0 ∷ main_op.Answer (operand.Register 0) ∷
      []);
  aborters = [];
}

abbrev pub task_cancel_without_a_request_traps_labels : List Label
task_cancel_without_a_request_traps_labels = label.Main (main_label.Start 1 1) ∷ label.Loop loop_label.MainPends ∷ label.Take (take.Thread mark.High 1) ∷
    label.Loop (loop_label.Trap trap.TaskCancelNotCancelled 1) ∷ []

abbrev pub task_cancel_without_a_request_traps_run : ScenarioDef × List Label
task_cancel_without_a_request_traps_run = (task_cancel_without_a_request_traps, task_cancel_without_a_request_traps_labels)
