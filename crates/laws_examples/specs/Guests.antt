-- Scenarios, and the labels of their runs.
use Rattle.std.specs.Prelude.{List, [], replicate, ◌∷◌}
use Rattle.machine_data.specs.declared.label.Label.{Label}
use Rattle.machine_data.specs.declared.scenario.Version.TheVariants as version
use Rattle.machine_data.specs.declared.scenario.ScenarioDef.{ScenarioDef}
use Rattle.machine_data.specs.declared.label.CallLabel.TheVariants as call_label
use Rattle.machine_data.specs.declared.op.CallOp.TheVariants as call_op
use Rattle.machine_data.specs.declared.label.DataLabel.TheVariants as data_label
use Rattle.machine_data.specs.declared.op.DataOp.TheVariants as data_op
use Rattle.machine_data.specs.declared.scenario.IdleLine.TheVariants as idle_line
use Rattle.machine_data.specs.declared.component.ExportKind.TheVariants as kind
use Rattle.machine_data.specs.declared.label.Label.TheVariants as label
use Rattle.machine_data.specs.declared.label.LoopLabel.TheVariants as loop_label
use Rattle.machine_data.specs.declared.label.MainLabel.TheVariants as main_label
use Rattle.machine_data.specs.declared.scenario.MainOpDef.TheVariants as main_op
use Rattle.machine_data.specs.declared.statuses.Mark.TheVariants as mark
use Rattle.machine_data.specs.declared.op.Op.TheVariants as op
use Rattle.machine_data.specs.declared.op.Operand.TheVariants as operand
use Rattle.machine_data.specs.declared.label.SetLabel.TheVariants as set_label
use Rattle.machine_data.specs.declared.op.SetOp.TheVariants as set_op
use Rattle.machine_data.specs.declared.component.Slot.TheVariants as slot
use Rattle.machine_data.specs.declared.label.TakeLabel.TheVariants as take
use Rattle.machine_data.specs.declared.label.TaskLabel.TheVariants as task_label
use Rattle.machine_data.specs.declared.op.TaskOp.TheVariants as task_op
use Rattle.machine_data.specs.declared.label.ThreadLabel.TheVariants as thread_label
use Rattle.machine_data.specs.declared.trap.Trap.TheVariants as trap

-- a: f
abbrev pub backpressure_lowered_below_zero_traps : ScenarioDef
backpressure_lowered_below_zero_traps = record {
  version = version.One;
  handles = 100000;
  table = 1000000;
  idle = idle_line.Trap;
  component = record {
    instances = (record {
      exports = (record { kind = kind.Callback; params = 0; start = (op.Task task_op.BpDec ∷ []); react = [] } ∷ []);
      slots = (replicate 16 slot.Empty);
    } ∷
        []);
    hosts = [];
  };
  names = [];
  main = (main_op.Start (record { instance = 0; export = 0 }) [] ∷ main_op.Finish 1 0 ∷ main_op.Answer (operand.Register 0) ∷
      []);
  aborters = [];
}

abbrev pub backpressure_lowered_below_zero_traps_labels : List Label
backpressure_lowered_below_zero_traps_labels = label.Main (main_label.Start 1 1) ∷ label.Loop loop_label.MainPends ∷ label.Take (take.Thread mark.High 1) ∷
    label.Loop (loop_label.Trap trap.BackpressureOverflow 1) ∷ []

abbrev pub backpressure_lowered_below_zero_traps_run : ScenarioDef × List Label
backpressure_lowered_below_zero_traps_run = (backpressure_lowered_below_zero_traps, backpressure_lowered_below_zero_traps_labels)

-- a: s; b: g
abbrev pub direct_sync_call_answers_its_result : ScenarioDef
direct_sync_call_answers_its_result = record {
  version = version.One;
  handles = 100000;
  table = 1000000;
  idle = idle_line.Trap;
  component = record {
    instances = (record {
      exports = (record { kind = kind.Sync; params = 1; start = (op.Data (data_op.Add 0 (operand.Number 1)) ∷ []); react = [] } ∷ []);
      slots =
          (replicate 16 slot.Empty);
    } ∷ record {
      exports = (record {
        kind = kind.Callback;
        params = 1;
        start = (op.Call (call_op.CallSync 3 (record {
          instance = 0;
          export = 0;
        }) ((operand.Register 0) ∷ [])) ∷ op.Task (task_op.Ret (operand.Register 3)) ∷ []);
        react = [];
      } ∷ []);
      slots =
          (replicate 16 slot.Empty);
    } ∷ []);
    hosts = [];
  };
  names = [];
  main = (main_op.Start (record { instance = 1; export = 0 }) ((operand.Number 7) ∷ []) ∷
      main_op.Finish 1 0 ∷ main_op.Answer (operand.Register 0) ∷ []);
  aborters = [];
}

abbrev pub direct_sync_call_answers_its_result_labels : List Label
direct_sync_call_answers_its_result_labels = label.Main (main_label.Start 1 1) ∷ label.Loop loop_label.MainPends ∷ label.Take (take.Thread mark.High 1) ∷
    label.Call (call_label.Enters 1 2) ∷ label.Data (data_label.Add 2 8) ∷ label.Task (task_label.Exit 2) ∷ label.Call (call_label.CallSync 1 8) ∷
    label.Task (task_label.Ret 1 8) ∷ label.Task (task_label.Exit 1) ∷ label.Main (main_label.Finish 1 8) ∷ label.Main (main_label.Answer 8) ∷ []

abbrev pub direct_sync_call_answers_its_result_run : ScenarioDef × List Label
direct_sync_call_answers_its_result_run = (direct_sync_call_answers_its_result, direct_sync_call_answers_its_result_labels)

-- a: up, down, f; b: g
abbrev pub held_start_runs_when_backpressure_falls_to_zero : ScenarioDef
held_start_runs_when_backpressure_falls_to_zero = record {
  version = version.One;
  handles = 100000;
  table = 1000000;
  idle = idle_line.Trap;
  component = record {
    instances =
        (record {
          exports = (record {
            kind = kind.Callback;
            params = 0;
            start = (op.Task task_op.BpInc ∷ op.Task (task_op.Ret (operand.Number 0)) ∷ []);
            react = [];
          } ∷ record { kind = kind.Sync; params = 0; start = (op.Task task_op.BpDec ∷ []); react = [] } ∷ record {
            kind = kind.Callback;
            params =
                0;
            start = (op.Task (task_op.Ret (operand.Number 1)) ∷ []);
            react = [];
          } ∷ []);
          slots = (replicate 16 slot.Empty);
        } ∷ record {
          exports = (record {
            kind = kind.Callback;
            params = 0;
            start = (op.Call (call_op.Call 3 8 (record { instance = 0; export = 2 }) []) ∷ op.Task (task_op.Ret (operand.Register 3)) ∷
                []);
            react = [];
          } ∷ []);
          slots = (replicate 16 slot.Empty);
        } ∷ []);
    hosts = [];
  };
  names = [];
  main = (main_op.Start (record {
    instance = 0;
    export =
        0;
  }) [] ∷ main_op.Finish 1 0 ∷ main_op.Start (record { instance = 1; export = 0 }) [] ∷ main_op.Finish 2 1 ∷ main_op.Start (record {
    instance = 0;
    export = 1;
  }) [] ∷ main_op.Finish 3 0 ∷ main_op.Start (record { instance = 0; export = 2 }) [] ∷ main_op.Finish 4 0 ∷ main_op.Answer (operand.Register 1) ∷
      []);
  aborters = [];
}

abbrev pub held_start_runs_when_backpressure_falls_to_zero_labels : List Label
held_start_runs_when_backpressure_falls_to_zero_labels = label.Main (main_label.Start 1 1) ∷ label.Loop loop_label.MainPends ∷ label.Take (take.Thread mark.High 1) ∷
    label.Task (task_label.BpInc 1) ∷ label.Task (task_label.Ret 1 0) ∷ label.Task (task_label.Exit 1) ∷ label.Main (main_label.Finish 1 0) ∷
    label.Main (main_label.Start 2 2) ∷ label.Loop loop_label.MainPends ∷ label.Take (take.Thread mark.High 2) ∷ label.Call (call_label.Calls 2 3) ∷
    label.Loop loop_label.MainPends ∷ label.Take (take.Held mark.Switch 3) ∷ label.Loop loop_label.MainPends ∷ label.Take (take.Thread mark.Switch 2) ∷
    label.Call (call_label.Call 16 2) ∷ label.Task (task_label.Ret 2 16) ∷ label.Task (task_label.Exit 2) ∷ label.Main (main_label.Finish 2 16) ∷
    label.Main (main_label.Start 3 4) ∷ label.Loop loop_label.MainPends ∷ label.Take (take.Thread mark.High 4) ∷ label.Task (task_label.BpDec 4) ∷
    label.Task (task_label.Exit 4) ∷ label.Main (main_label.Finish 3 0) ∷ label.Main (main_label.Start 4 5) ∷ label.Loop loop_label.MainPends ∷
    label.Take (take.Thread mark.High 3) ∷ label.Task (task_label.Ret 3 1) ∷ label.Task (task_label.Exit 3) ∷ label.Loop loop_label.MainPends ∷
    label.Take (take.Thread mark.High 5) ∷ label.Task (task_label.Ret 5 1) ∷ label.Task (task_label.Exit 5) ∷ label.Main (main_label.Finish 4 1) ∷
    label.Main (main_label.Answer 16) ∷ []

abbrev pub held_start_runs_when_backpressure_falls_to_zero_run : ScenarioDef × List Label
held_start_runs_when_backpressure_falls_to_zero_run =
    (held_start_runs_when_backpressure_falls_to_zero, held_start_runs_when_backpressure_falls_to_zero_labels)

-- a: s; b: g; c: m
abbrev pub outer_caller_is_resumed_while_a_direct_callee_blocks : ScenarioDef
outer_caller_is_resumed_while_a_direct_callee_blocks = record {
  version = version.One;
  handles = 100000;
  table = 1000000;
  idle = idle_line.Trap;
  component = record {
    instances = (record {
      exports = (record {
        kind = kind.Blocking;
        params = 0;
        start = (op.Set (set_op.New 3) ∷ op.Set (set_op.Wait 4 (operand.Register 3)) ∷
            []);
        react = [];
      } ∷ []);
      slots = (replicate 16 slot.Empty);
    } ∷ record {
      exports = (record {
        kind = kind.Callback;
        params = 0;
        start = (op.Call (call_op.CallSync 3 (record {
          instance = 0;
          export = 0;
        }) []) ∷ op.Task (task_op.Ret (operand.Register 3)) ∷ []);
        react = [];
      } ∷ []);
      slots = (replicate 16 slot.Empty);
    } ∷
        record {
          exports = (record {
            kind = kind.Callback;
            params = 0;
            start = (op.Call (call_op.Call 3 8 (record { instance = 1; export = 0 }) []) ∷
                op.Task (task_op.Ret (operand.Register 3)) ∷ []);
            react = [];
          } ∷ []);
          slots = (replicate 16 slot.Empty);
        } ∷ []);
    hosts = [];
  };
  names = [];
  main =
      (main_op.Start (record { instance = 2; export = 0 }) [] ∷ main_op.Finish 1 0 ∷ main_op.Answer (operand.Register 0) ∷ []);
  aborters = [];
}

abbrev pub outer_caller_is_resumed_while_a_direct_callee_blocks_labels : List Label
outer_caller_is_resumed_while_a_direct_callee_blocks_labels = label.Main (main_label.Start 1 1) ∷ label.Loop loop_label.MainPends ∷ label.Take (take.Thread mark.High 1) ∷
    label.Call (call_label.Calls 1 2) ∷ label.Loop loop_label.MainPends ∷ label.Take (take.Thread mark.Switch 2) ∷ label.Call (call_label.Enters 2 3) ∷
    label.Set (set_label.New 1 3) ∷ label.Thread (thread_label.Pauses 3) ∷ label.Loop loop_label.MainPends ∷ label.Take (take.Thread mark.Switch 1) ∷
    label.Call (call_label.Call 17 1) ∷ label.Task (task_label.Ret 1 17) ∷ label.Task (task_label.Exit 1) ∷ label.Main (main_label.Finish 1 17) ∷
    label.Main (main_label.Answer 17) ∷ []

abbrev pub outer_caller_is_resumed_while_a_direct_callee_blocks_run : ScenarioDef × List Label
outer_caller_is_resumed_while_a_direct_callee_blocks_run =
    (outer_caller_is_resumed_while_a_direct_callee_blocks, outer_caller_is_resumed_while_a_direct_callee_blocks_labels)
