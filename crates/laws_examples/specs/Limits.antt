-- Scenarios, and the labels of their runs.
use Rattle.std.specs.Prelude.{List, Some, [], replicate, ◌∷◌}
use Rattle.machine_data.specs.declared.label.Label.{Label}
use Rattle.machine_data.specs.declared.scenario.Version.TheVariants as version
use Rattle.machine_data.specs.declared.scenario.ScenarioDef.{ScenarioDef}
use Rattle.machine_data.specs.declared.scenario.IdleLine.TheVariants as idle_line
use Rattle.machine_data.specs.declared.component.ExportKind.TheVariants as kind
use Rattle.machine_data.specs.declared.label.Label.TheVariants as label
use Rattle.machine_data.specs.declared.label.LoopLabel.TheVariants as loop_label
use Rattle.machine_data.specs.declared.label.MainLabel.TheVariants as main_label
use Rattle.machine_data.specs.declared.scenario.MainOpDef.TheVariants as main_op
use Rattle.machine_data.specs.declared.statuses.Mark.TheVariants as mark
use Rattle.machine_data.specs.declared.op.Op.TheVariants as op
use Rattle.machine_data.specs.declared.op.Operand.TheVariants as operand
use Rattle.machine_data.specs.declared.component.Slot.TheVariants as slot
use Rattle.machine_data.specs.declared.label.TakeLabel.TheVariants as take
use Rattle.machine_data.specs.declared.label.TaskLabel.TheVariants as task_label
use Rattle.machine_data.specs.declared.op.TaskOp.TheVariants as task_op
use Rattle.machine_data.specs.declared.trap.Trap.TheVariants as trap
use Rattle.machine_data.specs.declared.op.CallOp.TheVariants as call_op
use Rattle.machine_data.specs.declared.component.HostDef.TheVariants as host_def

-- a: f
abbrev pub full_table_refuses_a_start_and_the_run_goes_on : ScenarioDef
full_table_refuses_a_start_and_the_run_goes_on = record {
  version = version.One;
  handles = 100000;
  table = 7;
  idle = idle_line.Trap;
  component = record {
    instances = (record {
      exports = (record { kind = kind.Callback; params = 0; start = (op.Task (task_op.Ret (operand.Number 1)) ∷ []); react = [] } ∷ []);
      slots =
          (replicate 16 slot.Empty);
    } ∷ []);
    hosts = [];
  };
  names = [];
  main = (main_op.Start (record { instance = 0; export = 0 }) [] ∷ main_op.Start (record {
    instance = 0;
    export = 0;
  }) [] ∷ main_op.Start (record { instance = 0; export = 0 }) [] ∷ main_op.Finish 1 0 ∷ main_op.Answer (operand.Register 0) ∷
      []);
  aborters = [];
}

abbrev pub full_table_refuses_a_start_and_the_run_goes_on_labels : List Label
full_table_refuses_a_start_and_the_run_goes_on_labels = label.Main (main_label.Start 1 1) ∷ label.Main (main_label.StartRefused trap.TableFull 2) ∷
    label.Main (main_label.StartRefused trap.CannotEnterComponent 3) ∷ label.Loop loop_label.MainPends ∷ label.Take (take.Thread mark.High 1) ∷
    label.Task (task_label.Ret 1 1) ∷ label.Task (task_label.Exit 1) ∷ label.Main (main_label.Finish 1 1) ∷ label.Main (main_label.Answer 1) ∷ []

abbrev pub full_table_refuses_a_start_and_the_run_goes_on_run : ScenarioDef × List Label
full_table_refuses_a_start_and_the_run_goes_on_run =
    (full_table_refuses_a_start_and_the_run_goes_on, full_table_refuses_a_start_and_the_run_goes_on_labels)

-- a: f
abbrev pub handle_limit_one_suffices_for_one_thread : ScenarioDef
handle_limit_one_suffices_for_one_thread = record {
  version = version.One;
  handles = 1;
  table = 1000000;
  idle = idle_line.Trap;
  component = record {
    instances = (record {
      exports = (record { kind = kind.Callback; params = 1; start = (op.Task (task_op.Ret (operand.Register 0)) ∷ op.Task task_op.Exit ∷ []); react = [] } ∷
          []);
      slots = (replicate 16 slot.Empty);
    } ∷ []);
    hosts = [];
  };
  names = [];
  main = (main_op.Start (record { instance = 0; export = 0 }) ((operand.Number 7) ∷
      []) ∷ main_op.Finish 1 0 ∷ main_op.Answer (operand.Register 0) ∷ []);
  aborters = [];
}

abbrev pub handle_limit_one_suffices_for_one_thread_labels : List Label
handle_limit_one_suffices_for_one_thread_labels = label.Main (main_label.Start 1 1) ∷ label.Loop loop_label.MainPends ∷ label.Take (take.Thread mark.High 1) ∷
    label.Task (task_label.Ret 1 7) ∷ label.Task (task_label.Exit 1) ∷ label.Main (main_label.Finish 1 7) ∷ label.Main (main_label.Answer 7) ∷ []

abbrev pub handle_limit_one_suffices_for_one_thread_run : ScenarioDef × List Label
handle_limit_one_suffices_for_one_thread_run = (handle_limit_one_suffices_for_one_thread, handle_limit_one_suffices_for_one_thread_labels)

-- a: f
abbrev pub handle_limit_zero_traps_the_first_start : ScenarioDef
handle_limit_zero_traps_the_first_start = record {
  version = version.One;
  handles = 0;
  table = 1000000;
  idle = idle_line.Trap;
  component = record {
    instances = (record {
      exports = (record { kind = kind.Callback; params = 1; start = (op.Task (task_op.Ret (operand.Register 0)) ∷ op.Task task_op.Exit ∷ []); react = [] } ∷
          []);
      slots = (replicate 16 slot.Empty);
    } ∷ []);
    hosts = [];
  };
  names = [];
  main = (main_op.Start (record { instance = 0; export = 0 }) ((operand.Number 7) ∷
      []) ∷ main_op.Finish 1 0 ∷ main_op.Answer (operand.Register 0) ∷ []);
  aborters = [];
}

abbrev pub handle_limit_zero_traps_the_first_start_labels : List Label
handle_limit_zero_traps_the_first_start_labels = label.Main (main_label.Start 1 1) ∷ label.Loop loop_label.MainPends ∷ label.Loop (loop_label.Trap trap.HandleLimit 1) ∷
    []

abbrev pub handle_limit_zero_traps_the_first_start_run : ScenarioDef × List Label
handle_limit_zero_traps_the_first_start_run = (handle_limit_zero_traps_the_first_start, handle_limit_zero_traps_the_first_start_labels)

-- a: f
abbrev pub small_table_refuses_the_only_start : ScenarioDef
small_table_refuses_the_only_start = record {
  version = version.One;
  handles = 100000;
  table = 3;
  idle = idle_line.Trap;
  component = record {
    instances = (record {
      exports =
          (record { kind = kind.Callback; params = 1; start = (op.Task (task_op.Ret (operand.Register 0)) ∷ op.Task task_op.Exit ∷ []); react = [] } ∷ []);
      slots = (replicate 16 slot.Empty);
    } ∷ []);
    hosts = [];
  };
  names = [];
  main = (main_op.Start (record { instance = 0; export = 0 }) ((operand.Number 7) ∷
      []) ∷ main_op.Finish 1 0 ∷ main_op.Answer (operand.Register 0) ∷ []);
  aborters = [];
}

abbrev pub small_table_refuses_the_only_start_labels : List Label
small_table_refuses_the_only_start_labels = label.Main (main_label.StartRefused trap.TableFull 1) ∷ label.Main (main_label.FinishRefused trap.TableFull 1) ∷
    label.Main (main_label.Answer 0) ∷ []

abbrev pub small_table_refuses_the_only_start_run : ScenarioDef × List Label
small_table_refuses_the_only_start_run = (small_table_refuses_the_only_start, small_table_refuses_the_only_start_labels)

-- a: f
abbrev pub full_table_traps_a_pending_host_call : ScenarioDef
full_table_traps_a_pending_host_call = record {
  version = version.One;
  handles = 9;
  table = 4;
  idle = idle_line.Trap;
  component = record {
    instances = (record {
      exports =
          (record { kind = kind.Callback; params = 0; start = (op.Call (call_op.CallHost 3 8 0) ∷ op.Task (task_op.Ret (operand.Number 1)) ∷ []); react = [] } ∷
          []);
      slots = (replicate 16 slot.Empty);
    } ∷ []);
    hosts = (host_def.Settled (Some 1) (Some 5) ∷ []);
  };
  names = [];
  main = (main_op.Start (record {
    instance = 0;
    export = 0;
  }) [] ∷ main_op.Finish 1 0 ∷ main_op.Answer (operand.Register 0) ∷ []);
  aborters = [];
}

abbrev pub full_table_traps_a_pending_host_call_labels : List Label
full_table_traps_a_pending_host_call_labels = label.Main (main_label.Start 1 1) ∷ label.Loop loop_label.MainPends ∷ label.Take (take.Thread mark.High 1) ∷
    label.Loop (loop_label.Trap trap.TableFull 1) ∷ []

abbrev pub full_table_traps_a_pending_host_call_run : ScenarioDef × List Label
full_table_traps_a_pending_host_call_run = (full_table_traps_a_pending_host_call, full_table_traps_a_pending_host_call_labels)
