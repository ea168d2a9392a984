-- Scenarios, and the labels of their runs.
use Rattle.std.specs.Prelude.{List, [], replicate, ◌∷◌}
use Rattle.machine_data.specs.declared.label.Label.{Label}
use Rattle.machine_data.specs.declared.scenario.Version.TheVariants as version
use Rattle.machine_data.specs.declared.scenario.ScenarioDef.{ScenarioDef}
use Rattle.machine_data.specs.declared.component.ExportKind.TheVariants as kind
use Rattle.machine_data.specs.declared.component.Slot.TheVariants as slot
use Rattle.machine_data.specs.declared.label.CallLabel.TheVariants as call_label
use Rattle.machine_data.specs.declared.label.DataLabel.TheVariants as data_label
use Rattle.machine_data.specs.declared.label.Label.TheVariants as label
use Rattle.machine_data.specs.declared.label.LoopLabel.TheVariants as loop_label
use Rattle.machine_data.specs.declared.label.MainLabel.TheVariants as main_label
use Rattle.machine_data.specs.declared.label.SetLabel.TheVariants as set_label
use Rattle.machine_data.specs.declared.label.TakeLabel.TheVariants as take
use Rattle.machine_data.specs.declared.label.TaskLabel.TheVariants as task_label
use Rattle.machine_data.specs.declared.label.ThreadLabel.TheVariants as thread_label
use Rattle.machine_data.specs.declared.op.CallOp.TheVariants as call_op
use Rattle.machine_data.specs.declared.op.DataOp.TheVariants as data_op
use Rattle.machine_data.specs.declared.op.Op.TheVariants as op
use Rattle.machine_data.specs.declared.op.Operand.TheVariants as operand
use Rattle.machine_data.specs.declared.op.SetOp.TheVariants as set_op
use Rattle.machine_data.specs.declared.op.TaskOp.TheVariants as task_op
use Rattle.machine_data.specs.declared.op.ThreadOp.TheVariants as thread_op
use Rattle.machine_data.specs.declared.scenario.IdleLine.TheVariants as idle_line
use Rattle.machine_data.specs.declared.scenario.MainOpDef.TheVariants as main_op
use Rattle.machine_data.specs.declared.trap.Trap.TheVariants as trap
use Rattle.machine_data.specs.declared.statuses.Mark.TheVariants as mark

-- a: s, w, x
abbrev pub exit_of_a_stackful_export_with_nothing_to_promote_traps : ScenarioDef
exit_of_a_stackful_export_with_nothing_to_promote_traps = record {
  version = version.One;
  handles = 100000;
  table = 1000000;
  idle = idle_line.Trap;
  component = record {
    instances = (record {
      exports = (record {
        kind = kind.Sync;
        params = 0;
        start = (op.Set (set_op.New 3) ∷ op.Set (set_op.Wait 4 (operand.Register 3)) ∷
            []);
        react = [];
      } ∷ record {
        kind = kind.Callback;
        params = 0;
        start = (op.Set (set_op.New 3) ∷ op.Task (task_op.CbWait (operand.Register 3)) ∷
            []);
        react = [];
      } ∷ record { kind = kind.Stackful; params = 0; start = (op.Task (task_op.Ret (operand.Number 0)) ∷ []); react = [] } ∷ []);
      slots =
          (replicate 16 slot.Empty);
    } ∷ []);
    hosts = [];
  };
  names = [];
  main = (main_op.Start (record { instance = 0; export = 0 }) [] ∷ main_op.Start (record {
    instance = 0;
    export = 1;
  }) [] ∷ main_op.Start (record { instance = 0; export = 2 }) [] ∷ main_op.Finish 1 0 ∷ main_op.Answer (operand.Register 0) ∷
      []);
  aborters = [];
}

abbrev pub exit_of_a_stackful_export_with_nothing_to_promote_traps_labels : List Label
exit_of_a_stackful_export_with_nothing_to_promote_traps_labels = label.Main (main_label.Start 1 1) ∷ label.Main (main_label.Start 2 2) ∷ label.Main (main_label.Start 3 3) ∷
    label.Loop loop_label.MainPends ∷ label.Take (take.Thread mark.High 1) ∷ label.Set (set_label.New 1 1) ∷ label.Thread (thread_label.Pauses 1) ∷
    label.Loop loop_label.MainPends ∷ label.Take (take.Thread mark.Switch 2) ∷ label.Set (set_label.New 2 2) ∷ label.Task (task_label.CbWait 2) ∷
    label.Loop loop_label.MainPends ∷ label.Take (take.Thread mark.High 3) ∷ label.Task (task_label.Ret 3 0) ∷ label.Loop (loop_label.Trap trap.CannotBlockSyncTask 3) ∷
    []

abbrev pub exit_of_a_stackful_export_with_nothing_to_promote_traps_run : ScenarioDef × List Label
exit_of_a_stackful_export_with_nothing_to_promote_traps_run =
    (exit_of_a_stackful_export_with_nothing_to_promote_traps, exit_of_a_stackful_export_with_nothing_to_promote_traps_labels)

-- a: s, w, f
abbrev pub exit_of_a_blocking_export_with_nothing_to_promote_traps : ScenarioDef
exit_of_a_blocking_export_with_nothing_to_promote_traps = record {
  version = version.One;
  handles = 100000;
  table = 1000000;
  idle = idle_line.Trap;
  component = record {
    instances = (record {
      exports = (record {
        kind = kind.Sync;
        params = 0;
        start = (op.Set (set_op.New 3) ∷ op.Set (set_op.Wait 4 (operand.Register 3)) ∷
            []);
        react = [];
      } ∷ record {
        kind = kind.Callback;
        params = 0;
        start = (op.Set (set_op.New 3) ∷ op.Task (task_op.CbWait (operand.Register 3)) ∷
            []);
        react = [];
      } ∷ record { kind = kind.Blocking; params = 0; start = []; react = [] } ∷ []);
      slots = (replicate 16 slot.Empty);
    } ∷ []);
    hosts =
        [];
  };
  names = [];
  main = (main_op.Start (record { instance = 0; export = 0 }) [] ∷ main_op.Start (record { instance = 0; export = 1 }) [] ∷
      main_op.Start (record { instance = 0; export = 2 }) [] ∷ main_op.Finish 1 0 ∷ main_op.Answer (operand.Register 0) ∷ []);
  aborters = [];
}

abbrev pub exit_of_a_blocking_export_with_nothing_to_promote_traps_labels : List Label
exit_of_a_blocking_export_with_nothing_to_promote_traps_labels = label.Main (main_label.Start 1 1) ∷ label.Main (main_label.Start 2 2) ∷ label.Main (main_label.Start 3 3) ∷
    label.Loop loop_label.MainPends ∷ label.Take (take.Thread mark.High 1) ∷ label.Set (set_label.New 1 1) ∷ label.Thread (thread_label.Pauses 1) ∷
    label.Loop loop_label.MainPends ∷ label.Take (take.Thread mark.Switch 2) ∷ label.Set (set_label.New 2 2) ∷ label.Task (task_label.CbWait 2) ∷
    label.Loop loop_label.MainPends ∷ label.Take (take.Thread mark.High 3) ∷ label.Loop (loop_label.Trap trap.CannotBlockSyncTask 3) ∷ []

abbrev pub exit_of_a_blocking_export_with_nothing_to_promote_traps_run : ScenarioDef × List Label
exit_of_a_blocking_export_with_nothing_to_promote_traps_run =
    (exit_of_a_blocking_export_with_nothing_to_promote_traps, exit_of_a_blocking_export_with_nothing_to_promote_traps_labels)

-- a: s, w, f; b: d
abbrev pub exit_of_a_direct_call_with_nothing_to_promote_traps : ScenarioDef
exit_of_a_direct_call_with_nothing_to_promote_traps = record {
  version = version.One;
  handles = 100000;
  table = 1000000;
  idle = idle_line.Trap;
  component = record {
    instances = (record {
      exports = (record {
        kind = kind.Sync;
        params = 0;
        start = (op.Set (set_op.New 3) ∷ op.Set (set_op.Wait 4 (operand.Register 3)) ∷
            []);
        react = [];
      } ∷ record {
        kind = kind.Callback;
        params = 0;
        start = (op.Set (set_op.New 3) ∷ op.Task (task_op.CbWait (operand.Register 3)) ∷
            []);
        react = [];
      } ∷ record { kind = kind.Blocking; params = 0; start = []; react = [] } ∷ []);
      slots = (replicate 16 slot.Empty);
    } ∷ record {
      exports = (record {
        kind = kind.Stackful;
        params = 0;
        start = (op.Call (call_op.CallSync 6 (record { instance = 0; export = 2 }) []) ∷ []);
        react =
            [];
      } ∷ []);
      slots = (replicate 16 slot.Empty);
    } ∷ []);
    hosts = [];
  };
  names = [];
  main = (main_op.Start (record { instance = 0; export = 0 }) [] ∷
      main_op.Start (record { instance = 0; export = 1 }) [] ∷ main_op.Start (record { instance = 1; export = 0 }) [] ∷ main_op.Finish 1 0 ∷
      main_op.Answer (operand.Register 0) ∷ []);
  aborters = [];
}

abbrev pub exit_of_a_direct_call_with_nothing_to_promote_traps_labels : List Label
exit_of_a_direct_call_with_nothing_to_promote_traps_labels = label.Main (main_label.Start 1 1) ∷ label.Main (main_label.Start 2 2) ∷ label.Main (main_label.Start 3 3) ∷
    label.Loop loop_label.MainPends ∷ label.Take (take.Thread mark.High 1) ∷ label.Set (set_label.New 1 1) ∷ label.Thread (thread_label.Pauses 1) ∷
    label.Loop loop_label.MainPends ∷ label.Take (take.Thread mark.Switch 2) ∷ label.Set (set_label.New 2 2) ∷ label.Task (task_label.CbWait 2) ∷
    label.Loop loop_label.MainPends ∷ label.Take (take.Thread mark.High 3) ∷ label.Call (call_label.Enters 3 4) ∷ label.Loop (loop_label.Trap trap.CannotBlockSyncTask 4) ∷
    []

abbrev pub exit_of_a_direct_call_with_nothing_to_promote_traps_run : ScenarioDef × List Label
exit_of_a_direct_call_with_nothing_to_promote_traps_run =
    (exit_of_a_direct_call_with_nothing_to_promote_traps, exit_of_a_direct_call_with_nothing_to_promote_traps_labels)

-- a: s, w, x
abbrev pub suspend_with_nothing_to_promote_traps : ScenarioDef
suspend_with_nothing_to_promote_traps = record {
  version = version.One;
  handles = 100000;
  table = 1000000;
  idle = idle_line.Trap;
  component = record {
    instances = (record {
      exports = (record { kind = kind.Sync; params = 0; start = (op.Set (set_op.New 3) ∷ op.Set (set_op.Wait 4 (operand.Register 3)) ∷ []); react = [] } ∷
          record { kind = kind.Callback; params = 0; start = (op.Set (set_op.New 3) ∷ op.Task (task_op.CbWait (operand.Register 3)) ∷ []); react = [] } ∷
          record { kind = kind.Stackful; params = 0; start = (op.Thread thread_op.Suspend ∷ []); react = [] } ∷ []);
      slots = (replicate 16 slot.Empty);
    } ∷
        []);
    hosts = [];
  };
  names = [];
  main = (main_op.Start (record { instance = 0; export = 0 }) [] ∷ main_op.Start (record { instance = 0; export = 1 }) [] ∷
      main_op.Start (record { instance = 0; export = 2 }) [] ∷ main_op.Finish 1 0 ∷ main_op.Answer (operand.Register 0) ∷ []);
  aborters = [];
}

abbrev pub suspend_with_nothing_to_promote_traps_labels : List Label
suspend_with_nothing_to_promote_traps_labels = label.Main (main_label.Start 1 1) ∷ label.Main (main_label.Start 2 2) ∷ label.Main (main_label.Start 3 3) ∷
    label.Loop loop_label.MainPends ∷ label.Take (take.Thread mark.High 1) ∷ label.Set (set_label.New 1 1) ∷ label.Thread (thread_label.Pauses 1) ∷
    label.Loop loop_label.MainPends ∷ label.Take (take.Thread mark.Switch 2) ∷ label.Set (set_label.New 2 2) ∷ label.Task (task_label.CbWait 2) ∷
    label.Loop loop_label.MainPends ∷ label.Take (take.Thread mark.High 3) ∷ label.Loop (loop_label.Trap trap.CannotBlockSyncTask 3) ∷ []

abbrev pub suspend_with_nothing_to_promote_traps_run : ScenarioDef × List Label
suspend_with_nothing_to_promote_traps_run = (suspend_with_nothing_to_promote_traps, suspend_with_nothing_to_promote_traps_labels)

-- a: h; b: s
abbrev pub sync_call_of_a_waiting_callee_with_nothing_to_promote_traps : ScenarioDef
sync_call_of_a_waiting_callee_with_nothing_to_promote_traps = record {
  version = version.One;
  handles = 100000;
  table = 1000000;
  idle = idle_line.Trap;
  component = record {
    instances = (record {
      exports = (record {
        kind = kind.Stackful;
        params = 0;
        start = (op.Set (set_op.New 3) ∷ op.Set (set_op.Wait 4 (operand.Register 3)) ∷
            []);
        react = [];
      } ∷ []);
      slots = (replicate 16 slot.Empty);
    } ∷ record {
      exports = (record {
        kind = kind.Sync;
        params = 0;
        start = (op.Call (call_op.CallSync 3 (record {
          instance = 0;
          export = 0;
        }) []) ∷ []);
        react = [];
      } ∷ []);
      slots = (replicate 16 slot.Empty);
    } ∷ []);
    hosts = [];
  };
  names = [];
  main =
      (main_op.Start (record { instance = 1; export = 0 }) [] ∷ main_op.Finish 1 0 ∷ main_op.Answer (operand.Register 0) ∷ []);
  aborters = [];
}

abbrev pub sync_call_of_a_waiting_callee_with_nothing_to_promote_traps_labels : List Label
sync_call_of_a_waiting_callee_with_nothing_to_promote_traps_labels = label.Main (main_label.Start 1 1) ∷ label.Loop loop_label.MainPends ∷ label.Take (take.Thread mark.High 1) ∷
    label.Call (call_label.Calls 1 2) ∷ label.Loop loop_label.MainPends ∷ label.Take (take.Thread mark.Switch 2) ∷ label.Set (set_label.New 1 2) ∷
    label.Thread (thread_label.Pauses 2) ∷ label.Loop loop_label.MainPends ∷ label.Take (take.Thread mark.Switch 1) ∷ label.Loop (loop_label.Trap trap.CannotBlockSyncTask 1) ∷
    []

abbrev pub sync_call_of_a_waiting_callee_with_nothing_to_promote_traps_run : ScenarioDef × List Label
sync_call_of_a_waiting_callee_with_nothing_to_promote_traps_run =
    (sync_call_of_a_waiting_callee_with_nothing_to_promote_traps, sync_call_of_a_waiting_callee_with_nothing_to_promote_traps_labels)

-- a: h; b: s
abbrev pub sync_cancel_with_nothing_to_promote_traps : ScenarioDef
sync_cancel_with_nothing_to_promote_traps = record {
  version = version.One;
  handles = 100000;
  table = 1000000;
  idle = idle_line.Trap;
  component = record {
    instances =
        (record {
          exports = (record {
            kind = kind.Stackful;
            params = 0;
            start = (op.Set (set_op.New 3) ∷ op.Set (set_op.Wait 4 (operand.Register 3)) ∷
                []);
            react = [];
          } ∷ []);
          slots = (replicate 16 slot.Empty);
        } ∷ record {
          exports = (record {
            kind = kind.Sync;
            params = 0;
            start = (op.Call (call_op.Call 3 7 (record {
              instance = 0;
              export = 0;
            }) []) ∷ op.Data (data_op.Handle 5 (operand.Register 3)) ∷ op.Call (call_op.CancelSync 8 (operand.Register 5)) ∷ []);
            react = [];
          } ∷ []);
          slots = (replicate 16 slot.Empty);
        } ∷ []);
    hosts = [];
  };
  names = [];
  main = (main_op.Start (record { instance = 1; export = 0 }) [] ∷
      main_op.Finish 1 0 ∷ main_op.Answer (operand.Register 0) ∷ []);
  aborters = [];
}

abbrev pub sync_cancel_with_nothing_to_promote_traps_labels : List Label
sync_cancel_with_nothing_to_promote_traps_labels = label.Main (main_label.Start 1 1) ∷ label.Loop loop_label.MainPends ∷ label.Take (take.Thread mark.High 1) ∷
    label.Call (call_label.Calls 1 2) ∷ label.Loop loop_label.MainPends ∷ label.Take (take.Thread mark.Switch 2) ∷ label.Set (set_label.New 1 2) ∷
    label.Thread (thread_label.Pauses 2) ∷ label.Loop loop_label.MainPends ∷ label.Take (take.Thread mark.Switch 1) ∷ label.Call (call_label.Call 17 1) ∷
    label.Data (data_label.Handle 1 1) ∷ label.Loop (loop_label.Trap trap.CannotBlockSyncTask 1) ∷ []

abbrev pub sync_cancel_with_nothing_to_promote_traps_run : ScenarioDef × List Label
sync_cancel_with_nothing_to_promote_traps_run =
    (sync_cancel_with_nothing_to_promote_traps, sync_cancel_with_nothing_to_promote_traps_labels)

-- a: f
abbrev pub callback_wait_on_no_set_traps : ScenarioDef
callback_wait_on_no_set_traps = record {
  version = version.One;
  handles = 100000;
  table = 1000000;
  idle = idle_line.Trap;
  component = record {
    instances = (record {
      exports =
          (record { kind = kind.Callback; params = 0; start = (op.Task (task_op.CbWait (operand.Number 5)) ∷ []); react = [] } ∷ []);
      slots = (replicate 16 slot.Empty);
    } ∷
        []);
    hosts = [];
  };
  names = [];
  main = (main_op.Start (record { instance = 0; export = 0 }) [] ∷ main_op.Finish 1 0 ∷ main_op.Answer (operand.Register 0) ∷
      []);
  aborters = [];
}

abbrev pub callback_wait_on_no_set_traps_labels : List Label
callback_wait_on_no_set_traps_labels = label.Main (main_label.Start 1 1) ∷ label.Loop loop_label.MainPends ∷ label.Take (take.Thread mark.High 1) ∷
    label.Loop (loop_label.Trap trap.BadHandle 1) ∷ []

abbrev pub callback_wait_on_no_set_traps_run : ScenarioDef × List Label
callback_wait_on_no_set_traps_run = (callback_wait_on_no_set_traps, callback_wait_on_no_set_traps_labels)
