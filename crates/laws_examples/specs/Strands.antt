-- Scenarios, and the labels of their runs.
use Rattle.std.specs.Prelude.{List, [], replicate, ◌∷◌}
use Rattle.machine_data.specs.declared.label.Label.{Label}
use Rattle.machine_data.specs.declared.scenario.Version.TheVariants as version
use Rattle.machine_data.specs.declared.scenario.ScenarioDef.{ScenarioDef}
use Rattle.machine_data.specs.declared.label.DataLabel.TheVariants as data_label
use Rattle.machine_data.specs.declared.op.DataOp.TheVariants as data_op
use Rattle.machine_data.specs.declared.statuses.Given.TheVariants as given
use Rattle.machine_data.specs.declared.scenario.IdleLine.TheVariants as idle_line
use Rattle.machine_data.specs.declared.component.ExportKind.TheVariants as kind
use Rattle.machine_data.specs.declared.label.Label.TheVariants as label
use Rattle.machine_data.specs.declared.label.LoopLabel.TheVariants as loop_label
use Rattle.machine_data.specs.declared.label.MainLabel.TheVariants as main_label
use Rattle.machine_data.specs.declared.scenario.MainOpDef.TheVariants as main_op
use Rattle.machine_data.specs.declared.statuses.Mark.TheVariants as mark
use Rattle.machine_data.specs.declared.op.Op.TheVariants as op
use Rattle.machine_data.specs.declared.op.Operand.TheVariants as operand
use Rattle.machine_data.specs.declared.label.SetLabel.TheVariants as set_label
use Rattle.machine_data.specs.declared.op.SetOp.TheVariants as set_op
use Rattle.machine_data.specs.declared.component.Slot.TheVariants as slot
use Rattle.machine_data.specs.declared.label.TakeLabel.TheVariants as take
use Rattle.machine_data.specs.declared.label.TaskLabel.TheVariants as task_label
use Rattle.machine_data.specs.declared.op.TaskOp.TheVariants as task_op
use Rattle.machine_data.specs.declared.label.ThreadLabel.TheVariants as thread_label
use Rattle.machine_data.specs.declared.trap.Trap.TheVariants as trap

-- a: f
abbrev pub return_in_a_sync_export_traps : ScenarioDef
return_in_a_sync_export_traps = record {
  version = version.One;
  handles = 100000;
  table = 1000000;
  idle = idle_line.Trap;
  component = record {
    instances = (record {
      exports =
          (record { kind = kind.Sync; params = 1; start = (op.Task (task_op.Ret (operand.Number 1)) ∷ []); react = [] } ∷ []);
      slots = (replicate 16 slot.Empty);
    } ∷
        []);
    hosts = [];
  };
  names = [];
  main = (main_op.Start (record { instance = 0; export = 0 }) ((operand.Number 7) ∷ []) ∷ main_op.Finish 1 0 ∷
      main_op.Answer (operand.Register 0) ∷ []);
  aborters = [];
}

abbrev pub return_in_a_sync_export_traps_labels : List Label
return_in_a_sync_export_traps_labels = label.Main (main_label.Start 1 1) ∷ label.Loop loop_label.MainPends ∷ label.Take (take.Thread mark.High 1) ∷
    label.Loop (loop_label.Trap trap.TaskReturnInvalid 1) ∷ []

abbrev pub return_in_a_sync_export_traps_run : ScenarioDef × List Label
return_in_a_sync_export_traps_run = (return_in_a_sync_export_traps, return_in_a_sync_export_traps_labels)

-- a: f
abbrev pub sync_export_answers_its_first_register : ScenarioDef
sync_export_answers_its_first_register = record {
  version = version.One;
  handles = 100000;
  table = 1000000;
  idle = idle_line.Trap;
  component = record {
    instances = (record {
      exports = (record { kind = kind.Sync; params = 1; start = (op.Data (data_op.Add 0 (operand.Number 1)) ∷ []); react = [] } ∷ []);
      slots =
          (replicate 16 slot.Empty);
    } ∷ []);
    hosts = [];
  };
  names = [];
  main = (main_op.Start (record { instance = 0; export = 0 }) ((operand.Number 7) ∷ []) ∷
      main_op.Finish 1 0 ∷ main_op.Answer (operand.Register 0) ∷ []);
  aborters = [];
}

abbrev pub sync_export_answers_its_first_register_labels : List Label
sync_export_answers_its_first_register_labels = label.Main (main_label.Start 1 1) ∷ label.Loop loop_label.MainPends ∷ label.Take (take.Thread mark.High 1) ∷
    label.Data (data_label.Add 1 8) ∷ label.Task (task_label.Exit 1) ∷ label.Main (main_label.Finish 1 8) ∷ label.Main (main_label.Answer 8) ∷ []

abbrev pub sync_export_answers_its_first_register_run : ScenarioDef × List Label
sync_export_answers_its_first_register_run = (sync_export_answers_its_first_register, sync_export_answers_its_first_register_labels)

-- a: g, f
abbrev pub sync_wait_promotes_a_yield_then_deadlock_nine : ScenarioDef
sync_wait_promotes_a_yield_then_deadlock_nine = record {
  version = version.One;
  handles = 100000;
  table = 1000000;
  idle = idle_line.Trap;
  component = record {
    instances =
        (record {
          exports = (record {
            kind = kind.Callback;
            params = 0;
            start = (op.Set (set_op.New 3) ∷ op.Task task_op.CbYield ∷ []);
            react = (op.Task (task_op.CbWait (operand.Register 3)) ∷
                []);
          } ∷ record { kind = kind.Sync; params = 0; start = (op.Set (set_op.New 3) ∷ op.Set (set_op.Wait 4 (operand.Register 3)) ∷ []); react = [] } ∷
              []);
          slots = (replicate 16 slot.Empty);
        } ∷ []);
    hosts = [];
  };
  names = [];
  main = (main_op.Start (record { instance = 0; export = 0 }) [] ∷
      main_op.Start (record { instance = 0; export = 1 }) [] ∷ main_op.Finish 1 0 ∷ main_op.Answer (operand.Register 0) ∷ []);
  aborters = [];
}

abbrev pub sync_wait_promotes_a_yield_then_deadlock_nine_labels : List Label
sync_wait_promotes_a_yield_then_deadlock_nine_labels = label.Main (main_label.Start 1 1) ∷ label.Main (main_label.Start 2 2) ∷ label.Loop loop_label.MainPends ∷
    label.Take (take.Thread mark.High 1) ∷ label.Set (set_label.New 1 1) ∷ label.Task (task_label.CbYield 1) ∷ label.Loop loop_label.MainPends ∷
    label.Take (take.Thread mark.High 2) ∷ label.Set (set_label.New 2 2) ∷ label.Thread (thread_label.Pauses 2) ∷ label.Loop loop_label.MainPends ∷
    label.Take (take.Event mark.Switch given.Nothing 1) ∷ label.Task (task_label.CbWait 1) ∷ label.Loop loop_label.MainPends ∷ label.Loop (loop_label.Deadlock trap.CannotBlockSyncTask) ∷
    []

abbrev pub sync_wait_promotes_a_yield_then_deadlock_nine_run : ScenarioDef × List Label
sync_wait_promotes_a_yield_then_deadlock_nine_run =
    (sync_wait_promotes_a_yield_then_deadlock_nine, sync_wait_promotes_a_yield_then_deadlock_nine_labels)

-- a: g, f
abbrev pub sync_wait_promotes_a_yield_whose_exit_then_traps : ScenarioDef
sync_wait_promotes_a_yield_whose_exit_then_traps = record {
  version = version.One;
  handles = 100000;
  table = 1000000;
  idle = idle_line.Trap;
  component = record {
    instances =
        (record {
          exports = (record {
            kind = kind.Callback;
            params = 0;
            start = (op.Task task_op.CbYield ∷ []);
            react = (op.Task (task_op.Ret (operand.Number 0)) ∷
                []);
          } ∷ record { kind = kind.Sync; params = 0; start = (op.Set (set_op.New 3) ∷ op.Set (set_op.Wait 4 (operand.Register 3)) ∷ []); react = [] } ∷
              []);
          slots = (replicate 16 slot.Empty);
        } ∷ []);
    hosts = [];
  };
  names = [];
  main = (main_op.Start (record { instance = 0; export = 0 }) [] ∷
      main_op.Start (record { instance = 0; export = 1 }) [] ∷ main_op.Finish 1 0 ∷ main_op.Answer (operand.Register 0) ∷ []);
  aborters = [];
}

abbrev pub sync_wait_promotes_a_yield_whose_exit_then_traps_labels : List Label
sync_wait_promotes_a_yield_whose_exit_then_traps_labels = label.Main (main_label.Start 1 1) ∷ label.Main (main_label.Start 2 2) ∷ label.Loop loop_label.MainPends ∷
    label.Take (take.Thread mark.High 1) ∷ label.Task (task_label.CbYield 1) ∷ label.Loop loop_label.MainPends ∷ label.Take (take.Thread mark.High 2) ∷
    label.Set (set_label.New 1 2) ∷ label.Thread (thread_label.Pauses 2) ∷ label.Loop loop_label.MainPends ∷ label.Take (take.Event mark.Switch given.Nothing 1) ∷
    label.Task (task_label.Ret 1 0) ∷ label.Loop (loop_label.Trap trap.CannotBlockSyncTask 1) ∷ []

abbrev pub sync_wait_promotes_a_yield_whose_exit_then_traps_run : ScenarioDef × List Label
sync_wait_promotes_a_yield_whose_exit_then_traps_run =
    (sync_wait_promotes_a_yield_whose_exit_then_traps, sync_wait_promotes_a_yield_whose_exit_then_traps_labels)

-- a: g, f
abbrev pub wait_in_sync_export_with_nothing_to_promote_traps : ScenarioDef
wait_in_sync_export_with_nothing_to_promote_traps = record {
  version = version.One;
  handles = 100000;
  table = 1000000;
  idle = idle_line.Trap;
  component = record {
    instances =
        (record {
          exports = (record {
            kind = kind.Callback;
            params = 0;
            start = (op.Task task_op.CbYield ∷ []);
            react = (op.Task (task_op.Ret (operand.Number 0)) ∷
                []);
          } ∷ record { kind = kind.Sync; params = 0; start = (op.Set (set_op.New 3) ∷ op.Set (set_op.Wait 4 (operand.Register 3)) ∷ []); react = [] } ∷
              []);
          slots = (replicate 16 slot.Empty);
        } ∷ []);
    hosts = [];
  };
  names = [];
  main = (main_op.Start (record { instance = 0; export = 1 }) [] ∷
      main_op.Finish 1 0 ∷ main_op.Answer (operand.Register 0) ∷ []);
  aborters = [];
}

abbrev pub wait_in_sync_export_with_nothing_to_promote_traps_labels : List Label
wait_in_sync_export_with_nothing_to_promote_traps_labels = label.Main (main_label.Start 1 1) ∷ label.Loop loop_label.MainPends ∷ label.Take (take.Thread mark.High 1) ∷
    label.Set (set_label.New 1 1) ∷ label.Loop (loop_label.Trap trap.CannotBlockSyncTask 1) ∷ []

abbrev pub wait_in_sync_export_with_nothing_to_promote_traps_run : ScenarioDef × List Label
wait_in_sync_export_with_nothing_to_promote_traps_run =
    (wait_in_sync_export_with_nothing_to_promote_traps, wait_in_sync_export_with_nothing_to_promote_traps_labels)

-- a: f
abbrev pub wait_on_empty_set_deadlocks : ScenarioDef
wait_on_empty_set_deadlocks = record {
  version = version.One;
  handles = 100000;
  table = 1000000;
  idle = idle_line.Trap;
  component = record {
    instances = (record {
      exports =
          (record {
            kind = kind.Callback;
            params = 0;
            start = (op.Set (set_op.New 3) ∷ op.Set (set_op.Wait 4 (operand.Register 3)) ∷ op.Task (task_op.Ret (operand.Number 0)) ∷
                []);
            react = [];
          } ∷ []);
      slots = (replicate 16 slot.Empty);
    } ∷ []);
    hosts = [];
  };
  names = [];
  main = (main_op.Start (record {
    instance = 0;
    export =
        0;
  }) [] ∷ main_op.Finish 1 0 ∷ main_op.Answer (operand.Register 0) ∷ []);
  aborters = [];
}

abbrev pub wait_on_empty_set_deadlocks_labels : List Label
wait_on_empty_set_deadlocks_labels = label.Main (main_label.Start 1 1) ∷ label.Loop loop_label.MainPends ∷ label.Take (take.Thread mark.High 1) ∷
    label.Set (set_label.New 1 1) ∷ label.Thread (thread_label.Pauses 1) ∷ label.Loop loop_label.MainPends ∷ label.Loop (loop_label.Deadlock trap.AsyncDeadlock) ∷
    []

abbrev pub wait_on_empty_set_deadlocks_run : ScenarioDef × List Label
wait_on_empty_set_deadlocks_run = (wait_on_empty_set_deadlocks, wait_on_empty_set_deadlocks_labels)

-- a: f
abbrev pub wait_on_empty_set_is_idle_under_idle_wait : ScenarioDef
wait_on_empty_set_is_idle_under_idle_wait = record {
  version = version.One;
  handles = 100000;
  table = 1000000;
  idle = idle_line.Wait;
  component = record {
    instances =
        (record {
          exports = (record {
            kind = kind.Callback;
            params = 0;
            start = (op.Set (set_op.New 3) ∷ op.Set (set_op.Wait 4 (operand.Register 3)) ∷
                op.Task (task_op.Ret (operand.Number 0)) ∷ []);
            react = [];
          } ∷ []);
          slots = (replicate 16 slot.Empty);
        } ∷ []);
    hosts = [];
  };
  names = [];
  main =
      (main_op.Start (record { instance = 0; export = 0 }) [] ∷ main_op.Finish 1 0 ∷ main_op.Answer (operand.Register 0) ∷ []);
  aborters = [];
}

abbrev pub wait_on_empty_set_is_idle_under_idle_wait_labels : List Label
wait_on_empty_set_is_idle_under_idle_wait_labels = label.Main (main_label.Start 1 1) ∷ label.Loop loop_label.MainPends ∷ label.Take (take.Thread mark.High 1) ∷
    label.Set (set_label.New 1 1) ∷ label.Thread (thread_label.Pauses 1) ∷ label.Loop loop_label.MainPends ∷ []

abbrev pub wait_on_empty_set_is_idle_under_idle_wait_run : ScenarioDef × List Label
wait_on_empty_set_is_idle_under_idle_wait_run =
    (wait_on_empty_set_is_idle_under_idle_wait, wait_on_empty_set_is_idle_under_idle_wait_labels)
