-- Scenarios, and the labels of their runs.
use Rattle.std.specs.Prelude.{List, Some, [], replicate, ◌∷◌}
use Rattle.machine_data.specs.declared.label.Label.{Label}
use Rattle.machine_data.specs.declared.scenario.Version.TheVariants as version
use Rattle.machine_data.specs.declared.scenario.ScenarioDef.{ScenarioDef}
use Rattle.machine_data.specs.declared.component.ExportKind.TheVariants as kind
use Rattle.machine_data.specs.declared.component.Slot.TheVariants as slot
use Rattle.machine_data.specs.declared.label.CallLabel.TheVariants as call_label
use Rattle.machine_data.specs.declared.label.DataLabel.TheVariants as data_label
use Rattle.machine_data.specs.declared.label.Label.TheVariants as label
use Rattle.machine_data.specs.declared.label.LoopLabel.TheVariants as loop_label
use Rattle.machine_data.specs.declared.label.MainLabel.TheVariants as main_label
use Rattle.machine_data.specs.declared.label.SetLabel.TheVariants as set_label
use Rattle.machine_data.specs.declared.label.TakeLabel.TheVariants as take
use Rattle.machine_data.specs.declared.label.TaskLabel.TheVariants as task_label
use Rattle.machine_data.specs.declared.label.ThreadLabel.TheVariants as thread_label
use Rattle.machine_data.specs.declared.op.CallOp.TheVariants as call_op
use Rattle.machine_data.specs.declared.op.DataOp.TheVariants as data_op
use Rattle.machine_data.specs.declared.op.Op.TheVariants as op
use Rattle.machine_data.specs.declared.op.Operand.TheVariants as operand
use Rattle.machine_data.specs.declared.op.SetOp.TheVariants as set_op
use Rattle.machine_data.specs.declared.op.TaskOp.TheVariants as task_op
use Rattle.machine_data.specs.declared.op.ThreadOp.TheVariants as thread_op
use Rattle.machine_data.specs.declared.scenario.IdleLine.TheVariants as idle_line
use Rattle.machine_data.specs.declared.scenario.MainOpDef.TheVariants as main_op
use Rattle.machine_data.specs.declared.trap.Trap.TheVariants as trap
use Rattle.machine_data.specs.declared.statuses.Given.TheVariants as given
use Rattle.machine_data.specs.declared.statuses.Mark.TheVariants as mark
use Rattle.machine_data.specs.declared.statuses.Status.TheVariants as status
use Rattle.machine_data.specs.declared.component.HostDef.TheVariants as host_def

-- a: s, f, y; b: c, d
abbrev pub cancel_of_a_yield_that_stands_at_switch : ScenarioDef
cancel_of_a_yield_that_stands_at_switch = record {
  version = version.One;
  handles = 100000;
  table = 1000000;
  idle = idle_line.Trap;
  component = record {
    instances = (record {
      exports = (record { kind = kind.Sync; params = 0; start = (op.Set (set_op.New 3) ∷ op.Set (set_op.Wait 4 (operand.Register 3)) ∷ []); react = [] } ∷
          record { kind = kind.Blocking; params = 0; start = []; react = [] } ∷ record {
            kind = kind.Callback;
            params = 0;
            start = (op.Task task_op.CbYield ∷
                []);
            react = (op.Data (data_op.SkipEq (operand.Register 0) (operand.Number 6) 1) ∷ op.Task task_op.CbYield ∷ op.Task task_op.TaskCancel ∷ []);
          } ∷
          []);
      slots = (replicate 16 slot.Empty);
    } ∷ record {
      exports = (record {
        kind = kind.Stackful;
        params = 0;
        start = (op.Call (call_op.Call 3 7 (record {
          instance = 0;
          export = 2;
        }) []) ∷ op.Data (data_op.Handle 5 (operand.Register 3)) ∷ op.Data (data_op.Store 0 (operand.Register 5)) ∷ op.Task (task_op.Ret (operand.Number 0)) ∷
            []);
        react = [];
      } ∷ record {
        kind = kind.Stackful;
        params = 0;
        start = (op.Data (data_op.Load 5 0) ∷ op.Call (call_op.CallSync 6 (record {
          instance = 0;
          export = 1;
        }) []) ∷ op.Call (call_op.Cancel 8 (operand.Register 5)) ∷ op.Task (task_op.Ret (operand.Register 8)) ∷ []);
        react = [];
      } ∷
          []);
      slots = (replicate 16 slot.Empty);
    } ∷ []);
    hosts = [];
  };
  names = [];
  main = (main_op.Start (record { instance = 1; export = 0 }) [] ∷
      main_op.Start (record { instance = 0; export = 0 }) [] ∷ main_op.Start (record { instance = 0; export = 2 }) [] ∷ main_op.Start (record {
        instance =
            1;
        export = 1;
      }) [] ∷ main_op.Finish 4 0 ∷ main_op.Answer (operand.Register 0) ∷ []);
  aborters = [];
}

abbrev pub cancel_of_a_yield_that_stands_at_switch_labels : List Label
cancel_of_a_yield_that_stands_at_switch_labels = label.Main (main_label.Start 1 1) ∷ label.Main (main_label.Start 2 2) ∷ label.Main (main_label.Start 3 3) ∷
    label.Main (main_label.Start 4 4) ∷ label.Loop loop_label.MainPends ∷ label.Take (take.Thread mark.High 1) ∷ label.Call (call_label.Calls 1 5) ∷
    label.Loop loop_label.MainPends ∷ label.Take (take.Thread mark.Switch 5) ∷ label.Task (task_label.CbYield 5) ∷ label.Loop loop_label.MainPends ∷
    label.Take (take.Thread mark.Switch 1) ∷ label.Call (call_label.Call 17 1) ∷ label.Data (data_label.Handle 1 1) ∷ label.Data (data_label.Store 1 1) ∷
    label.Task (task_label.Ret 1 0) ∷ label.Task (task_label.Exit 1) ∷ label.Loop loop_label.MainPends ∷ label.Take (take.Thread mark.High 2) ∷
    label.Set (set_label.New 1 2) ∷ label.Thread (thread_label.Pauses 2) ∷ label.Loop loop_label.MainPends ∷ label.Take (take.Thread mark.Switch 3) ∷
    label.Task (task_label.CbYield 3) ∷ label.Loop loop_label.MainPends ∷ label.Take (take.Thread mark.High 4) ∷ label.Data (data_label.Load 4 1) ∷
    label.Call (call_label.Enters 4 6) ∷ label.Task (task_label.Exit 6) ∷ label.Call (call_label.CallSync 4 0) ∷ label.Thread (thread_label.Pauses 4) ∷
    label.Loop loop_label.MainPends ∷ label.Take (take.Event mark.Switch given.Cancelled 5) ∷ label.Data (data_label.SkipEq 5) ∷ label.Task (task_label.TaskCancel 5) ∷
    label.Task (task_label.Exit 5) ∷ label.Loop loop_label.MainPends ∷ label.Take (take.Thread mark.Switch 4) ∷ label.Call (call_label.Cancel 4 4) ∷
    label.Task (task_label.Ret 4 4) ∷ label.Task (task_label.Exit 4) ∷ label.Main (main_label.Finish 4 4) ∷ label.Main (main_label.Answer 4) ∷ []

abbrev pub cancel_of_a_yield_that_stands_at_switch_run : ScenarioDef × List Label
cancel_of_a_yield_that_stands_at_switch_run = (cancel_of_a_yield_that_stands_at_switch, cancel_of_a_yield_that_stands_at_switch_labels)

-- a: s, f, y; b: c, d
abbrev pub cancel_of_a_yield_that_stands_at_high : ScenarioDef
cancel_of_a_yield_that_stands_at_high = record {
  version = version.One;
  handles = 100000;
  table = 1000000;
  idle = idle_line.Trap;
  component = record {
    instances = (record {
      exports = (record { kind = kind.Sync; params = 0; start = (op.Set (set_op.New 3) ∷ op.Set (set_op.Wait 4 (operand.Register 3)) ∷ []); react = [] } ∷
          record { kind = kind.Blocking; params = 0; start = []; react = [] } ∷ record {
            kind = kind.Callback;
            params = 0;
            start = (op.Task task_op.CbYield ∷
                []);
            react = (op.Data (data_op.SkipEq (operand.Register 0) (operand.Number 6) 1) ∷ op.Task task_op.CbYield ∷ op.Task task_op.TaskCancel ∷ []);
          } ∷
          []);
      slots = (replicate 16 slot.Empty);
    } ∷ record {
      exports = (record {
        kind = kind.Stackful;
        params = 0;
        start = (op.Call (call_op.Call 3 7 (record {
          instance = 0;
          export = 2;
        }) []) ∷ op.Data (data_op.Handle 5 (operand.Register 3)) ∷ op.Data (data_op.Store 0 (operand.Register 5)) ∷ op.Task (task_op.Ret (operand.Number 0)) ∷
            []);
        react = [];
      } ∷ record {
        kind = kind.Stackful;
        params = 0;
        start = (op.Data (data_op.Load 5 0) ∷ op.Call (call_op.CallSync 6 (record {
          instance = 0;
          export = 1;
        }) []) ∷ op.Call (call_op.Call 9 10 (record { instance = 0; export = 2 }) []) ∷ op.Call (call_op.Cancel 8 (operand.Register 5)) ∷
            op.Task (task_op.Ret (operand.Register 8)) ∷ []);
        react = [];
      } ∷ []);
      slots = (replicate 16 slot.Empty);
    } ∷ []);
    hosts = [];
  };
  names = [];
  main =
      (main_op.Start (record { instance = 1; export = 0 }) [] ∷ main_op.Start (record { instance = 0; export = 0 }) [] ∷ main_op.Start (record {
        instance = 0;
        export = 2;
      }) [] ∷ main_op.Start (record { instance = 1; export = 1 }) [] ∷ main_op.Finish 4 0 ∷ main_op.Answer (operand.Register 0) ∷
      []);
  aborters = [];
}

abbrev pub cancel_of_a_yield_that_stands_at_high_labels : List Label
cancel_of_a_yield_that_stands_at_high_labels = label.Main (main_label.Start 1 1) ∷ label.Main (main_label.Start 2 2) ∷ label.Main (main_label.Start 3 3) ∷
    label.Main (main_label.Start 4 4) ∷ label.Loop loop_label.MainPends ∷ label.Take (take.Thread mark.High 1) ∷ label.Call (call_label.Calls 1 5) ∷
    label.Loop loop_label.MainPends ∷ label.Take (take.Thread mark.Switch 5) ∷ label.Task (task_label.CbYield 5) ∷ label.Loop loop_label.MainPends ∷
    label.Take (take.Thread mark.Switch 1) ∷ label.Call (call_label.Call 17 1) ∷ label.Data (data_label.Handle 1 1) ∷ label.Data (data_label.Store 1 1) ∷
    label.Task (task_label.Ret 1 0) ∷ label.Task (task_label.Exit 1) ∷ label.Loop loop_label.MainPends ∷ label.Take (take.Thread mark.High 2) ∷
    label.Set (set_label.New 1 2) ∷ label.Thread (thread_label.Pauses 2) ∷ label.Loop loop_label.MainPends ∷ label.Take (take.Thread mark.Switch 3) ∷
    label.Task (task_label.CbYield 3) ∷ label.Loop loop_label.MainPends ∷ label.Take (take.Thread mark.High 4) ∷ label.Data (data_label.Load 4 1) ∷
    label.Call (call_label.Enters 4 6) ∷ label.Task (task_label.Exit 6) ∷ label.Call (call_label.CallSync 4 0) ∷ label.Call (call_label.Calls 4 7) ∷
    label.Loop loop_label.MainPends ∷ label.Take (take.Thread mark.Switch 7) ∷ label.Task (task_label.CbYield 7) ∷ label.Loop loop_label.MainPends ∷
    label.Take (take.Thread mark.Switch 4) ∷ label.Call (call_label.Call 33 4) ∷ label.Thread (thread_label.Pauses 4) ∷ label.Loop loop_label.MainPends ∷
    label.Take (take.Event mark.Switch given.Cancelled 5) ∷ label.Data (data_label.SkipEq 5) ∷ label.Task (task_label.TaskCancel 5) ∷ label.Task (task_label.Exit 5) ∷
    label.Loop loop_label.MainPends ∷ label.Take (take.Thread mark.Switch 4) ∷ label.Call (call_label.Cancel 4 4) ∷ label.Task (task_label.Ret 4 4) ∷
    label.Task (task_label.Exit 4) ∷ label.Main (main_label.Finish 4 4) ∷ label.Main (main_label.Answer 4) ∷ []

abbrev pub cancel_of_a_yield_that_stands_at_high_run : ScenarioDef × List Label
cancel_of_a_yield_that_stands_at_high_run = (cancel_of_a_yield_that_stands_at_high, cancel_of_a_yield_that_stands_at_high_labels)

-- a: f
abbrev pub cancel_of_a_host_call_whose_entry_was_not_taken_leaves_its_value : ScenarioDef
cancel_of_a_host_call_whose_entry_was_not_taken_leaves_its_value = record {
  version = version.One;
  handles = 100000;
  table = 1000000;
  idle = idle_line.Trap;
  component =
      record {
        instances = (record {
          exports = (record {
            kind = kind.Stackful;
            params = 0;
            start = (op.Set (set_op.New 4) ∷ op.Call (call_op.CallHost 3 7 0) ∷
                op.Data (data_op.Handle 5 (operand.Register 3)) ∷ op.Set (set_op.Join (operand.Register 5) (operand.Register 4)) ∷ op.Call (call_op.CallHost 10 11 1) ∷
                op.Data (data_op.Handle 12 (operand.Register 10)) ∷ op.Set (set_op.Wait 0 (operand.Register 4)) ∷ op.Call (call_op.Cancel 8 (operand.Register 12)) ∷
                op.Set (set_op.Join (operand.Register 12) (operand.Register 4)) ∷ op.Set (set_op.Wait 0 (operand.Register 4)) ∷ op.Task (task_op.Ret (operand.Register 11)) ∷
                []);
            react = [];
          } ∷ []);
          slots = (replicate 16 slot.Empty);
        } ∷ []);
        hosts = (host_def.Settled (Some 1) (Some 5) ∷ host_def.Settled (Some 2) (Some 6) ∷ []);
      };
  names = [];
  main = (main_op.Start (record { instance = 0; export = 0 }) [] ∷ main_op.Finish 1 0 ∷
      main_op.Answer (operand.Register 0) ∷ []);
  aborters = [];
}

abbrev pub cancel_of_a_host_call_whose_entry_was_not_taken_leaves_its_value_labels : List Label
cancel_of_a_host_call_whose_entry_was_not_taken_leaves_its_value_labels = label.Main (main_label.Start 1 1) ∷ label.Loop loop_label.MainPends ∷
    label.Take (take.Thread mark.High 1) ∷ label.Set (set_label.New 1 1) ∷ label.Call (call_label.CallPolls 33 1 1) ∷ label.Data (data_label.Handle 1 2) ∷
    label.Set (set_label.Join 1) ∷ label.Call (call_label.CallPolls 49 1 2) ∷ label.Data (data_label.Handle 1 3) ∷ label.Thread (thread_label.Pauses 1) ∷
    label.Loop loop_label.MainPends ∷ label.Take (take.Push mark.High 1) ∷ label.Loop loop_label.MainPends ∷ label.Loop (loop_label.FutureEnds 1) ∷
    label.Take (take.Push mark.High 2) ∷ label.Loop loop_label.MainPends ∷ label.Loop (loop_label.FuturePends 2) ∷ label.Take (take.HostWakes mark.High 1 1) ∷
    label.Loop loop_label.MainPends ∷ label.Loop (loop_label.FutureEnds 2) ∷ label.Take (take.Thread mark.High 1) ∷ label.Set (set_label.Wait (given.Subtask status.Returned 2) 1) ∷
    label.Call (call_label.Cancel 4294967295 1) ∷ label.Set (set_label.Join 1) ∷ label.Thread (thread_label.Pauses 1) ∷ label.Loop loop_label.MainPends ∷
    label.Take (take.HostWakes mark.High 2 1) ∷ label.Loop loop_label.MainPends ∷ label.Take (take.Thread mark.High 1) ∷ label.Set (set_label.Wait (given.Subtask status.Returned 3) 1) ∷
    label.Task (task_label.Ret 1 6) ∷ label.Task (task_label.Exit 1) ∷ label.Main (main_label.Finish 1 6) ∷ label.Main (main_label.Answer 6) ∷ []

abbrev pub cancel_of_a_host_call_whose_entry_was_not_taken_leaves_its_value_run : ScenarioDef × List Label
cancel_of_a_host_call_whose_entry_was_not_taken_leaves_its_value_run = (
  cancel_of_a_host_call_whose_entry_was_not_taken_leaves_its_value,
  cancel_of_a_host_call_whose_entry_was_not_taken_leaves_its_value_labels,
)

-- a: h; b: f
abbrev pub cancel_after_the_end_was_taken_traps : ScenarioDef
cancel_after_the_end_was_taken_traps = record {
  version = version.One;
  handles = 100000;
  table = 1000000;
  idle = idle_line.Trap;
  component = record {
    instances = (record {
      exports = (record {
        kind = kind.Callback;
        params = 0;
        start = (op.Task task_op.CbYield ∷ []);
        react = (op.Task (task_op.Ret (operand.Number 1)) ∷
            []);
      } ∷ []);
      slots = (replicate 16 slot.Empty);
    } ∷ record {
      exports = (record {
        kind = kind.Stackful;
        params = 0;
        start = (op.Call (call_op.Call 3 7 (record {
          instance = 0;
          export = 0;
        }) []) ∷ op.Data (data_op.Handle 5 (operand.Register 3)) ∷ op.Set (set_op.New 4) ∷ op.Set (set_op.Join (operand.Register 5) (operand.Register 4)) ∷
            op.Set (set_op.Wait 8 (operand.Register 4)) ∷ op.Set (set_op.Join (operand.Register 5) (operand.Number 0)) ∷ op.Call (call_op.Cancel 8 (operand.Register 5)) ∷
            []);
        react = [];
      } ∷ []);
      slots = (replicate 16 slot.Empty);
    } ∷ []);
    hosts = [];
  };
  names = [];
  main = (main_op.Start (record {
    instance = 1;
    export =
        0;
  }) [] ∷ main_op.Finish 1 0 ∷ main_op.Answer (operand.Register 0) ∷ []);
  aborters = [];
}

abbrev pub cancel_after_the_end_was_taken_traps_labels : List Label
cancel_after_the_end_was_taken_traps_labels = label.Main (main_label.Start 1 1) ∷ label.Loop loop_label.MainPends ∷ label.Take (take.Thread mark.High 1) ∷
    label.Call (call_label.Calls 1 2) ∷ label.Loop loop_label.MainPends ∷ label.Take (take.Thread mark.Switch 2) ∷ label.Task (task_label.CbYield 2) ∷
    label.Loop loop_label.MainPends ∷ label.Take (take.Thread mark.Switch 1) ∷ label.Call (call_label.Call 17 1) ∷ label.Data (data_label.Handle 1 1) ∷
    label.Set (set_label.New 2 1) ∷ label.Set (set_label.Join 1) ∷ label.Thread (thread_label.Pauses 1) ∷ label.Loop loop_label.MainPends ∷ label.Take (take.Event mark.Low given.Nothing 2) ∷
    label.RetWakes 2 1 1 ∷ label.Task (task_label.Exit 2) ∷ label.Loop loop_label.MainPends ∷ label.Take (take.Thread mark.High 1) ∷ label.Set (set_label.Wait (given.Subtask status.Returned 1) 1) ∷
    label.Set (set_label.Join 1) ∷ label.Loop (loop_label.Trap trap.SubtaskCancelAfterTerminal 1) ∷ []

abbrev pub cancel_after_the_end_was_taken_traps_run : ScenarioDef × List Label
cancel_after_the_end_was_taken_traps_run = (cancel_after_the_end_was_taken_traps, cancel_after_the_end_was_taken_traps_labels)

-- a: h; b: f
abbrev pub drop_before_the_end_was_taken_traps : ScenarioDef
drop_before_the_end_was_taken_traps = record {
  version = version.One;
  handles = 100000;
  table = 1000000;
  idle = idle_line.Trap;
  component = record {
    instances = (record {
      exports = (record {
        kind = kind.Callback;
        params = 0;
        start = (op.Task task_op.CbYield ∷ []);
        react = (op.Task (task_op.Ret (operand.Number 1)) ∷
            []);
      } ∷ []);
      slots = (replicate 16 slot.Empty);
    } ∷ record {
      exports = (record {
        kind = kind.Stackful;
        params = 0;
        start = (op.Call (call_op.Call 3 7 (record {
          instance = 0;
          export = 0;
        }) []) ∷ op.Data (data_op.Handle 5 (operand.Register 3)) ∷ op.Thread thread_op.Yield ∷ op.Thread thread_op.Yield ∷
            op.Call (call_op.Drop (operand.Register 5)) ∷ []);
        react = [];
      } ∷ []);
      slots = (replicate 16 slot.Empty);
    } ∷ []);
    hosts = [];
  };
  names = [];
  main =
      (main_op.Start (record { instance = 1; export = 0 }) [] ∷ main_op.Finish 1 0 ∷ main_op.Answer (operand.Register 0) ∷ []);
  aborters = [];
}

abbrev pub drop_before_the_end_was_taken_traps_labels : List Label
drop_before_the_end_was_taken_traps_labels = label.Main (main_label.Start 1 1) ∷ label.Loop loop_label.MainPends ∷ label.Take (take.Thread mark.High 1) ∷
    label.Call (call_label.Calls 1 2) ∷ label.Loop loop_label.MainPends ∷ label.Take (take.Thread mark.Switch 2) ∷ label.Task (task_label.CbYield 2) ∷
    label.Loop loop_label.MainPends ∷ label.Take (take.Thread mark.Switch 1) ∷ label.Call (call_label.Call 17 1) ∷ label.Data (data_label.Handle 1 1) ∷
    label.Thread (thread_label.Pauses 1) ∷ label.Loop loop_label.MainPends ∷ label.Take (take.Event mark.Low given.Nothing 2) ∷ label.Task (task_label.Ret 2 1) ∷
    label.Task (task_label.Exit 2) ∷ label.Loop loop_label.MainPends ∷ label.Take (take.Thread mark.Low 1) ∷ label.Thread (thread_label.Yield 1) ∷
    label.Thread (thread_label.Pauses 1) ∷ label.Loop loop_label.MainPends ∷ label.Take (take.Thread mark.Low 1) ∷ label.Thread (thread_label.Yield 1) ∷
    label.Loop (loop_label.Trap trap.SubtaskDropNotResolved 1) ∷ []

abbrev pub drop_before_the_end_was_taken_traps_run : ScenarioDef × List Label
drop_before_the_end_was_taken_traps_run = (drop_before_the_end_was_taken_traps, drop_before_the_end_was_taken_traps_labels)

-- a: h; b: f
abbrev pub task_cancel_after_a_return_traps : ScenarioDef
task_cancel_after_a_return_traps = record {
  version = version.One;
  handles = 100000;
  table = 1000000;
  idle = idle_line.Trap;
  component = record {
    instances = (record {
      exports = (record {
        kind = kind.Callback;
        params = 0;
        start = (op.Set (set_op.New 3) ∷ op.Task (task_op.CbWait (operand.Register 3)) ∷ []);
        react =
            (op.Task (task_op.Ret (operand.Number 1)) ∷ op.Task task_op.TaskCancel ∷ []);
      } ∷ []);
      slots = (replicate 16 slot.Empty);
    } ∷ record {
      exports =
          (record {
            kind = kind.Stackful;
            params = 0;
            start = (op.Call (call_op.Call 3 7 (record { instance = 0; export = 0 }) []) ∷ op.Data (data_op.Handle 5 (operand.Register 3)) ∷
                op.Call (call_op.Cancel 8 (operand.Register 5)) ∷ []);
            react = [];
          } ∷ []);
      slots = (replicate 16 slot.Empty);
    } ∷ []);
    hosts = [];
  };
  names = [];
  main = (main_op.Start (record { instance = 1; export = 0 }) [] ∷ main_op.Finish 1 0 ∷ main_op.Answer (operand.Register 0) ∷ []);
  aborters = [];
}

abbrev pub task_cancel_after_a_return_traps_labels : List Label
task_cancel_after_a_return_traps_labels = label.Main (main_label.Start 1 1) ∷ label.Loop loop_label.MainPends ∷ label.Take (take.Thread mark.High 1) ∷
    label.Call (call_label.Calls 1 2) ∷ label.Loop loop_label.MainPends ∷ label.Take (take.Thread mark.Switch 2) ∷ label.Set (set_label.New 1 2) ∷
    label.Task (task_label.CbWait 2) ∷ label.Loop loop_label.MainPends ∷ label.Take (take.Thread mark.Switch 1) ∷ label.Call (call_label.Call 17 1) ∷
    label.Data (data_label.Handle 1 1) ∷ label.Thread (thread_label.Pauses 1) ∷ label.Loop loop_label.MainPends ∷ label.Take (take.Event mark.Switch given.Cancelled 2) ∷
    label.Task (task_label.Ret 2 1) ∷ label.Loop (loop_label.Trap trap.TaskCancelOrReturnTwice 2) ∷ []

abbrev pub task_cancel_after_a_return_traps_run : ScenarioDef × List Label
task_cancel_after_a_return_traps_run = (task_cancel_after_a_return_traps, task_cancel_after_a_return_traps_labels)

-- a: f
abbrev pub set_drop_with_a_waiter_traps : ScenarioDef
set_drop_with_a_waiter_traps = record {
  version = version.One;
  handles = 100000;
  table = 1000000;
  idle = idle_line.Trap;
  component = record {
    instances = (record {
      exports =
          (record {
            kind = kind.Stackful;
            params = 0;
            start = (op.Set (set_op.New 3) ∷ op.Thread (thread_op.New 9 0 (operand.Register 3)) ∷ op.Thread (thread_op.ResumeLater (operand.Register 9)) ∷
                op.Thread thread_op.Yield ∷ op.Set (set_op.Drop (operand.Register 3)) ∷ []);
            react = [];
          } ∷ []);
      slots = (slot.Script (op.Set (set_op.Wait 4 (operand.Register 0)) ∷
          []) ∷ slot.Empty ∷ slot.Empty ∷ slot.Empty ∷ slot.Empty ∷ slot.Empty ∷ slot.Empty ∷ slot.Empty ∷ slot.Empty ∷ slot.Empty ∷ slot.Empty ∷ slot.Empty ∷
          slot.Empty ∷ slot.Empty ∷ slot.Empty ∷ slot.Empty ∷ []);
    } ∷ []);
    hosts = [];
  };
  names = [];
  main = (main_op.Start (record {
    instance = 0;
    export =
        0;
  }) [] ∷ main_op.Finish 1 0 ∷ main_op.Answer (operand.Register 0) ∷ []);
  aborters = [];
}

abbrev pub set_drop_with_a_waiter_traps_labels : List Label
set_drop_with_a_waiter_traps_labels = label.Main (main_label.Start 1 1) ∷ label.Loop loop_label.MainPends ∷ label.Take (take.Thread mark.High 1) ∷
    label.Set (set_label.New 1 1) ∷ label.Thread (thread_label.New 2 1 2) ∷ label.Thread (thread_label.ResumeLater 1) ∷ label.Thread (thread_label.Pauses 1) ∷
    label.Loop loop_label.MainPends ∷ label.Take (take.Thread mark.Low 2) ∷ label.Thread (thread_label.Pauses 2) ∷ label.Loop loop_label.MainPends ∷
    label.Take (take.Thread mark.Low 1) ∷ label.Thread (thread_label.Yield 1) ∷ label.Loop (loop_label.Trap trap.WaitableSetDropHasWaiters 1) ∷ []

abbrev pub set_drop_with_a_waiter_traps_run : ScenarioDef × List Label
set_drop_with_a_waiter_traps_run = (set_drop_with_a_waiter_traps, set_drop_with_a_waiter_traps_labels)

-- b: shut, open, s, c; a: f
abbrev pub caller_is_woken_by_a_start_and_by_ends : ScenarioDef
caller_is_woken_by_a_start_and_by_ends = record {
  version = version.One;
  handles = 9;
  table = 90;
  idle = idle_line.Trap;
  component = record {
    instances = (record {
      exports =
          (record { kind = kind.Sync; params = 0; start = (op.Task task_op.BpInc ∷ []); react = [] } ∷ record {
            kind = kind.Sync;
            params = 0;
            start =
                (op.Task task_op.BpDec ∷ []);
            react = [];
          } ∷ record {
            kind = kind.Blocking;
            params = 0;
            start = (op.Thread thread_op.Yield ∷ op.Data (data_op.Set 0 (operand.Number 8)) ∷
                []);
            react = [];
          } ∷ record {
            kind = kind.Callback;
            params = 0;
            start = (op.Task task_op.CbYield ∷ []);
            react = (op.Data (data_op.SkipEq (operand.Register 0) (operand.Number 6) 2) ∷
                op.Task task_op.TaskCancel ∷ op.Task task_op.Exit ∷ op.Task task_op.CbYield ∷ []);
          } ∷ []);
      slots = (replicate 16 slot.Empty);
    } ∷ record {
      exports =
          (record {
            kind = kind.Stackful;
            params = 0;
            start = (op.Call (call_op.CallSync 9 (record { instance = 0; export = 0 }) []) ∷ op.Set (set_op.New 3) ∷
                op.Call (call_op.Call 4 8 (record { instance = 0; export = 2 }) []) ∷ op.Data (data_op.Handle 5 (operand.Register 4)) ∷ op.Set (set_op.Join (operand.Register 5) (operand.Register 3)) ∷
                op.Set (set_op.Wait 10 (operand.Register 3)) ∷ op.Set (set_op.Wait 10 (operand.Register 3)) ∷ op.Call (call_op.Drop (operand.Register 5)) ∷
                op.Call (call_op.Call 4 9 (record { instance = 0; export = 3 }) []) ∷ op.Data (data_op.Handle 6 (operand.Register 4)) ∷ op.Call (call_op.Cancel 7 (operand.Register 6)) ∷
                op.Set (set_op.Join (operand.Register 6) (operand.Register 3)) ∷ op.Set (set_op.Wait 10 (operand.Register 3)) ∷ op.Task (task_op.Ret (operand.Register 8)) ∷
                []);
            react = [];
          } ∷ []);
      slots = (replicate 16 slot.Empty);
    } ∷ []);
    hosts = [];
  };
  names = [];
  main = (main_op.Start (record {
    instance = 1;
    export =
        0;
  }) [] ∷ main_op.Start (record { instance = 0; export = 1 }) [] ∷ main_op.Finish 1 0 ∷ main_op.Answer (operand.Register 0) ∷ []);
  aborters = [];
}

abbrev pub caller_is_woken_by_a_start_and_by_ends_labels : List Label
caller_is_woken_by_a_start_and_by_ends_labels = label.Main (main_label.Start 1 1) ∷ label.Main (main_label.Start 2 2) ∷ label.Loop loop_label.MainPends ∷
    label.Take (take.Thread mark.High 1) ∷ label.Call (call_label.Enters 1 3) ∷ label.Task (task_label.BpInc 3) ∷ label.Task (task_label.Exit 3) ∷
    label.Call (call_label.CallSync 1 0) ∷ label.Set (set_label.New 1 1) ∷ label.Call (call_label.Calls 1 4) ∷ label.Loop loop_label.MainPends ∷
    label.Take (take.Held mark.Switch 4) ∷ label.Loop loop_label.MainPends ∷ label.Take (take.Thread mark.Switch 1) ∷ label.Call (call_label.Call 32 1) ∷
    label.Data (data_label.Handle 1 2) ∷ label.Set (set_label.Join 1) ∷ label.Thread (thread_label.Pauses 1) ∷ label.Loop loop_label.MainPends ∷
    label.Take (take.Thread mark.High 2) ∷ label.Task (task_label.BpDec 2) ∷ label.Task (task_label.Exit 2) ∷ label.Loop loop_label.MainPends ∷
    label.Take (take.ThreadWakes mark.High 4 1) ∷ label.Thread (thread_label.Pauses 4) ∷ label.Loop loop_label.MainPends ∷ label.Take (take.Thread mark.High 1) ∷
    label.Set (set_label.Wait (given.Subtask status.Started 2) 1) ∷ label.Thread (thread_label.Pauses 1) ∷ label.Loop loop_label.MainPends ∷
    label.Take (take.Thread mark.Low 4) ∷ label.Thread (thread_label.Yield 4) ∷ label.Data (data_label.Set 4 8) ∷ label.Task (task_label.ExitWakes 4 1) ∷
    label.Loop loop_label.MainPends ∷ label.Take (take.Thread mark.High 1) ∷ label.Set (set_label.Wait (given.Subtask status.Returned 2) 1) ∷
    label.Call (call_label.Drop 1) ∷ label.Call (call_label.Calls 1 5) ∷ label.Loop loop_label.MainPends ∷ label.Take (take.Thread mark.Switch 5) ∷
    label.Task (task_label.CbYield 5) ∷ label.Loop loop_label.MainPends ∷ label.Take (take.Thread mark.Switch 1) ∷ label.Call (call_label.Call 33 1) ∷
    label.Data (data_label.Handle 1 2) ∷ label.Thread (thread_label.Pauses 1) ∷ label.Loop loop_label.MainPends ∷ label.Take (take.Event mark.Switch given.Cancelled 5) ∷
    label.Data (data_label.SkipEq 5) ∷ label.Task (task_label.CbYield 5) ∷ label.Loop loop_label.MainPends ∷ label.Take (take.Thread mark.Switch 1) ∷
    label.Call (call_label.Cancel 4294967295 1) ∷ label.Set (set_label.Join 1) ∷ label.Thread (thread_label.Pauses 1) ∷ label.Loop loop_label.MainPends ∷
    label.Take (take.Event mark.Low given.Nothing 5) ∷ label.Data (data_label.SkipEq 5) ∷ label.Task (task_label.TaskCancelWakes 5 1) ∷ label.Task (task_label.Exit 5) ∷
    label.Loop loop_label.MainPends ∷ label.Take (take.Thread mark.High 1) ∷ label.Set (set_label.Wait (given.Subtask status.ReturnCancelled 2) 1) ∷
    label.Task (task_label.Ret 1 8) ∷ label.Task (task_label.Exit 1) ∷ label.Main (main_label.Finish 1 8) ∷ label.Main (main_label.Answer 8) ∷ []

abbrev pub caller_is_woken_by_a_start_and_by_ends_run : ScenarioDef × List Label
caller_is_woken_by_a_start_and_by_ends_run = (caller_is_woken_by_a_start_and_by_ends, caller_is_woken_by_a_start_and_by_ends_labels)
