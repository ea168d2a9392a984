-- Scenarios, and the labels of their runs.
use Rattle.std.specs.Prelude.{List, [], replicate, ◌∷◌}
use Rattle.machine_data.specs.declared.label.Label.{Label}
use Rattle.machine_data.specs.declared.scenario.Version.TheVariants as version
use Rattle.machine_data.specs.declared.scenario.ScenarioDef.{ScenarioDef}
use Rattle.machine_data.specs.declared.scenario.IdleLine.TheVariants as idle_line
use Rattle.machine_data.specs.declared.component.ExportKind.TheVariants as kind
use Rattle.machine_data.specs.declared.label.Label.TheVariants as label
use Rattle.machine_data.specs.declared.label.LoopLabel.TheVariants as loop_label
use Rattle.machine_data.specs.declared.label.MainLabel.TheVariants as main_label
use Rattle.machine_data.specs.declared.scenario.MainOpDef.TheVariants as main_op
use Rattle.machine_data.specs.declared.statuses.Mark.TheVariants as mark
use Rattle.machine_data.specs.declared.op.Op.TheVariants as op
use Rattle.machine_data.specs.declared.op.Operand.TheVariants as operand
use Rattle.machine_data.specs.declared.component.Slot.TheVariants as slot
use Rattle.machine_data.specs.declared.label.TakeLabel.TheVariants as take
use Rattle.machine_data.specs.declared.label.TaskLabel.TheVariants as task_label
use Rattle.machine_data.specs.declared.op.TaskOp.TheVariants as task_op
use Rattle.machine_data.specs.declared.trap.Trap.TheVariants as trap
use Rattle.machine_data.specs.declared.statuses.Given.TheVariants as given

-- a: f
abbrev pub callback_returns_its_parameter : ScenarioDef
callback_returns_its_parameter = record {
  version = version.One;
  handles = 100000;
  table = 1000000;
  idle = idle_line.Trap;
  component = record {
    instances = (record {
      exports =
          (record { kind = kind.Callback; params = 1; start = (op.Task (task_op.Ret (operand.Register 0)) ∷ op.Task task_op.Exit ∷ []); react = [] } ∷ []);
      slots = (replicate 16 slot.Empty);
    } ∷ []);
    hosts = [];
  };
  names = [];
  main = (main_op.Start (record { instance = 0; export = 0 }) ((operand.Number 7) ∷
      []) ∷ main_op.Finish 1 0 ∷ main_op.Answer (operand.Register 0) ∷ []);
  aborters = [];
}

abbrev pub callback_returns_its_parameter_labels : List Label
callback_returns_its_parameter_labels = label.Main (main_label.Start 1 1) ∷ label.Loop loop_label.MainPends ∷ label.Take (take.Thread mark.High 1) ∷
    label.Task (task_label.Ret 1 7) ∷ label.Task (task_label.Exit 1) ∷ label.Main (main_label.Finish 1 7) ∷ label.Main (main_label.Answer 7) ∷ []

abbrev pub callback_returns_its_parameter_run : ScenarioDef × List Label
callback_returns_its_parameter_run = (callback_returns_its_parameter, callback_returns_its_parameter_labels)

-- a: f
abbrev pub exit_without_return_traps : ScenarioDef
exit_without_return_traps = record {
  version = version.One;
  handles = 100000;
  table = 1000000;
  idle = idle_line.Trap;
  component = record {
    instances = (record {
      exports =
          (record { kind = kind.Callback; params = 1; start = (op.Task task_op.Exit ∷ []); react = [] } ∷ []);
      slots = (replicate 16 slot.Empty);
    } ∷ []);
    hosts = [];
  };
  names = [];
  main = (main_op.Start (record { instance = 0; export = 0 }) ((operand.Number 7) ∷ []) ∷ main_op.Finish 1 0 ∷
      main_op.Answer (operand.Register 0) ∷ []);
  aborters = [];
}

abbrev pub exit_without_return_traps_labels : List Label
exit_without_return_traps_labels = label.Main (main_label.Start 1 1) ∷ label.Loop loop_label.MainPends ∷ label.Take (take.Thread mark.High 1) ∷
    label.Loop (loop_label.Trap trap.NoAsyncResult 1) ∷ []

abbrev pub exit_without_return_traps_run : ScenarioDef × List Label
exit_without_return_traps_run = (exit_without_return_traps, exit_without_return_traps_labels)

-- a: f
abbrev pub run_stops_when_steps_are_used_up : ScenarioDef
run_stops_when_steps_are_used_up = record {
  version = version.One;
  handles = 100000;
  table = 1000000;
  idle = idle_line.Trap;
  component = record {
    instances = (record {
      exports = (record { kind = kind.Callback; params = 1; start = (op.Task (task_op.Ret (operand.Register 0)) ∷ op.Task task_op.Exit ∷ []); react = [] } ∷
          []);
      slots = (replicate 16 slot.Empty);
    } ∷ []);
    hosts = [];
  };
  names = [];
  main = (main_op.Start (record { instance = 0; export = 0 }) ((operand.Number 7) ∷
      []) ∷ main_op.Finish 1 0 ∷ main_op.Answer (operand.Register 0) ∷ []);
  aborters = [];
}

abbrev pub run_stops_when_steps_are_used_up_labels : List Label
run_stops_when_steps_are_used_up_labels = label.Main (main_label.Start 1 1) ∷ label.Loop loop_label.MainPends ∷ label.Take (take.Thread mark.High 1) ∷
    label.Task (task_label.Ret 1 7) ∷ label.Task (task_label.Exit 1) ∷ label.Main (main_label.Finish 1 7) ∷ []

abbrev pub run_stops_when_steps_are_used_up_run : ScenarioDef × List Label
run_stops_when_steps_are_used_up_run = (run_stops_when_steps_are_used_up, run_stops_when_steps_are_used_up_labels)

-- a: f
abbrev pub second_return_traps : ScenarioDef
second_return_traps = record {
  version = version.One;
  handles = 100000;
  table = 1000000;
  idle = idle_line.Trap;
  component = record {
    instances = (record {
      exports = (record {
        kind = kind.Callback;
        params = 1;
        start = (op.Task (task_op.Ret (operand.Register 0)) ∷ op.Task (task_op.Ret (operand.Register 0)) ∷ op.Task task_op.Exit ∷
            []);
        react = [];
      } ∷ []);
      slots = (replicate 16 slot.Empty);
    } ∷ []);
    hosts = [];
  };
  names = [];
  main = (main_op.Start (record {
    instance = 0;
    export =
        0;
  }) ((operand.Number 7) ∷ []) ∷ main_op.Finish 1 0 ∷ main_op.Answer (operand.Register 0) ∷ []);
  aborters = [];
}

abbrev pub second_return_traps_labels : List Label
second_return_traps_labels = label.Main (main_label.Start 1 1) ∷ label.Loop loop_label.MainPends ∷ label.Take (take.Thread mark.High 1) ∷ label.Task (task_label.Ret 1 7) ∷
    label.Loop (loop_label.Trap trap.TaskCancelOrReturnTwice 1) ∷ []

abbrev pub second_return_traps_run : ScenarioDef × List Label
second_return_traps_run = (second_return_traps, second_return_traps_labels)

-- a: f
abbrev pub return_of_the_wrong_type_traps : ScenarioDef
return_of_the_wrong_type_traps = record {
  version = version.One;
  handles = 100000;
  table = 1000000;
  idle = idle_line.Trap;
  component = record {
    instances = (record {
      exports =
          (record { kind = kind.Callback; params = 0; start = (op.Task (task_op.RetBad (operand.Number 1)) ∷ []); react = [] } ∷ []);
      slots = (replicate 16 slot.Empty);
    } ∷
        []);
    hosts = [];
  };
  names = [];
  main = (main_op.Start (record { instance = 0; export = 0 }) [] ∷ main_op.Finish 1 0 ∷ main_op.Answer (operand.Register 0) ∷
      []);
  aborters = [];
}

abbrev pub return_of_the_wrong_type_traps_labels : List Label
return_of_the_wrong_type_traps_labels = label.Main (main_label.Start 1 1) ∷ label.Loop loop_label.MainPends ∷ label.Take (take.Thread mark.High 1) ∷
    label.Loop (loop_label.Trap trap.TaskReturnInvalid 1) ∷ []

abbrev pub return_of_the_wrong_type_traps_run : ScenarioDef × List Label
return_of_the_wrong_type_traps_run = (return_of_the_wrong_type_traps, return_of_the_wrong_type_traps_labels)

-- a: f
abbrev pub return_of_the_wrong_type_after_an_end_traps : ScenarioDef
return_of_the_wrong_type_after_an_end_traps = record {
  version = version.One;
  handles = 100000;
  table = 1000000;
  idle = idle_line.Trap;
  component = record {
    instances =
        (record {
          exports = (record {
            kind = kind.Callback;
            params = 0;
            start = (op.Task (task_op.Ret (operand.Number 1)) ∷ op.Task (task_op.RetBad (operand.Number 1)) ∷
                []);
            react = [];
          } ∷ []);
          slots = (replicate 16 slot.Empty);
        } ∷ []);
    hosts = [];
  };
  names = [];
  main = (main_op.Start (record {
    instance = 0;
    export =
        0;
  }) [] ∷ main_op.Finish 1 0 ∷ main_op.Answer (operand.Register 0) ∷ []);
  aborters = [];
}

abbrev pub return_of_the_wrong_type_after_an_end_traps_labels : List Label
return_of_the_wrong_type_after_an_end_traps_labels = label.Main (main_label.Start 1 1) ∷ label.Loop loop_label.MainPends ∷ label.Take (take.Thread mark.High 1) ∷
    label.Task (task_label.Ret 1 1) ∷ label.Loop (loop_label.Trap trap.TaskCancelOrReturnTwice 1) ∷ []

abbrev pub return_of_the_wrong_type_after_an_end_traps_run : ScenarioDef × List Label
return_of_the_wrong_type_after_an_end_traps_run =
    (return_of_the_wrong_type_after_an_end_traps, return_of_the_wrong_type_after_an_end_traps_labels)

-- a: f
abbrev pub main_waits_until_an_instance_lets_calls_in : ScenarioDef
main_waits_until_an_instance_lets_calls_in = record {
  version = version.One;
  handles = 9;
  table = 90;
  idle = idle_line.Trap;
  component = record {
    instances = (record {
      exports = (record {
        kind = kind.Callback;
        params = 0;
        start = (op.Task task_op.BpInc ∷ op.Task (task_op.Ret (operand.Number 4)) ∷ op.Task task_op.CbYield ∷
            []);
        react = (op.Task task_op.BpDec ∷ op.Task task_op.Exit ∷ []);
      } ∷ []);
      slots = (replicate 16 slot.Empty);
    } ∷ []);
    hosts = [];
  };
  names = [];
  main = (main_op.Start (record { instance = 0; export = 0 }) [] ∷ main_op.Finish 1 0 ∷ main_op.Ready (record { instance = 0; export = 0 }) ∷
      main_op.Answer (operand.Register 0) ∷ []);
  aborters = [];
}

abbrev pub main_waits_until_an_instance_lets_calls_in_labels : List Label
main_waits_until_an_instance_lets_calls_in_labels = label.Main (main_label.Start 1 1) ∷ label.Loop loop_label.MainPends ∷ label.Take (take.Thread mark.High 1) ∷
    label.Task (task_label.BpInc 1) ∷ label.Task (task_label.Ret 1 4) ∷ label.Task (task_label.CbYield 1) ∷ label.Main (main_label.Finish 1 4) ∷
    label.Loop loop_label.MainPends ∷ label.Take (take.Event mark.Low given.Nothing 1) ∷ label.Task (task_label.BpDec 1) ∷ label.Task (task_label.Exit 1) ∷
    label.Main main_label.Ready ∷ label.Main (main_label.Answer 4) ∷ []

abbrev pub main_waits_until_an_instance_lets_calls_in_run : ScenarioDef × List Label
main_waits_until_an_instance_lets_calls_in_run =
    (main_waits_until_an_instance_lets_calls_in, main_waits_until_an_instance_lets_calls_in_labels)

-- a: shut, f, open
abbrev pub held_starts_are_released_in_either_order : ScenarioDef
held_starts_are_released_in_either_order = record {
  version = version.One;
  handles = 9;
  table = 90;
  idle = idle_line.Trap;
  component = record {
    instances = (record {
      exports =
          (record { kind = kind.Callback; params = 0; start = (op.Task task_op.BpInc ∷ op.Task (task_op.Ret (operand.Number 0)) ∷ []); react = [] } ∷ record {
            kind = kind.Callback;
            params = 0;
            start = (op.Task (task_op.Ret (operand.Number 1)) ∷ []);
            react = [];
          } ∷ record {
            kind = kind.Sync;
            params = 0;
            start = (op.Task task_op.BpDec ∷ []);
            react = [];
          } ∷ []);
      slots = (replicate 16 slot.Empty);
    } ∷ []);
    hosts = [];
  };
  names = [];
  main =
      (main_op.Start (record { instance = 0; export = 0 }) [] ∷ main_op.Finish 1 0 ∷ main_op.Start (record { instance = 0; export = 1 }) [] ∷
      main_op.Start (record { instance = 0; export = 1 }) [] ∷ main_op.Start (record { instance = 0; export = 2 }) [] ∷ main_op.Finish 3 1 ∷
      main_op.Finish 2 1 ∷ main_op.Answer (operand.Register 1) ∷ []);
  aborters = [];
}

abbrev pub held_starts_are_released_in_either_order_labels : List Label
held_starts_are_released_in_either_order_labels = label.Main (main_label.Start 1 1) ∷ label.Loop loop_label.MainPends ∷ label.Take (take.Thread mark.High 1) ∷
    label.Task (task_label.BpInc 1) ∷ label.Task (task_label.Ret 1 0) ∷ label.Task (task_label.Exit 1) ∷ label.Main (main_label.Finish 1 0) ∷
    label.Main (main_label.Start 2 2) ∷ label.Main (main_label.Start 3 3) ∷ label.Main (main_label.Start 4 4) ∷ label.Loop loop_label.MainPends ∷
    label.Take (take.Held mark.High 2) ∷ label.Loop loop_label.MainPends ∷ label.Take (take.Held mark.High 3) ∷ label.Loop loop_label.MainPends ∷
    label.Take (take.Thread mark.High 4) ∷ label.Task (task_label.BpDec 4) ∷ label.Task (task_label.Exit 4) ∷ label.Loop loop_label.MainPends ∷
    label.Take (take.Thread mark.High 3) ∷ label.Task (task_label.Ret 3 1) ∷ label.Task (task_label.Exit 3) ∷ label.Main (main_label.Finish 3 1) ∷
    label.Loop loop_label.MainPends ∷ label.Take (take.Thread mark.High 2) ∷ label.Task (task_label.Ret 2 1) ∷ label.Task (task_label.Exit 2) ∷
    label.Main (main_label.Finish 2 1) ∷ label.Main (main_label.Answer 1) ∷ []

abbrev pub held_starts_are_released_in_either_order_run : ScenarioDef × List Label
held_starts_are_released_in_either_order_run = (held_starts_are_released_in_either_order, held_starts_are_released_in_either_order_labels)
