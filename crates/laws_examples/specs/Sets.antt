-- Scenarios, and the labels of their runs.
use Rattle.std.specs.Prelude.{List, [], replicate, ◌∷◌}
use Rattle.machine_data.specs.declared.label.Label.{Label}
use Rattle.machine_data.specs.declared.scenario.Version.TheVariants as version
use Rattle.machine_data.specs.declared.scenario.ScenarioDef.{ScenarioDef}
use Rattle.machine_data.specs.declared.scenario.IdleLine.TheVariants as idle_line
use Rattle.machine_data.specs.declared.component.ExportKind.TheVariants as kind
use Rattle.machine_data.specs.declared.label.Label.TheVariants as label
use Rattle.machine_data.specs.declared.label.LoopLabel.TheVariants as loop_label
use Rattle.machine_data.specs.declared.label.MainLabel.TheVariants as main_label
use Rattle.machine_data.specs.declared.scenario.MainOpDef.TheVariants as main_op
use Rattle.machine_data.specs.declared.statuses.Mark.TheVariants as mark
use Rattle.machine_data.specs.declared.op.Op.TheVariants as op
use Rattle.machine_data.specs.declared.op.Operand.TheVariants as operand
use Rattle.machine_data.specs.declared.label.SetLabel.TheVariants as set_label
use Rattle.machine_data.specs.declared.op.SetOp.TheVariants as set_op
use Rattle.machine_data.specs.declared.component.Slot.TheVariants as slot
use Rattle.machine_data.specs.declared.label.TakeLabel.TheVariants as take
use Rattle.machine_data.specs.declared.label.TaskLabel.TheVariants as task_label
use Rattle.machine_data.specs.declared.op.TaskOp.TheVariants as task_op
use Rattle.machine_data.specs.declared.trap.Trap.TheVariants as trap

-- a: f
abbrev pub callback_wait_on_empty_set_deadlocks : ScenarioDef
callback_wait_on_empty_set_deadlocks = record {
  version = version.One;
  handles = 100000;
  table = 1000000;
  idle = idle_line.Trap;
  component = record {
    instances = (record {
      exports = (record {
        kind = kind.Callback;
        params = 0;
        start = (op.Set (set_op.New 3) ∷ op.Task (task_op.CbWait (operand.Register 3)) ∷ []);
        react =
            [];
      } ∷ []);
      slots = (replicate 16 slot.Empty);
    } ∷ []);
    hosts = [];
  };
  names = [];
  main = (main_op.Start (record { instance = 0; export = 0 }) [] ∷
      main_op.Finish 1 0 ∷ main_op.Answer (operand.Register 0) ∷ []);
  aborters = [];
}

abbrev pub callback_wait_on_empty_set_deadlocks_labels : List Label
callback_wait_on_empty_set_deadlocks_labels = label.Main (main_label.Start 1 1) ∷ label.Loop loop_label.MainPends ∷ label.Take (take.Thread mark.High 1) ∷
    label.Set (set_label.New 1 1) ∷ label.Task (task_label.CbWait 1) ∷ label.Loop loop_label.MainPends ∷ label.Loop (loop_label.Deadlock trap.AsyncDeadlock) ∷
    []

abbrev pub callback_wait_on_empty_set_deadlocks_run : ScenarioDef × List Label
callback_wait_on_empty_set_deadlocks_run = (callback_wait_on_empty_set_deadlocks, callback_wait_on_empty_set_deadlocks_labels)

-- a: f
abbrev pub callback_wait_on_empty_set_is_idle_under_idle_wait : ScenarioDef
callback_wait_on_empty_set_is_idle_under_idle_wait = record {
  version = version.One;
  handles = 100000;
  table = 1000000;
  idle = idle_line.Wait;
  component = record {
    instances =
        (record {
          exports = (record {
            kind = kind.Callback;
            params = 0;
            start = (op.Set (set_op.New 3) ∷ op.Task (task_op.CbWait (operand.Register 3)) ∷
                []);
            react = [];
          } ∷ []);
          slots = (replicate 16 slot.Empty);
        } ∷ []);
    hosts = [];
  };
  names = [];
  main = (main_op.Start (record {
    instance = 0;
    export =
        0;
  }) [] ∷ main_op.Finish 1 0 ∷ main_op.Answer (operand.Register 0) ∷ []);
  aborters = [];
}

abbrev pub callback_wait_on_empty_set_is_idle_under_idle_wait_labels : List Label
callback_wait_on_empty_set_is_idle_under_idle_wait_labels = label.Main (main_label.Start 1 1) ∷ label.Loop loop_label.MainPends ∷ label.Take (take.Thread mark.High 1) ∷
    label.Set (set_label.New 1 1) ∷ label.Task (task_label.CbWait 1) ∷ label.Loop loop_label.MainPends ∷ []

abbrev pub callback_wait_on_empty_set_is_idle_under_idle_wait_run : ScenarioDef × List Label
callback_wait_on_empty_set_is_idle_under_idle_wait_run =
    (callback_wait_on_empty_set_is_idle_under_idle_wait, callback_wait_on_empty_set_is_idle_under_idle_wait_labels)

-- a: f
abbrev pub freed_set_handle_is_given_again_up_to_the_limit : ScenarioDef
freed_set_handle_is_given_again_up_to_the_limit = record {
  version = version.One;
  handles = 2;
  table = 1000000;
  idle = idle_line.Trap;
  component = record {
    instances =
        (record {
          exports = (record {
            kind = kind.Callback;
            params = 0;
            start = (op.Set (set_op.New 3) ∷ op.Set (set_op.Drop (operand.Register 3)) ∷
                op.Set (set_op.New 3) ∷ op.Set (set_op.New 4) ∷ []);
            react = [];
          } ∷ []);
          slots = (replicate 16 slot.Empty);
        } ∷ []);
    hosts = [];
  };
  names = [];
  main =
      (main_op.Start (record { instance = 0; export = 0 }) [] ∷ main_op.Finish 1 0 ∷ main_op.Answer (operand.Register 0) ∷ []);
  aborters = [];
}

abbrev pub freed_set_handle_is_given_again_up_to_the_limit_labels : List Label
freed_set_handle_is_given_again_up_to_the_limit_labels = label.Main (main_label.Start 1 1) ∷ label.Loop loop_label.MainPends ∷ label.Take (take.Thread mark.High 1) ∷
    label.Set (set_label.New 1 1) ∷ label.Set (set_label.Drop 1) ∷ label.Set (set_label.New 1 1) ∷ label.Loop (loop_label.Trap trap.HandleLimit 1) ∷
    []

abbrev pub freed_set_handle_is_given_again_up_to_the_limit_run : ScenarioDef × List Label
freed_set_handle_is_given_again_up_to_the_limit_run =
    (freed_set_handle_is_given_again_up_to_the_limit, freed_set_handle_is_given_again_up_to_the_limit_labels)

-- a: f
abbrev pub handle_limit_one_stops_the_first_set : ScenarioDef
handle_limit_one_stops_the_first_set = record {
  version = version.One;
  handles = 1;
  table = 1000000;
  idle = idle_line.Trap;
  component = record {
    instances = (record {
      exports = (record {
        kind = kind.Callback;
        params = 0;
        start = (op.Set (set_op.New 3) ∷ op.Set (set_op.Drop (operand.Register 3)) ∷ op.Set (set_op.New 3) ∷
            op.Set (set_op.New 4) ∷ []);
        react = [];
      } ∷ []);
      slots = (replicate 16 slot.Empty);
    } ∷ []);
    hosts = [];
  };
  names = [];
  main = (main_op.Start (record {
    instance = 0;
    export = 0;
  }) [] ∷ main_op.Finish 1 0 ∷ main_op.Answer (operand.Register 0) ∷ []);
  aborters = [];
}

abbrev pub handle_limit_one_stops_the_first_set_labels : List Label
handle_limit_one_stops_the_first_set_labels = label.Main (main_label.Start 1 1) ∷ label.Loop loop_label.MainPends ∷ label.Take (take.Thread mark.High 1) ∷
    label.Loop (loop_label.Trap trap.HandleLimit 1) ∷ []

abbrev pub handle_limit_one_stops_the_first_set_run : ScenarioDef × List Label
handle_limit_one_stops_the_first_set_run = (handle_limit_one_stops_the_first_set, handle_limit_one_stops_the_first_set_labels)

-- a: f
abbrev pub handle_limit_zero_stops_the_start : ScenarioDef
handle_limit_zero_stops_the_start = record {
  version = version.One;
  handles = 0;
  table = 1000000;
  idle = idle_line.Trap;
  component = record {
    instances = (record {
      exports =
          (record {
            kind = kind.Callback;
            params = 0;
            start = (op.Set (set_op.New 3) ∷ op.Set (set_op.Drop (operand.Register 3)) ∷ op.Set (set_op.New 3) ∷
                op.Set (set_op.New 4) ∷ []);
            react = [];
          } ∷ []);
      slots = (replicate 16 slot.Empty);
    } ∷ []);
    hosts = [];
  };
  names = [];
  main = (main_op.Start (record {
    instance = 0;
    export = 0;
  }) [] ∷ main_op.Finish 1 0 ∷ main_op.Answer (operand.Register 0) ∷ []);
  aborters = [];
}

abbrev pub handle_limit_zero_stops_the_start_labels : List Label
handle_limit_zero_stops_the_start_labels = label.Main (main_label.Start 1 1) ∷ label.Loop loop_label.MainPends ∷ label.Loop (loop_label.Trap trap.HandleLimit 1) ∷
    []

abbrev pub handle_limit_zero_stops_the_start_run : ScenarioDef × List Label
handle_limit_zero_stops_the_start_run = (handle_limit_zero_stops_the_start, handle_limit_zero_stops_the_start_labels)

-- a: f
abbrev pub unknown_callback_code_traps : ScenarioDef
unknown_callback_code_traps = record {
  version = version.One;
  handles = 100000;
  table = 1000000;
  idle = idle_line.Trap;
  component = record {
    instances = (record {
      exports =
          (record { kind = kind.Callback; params = 0; start = (op.Task (task_op.Code (operand.Number 3)) ∷ []); react = [] } ∷ []);
      slots = (replicate 16 slot.Empty);
    } ∷
        []);
    hosts = [];
  };
  names = [];
  main = (main_op.Start (record { instance = 0; export = 0 }) [] ∷ main_op.Finish 1 0 ∷ main_op.Answer (operand.Register 0) ∷
      []);
  aborters = [];
}

abbrev pub unknown_callback_code_traps_labels : List Label
unknown_callback_code_traps_labels = label.Main (main_label.Start 1 1) ∷ label.Loop loop_label.MainPends ∷ label.Take (take.Thread mark.High 1) ∷
    label.Loop (loop_label.Trap trap.UnsupportedCallbackCode 1) ∷ []

abbrev pub unknown_callback_code_traps_run : ScenarioDef × List Label
unknown_callback_code_traps_run = (unknown_callback_code_traps, unknown_callback_code_traps_labels)
