-- Scenarios, and the labels of their runs.
use Rattle.std.specs.Prelude.{List, Some, [], replicate, ◌∷◌}
use Rattle.machine_data.specs.declared.label.Label.{Label}
use Rattle.machine_data.specs.declared.scenario.Version.TheVariants as version
use Rattle.machine_data.specs.declared.scenario.ScenarioDef.{ScenarioDef}
use Rattle.machine_data.specs.declared.label.CallLabel.TheVariants as call_label
use Rattle.machine_data.specs.declared.op.CallOp.TheVariants as call_op
use Rattle.machine_data.specs.declared.statuses.Given.TheVariants as given
use Rattle.machine_data.specs.declared.scenario.IdleLine.TheVariants as idle_line
use Rattle.machine_data.specs.declared.component.ExportKind.TheVariants as kind
use Rattle.machine_data.specs.declared.label.Label.TheVariants as label
use Rattle.machine_data.specs.declared.label.LoopLabel.TheVariants as loop_label
use Rattle.machine_data.specs.declared.label.MainLabel.TheVariants as main_label
use Rattle.machine_data.specs.declared.scenario.MainOpDef.TheVariants as main_op
use Rattle.machine_data.specs.declared.statuses.Mark.TheVariants as mark
use Rattle.machine_data.specs.declared.op.Op.TheVariants as op
use Rattle.machine_data.specs.declared.op.Operand.TheVariants as operand
use Rattle.machine_data.specs.declared.statuses.TaskEvent.TheVariants as own
use Rattle.machine_data.specs.declared.label.SetLabel.TheVariants as set_label
use Rattle.machine_data.specs.declared.op.SetOp.TheVariants as set_op
use Rattle.machine_data.specs.declared.component.Slot.TheVariants as slot
use Rattle.machine_data.specs.declared.statuses.Status.TheVariants as status
use Rattle.machine_data.specs.declared.label.TakeLabel.TheVariants as take
use Rattle.machine_data.specs.declared.label.TaskLabel.TheVariants as task_label
use Rattle.machine_data.specs.declared.op.TaskOp.TheVariants as task_op
use Rattle.machine_data.specs.declared.label.ThreadLabel.TheVariants as thread_label
use Rattle.machine_data.specs.declared.op.ThreadOp.TheVariants as thread_op
use Rattle.machine_data.specs.declared.trap.Trap.TheVariants as trap
use Rattle.machine_data.specs.declared.label.DataLabel.TheVariants as data_label
use Rattle.machine_data.specs.declared.op.DataOp.TheVariants as data_op
use Rattle.machine_data.specs.declared.component.HostDef.TheVariants as host_def

-- a: f, k; b: g
abbrev pub cancelled_delivery_hands_its_wake_to_the_next_waiter : ScenarioDef
cancelled_delivery_hands_its_wake_to_the_next_waiter = record {
  version = version.One;
  handles = 100000;
  table = 1000000;
  idle = idle_line.Trap;
  component = record {
    instances = (record {
      exports = (record {
        kind = kind.Callback;
        params = 0;
        start = (op.Set (set_op.New 3) ∷ op.Call (call_op.CallHost 4 8 0) ∷
            op.Thread (thread_op.New 5 0 (operand.Number 0)) ∷ op.Thread (thread_op.ResumeLater (operand.Register 5)) ∷ op.Task (task_op.CbWait (operand.Register 3)) ∷
            []);
        react = (op.Task task_op.Exit ∷ []);
      } ∷ record {
        kind = kind.Callback;
        params = 0;
        start = (op.Set (set_op.Join (operand.Number 2) (operand.Number 1)) ∷
            op.Task (task_op.Ret (operand.Number 0)) ∷ []);
        react = [];
      } ∷ []);
      slots = (slot.Script (op.Set (set_op.Wait 3 (operand.Number 1)) ∷ op.Task (task_op.Ret (operand.Number 1)) ∷
          []) ∷ slot.Empty ∷ slot.Empty ∷ slot.Empty ∷ slot.Empty ∷ slot.Empty ∷ slot.Empty ∷ slot.Empty ∷ slot.Empty ∷ slot.Empty ∷ slot.Empty ∷ slot.Empty ∷
          slot.Empty ∷ slot.Empty ∷ slot.Empty ∷ slot.Empty ∷ []);
    } ∷ record {
      exports = (record {
        kind = kind.Callback;
        params = 0;
        start = (op.Call (call_op.Call 3 8 (record {
          instance = 0;
          export = 0;
        }) []) ∷ op.Thread thread_op.Yield ∷ op.Call (call_op.Call 4 9 (record { instance = 0; export = 1 }) []) ∷ op.Call (call_op.Cancel 5 (operand.Number 1)) ∷
            op.Task (task_op.Ret (operand.Register 5)) ∷ []);
        react = [];
      } ∷ []);
      slots = (replicate 16 slot.Empty);
    } ∷ []);
    hosts = (host_def.Settled (Some 1) (Some 5) ∷ []);
  };
  names = [];
  main = (main_op.Start (record { instance = 1; export = 0 }) [] ∷ main_op.Finish 1 0 ∷ main_op.Quiet ∷
      main_op.Answer (operand.Register 0) ∷ []);
  aborters = [];
}

abbrev pub cancelled_delivery_hands_its_wake_to_the_next_waiter_labels : List Label
cancelled_delivery_hands_its_wake_to_the_next_waiter_labels = label.Main (main_label.Start 1 1) ∷ label.Loop loop_label.MainPends ∷ label.Take (take.Thread mark.High 1) ∷
    label.Call (call_label.Calls 1 2) ∷ label.Loop loop_label.MainPends ∷ label.Take (take.Thread mark.Switch 2) ∷ label.Set (set_label.New 1 2) ∷
    label.Call (call_label.CallPolls 33 2 1) ∷ label.Thread (thread_label.New 2 2 3) ∷ label.Thread (thread_label.ResumeLater 2) ∷ label.Task (task_label.CbWait 2) ∷
    label.Loop loop_label.MainPends ∷ label.Take (take.Thread mark.Switch 1) ∷ label.Call (call_label.Call 17 1) ∷ label.Thread (thread_label.Pauses 1) ∷
    label.Loop loop_label.MainPends ∷ label.Take (take.Push mark.High 1) ∷ label.Loop loop_label.MainPends ∷ label.Loop (loop_label.FutureEnds 1) ∷
    label.Take (take.Host mark.High 1) ∷ label.Loop loop_label.MainPends ∷ label.Take (take.Thread mark.Low 3) ∷ label.Thread (thread_label.Pauses 3) ∷
    label.Loop loop_label.MainPends ∷ label.Take (take.Thread mark.Low 1) ∷ label.Thread (thread_label.Yield 1) ∷ label.Call (call_label.Calls 1 4) ∷
    label.Loop loop_label.MainPends ∷ label.Take (take.Thread mark.Switch 4) ∷ label.Set (set_label.JoinWakes 4 2) ∷ label.Task (task_label.Ret 4 0) ∷
    label.Task (task_label.Exit 4) ∷ label.Loop loop_label.MainPends ∷ label.Take (take.Thread mark.Switch 1) ∷ label.Call (call_label.Call 2 1) ∷
    label.Call (call_label.Cancel 4294967295 1) ∷ label.Task (task_label.Ret 1 4294967295) ∷ label.Task (task_label.Exit 1) ∷ label.Main (main_label.Finish 1 4294967295) ∷
    label.Loop loop_label.MainPends ∷ label.Take (take.EventWakes mark.High own.Cancelled 2 3) ∷ label.Task (task_label.Exit 2) ∷ label.Loop loop_label.MainPends ∷
    label.Take (take.Thread mark.High 3) ∷ label.Set (set_label.Wait (given.Subtask status.Returned 2) 3) ∷ label.Task (task_label.Ret 3 1) ∷
    label.Task (task_label.Exit 3) ∷ label.Main main_label.Quiet ∷ label.Main (main_label.Answer 4294967295) ∷ []

abbrev pub cancelled_delivery_hands_its_wake_to_the_next_waiter_run : ScenarioDef × List Label
cancelled_delivery_hands_its_wake_to_the_next_waiter_run =
    (cancelled_delivery_hands_its_wake_to_the_next_waiter, cancelled_delivery_hands_its_wake_to_the_next_waiter_labels)

-- a: f, h; b: g
abbrev pub held_yield_stays_held_under_a_cancel : ScenarioDef
held_yield_stays_held_under_a_cancel = record {
  version = version.One;
  handles = 100000;
  table = 1000000;
  idle = idle_line.Trap;
  component = record {
    instances = (record {
      exports = (record { kind = kind.Callback; params = 0; start = (op.Task task_op.CbYield ∷ []); react = (op.Task task_op.TaskCancel ∷ []) } ∷ record {
        kind = kind.Blocking;
        params = 0;
        start = (op.Set (set_op.New 3) ∷ op.Set (set_op.Wait 4 (operand.Register 3)) ∷ []);
        react = [];
      } ∷ []);
      slots =
          (replicate 16 slot.Empty);
    } ∷ record {
      exports = (record {
        kind = kind.Callback;
        params = 0;
        start = (op.Call (call_op.Call 3 8 (record {
          instance =
              0;
          export = 0;
        }) []) ∷ op.Call (call_op.Call 4 9 (record { instance = 0; export = 1 }) []) ∷ op.Thread thread_op.Yield ∷ op.Call (call_op.Cancel 5 (operand.Number 1)) ∷
            op.Task (task_op.Ret (operand.Register 5)) ∷ []);
        react = [];
      } ∷ []);
      slots = (replicate 16 slot.Empty);
    } ∷ []);
    hosts = [];
  };
  names = [];
  main =
      (main_op.Start (record { instance = 1; export = 0 }) [] ∷ main_op.Finish 1 0 ∷ main_op.Answer (operand.Register 0) ∷ []);
  aborters = [];
}

abbrev pub held_yield_stays_held_under_a_cancel_labels : List Label
held_yield_stays_held_under_a_cancel_labels = label.Main (main_label.Start 1 1) ∷ label.Loop loop_label.MainPends ∷ label.Take (take.Thread mark.High 1) ∷
    label.Call (call_label.Calls 1 2) ∷ label.Loop loop_label.MainPends ∷ label.Take (take.Thread mark.Switch 2) ∷ label.Task (task_label.CbYield 2) ∷
    label.Loop loop_label.MainPends ∷ label.Take (take.Thread mark.Switch 1) ∷ label.Call (call_label.Call 17 1) ∷ label.Call (call_label.Calls 1 3) ∷
    label.Loop loop_label.MainPends ∷ label.Take (take.Thread mark.Switch 3) ∷ label.Set (set_label.New 1 3) ∷ label.Thread (thread_label.Pauses 3) ∷
    label.Loop loop_label.MainPends ∷ label.Take (take.Thread mark.Switch 1) ∷ label.Call (call_label.Call 33 1) ∷ label.Thread (thread_label.Pauses 1) ∷
    label.Loop loop_label.MainPends ∷ label.Take (take.Held mark.Low 2) ∷ label.Loop loop_label.MainPends ∷ label.Take (take.Thread mark.Low 1) ∷
    label.Thread (thread_label.Yield 1) ∷ label.Call (call_label.Cancel 4294967295 1) ∷ label.Task (task_label.Ret 1 4294967295) ∷ label.Task (task_label.Exit 1) ∷
    label.Main (main_label.Finish 1 4294967295) ∷ label.Main (main_label.Answer 4294967295) ∷ []

abbrev pub held_yield_stays_held_under_a_cancel_run : ScenarioDef × List Label
held_yield_stays_held_under_a_cancel_run = (held_yield_stays_held_under_a_cancel, held_yield_stays_held_under_a_cancel_labels)

-- a: f; b: g
abbrev pub cancel_leaves_a_stackful_wait_waiting : ScenarioDef
cancel_leaves_a_stackful_wait_waiting = record {
  version = version.One;
  handles = 100000;
  table = 1000000;
  idle = idle_line.Trap;
  component = record {
    instances = (record {
      exports = (record {
        kind = kind.Stackful;
        params = 0;
        start = (op.Set (set_op.New 3) ∷ op.Set (set_op.Wait 4 (operand.Register 3)) ∷ op.Task task_op.TaskCancel ∷
            []);
        react = [];
      } ∷ []);
      slots = (replicate 16 slot.Empty);
    } ∷ record {
      exports = (record {
        kind = kind.Callback;
        params = 0;
        start = (op.Call (call_op.Call 3 8 (record {
          instance = 0;
          export = 0;
        }) []) ∷ op.Call (call_op.CancelSync 4 (operand.Number 1)) ∷ op.Call (call_op.Drop (operand.Number 1)) ∷ op.Task (task_op.Ret (operand.Register 4)) ∷
            []);
        react = [];
      } ∷ []);
      slots = (replicate 16 slot.Empty);
    } ∷ []);
    hosts = [];
  };
  names = [];
  main = (main_op.Start (record {
    instance = 1;
    export =
        0;
  }) [] ∷ main_op.Finish 1 0 ∷ main_op.Answer (operand.Register 0) ∷ []);
  aborters = [];
}

abbrev pub cancel_leaves_a_stackful_wait_waiting_labels : List Label
cancel_leaves_a_stackful_wait_waiting_labels = label.Main (main_label.Start 1 1) ∷ label.Loop loop_label.MainPends ∷ label.Take (take.Thread mark.High 1) ∷
    label.Call (call_label.Calls 1 2) ∷ label.Loop loop_label.MainPends ∷ label.Take (take.Thread mark.Switch 2) ∷ label.Set (set_label.New 1 2) ∷
    label.Thread (thread_label.Pauses 2) ∷ label.Loop loop_label.MainPends ∷ label.Take (take.Thread mark.Switch 1) ∷ label.Call (call_label.Call 17 1) ∷
    label.Thread (thread_label.Pauses 1) ∷ label.Loop loop_label.MainPends ∷ label.Loop (loop_label.Deadlock trap.AsyncDeadlock) ∷ []

abbrev pub cancel_leaves_a_stackful_wait_waiting_run : ScenarioDef × List Label
cancel_leaves_a_stackful_wait_waiting_run = (cancel_leaves_a_stackful_wait_waiting, cancel_leaves_a_stackful_wait_waiting_labels)

-- a: g
abbrev pub least_waiter_is_woken : ScenarioDef
least_waiter_is_woken = record {
  version = version.One;
  handles = 100000;
  table = 1000000;
  idle = idle_line.Trap;
  component = record {
    instances = (record {
      exports =
          (record {
            kind = kind.Stackful;
            params = 0;
            start = (op.Set (set_op.New 3) ∷ op.Call (call_op.CallHost 4 8 0) ∷ op.Thread (thread_op.New 5 0 (operand.Number 0)) ∷
                op.Thread (thread_op.New 6 0 (operand.Number 0)) ∷ op.Thread (thread_op.ResumeLater (operand.Register 6)) ∷ op.Thread (thread_op.ResumeLater (operand.Register 5)) ∷
                op.Thread thread_op.Yield ∷ op.Set (set_op.Join (operand.Number 2) (operand.Number 1)) ∷ []);
            react = [];
          } ∷ []);
      slots = (slot.Script (op.Set (set_op.Wait 3 (operand.Number 1)) ∷
          []) ∷ slot.Empty ∷ slot.Empty ∷ slot.Empty ∷ slot.Empty ∷ slot.Empty ∷ slot.Empty ∷ slot.Empty ∷ slot.Empty ∷ slot.Empty ∷ slot.Empty ∷ slot.Empty ∷
          slot.Empty ∷ slot.Empty ∷ slot.Empty ∷ slot.Empty ∷ []);
    } ∷ []);
    hosts = (host_def.Settled (Some 1) (Some 5) ∷ []);
  };
  names = [];
  main =
      (main_op.Start (record { instance = 0; export = 0 }) [] ∷ main_op.Finish 1 0 ∷ main_op.Answer (operand.Register 0) ∷ []);
  aborters = [];
}

abbrev pub least_waiter_is_woken_labels : List Label
least_waiter_is_woken_labels = label.Main (main_label.Start 1 1) ∷ label.Loop loop_label.MainPends ∷ label.Take (take.Thread mark.High 1) ∷ label.Set (set_label.New 1 1) ∷
    label.Call (call_label.CallPolls 33 1 1) ∷ label.Thread (thread_label.New 2 1 2) ∷ label.Thread (thread_label.New 3 1 3) ∷ label.Thread (thread_label.ResumeLater 1) ∷
    label.Thread (thread_label.ResumeLater 1) ∷ label.Thread (thread_label.Pauses 1) ∷ label.Loop loop_label.MainPends ∷ label.Take (take.Push mark.High 1) ∷
    label.Loop loop_label.MainPends ∷ label.Loop (loop_label.FutureEnds 1) ∷ label.Take (take.Host mark.High 1) ∷ label.Loop loop_label.MainPends ∷
    label.Take (take.Thread mark.Low 3) ∷ label.Thread (thread_label.Pauses 3) ∷ label.Loop loop_label.MainPends ∷ label.Take (take.Thread mark.Low 2) ∷
    label.Thread (thread_label.Pauses 2) ∷ label.Loop loop_label.MainPends ∷ label.Take (take.Thread mark.Low 1) ∷ label.Thread (thread_label.Yield 1) ∷
    label.Set (set_label.JoinWakes 1 2) ∷ label.Task (task_label.Exit 1) ∷ label.Loop loop_label.MainPends ∷ label.Take (take.Thread mark.High 2) ∷
    label.Set (set_label.Wait (given.Subtask status.Returned 2) 2) ∷ label.Task (task_label.Exit 2) ∷ label.Loop loop_label.MainPends ∷ label.Loop (loop_label.Deadlock trap.AsyncDeadlock) ∷
    []

abbrev pub least_waiter_is_woken_run : ScenarioDef × List Label
least_waiter_is_woken_run = (least_waiter_is_woken, least_waiter_is_woken_labels)

-- a: g
abbrev pub woken_thread_takes_its_event_and_the_other_waits_on : ScenarioDef
woken_thread_takes_its_event_and_the_other_waits_on = record {
  version = version.One;
  handles = 100000;
  table = 1000000;
  idle = idle_line.Trap;
  component = record {
    instances = (record {
      exports = (record {
        kind = kind.Stackful;
        params = 0;
        start = (op.Set (set_op.New 3) ∷ op.Call (call_op.CallHost 4 8 0) ∷
            op.Thread (thread_op.New 5 0 (operand.Number 0)) ∷ op.Thread (thread_op.ResumeLater (operand.Register 5)) ∷ op.Thread (thread_op.New 6 0 (operand.Number 0)) ∷
            op.Thread (thread_op.ResumeLater (operand.Register 6)) ∷ op.Thread thread_op.Yield ∷ op.Set (set_op.Join (operand.Number 2) (operand.Number 1)) ∷
            []);
        react = [];
      } ∷ []);
      slots = (slot.Script (op.Set (set_op.Wait 3 (operand.Number 1)) ∷ []) ∷ slot.Empty ∷ slot.Empty ∷ slot.Empty ∷ slot.Empty ∷
          slot.Empty ∷ slot.Empty ∷ slot.Empty ∷ slot.Empty ∷ slot.Empty ∷ slot.Empty ∷ slot.Empty ∷ slot.Empty ∷ slot.Empty ∷ slot.Empty ∷ slot.Empty ∷ []);
    } ∷
        []);
    hosts = (host_def.Settled (Some 1) (Some 5) ∷ []);
  };
  names = [];
  main = (main_op.Start (record { instance = 0; export = 0 }) [] ∷
      main_op.Finish 1 0 ∷ main_op.Answer (operand.Register 0) ∷ []);
  aborters = [];
}

abbrev pub woken_thread_takes_its_event_and_the_other_waits_on_labels : List Label
woken_thread_takes_its_event_and_the_other_waits_on_labels = label.Main (main_label.Start 1 1) ∷ label.Loop loop_label.MainPends ∷ label.Take (take.Thread mark.High 1) ∷
    label.Set (set_label.New 1 1) ∷ label.Call (call_label.CallPolls 33 1 1) ∷ label.Thread (thread_label.New 2 1 2) ∷ label.Thread (thread_label.ResumeLater 1) ∷
    label.Thread (thread_label.New 3 1 3) ∷ label.Thread (thread_label.ResumeLater 1) ∷ label.Thread (thread_label.Pauses 1) ∷ label.Loop loop_label.MainPends ∷
    label.Take (take.Push mark.High 1) ∷ label.Loop loop_label.MainPends ∷ label.Loop (loop_label.FutureEnds 1) ∷ label.Take (take.Host mark.High 1) ∷
    label.Loop loop_label.MainPends ∷ label.Take (take.Thread mark.Low 2) ∷ label.Thread (thread_label.Pauses 2) ∷ label.Loop loop_label.MainPends ∷
    label.Take (take.Thread mark.Low 3) ∷ label.Thread (thread_label.Pauses 3) ∷ label.Loop loop_label.MainPends ∷ label.Take (take.Thread mark.Low 1) ∷
    label.Thread (thread_label.Yield 1) ∷ label.Set (set_label.JoinWakes 1 2) ∷ label.Task (task_label.Exit 1) ∷ label.Loop loop_label.MainPends ∷
    label.Take (take.Thread mark.High 2) ∷ label.Set (set_label.Wait (given.Subtask status.Returned 2) 2) ∷ label.Task (task_label.Exit 2) ∷
    label.Loop loop_label.MainPends ∷ label.Loop (loop_label.Deadlock trap.AsyncDeadlock) ∷ []

abbrev pub woken_thread_takes_its_event_and_the_other_waits_on_run : ScenarioDef × List Label
woken_thread_takes_its_event_and_the_other_waits_on_run =
    (woken_thread_takes_its_event_and_the_other_waits_on, woken_thread_takes_its_event_and_the_other_waits_on_labels)

-- a: f, g
abbrev pub woken_callback_whose_event_was_taken_waits_again : ScenarioDef
woken_callback_whose_event_was_taken_waits_again = record {
  version = version.One;
  handles = 9;
  table = 90;
  idle = idle_line.Trap;
  component = record {
    instances = (record {
      exports = (record {
        kind = kind.Callback;
        params = 0;
        start = (op.Set (set_op.New 3) ∷ op.Data (data_op.Store 4 (operand.Register 3)) ∷ op.Task (task_op.Code (operand.Number 18)) ∷
            []);
        react = (op.Task (task_op.Ret (operand.Register 1)) ∷ []);
      } ∷ record {
        kind = kind.Stackful;
        params = 0;
        start = (op.Data (data_op.Load 3 4) ∷
            op.Call (call_op.CallHost 4 8 0) ∷ op.Data (data_op.Handle 5 (operand.Register 4)) ∷ op.Thread thread_op.Yield ∷ op.Thread thread_op.Yield ∷
            op.Thread thread_op.Yield ∷ op.Set (set_op.Join (operand.Register 5) (operand.Register 3)) ∷ op.Set (set_op.Poll 9 (operand.Register 3)) ∷ op.Call (call_op.Drop (operand.Register 5)) ∷
            op.Call (call_op.CallHost 4 8 0) ∷ op.Data (data_op.Handle 5 (operand.Register 4)) ∷ op.Set (set_op.Join (operand.Register 5) (operand.Register 3)) ∷
            op.Task (task_op.Ret (operand.Number 2)) ∷ []);
        react = [];
      } ∷ []);
      slots = (replicate 16 slot.Empty);
    } ∷ []);
    hosts = (host_def.Settled (Some 1) (Some 5) ∷ []);
  };
  names = [];
  main = (main_op.Start (record { instance = 0; export = 0 }) [] ∷ main_op.Start (record {
    instance = 0;
    export = 1;
  }) [] ∷ main_op.Finish 1 1 ∷ main_op.Finish 2 0 ∷ main_op.Answer (operand.Register 1) ∷ []);
  aborters = [];
}

abbrev pub woken_callback_whose_event_was_taken_waits_again_labels : List Label
woken_callback_whose_event_was_taken_waits_again_labels = label.Main (main_label.Start 1 1) ∷ label.Main (main_label.Start 2 2) ∷ label.Loop loop_label.MainPends ∷
    label.Take (take.Thread mark.High 1) ∷ label.Set (set_label.New 1 1) ∷ label.Data (data_label.Store 1 1) ∷ label.Task (task_label.Code 1) ∷
    label.Loop loop_label.MainPends ∷ label.Take (take.Thread mark.High 2) ∷ label.Data (data_label.Load 2 1) ∷ label.Call (call_label.CallPolls 33 2 1) ∷
    label.Data (data_label.Handle 2 2) ∷ label.Thread (thread_label.Pauses 2) ∷ label.Loop loop_label.MainPends ∷ label.Take (take.Push mark.High 1) ∷
    label.Loop loop_label.MainPends ∷ label.Loop (loop_label.FutureEnds 1) ∷ label.Take (take.Host mark.High 1) ∷ label.Loop loop_label.MainPends ∷
    label.Take (take.Thread mark.Low 2) ∷ label.Thread (thread_label.Yield 2) ∷ label.Thread (thread_label.Pauses 2) ∷ label.Loop loop_label.MainPends ∷
    label.Take (take.Thread mark.Low 2) ∷ label.Thread (thread_label.Yield 2) ∷ label.Thread (thread_label.Pauses 2) ∷ label.Loop loop_label.MainPends ∷
    label.Take (take.Thread mark.Low 2) ∷ label.Thread (thread_label.Yield 2) ∷ label.Set (set_label.JoinWakes 2 1) ∷ label.Set (set_label.Poll (given.Subtask status.Returned 2) 2) ∷
    label.Call (call_label.Drop 2) ∷ label.Call (call_label.CallPolls 33 2 2) ∷ label.Data (data_label.Handle 2 2) ∷ label.Set (set_label.Join 2) ∷
    label.Task (task_label.Ret 2 2) ∷ label.Task (task_label.Exit 2) ∷ label.Loop loop_label.MainPends ∷ label.Take (take.Again mark.High 1) ∷
    label.Loop loop_label.MainPends ∷ label.Take (take.Push mark.High 2) ∷ label.Loop loop_label.MainPends ∷ label.Loop (loop_label.FutureEnds 2) ∷
    label.Take (take.HostWakes mark.High 2 1) ∷ label.Loop loop_label.MainPends ∷ label.Take (take.Event mark.High (given.Subtask status.Returned 2) 1) ∷
    label.Task (task_label.Ret 1 2) ∷ label.Task (task_label.Exit 1) ∷ label.Main (main_label.Finish 1 2) ∷ label.Main (main_label.Finish 2 2) ∷
    label.Main (main_label.Answer 2) ∷ []

abbrev pub woken_callback_whose_event_was_taken_waits_again_run : ScenarioDef × List Label
woken_callback_whose_event_was_taken_waits_again_run =
    (woken_callback_whose_event_was_taken_waits_again, woken_callback_whose_event_was_taken_waits_again_labels)

-- a: f
abbrev pub task_event_taken_by_a_woken_thread_hands_the_wake_on : ScenarioDef
task_event_taken_by_a_woken_thread_hands_the_wake_on = record {
  version = version.One;
  handles = 9;
  table = 90;
  idle = idle_line.Trap;
  component = record {
    instances =
        (record {
          exports = (record {
            kind = kind.Callback;
            params = 0;
            start = (op.Set (set_op.New 3) ∷ op.Call (call_op.CallHost 4 8 0) ∷ op.Data (data_op.Handle 5 (operand.Register 4)) ∷
                op.Set (set_op.Join (operand.Register 5) (operand.Register 3)) ∷ op.Thread (thread_op.New 6 0 (operand.Register 3)) ∷ op.Thread (thread_op.ResumeLater (operand.Register 6)) ∷
                op.Thread (thread_op.New 6 0 (operand.Register 3)) ∷ op.Thread (thread_op.ResumeLater (operand.Register 6)) ∷ op.Thread thread_op.Yield ∷ op.Task task_op.CbYield ∷
                []);
            react = (op.Task (task_op.Ret (operand.Number 9)) ∷ []);
          } ∷ []);
          slots = (slot.Script (op.Set (set_op.Wait 4 (operand.Register 0)) ∷ []) ∷
              slot.Empty ∷ slot.Empty ∷ slot.Empty ∷ slot.Empty ∷ slot.Empty ∷ slot.Empty ∷ slot.Empty ∷ slot.Empty ∷ slot.Empty ∷ slot.Empty ∷ slot.Empty ∷
              slot.Empty ∷ slot.Empty ∷ slot.Empty ∷ slot.Empty ∷ []);
        } ∷ []);
    hosts = (host_def.Settled (Some 4) (Some 5) ∷ []);
  };
  names = [];
  main =
      (main_op.Start (record { instance = 0; export = 0 }) [] ∷ main_op.Finish 1 0 ∷ main_op.Quiet ∷ main_op.Answer (operand.Register 0) ∷ []);
  aborters =
      [];
}

abbrev pub task_event_taken_by_a_woken_thread_hands_the_wake_on_labels : List Label
task_event_taken_by_a_woken_thread_hands_the_wake_on_labels = label.Main (main_label.Start 1 1) ∷ label.Loop loop_label.MainPends ∷ label.Take (take.Thread mark.High 1) ∷
    label.Set (set_label.New 1 1) ∷ label.Call (call_label.CallPolls 33 1 1) ∷ label.Data (data_label.Handle 1 2) ∷ label.Set (set_label.Join 1) ∷
    label.Thread (thread_label.New 2 1 2) ∷ label.Thread (thread_label.ResumeLater 1) ∷ label.Thread (thread_label.New 3 1 3) ∷ label.Thread (thread_label.ResumeLater 1) ∷
    label.Thread (thread_label.Pauses 1) ∷ label.Loop loop_label.MainPends ∷ label.Take (take.Push mark.High 1) ∷ label.Loop loop_label.MainPends ∷
    label.Loop (loop_label.FuturePends 1) ∷ label.Take (take.Thread mark.Low 2) ∷ label.Thread (thread_label.Pauses 2) ∷ label.Loop loop_label.MainPends ∷
    label.Loop (loop_label.FuturePends 1) ∷ label.Take (take.Thread mark.Low 3) ∷ label.Thread (thread_label.Pauses 3) ∷ label.Loop loop_label.MainPends ∷
    label.Loop (loop_label.FuturePends 1) ∷ label.Take (take.Thread mark.Low 1) ∷ label.Thread (thread_label.Yield 1) ∷ label.Task (task_label.CbYield 1) ∷
    label.Loop loop_label.MainPends ∷ label.Loop (loop_label.FutureEnds 1) ∷ label.Take (take.HostWakes mark.High 1 2) ∷ label.Loop loop_label.MainPends ∷
    label.Take (take.Thread mark.High 2) ∷ label.Set (set_label.WaitWakes own.None 2 3) ∷ label.Task (task_label.Exit 2) ∷ label.Loop loop_label.MainPends ∷
    label.Take (take.Thread mark.High 3) ∷ label.Set (set_label.Wait (given.Subtask status.Returned 2) 3) ∷ label.Task (task_label.Exit 3) ∷
    label.Loop loop_label.MainPends ∷ label.Take (take.Event mark.Low given.Nothing 1) ∷ label.Task (task_label.Ret 1 9) ∷ label.Task (task_label.Exit 1) ∷
    label.Main (main_label.Finish 1 9) ∷ label.Main main_label.Quiet ∷ label.Main (main_label.Answer 9) ∷ []

abbrev pub task_event_taken_by_a_woken_thread_hands_the_wake_on_run : ScenarioDef × List Label
task_event_taken_by_a_woken_thread_hands_the_wake_on_run =
    (task_event_taken_by_a_woken_thread_hands_the_wake_on, task_event_taken_by_a_woken_thread_hands_the_wake_on_labels)
