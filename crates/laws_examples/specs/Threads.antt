-- Scenarios, and the labels of their runs.
use Rattle.std.specs.Prelude.{List, Some, [], replicate, ◌∷◌}
use Rattle.machine_data.specs.declared.label.Label.{Label}
use Rattle.machine_data.specs.declared.scenario.Version.TheVariants as version
use Rattle.machine_data.specs.declared.scenario.ScenarioDef.{ScenarioDef}
use Rattle.machine_data.specs.declared.label.CallLabel.TheVariants as call_label
use Rattle.machine_data.specs.declared.op.CallOp.TheVariants as call_op
use Rattle.machine_data.specs.declared.statuses.Given.TheVariants as given
use Rattle.machine_data.specs.declared.scenario.IdleLine.TheVariants as idle_line
use Rattle.machine_data.specs.declared.component.ExportKind.TheVariants as kind
use Rattle.machine_data.specs.declared.label.Label.TheVariants as label
use Rattle.machine_data.specs.declared.label.LoopLabel.TheVariants as loop_label
use Rattle.machine_data.specs.declared.label.MainLabel.TheVariants as main_label
use Rattle.machine_data.specs.declared.scenario.MainOpDef.TheVariants as main_op
use Rattle.machine_data.specs.declared.statuses.Mark.TheVariants as mark
use Rattle.machine_data.specs.declared.op.Op.TheVariants as op
use Rattle.machine_data.specs.declared.op.Operand.TheVariants as operand
use Rattle.machine_data.specs.declared.label.SetLabel.TheVariants as set_label
use Rattle.machine_data.specs.declared.op.SetOp.TheVariants as set_op
use Rattle.machine_data.specs.declared.component.Slot.TheVariants as slot
use Rattle.machine_data.specs.declared.statuses.Status.TheVariants as status
use Rattle.machine_data.specs.declared.label.TakeLabel.TheVariants as take
use Rattle.machine_data.specs.declared.label.TaskLabel.TheVariants as task_label
use Rattle.machine_data.specs.declared.op.TaskOp.TheVariants as task_op
use Rattle.machine_data.specs.declared.label.ThreadLabel.TheVariants as thread_label
use Rattle.machine_data.specs.declared.op.ThreadOp.TheVariants as thread_op
use Rattle.machine_data.specs.declared.trap.Trap.TheVariants as trap
use Rattle.machine_data.specs.declared.component.HostDef.TheVariants as host_def

-- a: f; b: g
abbrev pub join_of_a_subtask_under_sync_cancel_traps : ScenarioDef
join_of_a_subtask_under_sync_cancel_traps = record {
  version = version.One;
  handles = 100000;
  table = 1000000;
  idle = idle_line.Trap;
  component = record {
    instances =
        (record {
          exports = (record {
            kind = kind.Callback;
            params = 0;
            start = (op.Set (set_op.New 3) ∷ op.Task (task_op.CbWait (operand.Register 3)) ∷
                []);
            react = (op.Task (task_op.CbWait (operand.Register 3)) ∷ []);
          } ∷ []);
          slots = (replicate 16 slot.Empty);
        } ∷ record {
          exports = (record {
            kind =
                kind.Callback;
            params = 0;
            start = (op.Call (call_op.Call 3 8 (record { instance = 0; export = 0 }) []) ∷ op.Thread (thread_op.New 4 0 (operand.Number 0)) ∷
                op.Thread (thread_op.ResumeLater (operand.Register 4)) ∷ op.Call (call_op.CancelSync 5 (operand.Number 1)) ∷ op.Task (task_op.Ret (operand.Number 0)) ∷
                []);
            react = [];
          } ∷ []);
          slots = (slot.Script (op.Set (set_op.Join (operand.Number 1) (operand.Number 0)) ∷ []) ∷ slot.Empty ∷ slot.Empty ∷
              slot.Empty ∷ slot.Empty ∷ slot.Empty ∷ slot.Empty ∷ slot.Empty ∷ slot.Empty ∷ slot.Empty ∷ slot.Empty ∷ slot.Empty ∷ slot.Empty ∷ slot.Empty ∷
              slot.Empty ∷ slot.Empty ∷ []);
        } ∷ []);
    hosts = [];
  };
  names = [];
  main = (main_op.Start (record { instance = 1; export = 0 }) [] ∷ main_op.Finish 1 0 ∷
      main_op.Answer (operand.Register 0) ∷ []);
  aborters = [];
}

abbrev pub join_of_a_subtask_under_sync_cancel_traps_labels : List Label
join_of_a_subtask_under_sync_cancel_traps_labels = label.Main (main_label.Start 1 1) ∷ label.Loop loop_label.MainPends ∷ label.Take (take.Thread mark.High 1) ∷
    label.Call (call_label.Calls 1 2) ∷ label.Loop loop_label.MainPends ∷ label.Take (take.Thread mark.Switch 2) ∷ label.Set (set_label.New 1 2) ∷
    label.Task (task_label.CbWait 2) ∷ label.Loop loop_label.MainPends ∷ label.Take (take.Thread mark.Switch 1) ∷ label.Call (call_label.Call 17 1) ∷
    label.Thread (thread_label.New 2 1 3) ∷ label.Thread (thread_label.ResumeLater 1) ∷ label.Thread (thread_label.Pauses 1) ∷ label.Loop loop_label.MainPends ∷
    label.Take (take.Event mark.Switch given.Cancelled 2) ∷ label.Task (task_label.CbWait 2) ∷ label.Loop loop_label.MainPends ∷ label.Take (take.Thread mark.Switch 1) ∷
    label.Thread (thread_label.Pauses 1) ∷ label.Loop loop_label.MainPends ∷ label.Take (take.Thread mark.Low 3) ∷ label.Loop (loop_label.Trap trap.WaitableSyncAndAsync 3) ∷
    []

abbrev pub join_of_a_subtask_under_sync_cancel_traps_run : ScenarioDef × List Label
join_of_a_subtask_under_sync_cancel_traps_run =
    (join_of_a_subtask_under_sync_cancel_traps, join_of_a_subtask_under_sync_cancel_traps_labels)

-- a: g
abbrev pub set_drop_with_a_woken_waiter_that_has_not_run_traps : ScenarioDef
set_drop_with_a_woken_waiter_that_has_not_run_traps = record {
  version = version.One;
  handles = 100000;
  table = 1000000;
  idle = idle_line.Trap;
  component = record {
    instances = (record {
      exports = (record {
        kind = kind.Stackful;
        params = 0;
        start = (op.Set (set_op.New 3) ∷ op.Call (call_op.CallHost 4 8 0) ∷
            op.Thread (thread_op.New 5 0 (operand.Number 0)) ∷ op.Thread (thread_op.ResumeLater (operand.Register 5)) ∷ op.Thread thread_op.Yield ∷ op.Set (set_op.Join (operand.Number 2) (operand.Number 1)) ∷
            op.Set (set_op.Join (operand.Number 2) (operand.Number 0)) ∷ op.Set (set_op.Drop (operand.Number 1)) ∷ []);
        react = [];
      } ∷ []);
      slots =
          (slot.Script (op.Set (set_op.Wait 3 (operand.Number 1)) ∷ []) ∷ slot.Empty ∷ slot.Empty ∷ slot.Empty ∷ slot.Empty ∷ slot.Empty ∷ slot.Empty ∷
          slot.Empty ∷ slot.Empty ∷ slot.Empty ∷ slot.Empty ∷ slot.Empty ∷ slot.Empty ∷ slot.Empty ∷ slot.Empty ∷ slot.Empty ∷ []);
    } ∷ []);
    hosts = (host_def.Settled (Some 1) (Some 5) ∷ []);
  };
  names = [];
  main = (main_op.Start (record { instance = 0; export = 0 }) [] ∷ main_op.Finish 1 0 ∷
      main_op.Answer (operand.Register 0) ∷ []);
  aborters = [];
}

abbrev pub set_drop_with_a_woken_waiter_that_has_not_run_traps_labels : List Label
set_drop_with_a_woken_waiter_that_has_not_run_traps_labels = label.Main (main_label.Start 1 1) ∷ label.Loop loop_label.MainPends ∷ label.Take (take.Thread mark.High 1) ∷
    label.Set (set_label.New 1 1) ∷ label.Call (call_label.CallPolls 33 1 1) ∷ label.Thread (thread_label.New 2 1 2) ∷ label.Thread (thread_label.ResumeLater 1) ∷
    label.Thread (thread_label.Pauses 1) ∷ label.Loop loop_label.MainPends ∷ label.Take (take.Push mark.High 1) ∷ label.Loop loop_label.MainPends ∷
    label.Loop (loop_label.FutureEnds 1) ∷ label.Take (take.Host mark.High 1) ∷ label.Loop loop_label.MainPends ∷ label.Take (take.Thread mark.Low 2) ∷
    label.Thread (thread_label.Pauses 2) ∷ label.Loop loop_label.MainPends ∷ label.Take (take.Thread mark.Low 1) ∷ label.Thread (thread_label.Yield 1) ∷
    label.Set (set_label.JoinWakes 1 2) ∷ label.Set (set_label.Join 1) ∷ label.Loop (loop_label.Trap trap.WaitableSetDropHasWaiters 1) ∷ []

abbrev pub set_drop_with_a_woken_waiter_that_has_not_run_traps_run : ScenarioDef × List Label
set_drop_with_a_woken_waiter_that_has_not_run_traps_run =
    (set_drop_with_a_woken_waiter_that_has_not_run_traps, set_drop_with_a_woken_waiter_that_has_not_run_traps_labels)

-- a: f
abbrev pub thread_new_from_a_bad_slot_traps : ScenarioDef
thread_new_from_a_bad_slot_traps = record {
  version = version.One;
  handles = 100000;
  table = 1000000;
  idle = idle_line.Trap;
  component = record {
    instances = (record {
      exports = (record {
        kind = kind.Stackful;
        params = 0;
        start = (op.Thread (thread_op.New 3 0 (operand.Number 0)) ∷ op.Thread (thread_op.YieldThenPromote (operand.Register 3)) ∷
            op.Task (task_op.Ret (operand.Number 0)) ∷ []);
        react = [];
      } ∷ []);
      slots = (slot.Bad ∷ slot.Empty ∷ slot.Empty ∷ slot.Empty ∷ slot.Empty ∷
          slot.Empty ∷ slot.Empty ∷ slot.Empty ∷ slot.Empty ∷ slot.Empty ∷ slot.Empty ∷ slot.Empty ∷ slot.Empty ∷ slot.Empty ∷ slot.Empty ∷ slot.Empty ∷ []);
    } ∷
        []);
    hosts = [];
  };
  names = [];
  main = (main_op.Start (record { instance = 0; export = 0 }) [] ∷ main_op.Finish 1 0 ∷ main_op.Answer (operand.Register 0) ∷
      []);
  aborters = [];
}

abbrev pub thread_new_from_a_bad_slot_traps_labels : List Label
thread_new_from_a_bad_slot_traps_labels = label.Main (main_label.Start 1 1) ∷ label.Loop loop_label.MainPends ∷ label.Take (take.Thread mark.High 1) ∷
    label.Loop (loop_label.Trap trap.ThreadNewIndirectInvalidType 1) ∷ []

abbrev pub thread_new_from_a_bad_slot_traps_run : ScenarioDef × List Label
thread_new_from_a_bad_slot_traps_run = (thread_new_from_a_bad_slot_traps, thread_new_from_a_bad_slot_traps_labels)

-- a: f
abbrev pub thread_new_from_a_slot_without_a_line_traps : ScenarioDef
thread_new_from_a_slot_without_a_line_traps = record {
  version = version.One;
  handles = 100000;
  table = 1000000;
  idle = idle_line.Trap;
  component = record {
    instances =
        (record {
          exports = (record {
            kind = kind.Stackful;
            params = 0;
            start = (op.Thread (thread_op.New 3 0 (operand.Number 0)) ∷ op.Thread (thread_op.YieldThenPromote (operand.Register 3)) ∷
                op.Task (task_op.Ret (operand.Number 0)) ∷ []);
            react = [];
          } ∷ []);
          slots = (replicate 16 slot.Empty);
        } ∷ []);
    hosts = [];
  };
  names = [];
  main =
      (main_op.Start (record { instance = 0; export = 0 }) [] ∷ main_op.Finish 1 0 ∷ main_op.Answer (operand.Register 0) ∷ []);
  aborters = [];
}

abbrev pub thread_new_from_a_slot_without_a_line_traps_labels : List Label
thread_new_from_a_slot_without_a_line_traps_labels = label.Main (main_label.Start 1 1) ∷ label.Loop loop_label.MainPends ∷ label.Take (take.Thread mark.High 1) ∷
    label.Loop (loop_label.Trap trap.ThreadNewIndirectUninitialized 1) ∷ []

abbrev pub thread_new_from_a_slot_without_a_line_traps_run : ScenarioDef × List Label
thread_new_from_a_slot_without_a_line_traps_run =
    (thread_new_from_a_slot_without_a_line_traps, thread_new_from_a_slot_without_a_line_traps_labels)

-- a: f
abbrev pub thread_that_resumes_itself_traps : ScenarioDef
thread_that_resumes_itself_traps = record {
  version = version.One;
  handles = 100000;
  table = 1000000;
  idle = idle_line.Trap;
  component = record {
    instances = (record {
      exports = (record {
        kind = kind.Callback;
        params = 0;
        start = (op.Thread (thread_op.Index 3) ∷ op.Thread (thread_op.ResumeLater (operand.Register 3)) ∷
            []);
        react = [];
      } ∷ []);
      slots = (replicate 16 slot.Empty);
    } ∷ []);
    hosts = [];
  };
  names = [];
  main = (main_op.Start (record {
    instance = 0;
    export =
        0;
  }) [] ∷ main_op.Finish 1 0 ∷ main_op.Answer (operand.Register 0) ∷ []);
  aborters = [];
}

abbrev pub thread_that_resumes_itself_traps_labels : List Label
thread_that_resumes_itself_traps_labels = label.Main (main_label.Start 1 1) ∷ label.Loop loop_label.MainPends ∷ label.Take (take.Thread mark.High 1) ∷
    label.Thread (thread_label.Index 1 1) ∷ label.Loop (loop_label.Trap trap.CannotResumeThread 1) ∷ []

abbrev pub thread_that_resumes_itself_traps_run : ScenarioDef × List Label
thread_that_resumes_itself_traps_run = (thread_that_resumes_itself_traps, thread_that_resumes_itself_traps_labels)

-- a: g
abbrev pub woken_thread_whose_event_was_taken_waits_again : ScenarioDef
woken_thread_whose_event_was_taken_waits_again = record {
  version = version.One;
  handles = 100000;
  table = 1000000;
  idle = idle_line.Trap;
  component = record {
    instances =
        (record {
          exports = (record {
            kind = kind.Stackful;
            params = 0;
            start = (op.Set (set_op.New 3) ∷ op.Call (call_op.CallHost 4 8 0) ∷ op.Thread (thread_op.New 5 0 (operand.Number 0)) ∷
                op.Thread (thread_op.ResumeLater (operand.Register 5)) ∷ op.Thread (thread_op.New 6 0 (operand.Number 0)) ∷ op.Thread (thread_op.ResumeLater (operand.Register 6)) ∷
                op.Thread thread_op.Yield ∷ op.Set (set_op.Join (operand.Number 2) (operand.Number 1)) ∷ op.Set (set_op.Poll 9 (operand.Number 1)) ∷ []);
            react =
                [];
          } ∷ []);
          slots = (slot.Script (op.Set (set_op.Wait 3 (operand.Number 1)) ∷ []) ∷ slot.Empty ∷ slot.Empty ∷ slot.Empty ∷ slot.Empty ∷ slot.Empty ∷
              slot.Empty ∷ slot.Empty ∷ slot.Empty ∷ slot.Empty ∷ slot.Empty ∷ slot.Empty ∷ slot.Empty ∷ slot.Empty ∷ slot.Empty ∷ slot.Empty ∷ []);
        } ∷ []);
    hosts = (host_def.Settled (Some 1) (Some 5) ∷ []);
  };
  names = [];
  main = (main_op.Start (record { instance = 0; export = 0 }) [] ∷
      main_op.Finish 1 0 ∷ main_op.Answer (operand.Register 0) ∷ []);
  aborters = [];
}

abbrev pub woken_thread_whose_event_was_taken_waits_again_labels : List Label
woken_thread_whose_event_was_taken_waits_again_labels = label.Main (main_label.Start 1 1) ∷ label.Loop loop_label.MainPends ∷ label.Take (take.Thread mark.High 1) ∷
    label.Set (set_label.New 1 1) ∷ label.Call (call_label.CallPolls 33 1 1) ∷ label.Thread (thread_label.New 2 1 2) ∷ label.Thread (thread_label.ResumeLater 1) ∷
    label.Thread (thread_label.New 3 1 3) ∷ label.Thread (thread_label.ResumeLater 1) ∷ label.Thread (thread_label.Pauses 1) ∷ label.Loop loop_label.MainPends ∷
    label.Take (take.Push mark.High 1) ∷ label.Loop loop_label.MainPends ∷ label.Loop (loop_label.FutureEnds 1) ∷ label.Take (take.Host mark.High 1) ∷
    label.Loop loop_label.MainPends ∷ label.Take (take.Thread mark.Low 2) ∷ label.Thread (thread_label.Pauses 2) ∷ label.Loop loop_label.MainPends ∷
    label.Take (take.Thread mark.Low 3) ∷ label.Thread (thread_label.Pauses 3) ∷ label.Loop loop_label.MainPends ∷ label.Take (take.Thread mark.Low 1) ∷
    label.Thread (thread_label.Yield 1) ∷ label.Set (set_label.JoinWakes 1 2) ∷ label.Set (set_label.Poll (given.Subtask status.Returned 2) 1) ∷
    label.Task (task_label.Exit 1) ∷ label.Loop loop_label.MainPends ∷ label.Take (take.Thread mark.High 2) ∷ label.Thread (thread_label.Pauses 2) ∷
    label.Loop loop_label.MainPends ∷ label.Loop (loop_label.Deadlock trap.AsyncDeadlock) ∷ []

abbrev pub woken_thread_whose_event_was_taken_waits_again_run : ScenarioDef × List Label
woken_thread_whose_event_was_taken_waits_again_run =
    (woken_thread_whose_event_was_taken_waits_again, woken_thread_whose_event_was_taken_waits_again_labels)

-- a: f
abbrev pub yield_then_promote_of_an_unstarted_thread_is_a_plain_yield : ScenarioDef
yield_then_promote_of_an_unstarted_thread_is_a_plain_yield = record {
  version = version.One;
  handles = 100000;
  table = 1000000;
  idle = idle_line.Trap;
  component = record {
    instances = (record {
      exports = (record {
        kind = kind.Stackful;
        params = 0;
        start = (op.Thread (thread_op.New 3 0 (operand.Number 0)) ∷ op.Thread (thread_op.YieldThenPromote (operand.Register 3)) ∷
            op.Task (task_op.Ret (operand.Number 0)) ∷ []);
        react = [];
      } ∷ []);
      slots = (slot.Script [] ∷ slot.Empty ∷ slot.Empty ∷ slot.Empty ∷ slot.Empty ∷
          slot.Empty ∷ slot.Empty ∷ slot.Empty ∷ slot.Empty ∷ slot.Empty ∷ slot.Empty ∷ slot.Empty ∷ slot.Empty ∷ slot.Empty ∷ slot.Empty ∷ slot.Empty ∷ []);
    } ∷
        []);
    hosts = [];
  };
  names = [];
  main = (main_op.Start (record { instance = 0; export = 0 }) [] ∷ main_op.Finish 1 0 ∷ main_op.Answer (operand.Register 0) ∷
      []);
  aborters = [];
}

abbrev pub yield_then_promote_of_an_unstarted_thread_is_a_plain_yield_labels : List Label
yield_then_promote_of_an_unstarted_thread_is_a_plain_yield_labels = label.Main (main_label.Start 1 1) ∷ label.Loop loop_label.MainPends ∷ label.Take (take.Thread mark.High 1) ∷
    label.Thread (thread_label.New 2 1 2) ∷ label.Thread (thread_label.Pauses 1) ∷ label.Loop loop_label.MainPends ∷ label.Take (take.Thread mark.Low 1) ∷
    label.Thread (thread_label.YieldThenPromote 1) ∷ label.Task (task_label.Ret 1 0) ∷ label.Task (task_label.Exit 1) ∷ label.Main (main_label.Finish 1 0) ∷
    label.Main (main_label.Answer 0) ∷ []

abbrev pub yield_then_promote_of_an_unstarted_thread_is_a_plain_yield_run : ScenarioDef × List Label
yield_then_promote_of_an_unstarted_thread_is_a_plain_yield_run =
    (yield_then_promote_of_an_unstarted_thread_is_a_plain_yield, yield_then_promote_of_an_unstarted_thread_is_a_plain_yield_labels)

-- a: f
abbrev pub threads_hand_each_other_the_turn : ScenarioDef
threads_hand_each_other_the_turn = record {
  version = version.One;
  handles = 9;
  table = 90;
  idle = idle_line.Trap;
  component = record {
    instances = (record {
      exports =
          (record {
            kind = kind.Stackful;
            params = 0;
            start = (op.Thread (thread_op.Index 4) ∷ op.Thread (thread_op.New 3 0 (operand.Register 4)) ∷
                op.Thread (thread_op.SuspendThenResume (operand.Register 3)) ∷ op.Thread (thread_op.YieldThenResume (operand.Register 3)) ∷ op.Thread (thread_op.SuspendThenPromote (operand.Register 3)) ∷
                op.Task (task_op.Ret (operand.Number 6)) ∷ []);
            react = [];
          } ∷ []);
      slots = (slot.Script (op.Thread (thread_op.ResumeLater (operand.Register 0)) ∷
          op.Thread thread_op.Suspend ∷ op.Thread thread_op.Yield ∷ op.Thread (thread_op.ResumeLater (operand.Register 0)) ∷ []) ∷ slot.Empty ∷ slot.Empty ∷
          slot.Empty ∷ slot.Empty ∷ slot.Empty ∷ slot.Empty ∷ slot.Empty ∷ slot.Empty ∷ slot.Empty ∷ slot.Empty ∷ slot.Empty ∷ slot.Empty ∷ slot.Empty ∷
          slot.Empty ∷ slot.Empty ∷ []);
    } ∷ []);
    hosts = [];
  };
  names = [];
  main = (main_op.Start (record { instance = 0; export = 0 }) [] ∷ main_op.Finish 1 0 ∷
      main_op.Answer (operand.Register 0) ∷ []);
  aborters = [];
}

abbrev pub threads_hand_each_other_the_turn_labels : List Label
threads_hand_each_other_the_turn_labels = label.Main (main_label.Start 1 1) ∷ label.Loop loop_label.MainPends ∷ label.Take (take.Thread mark.High 1) ∷
    label.Thread (thread_label.Index 1 1) ∷ label.Thread (thread_label.New 2 1 2) ∷ label.Thread (thread_label.Pauses 1) ∷ label.Loop loop_label.MainPends ∷
    label.Take (take.Thread mark.Switch 2) ∷ label.Thread (thread_label.ResumeLater 2) ∷ label.Thread (thread_label.Pauses 2) ∷ label.Loop loop_label.MainPends ∷
    label.Take (take.Thread mark.Low 1) ∷ label.Thread (thread_label.SuspendThenResume 1) ∷ label.Thread (thread_label.Pauses 1) ∷ label.Loop loop_label.MainPends ∷
    label.Take (take.Thread mark.Switch 2) ∷ label.Thread (thread_label.Suspend 2) ∷ label.Thread (thread_label.Pauses 2) ∷ label.Loop loop_label.MainPends ∷
    label.Take (take.Thread mark.Low 1) ∷ label.Thread (thread_label.YieldThenResume 1) ∷ label.Thread (thread_label.Pauses 1) ∷ label.Loop loop_label.MainPends ∷
    label.Take (take.Thread mark.Switch 2) ∷ label.Thread (thread_label.Yield 2) ∷ label.Thread (thread_label.ResumeLater 2) ∷ label.Task (task_label.Exit 2) ∷
    label.Loop loop_label.MainPends ∷ label.Take (take.Thread mark.Low 1) ∷ label.Thread (thread_label.SuspendThenPromote 1) ∷ label.Task (task_label.Ret 1 6) ∷
    label.Task (task_label.Exit 1) ∷ label.Main (main_label.Finish 1 6) ∷ label.Main (main_label.Answer 6) ∷ []

abbrev pub threads_hand_each_other_the_turn_run : ScenarioDef × List Label
threads_hand_each_other_the_turn_run = (threads_hand_each_other_the_turn, threads_hand_each_other_the_turn_labels)
