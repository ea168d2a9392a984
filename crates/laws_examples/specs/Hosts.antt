-- Scenarios, and the labels of their runs.
use Rattle.std.specs.Prelude.{List, None, Some, [], replicate, ◌∷◌}
use Rattle.machine_data.specs.declared.label.Label.{Label}
use Rattle.machine_data.specs.declared.scenario.Version.TheVariants as version
use Rattle.machine_data.specs.declared.scenario.ScenarioDef.{ScenarioDef}
use Rattle.machine_data.specs.declared.label.CallLabel.TheVariants as call_label
use Rattle.machine_data.specs.declared.op.CallOp.TheVariants as call_op
use Rattle.machine_data.specs.declared.statuses.Given.TheVariants as given
use Rattle.machine_data.specs.declared.scenario.IdleLine.TheVariants as idle_line
use Rattle.machine_data.specs.declared.component.ExportKind.TheVariants as kind
use Rattle.machine_data.specs.declared.label.Label.TheVariants as label
use Rattle.machine_data.specs.declared.label.LoopLabel.TheVariants as loop_label
use Rattle.machine_data.specs.declared.label.MainLabel.TheVariants as main_label
use Rattle.machine_data.specs.declared.scenario.MainOpDef.TheVariants as main_op
use Rattle.machine_data.specs.declared.statuses.Mark.TheVariants as mark
use Rattle.machine_data.specs.declared.op.Op.TheVariants as op
use Rattle.machine_data.specs.declared.op.Operand.TheVariants as operand
use Rattle.machine_data.specs.declared.statuses.Phase.TheVariants as phase
use Rattle.machine_data.specs.declared.label.SetLabel.TheVariants as set_label
use Rattle.machine_data.specs.declared.op.SetOp.TheVariants as set_op
use Rattle.machine_data.specs.declared.component.Slot.TheVariants as slot
use Rattle.machine_data.specs.declared.statuses.Status.TheVariants as status
use Rattle.machine_data.specs.declared.label.TakeLabel.TheVariants as take
use Rattle.machine_data.specs.declared.label.TaskLabel.TheVariants as task_label
use Rattle.machine_data.specs.declared.op.TaskOp.TheVariants as task_op
use Rattle.machine_data.specs.declared.label.ThreadLabel.TheVariants as thread_label
use Rattle.machine_data.specs.declared.trap.Trap.TheVariants as trap
use Rattle.machine_data.specs.declared.label.DataLabel.TheVariants as data_label
use Rattle.machine_data.specs.declared.op.DataOp.TheVariants as data_op
use Rattle.machine_data.specs.declared.component.HostDef.TheVariants as host_def

-- a: f
abbrev pub async_host_calls_ready_at_once_and_later : ScenarioDef
async_host_calls_ready_at_once_and_later = record {
  version = version.One;
  handles = 100000;
  table = 1000000;
  idle = idle_line.Trap;
  component = record {
    instances = (record {
      exports = (record {
        kind = kind.Callback;
        params = 0;
        start = (op.Call (call_op.CallHost 3 8 0) ∷ op.Set (set_op.New 4) ∷ op.Call (call_op.CallHost 5 9 1) ∷
            op.Set (set_op.Join (operand.Number 2) (operand.Register 4)) ∷ op.Task (task_op.CbWait (operand.Register 4)) ∷ []);
        react = (op.Task (task_op.Ret (operand.Register 9)) ∷
            []);
      } ∷ []);
      slots = (replicate 16 slot.Empty);
    } ∷ []);
    hosts = (host_def.Settled (Some 0) (Some 5) ∷ host_def.Settled (Some 2) (Some 9) ∷ []);
  };
  names = [];
  main = (main_op.Start (record { instance = 0; export = 0 }) [] ∷ main_op.Finish 1 0 ∷ main_op.Answer (operand.Register 0) ∷
      []);
  aborters = [];
}

abbrev pub async_host_calls_ready_at_once_and_later_labels : List Label
async_host_calls_ready_at_once_and_later_labels = label.Main (main_label.Start 1 1) ∷ label.Loop loop_label.MainPends ∷ label.Take (take.Thread mark.High 1) ∷
    label.Call (call_label.CallPolls 2 1 1) ∷ label.Set (set_label.New 1 1) ∷ label.Call (call_label.CallPolls 33 1 2) ∷ label.Set (set_label.Join 1) ∷
    label.Task (task_label.CbWait 1) ∷ label.Loop loop_label.MainPends ∷ label.Take (take.Push mark.High 2) ∷ label.Loop loop_label.MainPends ∷
    label.Loop (loop_label.FuturePends 2) ∷ label.Loop loop_label.Rest ∷ label.Loop loop_label.MainPends ∷ label.Loop (loop_label.FutureEnds 2) ∷
    label.Take (take.HostWakes mark.High 2 1) ∷ label.Loop loop_label.MainPends ∷ label.Take (take.Event mark.High (given.Subtask status.Returned 2) 1) ∷
    label.Task (task_label.Ret 1 9) ∷ label.Task (task_label.Exit 1) ∷ label.Main (main_label.Finish 1 9) ∷ label.Main (main_label.Answer 9) ∷ []

abbrev pub async_host_calls_ready_at_once_and_later_run : ScenarioDef × List Label
async_host_calls_ready_at_once_and_later_run = (async_host_calls_ready_at_once_and_later, async_host_calls_ready_at_once_and_later_labels)

-- no instance
abbrev pub awaited_never_ending_spawn_is_idle : ScenarioDef
awaited_never_ending_spawn_is_idle = record {
  version = version.One;
  handles = 100000;
  table = 1000000;
  idle = idle_line.Trap;
  component = record {
    instances = [];
    hosts =
        (host_def.Settled None None ∷ []);
  };
  names = [];
  main = (main_op.Spawn 0 ∷ main_op.Await 1 ∷ main_op.Answer (operand.Number 3) ∷ []);
  aborters = [];
}

abbrev pub awaited_never_ending_spawn_is_idle_labels : List Label
awaited_never_ending_spawn_is_idle_labels = label.Main (main_label.Spawn 1 1) ∷ label.Loop loop_label.MainPends ∷ label.Take (take.Push mark.High 1) ∷
    label.Loop loop_label.MainPends ∷ label.Loop (loop_label.FuturePends 1) ∷ []

abbrev pub awaited_never_ending_spawn_is_idle_run : ScenarioDef × List Label
awaited_never_ending_spawn_is_idle_run = (awaited_never_ending_spawn_is_idle, awaited_never_ending_spawn_is_idle_labels)

-- no instance
abbrev pub failing_spawn_fails_the_run : ScenarioDef
failing_spawn_fails_the_run = record {
  version = version.One;
  handles = 100000;
  table = 1000000;
  idle = idle_line.Trap;
  component = record {
    instances = [];
    hosts = (host_def.Settled (Some 0) None ∷ []);
  };
  names = [];
  main = (main_op.Spawn 0 ∷ main_op.Await 1 ∷ main_op.Answer (operand.Number 0) ∷ []);
  aborters = [];
}

abbrev pub failing_spawn_fails_the_run_labels : List Label
failing_spawn_fails_the_run_labels = label.Main (main_label.Spawn 1 1) ∷ label.Loop loop_label.MainPends ∷ label.Take (take.Push mark.High 1) ∷
    label.Loop loop_label.MainPends ∷ label.Loop (loop_label.FutureFails 1) ∷ []

abbrev pub failing_spawn_fails_the_run_run : ScenarioDef × List Label
failing_spawn_fails_the_run_run = (failing_spawn_fails_the_run, failing_spawn_fails_the_run_labels)

-- a: f
abbrev pub live_never_ending_spawn_is_idle_under_idle_trap : ScenarioDef
live_never_ending_spawn_is_idle_under_idle_trap = record {
  version = version.One;
  handles = 100000;
  table = 1000000;
  idle = idle_line.Trap;
  component = record {
    instances =
        (record {
          exports = (record {
            kind = kind.Callback;
            params = 0;
            start = (op.Set (set_op.New 3) ∷ op.Set (set_op.Wait 4 (operand.Register 3)) ∷
                op.Task (task_op.Ret (operand.Number 0)) ∷ []);
            react = [];
          } ∷ []);
          slots = (replicate 16 slot.Empty);
        } ∷ []);
    hosts = (host_def.Settled None None ∷ []);
  };
  names = [];
  main = (main_op.Spawn 0 ∷ main_op.Start (record { instance = 0; export = 0 }) [] ∷ main_op.Finish 1 0 ∷
      main_op.Answer (operand.Register 0) ∷ []);
  aborters = [];
}

abbrev pub live_never_ending_spawn_is_idle_under_idle_trap_labels : List Label
live_never_ending_spawn_is_idle_under_idle_trap_labels = label.Main (main_label.Spawn 1 1) ∷ label.Main (main_label.Start 1 1) ∷ label.Loop loop_label.MainPends ∷
    label.Take (take.Push mark.High 1) ∷ label.Loop loop_label.MainPends ∷ label.Loop (loop_label.FuturePends 1) ∷ label.Take (take.Thread mark.High 1) ∷
    label.Set (set_label.New 1 1) ∷ label.Thread (thread_label.Pauses 1) ∷ label.Loop loop_label.MainPends ∷ label.Loop (loop_label.FuturePends 1) ∷
    []

abbrev pub live_never_ending_spawn_is_idle_under_idle_trap_run : ScenarioDef × List Label
live_never_ending_spawn_is_idle_under_idle_trap_run =
    (live_never_ending_spawn_is_idle_under_idle_trap, live_never_ending_spawn_is_idle_under_idle_trap_labels)

-- a: f
abbrev pub live_never_ending_spawn_is_idle_under_idle_wait : ScenarioDef
live_never_ending_spawn_is_idle_under_idle_wait = record {
  version = version.One;
  handles = 100000;
  table = 1000000;
  idle = idle_line.Wait;
  component = record {
    instances =
        (record {
          exports = (record {
            kind = kind.Callback;
            params = 0;
            start = (op.Set (set_op.New 3) ∷ op.Set (set_op.Wait 4 (operand.Register 3)) ∷
                op.Task (task_op.Ret (operand.Number 0)) ∷ []);
            react = [];
          } ∷ []);
          slots = (replicate 16 slot.Empty);
        } ∷ []);
    hosts = (host_def.Settled None None ∷ []);
  };
  names = [];
  main = (main_op.Spawn 0 ∷ main_op.Start (record { instance = 0; export = 0 }) [] ∷ main_op.Finish 1 0 ∷
      main_op.Answer (operand.Register 0) ∷ []);
  aborters = [];
}

abbrev pub live_never_ending_spawn_is_idle_under_idle_wait_labels : List Label
live_never_ending_spawn_is_idle_under_idle_wait_labels = label.Main (main_label.Spawn 1 1) ∷ label.Main (main_label.Start 1 1) ∷ label.Loop loop_label.MainPends ∷
    label.Take (take.Push mark.High 1) ∷ label.Loop loop_label.MainPends ∷ label.Loop (loop_label.FuturePends 1) ∷ label.Take (take.Thread mark.High 1) ∷
    label.Set (set_label.New 1 1) ∷ label.Thread (thread_label.Pauses 1) ∷ label.Loop loop_label.MainPends ∷ label.Loop (loop_label.FuturePends 1) ∷
    []

abbrev pub live_never_ending_spawn_is_idle_under_idle_wait_run : ScenarioDef × List Label
live_never_ending_spawn_is_idle_under_idle_wait_run =
    (live_never_ending_spawn_is_idle_under_idle_wait, live_never_ending_spawn_is_idle_under_idle_wait_labels)

-- no instance
abbrev pub main_aborts_a_never_ending_spawn : ScenarioDef
main_aborts_a_never_ending_spawn = record {
  version = version.One;
  handles = 100000;
  table = 1000000;
  idle = idle_line.Trap;
  component = record {
    instances = [];
    hosts =
        (host_def.Settled None None ∷ []);
  };
  names = [];
  main = (main_op.Spawn 0 ∷ main_op.Abort 1 ∷ main_op.Await 1 ∷ main_op.Answer (operand.Number 4) ∷
      []);
  aborters = [];
}

abbrev pub main_aborts_a_never_ending_spawn_labels : List Label
main_aborts_a_never_ending_spawn_labels = label.Main (main_label.Spawn 1 1) ∷ label.Main (main_label.Abort phase.Running 1) ∷ label.Loop loop_label.MainPends ∷
    label.Take (take.Push mark.High 1) ∷ label.Loop loop_label.MainPends ∷ label.Loop (loop_label.FutureEnds 1) ∷ label.Main (main_label.Await 1) ∷
    label.Main (main_label.Answer 4) ∷ []

abbrev pub main_aborts_a_never_ending_spawn_run : ScenarioDef × List Label
main_aborts_a_never_ending_spawn_run = (main_aborts_a_never_ending_spawn, main_aborts_a_never_ending_spawn_labels)

-- a: f
abbrev pub set_drop_with_a_member_and_no_waiter_traps : ScenarioDef
set_drop_with_a_member_and_no_waiter_traps = record {
  version = version.One;
  handles = 100000;
  table = 1000000;
  idle = idle_line.Trap;
  component = record {
    instances =
        (record {
          exports = (record {
            kind = kind.Callback;
            params = 0;
            start = (op.Set (set_op.New 3) ∷ op.Call (call_op.CallHost 4 8 0) ∷ op.Set (set_op.Join (operand.Number 2) (operand.Register 3)) ∷
                op.Set (set_op.Drop (operand.Register 3)) ∷ []);
            react = [];
          } ∷ []);
          slots = (replicate 16 slot.Empty);
        } ∷ []);
    hosts = (host_def.Settled (Some 1) (Some 5) ∷ []);
  };
  names = [];
  main = (main_op.Start (record { instance = 0; export = 0 }) [] ∷ main_op.Finish 1 0 ∷ main_op.Answer (operand.Register 0) ∷
      []);
  aborters = [];
}

abbrev pub set_drop_with_a_member_and_no_waiter_traps_labels : List Label
set_drop_with_a_member_and_no_waiter_traps_labels = label.Main (main_label.Start 1 1) ∷ label.Loop loop_label.MainPends ∷ label.Take (take.Thread mark.High 1) ∷
    label.Set (set_label.New 1 1) ∷ label.Call (call_label.CallPolls 33 1 1) ∷ label.Set (set_label.Join 1) ∷ label.Loop (loop_label.Trap trap.TableHasChildren 1) ∷
    []

abbrev pub set_drop_with_a_member_and_no_waiter_traps_run : ScenarioDef × List Label
set_drop_with_a_member_and_no_waiter_traps_run =
    (set_drop_with_a_member_and_no_waiter_traps, set_drop_with_a_member_and_no_waiter_traps_labels)

-- a: f
abbrev pub sync_host_calls_are_answered_at_once_and_later : ScenarioDef
sync_host_calls_are_answered_at_once_and_later = record {
  version = version.One;
  handles = 9;
  table = 90;
  idle = idle_line.Trap;
  component = record {
    instances = (record {
      exports = (record {
        kind = kind.Stackful;
        params = 0;
        start = (op.Call (call_op.CallSyncHost 3 0) ∷ op.Call (call_op.CallSyncHost 4 1) ∷ op.Data (data_op.Add 3 (operand.Register 4)) ∷
            op.Task (task_op.Ret (operand.Register 3)) ∷ []);
        react = [];
      } ∷ []);
      slots = (replicate 16 slot.Empty);
    } ∷ []);
    hosts = (host_def.Settled (Some 0) (Some 5) ∷ host_def.Settled (Some 1) (Some 6) ∷ []);
  };
  names = [];
  main = (main_op.Start (record { instance = 0; export = 0 }) [] ∷
      main_op.Finish 1 0 ∷ main_op.Answer (operand.Register 0) ∷ []);
  aborters = [];
}

abbrev pub sync_host_calls_are_answered_at_once_and_later_labels : List Label
sync_host_calls_are_answered_at_once_and_later_labels = label.Main (main_label.Start 1 1) ∷ label.Loop loop_label.MainPends ∷ label.Take (take.Thread mark.High 1) ∷
    label.CallSyncPolls 1 5 1 ∷ label.Call (call_label.PausesPolls 1 2) ∷ label.Loop loop_label.MainPends ∷ label.Take (take.Push mark.High 2) ∷
    label.Loop loop_label.MainPends ∷ label.Loop (loop_label.FutureEnds 2) ∷ label.Take (take.Thread mark.High 1) ∷ label.Call (call_label.CallSync 1 6) ∷
    label.Data (data_label.Add 1 11) ∷ label.Task (task_label.Ret 1 11) ∷ label.Task (task_label.Exit 1) ∷ label.Main (main_label.Finish 1 11) ∷
    label.Main (main_label.Answer 11) ∷ []

abbrev pub sync_host_calls_are_answered_at_once_and_later_run : ScenarioDef × List Label
sync_host_calls_are_answered_at_once_and_later_run =
    (sync_host_calls_are_answered_at_once_and_later, sync_host_calls_are_answered_at_once_and_later_labels)

-- no instance
abbrev pub abort_answers_the_phase_that_it_found : ScenarioDef
abort_answers_the_phase_that_it_found = record {
  version = version.One;
  handles = 9;
  table = 90;
  idle = idle_line.Trap;
  component = record {
    instances = [];
    hosts = (host_def.Settled None None ∷ []);
  };
  names = [];
  main = (main_op.Spawn 0 ∷ main_op.Abort 1 ∷ main_op.Abort 1 ∷ main_op.Await 1 ∷ main_op.Abort 1 ∷
      main_op.Answer (operand.Number 3) ∷ []);
  aborters = [];
}

abbrev pub abort_answers_the_phase_that_it_found_labels : List Label
abort_answers_the_phase_that_it_found_labels = label.Main (main_label.Spawn 1 1) ∷ label.Main (main_label.Abort phase.Running 1) ∷ label.Main (main_label.Abort phase.AbortRequested 1) ∷
    label.Loop loop_label.MainPends ∷ label.Take (take.Push mark.High 1) ∷ label.Loop loop_label.MainPends ∷ label.Loop (loop_label.FutureEnds 1) ∷
    label.Main (main_label.Await 1) ∷ label.Main (main_label.Abort phase.Complete 1) ∷ label.Main (main_label.Answer 3) ∷ []

abbrev pub abort_answers_the_phase_that_it_found_run : ScenarioDef × List Label
abort_answers_the_phase_that_it_found_run = (abort_answers_the_phase_that_it_found, abort_answers_the_phase_that_it_found_labels)
