-- The calls of a host by the running thread, whose work was polled first and found so.
use Rattle.std.specs.Prelude.{ℕ}
use Rattle.machine_data.specs.Core.{Core}
use Rattle.machine_data.specs.Labels.{Choice}
use Rattle.machine_rules.specs.Calls.{FirstPoll, call_host_by, call_sync_host_by}
use Rattle.machine_rules.specs.Finish.{SomeHost}
use Rattle.machine_rules.specs.Progress.{Progress}
use Rattle.machine_data.specs.declared.component.HostDef.{HostDef}
use Rattle.machine_data.specs.declared.statuses.HostPoll.{HostPoll}
use Rattle.ops_subtasks.specs.First.{first_heard}

-- a call that goes on: the packed status is answered, and the value, once there is one, goes to the register q
abbrev pub polls_rule : ℕ → FirstPoll → Core → ℕ → Choice → Progress
polls_rule q found s n ch = call_host_by SomeHost n q s found

-- a call that waits for the value
abbrev pub blocks_rule : FirstPoll → Core → ℕ → Choice → Progress
blocks_rule found s n ch = call_sync_host_by SomeHost n s found

-- the first of them, of this host, whose first poll was answered so
abbrev pub polls_host_rule : (register : ℕ) → HostDef → HostPoll → Core → ℕ → Choice → Progress
polls_host_rule q host answer s = polls_rule q (first_heard host answer) s
