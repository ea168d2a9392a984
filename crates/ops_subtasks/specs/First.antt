-- What the first poll of a host finds.
use Rattle.ops_subtasks.specs.declared.host_ops.First.{First}
use Rattle.ops_subtasks.specs.declared.host_ops.First.TheVariants as first
use Rattle.machine_data.specs.declared.component.HostDef.{HostDef}
use Rattle.machine_data.specs.declared.component.HostDef.TheVariants as host_def
use Rattle.machine_data.specs.declared.statuses.HostPoll.{HostPoll}
use Rattle.machine_rules.specs.Calls.{AtOnce, Failing, FirstPoll, Later, heard_first, polled_first}

abbrev pub first_named : First → FirstPoll
first_named (first.AtOnce v) = AtOnce v
first_named first.Failing = Failing
first_named (first.Later left) = Later left

-- what it finds of this host, whose work answers so if it is open
abbrev pub first_heard : HostDef → HostPoll → FirstPoll
first_heard (host_def.Settled polls value) answer = polled_first polls value
first_heard host_def.Open answer = heard_first answer
