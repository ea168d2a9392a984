-- What the rule of a call of a host results in, by what the host's first poll has found.
use Rattle.std.specs.Prelude.{Err, IfOk, Ok, Result, ◌≡◌}
use Rattle.ops_subtasks.specs.First.{first_heard}
use Rattle.machine_data.specs.Core.{Core}
use Rattle.machine_data.specs.declared.component.HostDef.{HostDef}
use Rattle.machine_data.specs.declared.component.HostDef.TheVariants as host_def
use Rattle.machine_data.specs.declared.statuses.HostPoll.{HostPoll}
use Rattle.ops_guests.specs.OpResult.{Implements}
use Rattle.ops_guests.specs.declared.op_result.OpResult.{OpResult}
use Rattle.machine_rules.specs.Calls.{FirstPoll, first_polled}
use Rattle.machine_rules.specs.Progress.{Progress}

pub met_first : (host : HostDef) (answer : HostPoll) (next : FirstPoll → Progress) (s t : Core) (r : OpResult) → Implements (next (first_heard host answer)) s r t → Implements (first_polled host next) s r t
met_first (host_def.Settled polls value) answer next s t r h = h
met_first host_def.Open answer next s t r h = (answer, h)

pub met_ok : {A E : Type 0} (host : HostDef) (answer : HostPoll) (next : FirstPoll → Progress) (s t : Core) (a : Result (OpResult × A) E) →
    IfOk a (λ r. Implements (next (first_heard host answer)) s r.0 t) → IfOk a (λ r. Implements (first_polled host next) s r.0 t)
met_ok host answer next s t (Ok r) h = met_first host answer next s t r.0 h
met_ok host answer next s t (Err e) h = h
