-- What a host work does.
use Rattle.std.specs.Prelude.{None, Option, Some, suc, zero, ℕ, ◌≡◌}
use Rattle.machine_data.specs.declared.component.HostDef.{HostDef}
use Rattle.machine_data.specs.declared.component.HostDef.TheVariants as host_def
use Rattle.machine_data.specs.declared.statuses.HostPoll.{HostPoll}
use Rattle.machine_data.specs.declared.statuses.HostPoll.TheVariants as polls

abbrev pub told_at_end : Option ℕ → HostPoll
told_at_end None = polls.Failed
told_at_end (Some v) = polls.Value v

abbrev pub told_after : Option ℕ → Option ℕ → HostPoll
told_after None value = polls.Pending
told_after (Some zero) value = told_at_end value
told_after (Some (suc n)) value = polls.Pending

-- what the work may answer at its next poll: pending where polls are left or it is never to end, else its end; an open one whatever it does
abbrev pub MayTell : HostDef → HostPoll → Type 0
MayTell (host_def.Settled polls value) answer = answer ≡ told_after polls value
MayTell host_def.Open answer = Unit {0}

abbrev pub fewer : Option ℕ → Option ℕ
fewer None = None
fewer (Some zero) = Some 0
fewer (Some (suc n)) = Some n

-- one poll fewer is left, or it is never to end as before, or it is open
abbrev pub one_fewer : HostDef → HostDef
one_fewer (host_def.Settled polls value) = host_def.Settled (fewer polls) value
one_fewer host_def.Open = host_def.Open
