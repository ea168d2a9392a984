-- What a poll of a live work may result in.
use Rattle.std.specs.Prelude.{Option, ℕ, ◌≡◌}
use Rattle.machine_data.specs.declared.component.HostDef.{HostDef}
use Rattle.machine_data.specs.declared.statuses.HostPoll.{HostPoll}
use Rattle.machine_rules.specs.Works.{Asked, Ends, FailsNow, Poll, StillPends}

-- it may pend, and the work is then to do this
abbrev pub PendsWith : HostDef → Poll → Type 0
PendsWith left (StillPends host) = left ≡ host
PendsWith left (Ends v) = ⊥
PendsWith left FailsNow = ⊥
PendsWith left (Asked next) = (answer : HostPoll) × PendsWith left (next answer)
