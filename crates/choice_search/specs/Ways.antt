-- The ways in which hosts answer, each by its number.
use Rattle.machine_data.specs.declared.component.HostDef.TheVariants as host_def
use Rattle.machine_data.specs.declared.component.HostDef.{HostDef}
use Rattle.std.specs.Prelude.{List, Option, Some, [], ℕ, ◌%◌, ◌*◌, ◌+◌, ◌/◌, ◌<◌, ◌∷◌, ◌≡◌, ◌≤◌}

-- with how many numbers of polls a host is looked at: with 0 to so many, if polls are given and it ends
abbrev pub times : Option ℕ → HostDef → ℕ
times (Some m) (host_def.Settled (Some n) v) = m + 1
times polls def = 1

abbrev pub with_polls : Option ℕ → HostDef → ℕ → HostDef
with_polls (Some m) (host_def.Settled (Some n) v) k = host_def.Settled (Some k) v
with_polls polls def k = def

abbrev pub host_ways : Option ℕ → List HostDef → ℕ
host_ways polls [] = 1
host_ways polls (d ∷ ds) = times polls d * host_ways polls ds

-- the hosts of the way with this number
abbrev pub hosts_at : Option ℕ → List HostDef → ℕ → List HostDef
hosts_at polls [] k = []
hosts_at polls (d ∷ ds) k = with_polls polls d (k % times polls d) ∷ hosts_at polls ds (k / times polls d)
