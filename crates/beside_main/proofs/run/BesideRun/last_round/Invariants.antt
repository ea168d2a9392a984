use Rattle.std.proofs.Common.{◌-◌, ◌^◌}
use Rattle.beside_main.proofs.RoundLemmas.{RoundGoes}
use Rattle.beside_main.proofs.run.BesideRun.last_round.Given as goal

abbrev pub invariant-round : goal.invariant-round
invariant-round g l = RoundGoes l.component l.polled l.initial.self l.self

abbrev pub decreases-round : goal.decreases-round
decreases-round g l = 2 ^ 64 - l.polled
