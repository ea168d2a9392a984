use Rattle.beside_main.specs.Course.{Continues}
use Rattle.beside_main.proofs.run.BesideRun.go_on.Given as goal

abbrev pub invariant-steps : goal.invariant-steps
invariant-steps g l = Continues l.component l.initial.self l.self

abbrev pub decreases-steps : goal.decreases-steps
decreases-steps g l = l.self.left
