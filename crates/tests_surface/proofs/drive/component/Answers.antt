-- Plain exports are covered.
use Rattle.ops_turns.proofs.CoveredLemmas.{covered_of}
use Rattle.tests_surface.proofs.drive.component.Goals as goal

pub returns-clause-covered : goal.returns-clause-covered
returns-clause-covered g c = covered_of c.in-Ok.component c.in-Ok.ensures.exports
