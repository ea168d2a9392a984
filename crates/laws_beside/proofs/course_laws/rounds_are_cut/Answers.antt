use Rattle.laws_beside.proofs.CourseLemmas.{rounds_are_cut}
use Rattle.laws_beside.proofs.course_laws.rounds_are_cut.Goals as goal

pub returns : goal.returns
returns c = rounds_are_cut
