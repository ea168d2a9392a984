use Rattle.laws_beside.proofs.CourseLemmas.{round_begins}
use Rattle.laws_beside.proofs.course_laws.round_begins.Goals as goal

pub returns : goal.returns
returns c = round_begins
