use Rattle.laws_beside.proofs.CourseLemmas.{round_ends}
use Rattle.laws_beside.proofs.course_laws.round_ends.Goals as goal

pub returns : goal.returns
returns c = round_ends
