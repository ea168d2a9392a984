use Rattle.laws_beside.proofs.CourseLemmas.{has_outcome}
use Rattle.laws_beside.proofs.course_laws.has_outcome.Goals as goal

pub returns : goal.returns
returns c = has_outcome
