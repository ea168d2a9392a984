use Rattle.laws_beside.proofs.CourseLemmas.{steps_add}
use Rattle.laws_beside.proofs.course_laws.steps_add.Goals as goal

pub returns : goal.returns
returns c = steps_add
