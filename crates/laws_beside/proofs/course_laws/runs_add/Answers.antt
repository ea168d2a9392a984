use Rattle.laws_beside.proofs.CourseLemmas.{runs_add}
use Rattle.laws_beside.proofs.course_laws.runs_add.Goals as goal

pub returns : goal.returns
returns c = runs_add
