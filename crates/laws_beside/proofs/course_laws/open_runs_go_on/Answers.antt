use Rattle.laws_beside.proofs.CourseLemmas.{open_runs_go_on}
use Rattle.laws_beside.proofs.course_laws.open_runs_go_on.Goals as goal

pub returns : goal.returns
returns c = open_runs_go_on
