use Rattle.laws_beside.proofs.CourseLemmas.{run_opens}
use Rattle.laws_beside.proofs.course_laws.run_opens.Goals as goal

pub returns : goal.returns
returns c = run_opens
