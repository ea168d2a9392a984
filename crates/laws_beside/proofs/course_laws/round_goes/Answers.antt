use Rattle.laws_beside.proofs.CourseLemmas.{round_goes}
use Rattle.laws_beside.proofs.course_laws.round_goes.Goals as goal

pub returns : goal.returns
returns c = round_goes
