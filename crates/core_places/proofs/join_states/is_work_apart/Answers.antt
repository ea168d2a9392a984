use Rattle.core_places.proofs.StayLemmas.{work_stays}
use Rattle.core_places.proofs.join_states.is_work_apart.Goals as goal
use Rattle.core_records.proofs.Core.{seen, work_of}

pub returns-in-Nowhere : goal.returns-in-Nowhere
returns-in-Nowhere c is = work_stays (seen c.args.parts.now) (work_of (seen c.args.parts.now) c.args.work) c.in-Some.found.now.work c.in-Some.ensures.is c.in-Nowhere.is
