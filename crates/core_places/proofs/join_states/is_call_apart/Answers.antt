use Rattle.core_places.proofs.StayLemmas.{call_stays}
use Rattle.core_places.proofs.join_states.is_call_apart.Goals as goal
use Rattle.core_records.proofs.Core.{call_of, seen}

pub returns-in-Nowhere : goal.returns-in-Nowhere
returns-in-Nowhere c is = call_stays (seen c.args.parts.now) (call_of (seen c.args.parts.now) c.args.call) c.in-Some.found.now.call c.in-Some.ensures.is c.in-Nowhere.is
