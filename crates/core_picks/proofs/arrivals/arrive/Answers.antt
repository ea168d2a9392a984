use Rattle.core_picks.proofs.ArriveLemmas.{arrive_first}
use Rattle.core_picks.proofs.arrivals.arrive.Goals as goal
use Rattle.core_primitives.specs.StateView.{with_core}
use Rattle.core_records.proofs.Core.{ap, Core, seen, sym}

pub returns-in-One-clause-new : goal.returns-in-One-clause-new
unfolding seen
returns-in-One-clause-new c =
    let s = seen c.args.parts.now in
    sym (ap (λ (u : Core). with_core u s) (arrive_first _ s.core c.in-One.is))
