use Rattle.core_removals.proofs.JoinLemmas.{work_stays}
use Rattle.core_removals.proofs.work_removals.end_stage.Goals as goal
use Rattle.core_records.proofs.Core.{ap, Core, seen, sym, work_of}

pub returns-in-Ended-clause-new : goal.returns-in-Ended-clause-new
returns-in-Ended-clause-new c =
    ap (λ (s : Core). record (seen c.args.parts.now) { core = s })
    (sym (work_stays (work_of (seen c.args.parts.now) c.args.work) (seen c.args.parts.now).core c.in-Some.found.now.work (sym c.in-Some.ensures.is) c.in-Ended.is))
