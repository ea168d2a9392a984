use Rattle.core_counts.proofs.ScanLemmas.{scanned}
use Rattle.core_counts.proofs.stalls.some_may_not_suspend.Goals as goal
use Rattle.core_records.proofs.Core.{IsSoundCore, may_not_suspend, seen, ◌∙◌}

pub returns : goal.returns
unfolding IsSoundCore seen
returns c =
    c.some_entry_may_not.ensures
    ∙ scanned (λ g. g.number) (λ g. g.call) (λ k. may_not_suspend k.callee.instance (seen c.args.parts.now).core) c.args.parts.now.calls c.requires.tables.calls.apart
