use Rattle.core_places.proofs.waits.wait_filing.Goals as goal
use Rattle.core_places.specs.Waits.{filing_at}
use Rattle.core_records.proofs.Core.{ap, option_map, Some, sym, ◌∙◌, ◌≡◌}
use Rattle.table_links.specs.declared.links.Node.{Node}

pub returns-in-Some : goal.returns-in-Some
returns-in-Some c =
    ap Some c.filing_for.ensures ∙ sym (ap (option_map (λ (node : Node). filing_at c.args.parts.now c.args.id.rep c.args.thread.now c.args.to.now node)) c.in-Some.is)

pub returns-in-None : goal.returns-in-None
returns-in-None c = sym (ap (option_map (λ (node : Node). filing_at c.args.parts.now c.args.id.rep c.args.thread.now c.args.to.now node)) c.in-None.is)
