use Rattle.core_records.proofs.Core.{ap, Some, sym, ℕ, ◌∙◌}
use Rattle.core_removals.proofs.PollLemmas.{begins_there}
use Rattle.core_removals.proofs.polls.search_start.Goals as goal

pub returns-then-work-polled-clause-walk : goal.returns-then-work-polled-clause-walk
returns-then-work-polled-clause-walk c =
    begins_there c.args.parts.now.polled c.args.chain c.nodes_have_values.ensures c.args.polled c.in-Some.node.index c.in-Some-get.work c.no_node_is_twice.ensures c.requires.rising
    (sym c.get.ensures ∙ (c.in-Some-get.is ∙ ap (λ (k : ℕ). Some (k, c.in-Some-get.work)) c.if-found-chain.true)) c.if-work-polled.true
