use Rattle.std.proofs.Common.{Some, ap, sym, ◌∙◌}
use Rattle.table_lists.proofs.OrderedLemmas.{Walk-from}
use Rattle.table_lists.proofs.ordered_lists.begin.Goals as goal

pub returns-then-there-chain-clause-walk : goal.returns-then-there-chain-clause-walk
returns-then-there-chain-clause-walk g c =
    Walk-from g.P.Ord.cmp g.met.P.Ord.total c.args.links.now c.args.chain c.in-Some.node.index c.in-Some-get.link.1 c.args.value c.previous-before.ensures.sound c.nodes_have_values.ensures
    (sym c.get.ensures ∙ c.in-Some-get.is ∙ ap (λ k. Some (k, c.in-Some-get.link.1)) c.if-there-chain.true) c.requires.order (sym c.is_less.ensures ∙ c.if-is_less.false)
    _ c.previous-before.ensures.entry
