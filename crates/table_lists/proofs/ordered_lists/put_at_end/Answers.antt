use Rattle.std.proofs.Common.{◌∷◌, ap, cond, sym, subst, ◌∙◌}
use Rattle.table_lists.proofs.OrderedLemmas.{IsAscending-front, last_not_first}
use Rattle.table_lists.proofs.ordered_lists.put_at_end.Goals as goal
use Rattle.table_links.proofs.ReadLemmas.{entries-linked_same, made_free}
use Rattle.table_links.specs.Links.{entries, linked}
use Rattle.task_wait.proofs.OrderLemmas.{IsAscending-placed}
use Rattle.task_wait.specs.Sets.{IsAscending, placed, placed_at}

pub returns-then-comes_first-clause-order : goal.returns-then-comes_first-clause-order
returns-then-comes_first-clause-order g c =
    subst (IsAscending g.P.Ord.cmp) (sym (ap (λ l. entries l c.args.chain) c.push_front.ensures
    ∙ entries-linked_same c.args.links.now c.args.chain c.args.node.index _ c.requires.chain (made_free c.args.links.now c.args.node.index c.requires.free) c.args.value))
    (IsAscending-front g.P.Ord.cmp g.met.P.Ord.total (c.args.node.index, c.args.value) (entries c.args.links.now c.args.chain) (sym c.comes_first.ensures ∙ c.if-comes_first.true) c.requires.order)

pub returns-then-comes_last-clause-links : goal.returns-then-comes_last-clause-links
returns-then-comes_last-clause-links g c =
    c.push_back.ensures
    ∙ (ap (λ o. linked c.args.chain c.args.node.index c.args.value (placed_at o (c.args.node.index, c.args.value) (entries c.args.links.now c.args.chain)) c.args.links.now) (sym (c.comes_last.ensures.last c.if-comes_last.true))
    ∙ ap (λ t. linked c.args.chain c.args.node.index c.args.value (cond t ((c.args.node.index, c.args.value) ∷ entries c.args.links.now c.args.chain) (placed g.P.Ord.cmp (c.args.node.index, c.args.value) (entries c.args.links.now c.args.chain))) c.args.links.now) (sym (last_not_first g.P.Ord.cmp g.met.P.Ord.total c.args.value (entries c.args.links.now c.args.chain) (c.comes_last.ensures.last c.if-comes_last.true) c.requires.order)))

pub returns-then-comes_last-clause-order : goal.returns-then-comes_last-clause-order
returns-then-comes_last-clause-order g c =
    subst (IsAscending g.P.Ord.cmp) (sym (ap (λ l. entries l c.args.chain) (c.push_back.ensures
    ∙ ap (λ o. linked c.args.chain c.args.node.index c.args.value (placed_at o (c.args.node.index, c.args.value) (entries c.args.links.now c.args.chain)) c.args.links.now) (sym (c.comes_last.ensures.last c.if-comes_last.true)))
    ∙ entries-linked_same c.args.links.now c.args.chain c.args.node.index _ c.requires.chain (made_free c.args.links.now c.args.node.index c.requires.free) c.args.value))
    (IsAscending-placed g.P.Ord.cmp g.met.P.Ord.total (c.args.node.index, c.args.value) (entries c.args.links.now c.args.chain) (c.comes_last.ensures.sound.once c.args.chain) c.requires.order)
