use Rattle.std.proofs.Common.{subst, sym, ap, ◌∙◌, cond}
use Rattle.std.proofs.lemmas.Bool.{eq-eqb}
use Rattle.table_links.specs.Links.{entries, removed}
use Rattle.task_wait.specs.Sets.{IsAscending, is_to}
use Rattle.task_wait.proofs.OrderLemmas.{IsAscending-taken_out}
use Rattle.task_wait.proofs.set.take_out.Goals as goal

pub returns-in-Some-clause-order : goal.returns-in-Some-clause-order
returns-in-Some-clause-order g c = λ up.
    let there = ap (is_to c.args.chain) (sym c.get.ensures ∙ c.in-Some.is) ∙ eq-eqb c.in-Some.found c.args.chain c.if-found-chain.true in
    let links = c.remove.ensures.links ∙ sym (ap (λ t. cond t (removed c.args.node.index c.args.links.now) c.args.links.now) there) in
    subst (λ l. IsAscending g.P.Ord.cmp (entries l c.args.chain)) (sym links) (IsAscending-taken_out g.P.Ord.cmp c.args.links.now c.args.chain c.args.node.index c.requires.chain up)
