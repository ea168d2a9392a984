use Rattle.std.proofs.Common.{◌∙◌, sym, ap, subst, option_map}
use Rattle.table_links.specs.Links.{entries}
use Rattle.task_wait.specs.Sets.{IsAscending, without_entry}
use Rattle.task_wait.proofs.SetLemmas.{first_made, entries-without_first}
use Rattle.task_wait.proofs.OrderLemmas.{IsAscending-drop}
use Rattle.task_wait.proofs.set.take_first.Goals as goal

pub remove-requires : goal.remove-requires
remove-requires g c =
    first_made c.args.links.now c.args.chain c.in-Some.first.index c.in-Some.value c.first.ensures.sound
    (sym c.first.ensures.entry ∙ ap (option_map (λ e. (e.0.index, e.1))) c.in-Some.is)

pub returns-in-Some-clause-rest : goal.returns-in-Some-clause-rest
returns-in-Some-clause-rest g c =
    ap (λ l. entries l c.args.chain) (c.remove.ensures.links ∙ ap (λ o. without_entry o c.args.links.now) (sym (sym c.first.ensures.entry ∙ ap (option_map (λ e. (e.0.index, e.1))) c.in-Some.is)))
    ∙ entries-without_first c.args.links.now c.args.chain c.first.ensures.sound c.requires

pub returns-in-Some-clause-order : goal.returns-in-Some-clause-order
returns-in-Some-clause-order g c = λ up. subst (IsAscending g.P.Ord.cmp) (sym (returns-in-Some-clause-rest g c)) (IsAscending-drop g.P.Ord.cmp (entries c.args.links.now c.args.chain) up)
