use Rattle.std.proofs.Common.{ap, option_map, sym, ◌∙◌}
use Rattle.table_lists.proofs.Refilings.{first_made, first_none, first_some}
use Rattle.table_lists.proofs.filed.first.Goals as goal

pub get-requires : goal.get-requires
get-requires g c = first_made c.args.links.now c.args.chain c.in-Some.node.index c.in-Some.field-0-1 c.first.ensures.sound (sym c.first.ensures.entry ∙ ap (option_map (λ e. (e.0.index, e.1))) c.in-Some.is)

pub returns-in-Some-clause-some : goal.returns-in-Some-clause-some
returns-in-Some-clause-some g c = first_some c.args.links.now c.args.chain c.in-Some.node.index c.in-Some.field-0-1 c.first.ensures.sound (sym c.first.ensures.entry ∙ ap (option_map (λ e. (e.0.index, e.1))) c.in-Some.is) c.get.result c.get.ensures

pub returns-in-Some-clause-none : goal.returns-in-Some-clause-none
returns-in-Some-clause-none g c = first_none c.args.links.now c.args.chain c.in-Some.node.index c.in-Some.field-0-1 c.first.ensures.sound (sym c.first.ensures.entry ∙ ap (option_map (λ e. (e.0.index, e.1))) c.in-Some.is) c.get.result c.get.ensures
