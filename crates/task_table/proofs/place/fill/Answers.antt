use Rattle.std.proofs.Common.{sym, ap, ◌∙◌, ◌++◌, arith}
use Rattle.std.specs.Option.{option_to_list}
use Rattle.std.proofs.lemmas.Option.{slice_get_within}
use Rattle.task_table.specs.declared.place.TableCell.TheVariants.{Free}
use Rattle.task_table.proofs.CountLemmas.{popped_free, popped_not_taken}
use Rattle.task_table.proofs.place.fill.Goals as goal

pub index_mut-requires : goal.index_mut-requires
index_mut-requires g c =
    let free = popped_free c.args.places.now.items c.args.free.now.items c.pop.new.self.items c.in-Some.rep (c.pop.ensures.items ∙ ap (λ o. c.pop.new.self.items ++ option_to_list o) c.in-Some.is) c.requires.free in
    let within = slice_get_within c.args.places.now.items c.in-Some.rep Free free in
    let ok = c.args.places.now.ok in
    omega arith

pub unreachable-requires : goal.unreachable-requires
unreachable-requires g c =
    popped_not_taken c.args.places.now.items c.args.free.now.items c.pop.new.self.items c.in-Some.rep _ _ (c.pop.ensures.items ∙ ap (λ o. c.pop.new.self.items ++ option_to_list o) c.in-Some.is) c.requires.free c.index_mut.ensures.value (sym c.replace.ensures.value ∙ c.in-Taken.is)
