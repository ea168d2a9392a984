use Rattle.std.proofs.Common.{ap, sym, ◌∙◌, set, map}
use Rattle.std.proofs.lemmas.List.{map-set}
use Rattle.task_table.specs.TableCells.{placed_in}
use Rattle.task_table.specs.declared.place.TableCell.TheVariants.{Taken}
use Rattle.task_table.proofs.CountLemmas.{some_mapped, place_read, not_read_free, slot_at_taken, counted-vacated}
use Rattle.task_table.proofs.place.vacate.Goals as goal

pub forget_child-requires : goal.forget_child-requires
forget_child-requires g c =
    let taken = some_mapped (λ s. s.children) _ 0 c.requires.childless in
    let found = place_read c.args.places.now.items c.args.rep _ (Taken c.in-Taken.slot) taken c.index_mut.ensures.value (sym c.replace.ensures.value ∙ c.in-Taken.is) in
    counted-vacated c.args.places.now.items c.args.rep c.in-Taken.slot c.replace.new.dest found c.requires.childless c.replace.ensures.after c.requires.counted

pub unreachable-requires : goal.unreachable-requires
unreachable-requires g c =
    not_read_free c.args.places.now.items c.args.rep _ (some_mapped (λ s. s.children) _ 0 c.requires.childless) c.index_mut.ensures.value (sym c.replace.ensures.value ∙ c.in-Free.is)

pub returns-clause-slot : goal.returns-clause-slot
returns-clause-slot g c =
    let taken = some_mapped (λ s. s.children) _ 0 c.requires.childless in
    slot_at_taken c.args.places.now.items c.args.rep c.in-Taken.slot (place_read c.args.places.now.items c.args.rep _ (Taken c.in-Taken.slot) taken c.index_mut.ensures.value (sym c.replace.ensures.value ∙ c.in-Taken.is))

pub returns-clause-shown : goal.returns-clause-shown
returns-clause-shown g c =
    c.forget_child.ensures.shown ∙ map-set placed_in _ _ _ ∙ ap (λ p. set (map placed_in c.args.places.now.items) c.args.rep (placed_in p)) c.replace.ensures.after
