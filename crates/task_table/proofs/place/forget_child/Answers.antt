use Rattle.std.proofs.Common.{refl, arith}
use Rattle.task_table.specs.declared.place.TableCell.TheVariants.{Taken}
use Rattle.task_table.proofs.CountLemmas.{counted_at, counted-more_taken, counted-more_children, slot_within, place_read, not_read_free, counted-forget, shown-set_same}
use Rattle.task_table.proofs.place.forget_child.Goals as goal

pub index_mut-requires : goal.index_mut-requires
index_mut-requires g c =
    let counted = counted_at c.args.places.now.items c.args.parent c.in-Some.rep c.in-Some.is c.requires in
    let within = slot_within c.args.places.now.items c.in-Some.rep (counted-more_taken _ _ counted) in
    let ok = c.args.places.now.ok in
    omega arith

pub overflow_sub-slot : goal.overflow_sub-slot
overflow_sub-slot g c =
    let counted = counted_at c.args.places.now.items c.args.parent c.in-Some.rep c.in-Some.is c.requires in
    let found = place_read c.args.places.now.items c.in-Some.rep _ (Taken c.in-Taken.slot) (counted-more_taken _ _ counted) c.index_mut.ensures.value c.in-Taken.is in
    counted-more_children _ _ _ found counted

pub returns-in-Taken-clause-counted : goal.returns-in-Taken-clause-counted
returns-in-Taken-clause-counted g c =
    let counted = counted_at c.args.places.now.items c.args.parent c.in-Some.rep c.in-Some.is c.requires in
    counted-forget _ _ _ (place_read c.args.places.now.items c.in-Some.rep _ (Taken c.in-Taken.slot) (counted-more_taken _ _ counted) c.index_mut.ensures.value c.in-Taken.is) counted

pub returns-in-Taken-clause-shown : goal.returns-in-Taken-clause-shown
returns-in-Taken-clause-shown g c =
    let counted = counted_at c.args.places.now.items c.args.parent c.in-Some.rep c.in-Some.is c.requires in
    shown-set_same _ _ (Taken c.in-Taken.slot) _ (place_read c.args.places.now.items c.in-Some.rep _ _ (counted-more_taken _ _ counted) c.index_mut.ensures.value c.in-Taken.is) refl

pub returns-in_default-index_mut-clause-counted : goal.returns-in_default-index_mut-clause-counted
returns-in_default-index_mut-clause-counted g c =
    let counted = counted_at c.args.places.now.items c.args.parent c.in-Some.rep c.in-Some.is c.requires in
    absurd (not_read_free c.args.places.now.items c.in-Some.rep _ (counted-more_taken _ _ counted) c.index_mut.ensures.value c.in_default-index_mut.is)
