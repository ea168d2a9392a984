use Rattle.std.proofs.Common.{refl}
use Rattle.task_table.specs.declared.place.TableCell.TheVariants.{Taken}
use Rattle.task_table.proofs.CountLemmas.{place_read, not_read_free, counted-count, shown-set_same}
use Rattle.task_table.proofs.place.count_child.Goals as goal

pub returns-in-Taken-clause-counted : goal.returns-in-Taken-clause-counted
returns-in-Taken-clause-counted g c =
    counted-count _ _ _ (place_read c.args.places.now.items c.args.rep _ (Taken c.in-Taken.slot) c.requires.taken c.index_mut.ensures.value c.in-Taken.is) c.requires.counted

pub returns-in-Taken-clause-shown : goal.returns-in-Taken-clause-shown
returns-in-Taken-clause-shown g c =
    shown-set_same _ _ (Taken c.in-Taken.slot) _ (place_read c.args.places.now.items c.args.rep _ _ c.requires.taken c.index_mut.ensures.value c.in-Taken.is) refl

pub returns-in_default-clause-counted : goal.returns-in_default-clause-counted
returns-in_default-clause-counted g c =
    absurd (not_read_free c.args.places.now.items c.args.rep _ c.requires.taken c.index_mut.ensures.value c.in_default.is)
