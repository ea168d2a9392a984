use Rattle.std.proofs.Common.{None, ◌∙◌, arith}
use Rattle.task_table.proofs.CountLemmas.{counted_few, some_mapped, same_parents, counted-linked, shown-replaced}
use Rattle.std.proofs.Common.{ap}
use Rattle.task_table.specs.Changes.{with_parent_at}
use Rattle.task_table.proofs.place.link.Goals as goal

pub count_child-requires-clause-few : goal.count_child-requires-clause-few
count_child-requires-clause-few g c =
    let few = counted_few c.args.places.now.items c.args.child c.args.parent c.requires.child c.requires.counted in
    let bound = c.requires.few in
    omega arith

pub replace_parent-requires : goal.replace_parent-requires
replace_parent-requires g c =
    some_mapped (λ s. s.parent) _ None (same_parents c.args.places.now.items c.count_child.new.places.items c.args.child c.count_child.ensures.shown ∙ c.requires.child)

pub returns-clause-counted : goal.returns-clause-counted
returns-clause-counted g c =
    counted-linked c.count_child.new.places.items _ c.args.child c.args.parent
    (same_parents c.args.places.now.items c.count_child.new.places.items c.args.child c.count_child.ensures.shown ∙ c.requires.child)
    c.replace_parent.ensures.new c.count_child.ensures.counted

pub returns-clause-shown : goal.returns-clause-shown
returns-clause-shown g c =
    let orphan = same_parents c.args.places.now.items c.count_child.new.places.items c.args.child c.count_child.ensures.shown ∙ c.requires.child in
    shown-replaced c.count_child.new.places.items _ c.args.child _ (some_mapped (λ s. s.parent) _ None orphan) c.replace_parent.ensures.new
    ∙ ap (with_parent_at c.args.child _) c.count_child.ensures.shown
