use Rattle.std.proofs.Common.{◌∙◌}
use Rattle.task_table.proofs.CountLemmas.{counted-unlinked, shown-replaced}
use Rattle.task_table.proofs.place.unlink.Goals as goal

pub forget_child-requires : goal.forget_child-requires
forget_child-requires g c =
    counted-unlinked c.args.places.now.items _ c.args.child _ c.replace_parent-parent.ensures.old c.replace_parent-parent.ensures.new c.requires.counted

pub returns-clause-shown : goal.returns-clause-shown
returns-clause-shown g c =
    c.forget_child.ensures.shown ∙ shown-replaced c.args.places.now.items _ c.args.child _ c.requires.child c.replace_parent-parent.ensures.new
