use Rattle.std.proofs.Common.{ap}
use Rattle.ops_subtasks.proofs.drops.settle.Goals as goal
use Rattle.core_primitives.specs.Names.{subtask_in}

pub settle_call-requires : goal.settle_call-requires
settle_call-requires g c = c.requires.live _ (ap (subtask_in (g.W.View.view c.args.w.now).tags) c.in-Guest.is)
