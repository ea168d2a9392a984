use Rattle.std.proofs.Common.{sym}
use Rattle.machine_data.specs.Maps.{size}
use Rattle.machine_data.specs.Read.{foot_of}
use Rattle.ops_moves.proofs.FootLemmas.{foot_at}
use Rattle.ops_moves.proofs.feet.own_foot.Goals as goal
use Rattle.core_primitives.specs.StateView.{thread_of}

pub returns-clause-is : goal.returns-clause-is
unfolding foot_of
returns-clause-is g c = let s = g.W.View.view c.args.w.now in sym (foot_at (size s.core.threads) (thread_of s c.args.thread) s.core (sym c.requires.bottom))
