use Rattle.ops_state.proofs.KeepLemmas.{ended_kept}
use Rattle.ops_state.proofs.end_calls.cleanup_thread.Goals as goal
use Rattle.std.proofs.Common.{sym, ◌∙◌}
use Rattle.ops_state.proofs.OrderLemmas.{leaves_order}

pub returns-clause-wakes : goal.returns-clause-wakes
returns-clause-wakes g c = ended_kept _ (g.W.View.view c.args.w.now).core _ c.end_thread.ensures.core

pub returns-clause-order : goal.returns-clause-order
returns-clause-order g c = leaves_order _ (g.W.View.view c.args.w.now).core _ c.end_thread.ensures.core (sym c.leaves_no_result.ensures ∙ c.if-leaves_no_result.false)
