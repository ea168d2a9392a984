use Rattle.std.proofs.Common.{subst, sym}
use Rattle.ops_turns.proofs.KeptLemmas.{finish_in_order}
use Rattle.ops_turns.specs.Turn.{CoreInOrder}
use Rattle.core_primitives.specs.StateView.{StateView}
use Rattle.ops_calls.proofs.host_calls.finish_call.Goals as goal

pub returns-in-Some-clause-order : goal.returns-in-Some-clause-order
returns-in-Some-clause-order g c = λ d p in_turn.
    subst (λ (s : StateView). CoreInOrder d p s.core) (sym c.take_result.ensures) (finish_in_order d p _ _ _ (sym c.in-Some.ensures) in_turn)
