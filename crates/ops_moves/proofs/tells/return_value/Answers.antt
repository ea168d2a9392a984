use Rattle.ops_moves.proofs.TellLemmas.{can_after_end, can_after_result, main_ended, returned_is}
use Rattle.ops_moves.proofs.tells.return_value.Goals as goal

pub give_result-requires : goal.give_result-requires
give_result-requires g c = main_ended c.args.call _ _ (g.W.View.view c.args.w.now) _ c.goal-goal.ensures c.set_end.ensures

pub tell-requires : goal.tell-requires
tell-requires g c =
    let v = g.W.View.view in
    can_after_result c.args.call _ c.caller-caller.result _ _ (v c.set_end.new.self) _ c.give_result.ensures (can_after_end c.args.call _ _ (v c.args.w.now) _ c.set_end.ensures c.requires)

pub returns : goal.returns
returns g c = returned_is c.args.call _ c.caller-caller.result _ _ (g.W.View.view c.args.w.now) _ _ _ c.none_is_zero.ensures.threads c.goal-goal.ensures c.caller-caller.ensures c.set_end.ensures c.give_result.ensures c.tell.ensures
