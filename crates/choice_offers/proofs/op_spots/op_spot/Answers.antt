use Rattle.choice_offers.proofs.op_spots.op_spot.Goals as goal
use Rattle.core_primitives.specs.StateView.{thread_of}
use Rattle.laws_choices.specs.Offers.{op_offer}
use Rattle.machine_data.specs.Read.{task_of}
use Rattle.ops_turns.proofs.RunLemmas.{op_is}
use Rattle.std.proofs.Common.{ap, refl, sym, ◌∙◌}
use Rattle.std.specs.Prelude.{None, Some, option_copied}

pub returns-in-Some : goal.returns-in-Some
returns-in-Some c =
    let s = c.args.core.now in
    let n = thread_of s c.args.thread in
    let q = c.requires in
    let is = op_is c.args.component.now n s.core q.thread q.here c.script_ops-script.result.now c.at-point.result.callee (task_of n s.core) c.at-point.result.position c.at-point.result.script c.at-point.ensures.callee refl (c.at-point.ensures.script q.thread q.here) c.script_ops-script.ensures c.at-point.ensures.position (Some c.in-Some.op.now) (sym (ap option_copied c.in-Some.is) ∙ c.op_at.ensures) in
    (c.spot_of.ensures.0, c.spot_of.ensures.1 ∙ ap (op_offer n s.core) (sym is))

pub returns-in-None : goal.returns-in-None
returns-in-None c =
    let s = c.args.core.now in
    let n = thread_of s c.args.thread in
    let q = c.requires in
    let is = op_is c.args.component.now n s.core q.thread q.here c.script_ops-script.result.now c.at-point.result.callee (task_of n s.core) c.at-point.result.position c.at-point.result.script c.at-point.ensures.callee refl (c.at-point.ensures.script q.thread q.here) c.script_ops-script.ensures c.at-point.ensures.position None (sym (ap option_copied c.in-None.is) ∙ c.op_at.ensures) in
    (c.exit_spot.ensures.0, c.exit_spot.ensures.1 ∙ ap (op_offer n s.core) (sym is))
