use Rattle.std.proofs.Common.{sym}
use Rattle.text_scenario.proofs.MainKept.{finishes_known}
use Rattle.text_scenario.proofs.state.State.add_main_op.Goals as goal

pub push-requires : goal.push-requires
push-requires c = finishes_known _ _ c.args.op c.in-Some.op (sym c.in-Some.ensures)
