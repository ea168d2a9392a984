use Rattle.std.proofs.Common.{sym}
use Rattle.text_scenario.specs.State.{main_op_of}
use Rattle.text_scenario.proofs.MainKept.{finishes_known}
use Rattle.text_scenario.proofs.state.State.add_finish.Goals as goal
use Rattle.text_lines.specs.declared.line.NamedOp.TheVariants as named

pub push-requires : goal.push-requires
unfolding main_op_of
push-requires c =
    finishes_known c.in-Main.field-0 _ (named.Finish c.in-Some.start c.in-Some.to) c.in-Some-finish_of.op (sym c.in-Some-finish_of.ensures)
