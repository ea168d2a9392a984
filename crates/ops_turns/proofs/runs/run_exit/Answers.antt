use Rattle.std.proofs.Common.{◌∙◌}
use Rattle.ops_dispatch.proofs.EndLemmas.{exit_implements, exit_picks}
use Rattle.ops_turns.proofs.OrderLemmas.{unwinds}
use Rattle.ops_turns.proofs.runs.run_exit.Goals as goal

pub show_exit-requires-clause-unwinds : goal.show_exit-requires-clause-unwinds
show_exit-requires-clause-unwinds g c =
    let v = g.W.View.view in
    unwinds c.exit-op_result.result c.args.thread (v c.args.w.now) (v c.exit-op_result.new.w) c.requires.runner c.exit-op_result.ensures.does.stays

pub show_exit-requires-clause-goes : goal.show_exit-requires-clause-goes
show_exit-requires-clause-goes g c = c.exit-op_result.ensures.does.goes

pub returns-clause-shown : goal.returns-clause-shown
returns-clause-shown g c d =
    let v = g.W.View.view in
    let s = v c.args.w.now in
    let u = v c.exit-op_result.new.w in
    let did = c.exit-op_result.ensures.does in
    let implements = exit_implements c.args.thread s u c.exit-op_result.result did in
    let picks = exit_picks c.args.thread s u c.exit-op_result.result did in
    record {
      op_result = c.exit-op_result.result;
      left = u;
      implements = implements;
      picks = picks;
      stays = did.stays;
      shown = c.show_exit.ensures.shown;
    }
