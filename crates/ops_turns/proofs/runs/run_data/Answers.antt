use Rattle.core_primitives.specs.Preferences.{preference}
use Rattle.std.proofs.Common.{ap, ◌∙◌}
use Rattle.core_primitives.specs.StateView.{Tags, thread_of}
use Rattle.machine_rules.proofs.CalmLemmas.{data_calm}
use Rattle.machine_rules.specs.Data.{data_rule}
use Rattle.ops_dispatch.proofs.GoesLemmas.{same_goes}
use Rattle.ops_guests.proofs.CalmLemmas.{calm_picks}
use Rattle.ops_dispatch.proofs.RuleLemmas.{data_shows}
use Rattle.ops_dispatch.proofs.StayLemmas.{same_stays}
use Rattle.machine_data.specs.declared.op.Op.TheVariants as op
use Rattle.ops_turns.proofs.OrderLemmas.{unwinds}
use Rattle.ops_turns.proofs.runs.run_data.Goals as goal

pub show-requires-clause-unwinds : goal.show-requires-clause-unwinds
show-requires-clause-unwinds g c =
    let v = g.W.View.view in
    let s = v c.args.w.now in
    let u = v c.compute-op_result.new.w in
    unwinds c.compute-op_result.result c.args.thread s u c.requires.runner (same_stays _ s u c.compute-op_result.result (c.compute-op_result.ensures.implements c.args.component.now c.requires.within.1) c.compute-op_result.ensures.tags c.compute-op_result.ensures.current)

pub show-requires-clause-goes : goal.show-requires-clause-goes
show-requires-clause-goes g c =
    let v = g.W.View.view in
    let u = v c.compute-op_result.new.w in
    same_goes c.args.thread _ (v c.args.w.now) u c.compute-op_result.result (data_shows c.args.component.now _ _ c.args.op.now) (c.compute-op_result.ensures.implements c.args.component.now c.requires.within.1) c.requires.runner.current c.compute-op_result.ensures.tags c.compute-op_result.ensures.current

pub returns-clause-shown : goal.returns-clause-shown
returns-clause-shown g c =
    let v = g.W.View.view in
    let s = v c.args.w.now in
    let u = v c.compute-op_result.new.w in
    let n = thread_of s c.args.thread in
    let implements = c.compute-op_result.ensures.implements c.args.component.now c.requires.within.1 in
    record {
      op_result = c.compute-op_result.result;
      left = u;
      implements = implements;
      picks = calm_picks (preference s) n (data_rule c.args.component.now n s.core c.args.op.now) s.core c.compute-op_result.result u.core (data_calm c.args.component.now n s.core c.args.op.now) implements;
      stays = same_stays _ s u c.compute-op_result.result implements c.compute-op_result.ensures.tags c.compute-op_result.ensures.current;
      shown = c.show.ensures.shown;
    }
