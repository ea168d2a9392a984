use Rattle.std.proofs.Common.{ap, ◌∙◌}
use Rattle.ops_subtasks.proofs.GuestLemmas.{out_apart, withdrawn_core, withdrawn_tags}
use Rattle.ops_subtasks.proofs.withdrawals.withdraw.Goals as goal
use Rattle.core_primitives.specs.StateView.{StateView}

pub remove_thread-requires-clause-apart : goal.remove_thread-requires-clause-apart
remove_thread-requires-clause-apart g c = out_apart c.args.first _ (g.W.View.view c.args.w.now) _ c.requires.first c.requires.place c.requires.fresh c.take_out.ensures

pub returns : goal.returns
returns g c =
    let v = g.W.View.view in
    let now = λ (y : StateView). y.current in
    let r = c.remove_thread.ensures in
    record {
      core = withdrawn_core c.args.first c.args.call (v c.args.w.now) _ (v c.remove_thread.new.self) _ _ _ c.take_out.ensures r.core r.tags c.set_end.ensures c.set_exited.ensures c.set_uninteresting.ensures c.requires.first c.requires.live;
      current = ap now c.set_uninteresting.ensures ∙ (ap now c.set_exited.ensures ∙ (ap now c.set_end.ensures ∙ (r.current ∙ ap now c.take_out.ensures)));
      tags = withdrawn_tags c.args.first c.args.call (v c.args.w.now) _ (v c.remove_thread.new.self) _ _ _ c.take_out.ensures r.core r.tags c.set_end.ensures c.set_exited.ensures c.set_uninteresting.ensures c.requires.first c.requires.live;
    }
