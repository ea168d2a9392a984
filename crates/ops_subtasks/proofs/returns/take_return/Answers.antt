use Rattle.std.proofs.Common.{ap, subst, sym, ◌∙◌}
use Rattle.ops_subtasks.proofs.ReturnLemmas.{live_after, returned_is}
use Rattle.ops_subtasks.proofs.returns.take_return.Goals as goal
use Rattle.core_primitives.specs.StateView.{KeepsBut, StateView, call_of, lost_call}

pub returns : goal.returns
returns g c =
    let v = g.W.View.view in
    let now = λ (y : StateView). y.current in
    let s = v c.args.w.now in
    let settled = c.settle_call.ensures in
    let live = live_after c.args.thread s (v c.resume.new.w) (ap (λ (y : StateView). y.tags) c.resume.ensures) c.requires.live in
    record {
      core = returned_is c.args.thread c.args.call _ s (v c.resume.new.w) (v c.settle_call.new.w) _ live c.resume.ensures settled.tags settled.core c.set_saved_callee.ensures;
      current = ap now c.set_saved_callee.ensures ∙ (settled.current ∙ ap now c.resume.ensures);
      tags =
          subst (λ (y : StateView). KeepsBut (lost_call (call_of s c.args.call)) s.tags y.tags) (sym c.set_saved_callee.ensures)
          (subst (λ (y : StateView). KeepsBut (lost_call (call_of y c.args.call)) y.tags (v c.settle_call.new.w).tags) c.resume.ensures settled.tags);
    }
