use Rattle.std.proofs.Common.{ap, subst, sym, ◌∙◌}
use Rattle.ops_subtasks.proofs.CallLemmas.{made_new_in, made_runs, queued_is}
use Rattle.ops_subtasks.proofs.call_ops.queue_start.Goals as goal
use Rattle.core_primitives.specs.StateView.{Keeps, StateView, thread_of}

pub start_made-requires-clause-running : goal.start_made-requires-clause-running
start_made-requires-clause-running g c =
    let v = g.W.View.view in
    let o = c.in_ok-other.ensures in
    made_runs c.args.thread c.in_ok-other.other _ c.args.callee c.args.kind c.args.goal _ _ (v c.args.w.now) (v c.make_call.new.self) c.requires.live o.1.tags c.requires.running o.1.core

pub start_made-requires-clause-new : goal.start_made-requires-clause-new
start_made-requires-clause-new g c =
    let v = g.W.View.view in
    let o = c.in_ok-other.ensures in
    made_new_in c.args.thread c.in_ok-other.other _ c.args.callee c.args.kind c.args.goal _ _ (v c.args.w.now) (v c.make_call.new.self) c.requires.live o.1.tags c.requires.running o.1.core o.0.0

pub returns : goal.returns
returns g c =
    let v = g.W.View.view in
    let s = v c.args.w.now in
    let o = c.in_ok-other.ensures in (
      ap (λ (y : StateView). thread_of y c.in_ok-other.other) c.start_made.ensures ∙ o.0.0,
      record {
        core = queued_is c.args.thread c.in_ok-other.other c.in_ok-other.call (thread_of s c.args.thread) c.args.callee c.args.kind c.args.goal _ s.core (v c.make_call.new.self) (v c.start_made.new.w) (o.1.tags.threads c.args.thread c.requires.live) o.0.0 o.0.1 o.1.core c.start_made.ensures;
        current = ap (λ (y : StateView). y.current) c.start_made.ensures ∙ o.1.current;
        tags = subst (λ (y : StateView). Keeps s.tags y.tags) (sym c.start_made.ensures) o.1.tags;
      },
    )
