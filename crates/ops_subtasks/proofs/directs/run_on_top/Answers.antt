use Rattle.std.proofs.Common.{subst, sym}
use Rattle.std.specs.Prelude.{◌<◌}
use Rattle.ops_subtasks.proofs.DirectLemmas.{entered_is, made_live}
use Rattle.ops_subtasks.proofs.directs.run_on_top.Goals as goal
use Rattle.core_primitives.specs.StateView.{StateView, call_of, thread_of}

pub set_started_unchecked-requires : goal.set_started_unchecked-requires
set_started_unchecked-requires g c = made_live _ (g.W.View.view c.args.w.now).core c.in_ok-other.ensures.0.1

pub number_unchecked-to-requires : goal.number_unchecked-to-requires
number_unchecked-to-requires g c =
    subst (λ (x : StateView). 0 < thread_of x c.in_ok-other.other) (sym c.set_flag.ensures)
    (subst (λ (x : StateView). 0 < thread_of x c.in_ok-other.other) (sym c.set_started_unchecked.ensures)
    (made_live _ (g.W.View.view c.args.w.now).core c.in_ok-other.ensures.0.0))

pub run_first-requires : goal.run_first-requires
run_first-requires g c =
    subst (λ (x : StateView). 0 < thread_of x c.in_ok-other.other) (sym c.set_flag.ensures)
    (subst (λ (x : StateView). 0 < thread_of x c.in_ok-other.other) (sym c.set_started_unchecked.ensures)
    (made_live _ (g.W.View.view c.args.w.now).core c.in_ok-other.ensures.0.0))

pub stand_under-requires-clause-callee : goal.stand_under-requires-clause-callee
stand_under-requires-clause-callee g c =
    subst (λ (x : StateView). 0 < thread_of x c.in_ok-other.other) (sym c.run_first.ensures)
    (subst (λ (x : StateView). 0 < thread_of x c.in_ok-other.other) (sym c.set_flag.ensures)
    (subst (λ (x : StateView). 0 < thread_of x c.in_ok-other.other) (sym c.set_started_unchecked.ensures)
    (made_live _ (g.W.View.view c.args.w.now).core c.in_ok-other.ensures.0.0)))

pub stand_under-requires-clause-call : goal.stand_under-requires-clause-call
stand_under-requires-clause-call g c =
    subst (λ (x : StateView). 0 < call_of x c.in_ok-other.call) (sym c.run_first.ensures)
    (subst (λ (x : StateView). 0 < call_of x c.in_ok-other.call) (sym c.set_flag.ensures)
    (subst (λ (x : StateView). 0 < call_of x c.in_ok-other.call) (sym c.set_started_unchecked.ensures)
    (made_live _ (g.W.View.view c.args.w.now).core c.in_ok-other.ensures.0.1)))

pub returns-clause-core : goal.returns-clause-core
returns-clause-core g c =
    let v = g.W.View.view in
    let s = v c.args.w.now in
    let o = c.in_ok-other.ensures in
    entered_is c.args.thread c.in_ok-other.other c.in_ok-other.call (thread_of s c.args.thread) c.args.callee c.args.kind _ s.core (v c.make_direct_call.new.self) (v c.set_started_unchecked.new.self) (v c.set_flag.new.w) (v c.run_first.new.self) _ (o.1.tags.threads c.args.thread c.requires.live) o.0.0 o.0.1 o.1.core c.set_started_unchecked.ensures c.set_flag.ensures c.run_first.ensures c.stand_under.ensures
