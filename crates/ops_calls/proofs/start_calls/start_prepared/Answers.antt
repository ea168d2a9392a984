use Rattle.std.proofs.Common.{ap, sym, ◌∙◌}
use Rattle.ops_calls.proofs.StartLemmas.{begun_whole, starts_as}
use Rattle.ops_calls.proofs.start_calls.start_prepared.Goals as goal
use Rattle.ops_turns.proofs.OrderLemmas.{number_at}
use Rattle.core_primitives.specs.StateView.{StateView, call_of, thread_of}

pub returns-clause-whole : goal.returns-clause-whole
returns-clause-whole g c comp n e words to before runs p =
    let v = g.W.View.view in
    let s = v c.args.w.now in
    let number = number_at n s runs c.in-Some.thread (sym c.current.ensures ∙ c.in-Some.is) in
    ap (λ (u : StateView). u.core) c.set_current.ensures
    ∙ (ap (λ (u : StateView). u.core) c.start_made.ensures
    ∙ (starts_as s c.args.callee (thread_of s c.in-Some.thread) n (call_of s c.task_of-call.result) c.callee-instance.result c.kind-kind.result number c.task_of-call.ensures.is c.callee-instance.ensures c.kind-kind.ensures
    ∙ begun_whole comp n e words to before s c.args.callee p))
