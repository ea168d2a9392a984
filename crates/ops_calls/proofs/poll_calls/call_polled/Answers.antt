use Rattle.ops_dispatch.proofs.OpLemmas.{alike_op, tags_told, told_names}
use Rattle.ops_dispatch.proofs.SubtaskRules.{host_shows}
use Rattle.std.proofs.Common.{arith, refl, subst, sym, ◌∙◌}
use Rattle.ops_calls.proofs.HostOpLemmas.{left_did}
use Rattle.ops_calls.proofs.PollLemmas.{host_goes_on}
use Rattle.ops_calls.proofs.poll_calls.call_polled.Goals as goal
use Rattle.ops_calls.specs.HostOps.{Did}
use Rattle.ops_calls.specs.PolledCalls.{polls_rule}
use Rattle.ops_guests.specs.Does.{KeepsNames}
use Rattle.ops_guests.specs.Works.{NamesTold}
use Rattle.ops_subtasks.specs.First.{first_heard}
use Rattle.ops_subtasks.specs.Rules.{calls_host}
use Rattle.machine_rules.specs.Finish.{SomeHost}
use Rattle.ops_turns.proofs.OrderLemmas.{number_at, runner}
use Rattle.core_primitives.specs.StateView.{thread_of}

pub call_host-requires-clause-live : goal.call_host-requires-clause-live
call_host-requires-clause-live g c =
    let q = c.requires.running in
    (runner c.args.component.now q.number (g.W.View.view c.args.w.now) q.order c.none_is_zero.ensures.threads q.runs c.in-Some.thread (sym c.current.ensures ∙ c.in-Some.is)).live

pub call_host-requires-clause-few : goal.call_host-requires-clause-few
call_host-requires-clause-few g c = let few = c.requires.few in grind (arith)

pub returns-clause-did : goal.returns-clause-did
returns-clause-did g c =
    let v = g.W.View.view in
    let q = c.requires.running in
    let s = v c.args.w.now in
    let t = v c.call_host.new.w in
    let comp = c.args.component.now in
    let r = c.in-Ok.op_result in
    let e = c.in-Ok.ensures.does in
    let p = first_heard c.args.host c.args.answer in
    let n = thread_of s c.in-Some.thread in
    let is = sym c.current.ensures ∙ c.in-Some.is in
    let runs = runner comp q.number s q.order c.none_is_zero.ensures.threads q.runs c.in-Some.thread is in
    let own = calls_host c.args.register p in
    let did = alike_op KeepsNames NamesTold own own c.in-Some.thread s t r (host_shows n s.core SomeHost c.args.register p) is e.kept.1 (e.kept.0.threads c.in-Some.thread runs.live) (λ k. told_names s t (tags_told s t k.0)) (λ d ch. refl) e in
    subst (Did (polls_rule c.args.register p s.core) s r) (sym c.leave.ensures) (left_did comp own c.in-Some.thread q.number r s t did (number_at q.number s q.runs c.in-Some.thread is) q.runs (polls_rule c.args.register p s.core) (λ ch. refl))

pub returns-clause-goes : goal.returns-clause-goes
returns-clause-goes g c =
    let s = g.W.View.view c.args.w.now in
    host_goes_on (thread_of s c.in-Some.thread) c.args.register (first_heard c.args.host c.args.answer) s.core c.in-Ok.op_result _ (c.in-Ok.ensures.does.implements SomeHost)
