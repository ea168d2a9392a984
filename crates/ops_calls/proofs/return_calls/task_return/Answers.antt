use Rattle.std.proofs.Common.{arith, subst, sym, ◌∙◌}
use Rattle.std.proofs.lemmas.Bool.Decides.{nat_tests}
use Rattle.std.specs.Prelude.{true, ◌≡◌}
use Rattle.ops_calls.proofs.HostOpLemmas.{met_same, same_current, same_tags}
use Rattle.ops_calls.proofs.ReturnLemmas.{ret_goes_on, returned}
use Rattle.ops_calls.specs.MainCalls.{Returns, is_own_type}
use Rattle.ops_turns.proofs.OrderLemmas.{number_at, runner}
use Rattle.machine_data.specs.Labels.{choice_of}
use Rattle.ops_guests.specs.Ended.{ended}
use Rattle.ops_guests.specs.Steps.{label_of}
use Rattle.machine_rules.specs.Finish.{SomeHost}
use Rattle.machine_rules.specs.Task.{ret_rule}
use Rattle.core_primitives.specs.StateView.{thread_of}
use Rattle.ops_calls.proofs.return_calls.task_return.Goals as goal

pub ret-op_result-requires-clause-live : goal.ret-op_result-requires-clause-live
ret-op_result-requires-clause-live g c =
    (runner c.args.component.now c.args.number (g.W.View.view c.args.w.now) c.requires.order c.none_is_zero.ensures.threads c.requires.runs c.in-Some.thread (sym c.current.ensures ∙ c.in-Some.is)).live

pub ret-op_result-requires-clause-running : goal.ret-op_result-requires-clause-running
ret-op_result-requires-clause-running g c =
    (runner c.args.component.now c.args.number (g.W.View.view c.args.w.now) c.requires.order c.none_is_zero.ensures.threads c.requires.runs c.in-Some.thread (sym c.current.ensures ∙ c.in-Some.is)).running

pub ret-op_result-requires-clause-there : goal.ret-op_result-requires-clause-there
ret-op_result-requires-clause-there g c =
    (runner c.args.component.now c.args.number (g.W.View.view c.args.w.now) c.requires.order c.none_is_zero.ensures.threads c.requires.runs c.in-Some.thread (sym c.current.ensures ∙ c.in-Some.is)).join

pub returns : goal.returns
returns g c =
    let s = g.W.View.view c.args.w.now in
    let t = g.W.View.view c.ret-op_result.new.w in
    let v = c.args.value in
    let n = number_at c.args.number s c.requires.runs c.in-Some.thread (sym c.current.ensures ∙ c.in-Some.is) in
    let own : is_own_type c.args.ty c.args.encoding c.args.memory ≡ true = (let x = c.if-ty-ne0.false in let y = c.if-encoding-ne0.false in let z = c.if-memory-ne0.false in grind (arith, nat_tests)) in
    let id = c.in-Some.thread in
    let k = thread_of s id in
    let r = c.ret-op_result.result in
    let did = c.ret-op_result.ensures.does in
    let w = (choice_of (label_of k r)).woken in
    let u = g.W.View.view c.leave.new.w in
    let going = ret_goes_on k v w s.core r (ended SomeHost k r t.core) (did.implements SomeHost) in
    let met = met_same id r s t u did.kept going c.leave.ensures (ret_rule SomeHost k v w s.core) (did.implements SomeHost) in
    record {
      returns = subst (λ k. Returns k v (is_own_type c.args.ty c.args.encoding c.args.memory) s c.answer-2.result u) n
          (subst (λ b. Returns k v b s c.answer-2.result u) (sym own)
          (subst (λ r. Returns k v true s r u) (sym c.answer-2.ensures)
          (returned s u (same_tags id r s t u did.kept going c.leave.ensures) (same_current id r s t u did.kept going c.leave.ensures) r k v w met)));
    }
