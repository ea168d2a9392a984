-- The call is prepared.
use Rattle.std.proofs.Common.{subst}
use Rattle.std.specs.Prelude.{IfSome, Option, ℕ}
use Rattle.ops_calls.specs.Prepared.{Prepares, goal_for}
use Rattle.task_loop.proofs.HostOpHoldLemmas.{prepared_holds}
use Rattle.task_loop.proofs.InstanceCallLemmas.{does_call}
use Rattle.task_loop.proofs.RuleTrapLemmas.{prepares_not}
use Rattle.task_loop.proofs.instance.Instance.prepare_call.Goals as goal
use Rattle.task_loop.specs.InstanceCalls.{PreparesCall}
use Rattle.task_loop.proofs.TrackedLemmas.{prepared_known}
use Rattle.machine_data.specs.Read.{fits}
use Rattle.machine_data.specs.declared.component.Callee.{Callee}
use Rattle.ops_turns.specs.Turn.{running_of}

pub prepare_call-answer-requires-clause-there : goal.prepare_call-answer-requires-clause-there
prepare_call-answer-requires-clause-there g c = rw c.callee-callee.ensures c.requires.callee.there

pub prepare_call-answer-requires-clause-words : goal.prepare_call-answer-requires-clause-words
prepare_call-answer-requires-clause-words g c = rw c.callee-callee.ensures c.requires.callee.params

pub returns : goal.returns
returns g c =
    let s = c.args.store.now in
    let d = c.args.component.now in
    let q = c.requires.running in
    let n = q.number in
    let e = c.callee-callee.result in
    let words = c.args.params.now in
    let aim = goal_for c.args.async_caller c.args.register in
    let room = fits 3 s.state.core in
    let prepare = c.prepare_call-answer in
    let u = prepare.new.w in
    let told = c.tell_call.ensures in
    let prepared = subst (λ (o : Option ℕ). IfSome o (λ n. Prepares d n e words aim s.state room prepare.result u)) q.runs prepare.ensures in
    record {
      does = subst
          (λ (k : Callee).
          PreparesCall g.G.TaskGroupHook.listens d k words c.args.async_caller c.args.register s c.tell_call.result
          (record s { state = c.tell_call.new.core; listeners = c.tell_call.new.listeners }))
          c.callee-callee.ensures
          (does_call g.G.TaskGroupHook.listens
          (λ a v. IfSome (running_of s.state) (λ n. Prepares d n e words aim s.state room a v)) s u c.tell_call.new.core c.tell_call.new.listeners c.asked-before.result
          c.asked-before.ensures prepare.result c.tell_call.result prepare.ensures (prepared_known s.state u d n e words aim room prepare.result prepared)
          (λ failed. prepares_not s.state u d n e words aim room prepare.result prepared failed)
          (λ left h. prepared_holds left s.state u h d n e words aim room prepare.result prepared) told);
    }
