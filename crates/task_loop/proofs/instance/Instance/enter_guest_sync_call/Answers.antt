-- The rule of the entry is done.
use Rattle.ops_state.specs.Named.{IsLive}
use Rattle.std.proofs.Common.{ap, subst}
use Rattle.std.specs.Prelude.{IfOk, true}
use Rattle.ops_calls.specs.OpAnswers.{at_once}
use Rattle.ops_calls.specs.HostOps.{Answers}
use Rattle.ops_calls.specs.Directs.{entered, enters_rule, thread_entered}
use Rattle.task_loop.proofs.HostOpHoldLemmas.{by_answers, entered_holds}
use Rattle.task_loop.proofs.InstanceCallLemmas.{does_call}
use Rattle.task_loop.proofs.RuleTrapLemmas.{entered_not}
use Rattle.task_loop.proofs.instance.Instance.enter_guest_sync_call.Goals as goal
use Rattle.task_loop.specs.InstanceCalls.{EntersCall}
use Rattle.task_loop.proofs.TrackedLemmas.{answers_known}
use Rattle.machine_data.specs.declared.component.Callee.{Callee}
use Rattle.machine_rules.specs.Scripts.{export_kind}

pub enter_call-answer-requires-clause-there : goal.enter_call-answer-requires-clause-there
enter_call-answer-requires-clause-there g c = rw c.callee-callee.ensures c.requires.callee.there

pub enter_call-answer-requires-clause-words : goal.enter_call-answer-requires-clause-words
enter_call-answer-requires-clause-words g c = rw c.callee-callee.ensures c.requires.callee.params

pub returns : goal.returns
returns g c =
    let s = c.args.store.now in
    let d = c.args.component.now in
    let q = c.requires.running in
    let n = q.number in
    let e = c.callee-callee.result in
    let words = c.args.params.now in
    let enter = c.enter_call-answer in
    let u = enter.new.w in
    let row = enters_rule d e words s.state.core in
    let answers = at_once (entered u enter.result) in
    let told = c.tell_call.ensures in
    record {
      does = subst
          (λ (k : Callee). EntersCall g.G.TaskGroupHook.listens d k words s c.tell_call.result (record s { state = c.tell_call.new.core; listeners = c.tell_call.new.listeners }))
          c.callee-callee.ensures
          (does_call g.G.TaskGroupHook.listens
          (λ a v. Answers true row thread_entered s.state (at_once (entered v a)) v × IfOk a (λ id. IsLive v id)) s u c.tell_call.new.core c.tell_call.new.listeners
          c.asked-before.result c.asked-before.ensures enter.result c.tell_call.result (enter.ensures.answers, enter.ensures.live)
          (answers_known s.state u n q.runs true row thread_entered answers enter.ensures.answers)
          (λ failed. entered_not s.state u d q e words thread_entered answers enter.ensures.answers (ap (λ r. at_once (entered u r)) failed))
          (λ left h.
          by_answers left s.state u h true row thread_entered answers n q.runs
          (λ r did. entered_holds left s.state u h n e (export_kind d e) words r did.implements) enter.ensures.answers) told);
    }
