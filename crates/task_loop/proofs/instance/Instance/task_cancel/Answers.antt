-- The op is done elsewhere than at its thread's place, unless the task still holds borrows.
use Rattle.ops_state.specs.declared.error.TaskError.TheVariants as task_error
use Rattle.ops_dispatch.specs.Makes.{takes_memory}
use Rattle.std.proofs.Common.{ap, refl, sym, ◌∙◌}
use Rattle.std.specs.Prelude.{Err, ℕ}
use Rattle.ops_calls.specs.OpAnswers.{at_once, nothing_answered}
use Rattle.ops_calls.specs.HostOps.{scripted_rule_of}
use Rattle.task_store.specs.HeldBorrows.{Comes, cancel_holds_borrows}
use Rattle.task_loop.proofs.HostOpHoldLemmas.{asked_holds}
use Rattle.task_loop.proofs.InstanceCallLemmas.{does_call}
use Rattle.task_loop.proofs.TrackedLemmas.{answers_known}
use Rattle.task_loop.proofs.BorrowedLemmas.{ended_unborrowed, refused_borrowed}
use Rattle.task_loop.proofs.RuleTrapLemmas.{asked_not}
use Rattle.task_loop.proofs.instance.Instance.task_cancel.Goals as goal
use Rattle.task_loop.specs.InstanceCalls.{UnlessHoldsBorrows, task_cancel_op}
use Rattle.task_loop.specs.Lent.{RuleAnswers}
use Rattle.machine_data.specs.declared.trap.Trap.TheVariants as trap

pub returns : goal.returns
returns g c =
    let s = c.args.store.now in
    let d = c.args.component.now in
    let q = c.requires.running in
    let ask = c.host_op_nothing-answer in
    let u = ask.new.w in
    let comes : ℕ → Comes = λ n. RuleAnswers (scripted_rule_of d task_cancel_op s.state.core) in
    let op_result =
    ended_unborrowed s.state c.in-Some.thread c.current.result c.current.ensures c.in-Some.is (λ n. cancel_holds_borrows n s.state.core) comes
    ask.result u (sym c.cancel_holds_borrows.ensures ∙ c.if-cancel_holds_borrows.false) ask.ensures.answers in
    record {
      does = does_call g.G.TaskGroupHook.listens (UnlessHoldsBorrows cancel_holds_borrows comes s.state) s u c.tell_call.new.core c.tell_call.new.listeners
          c.asked-before.result c.asked-before.ensures ask.result c.tell_call.result op_result
          (answers_known s.state u q.number q.runs (takes_memory task_cancel_op) (scripted_rule_of d task_cancel_op s.state.core) nothing_answered (at_once ask.result) ask.ensures.answers)
          (λ e. asked_not s.state u d q task_cancel_op nothing_answered (at_once ask.result) ask.ensures.answers (ap at_once e))
          (λ left h. asked_holds left s.state u h d q task_cancel_op nothing_answered (at_once ask.result) refl ask.ensures.answers) c.tell_call.ensures;
    }

pub returns-then-cancel_holds_borrows : goal.returns-then-cancel_holds_borrows
returns-then-cancel_holds_borrows g c =
    let s = c.args.store.now in
    let d = c.args.component.now in
    let comes : ℕ → Comes = λ n. RuleAnswers (scripted_rule_of d task_cancel_op s.state.core) in
    let op_result =
    refused_borrowed s.state c.in-Some.thread c.current.result c.current.ensures c.in-Some.is (λ n. cancel_holds_borrows n s.state.core) comes
    (sym c.cancel_holds_borrows.ensures ∙ c.if-cancel_holds_borrows.true) in
    record {
      does = does_call g.G.TaskGroupHook.listens (UnlessHoldsBorrows cancel_holds_borrows comes s.state) s s.state c.tell_refused.new.core c.tell_refused.new.listeners
          c.asked-before.result c.asked-before.ensures (Err (task_error.Trap trap.ScopeExit)) c.tell_refused.result op_result refl (λ e. absurd (cc)) (λ left h. h) c.tell_refused.ensures;
    }
