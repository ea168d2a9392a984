-- The rule is done, unless the task still holds borrows.
use Rattle.ops_state.specs.declared.error.TaskError.TheVariants as task_error
use Rattle.std.proofs.Common.{ap, refl, subst, sym, ◌∙◌}
use Rattle.std.specs.Prelude.{Err, IfSome, Option, false, ℕ}
use Rattle.ops_calls.specs.OpAnswers.{at_once, nothing_answered}
use Rattle.ops_calls.specs.Directs.{IsDirect, exits_rule}
use Rattle.task_store.specs.HeldBorrows.{Comes, exit_holds_borrows}
use Rattle.task_loop.proofs.HostOpHoldLemmas.{by_answers, exited_holds}
use Rattle.task_loop.proofs.InstanceCallLemmas.{does_call}
use Rattle.task_loop.proofs.TrackedLemmas.{answers_known}
use Rattle.task_loop.proofs.BorrowedLemmas.{ended_unborrowed, refused_borrowed}
use Rattle.task_loop.proofs.RuleTrapLemmas.{exited_not}
use Rattle.task_loop.proofs.instance.Instance.exit_guest_sync_call.Goals as goal
use Rattle.task_loop.specs.InstanceCalls.{UnlessHoldsBorrows}
use Rattle.task_loop.specs.Lent.{RuleAnswers}
use Rattle.machine_data.specs.declared.trap.Trap.TheVariants as trap

pub returns : goal.returns
returns g c =
    let s = c.args.store.now in
    let d = c.args.component.now in
    let q = c.requires.running in
    let n = q.number in
    let v = c.args.value in
    let exit = c.exit_call-answer in
    let u = exit.new.w in
    let row = exits_rule v s.state.core in
    let told = c.tell_call.ensures in
    let comes : ℕ → Comes = λ n. RuleAnswers row in
    let direct = subst (λ (o : Option ℕ). IfSome o (λ n. IsDirect n s.state.core)) q.runs c.requires.direct in
    let op_result =
    ended_unborrowed s.state c.in-Some.thread c.current.result c.current.ensures c.in-Some.is (λ n. exit_holds_borrows n s.state.core) comes exit.result u
    (sym c.exit_holds_borrows.ensures ∙ c.if-exit_holds_borrows.false) exit.ensures.answers in
    record {
      does = does_call g.G.TaskGroupHook.listens (UnlessHoldsBorrows exit_holds_borrows comes s.state) s u c.tell_call.new.core c.tell_call.new.listeners
          c.asked-before.result c.asked-before.ensures exit.result c.tell_call.result op_result
          (answers_known s.state u n q.runs false row nothing_answered (at_once exit.result) exit.ensures.answers)
          (λ e. exited_not s.state u d q v nothing_answered (at_once exit.result) exit.ensures.answers (ap at_once e))
          (λ left h.
          by_answers left s.state u h false row nothing_answered (at_once exit.result) n q.runs
          (λ r did. exited_holds left s.state u h d q v direct r did.implements did.stays) exit.ensures.answers) told;
    }

pub returns-then-exit_holds_borrows : goal.returns-then-exit_holds_borrows
returns-then-exit_holds_borrows g c =
    let s = c.args.store.now in
    let comes : ℕ → Comes = λ n. RuleAnswers (exits_rule c.args.value s.state.core) in
    let op_result =
    refused_borrowed s.state c.in-Some.thread c.current.result c.current.ensures c.in-Some.is (λ n. exit_holds_borrows n s.state.core) comes
    (sym c.exit_holds_borrows.ensures ∙ c.if-exit_holds_borrows.true) in
    record {
      does = does_call g.G.TaskGroupHook.listens (UnlessHoldsBorrows exit_holds_borrows comes s.state) s s.state c.tell_refused.new.core c.tell_refused.new.listeners
          c.asked-before.result c.asked-before.ensures (Err (task_error.Trap trap.ScopeExit)) c.tell_refused.result op_result refl (λ e. absurd (cc)) (λ left h. h) c.tell_refused.ensures;
    }
