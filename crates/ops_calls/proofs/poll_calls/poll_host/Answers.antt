use Rattle.std.proofs.Common.{rules, subst, sym}
use Rattle.std.specs.Prelude.{Err, Result, true, ℕ, ◌≡◌}
use Rattle.ops_state.specs.declared.error.TaskError.{TaskError}
use Rattle.ops_subtasks.specs.First.{first_heard}
use Rattle.ops_calls.proofs.AnswerLemmas.{answers_of, refused_as}
use Rattle.ops_calls.proofs.poll_calls.poll_host.Goals as goal
use Rattle.ops_calls.specs.OpAnswers.{answered, at_once, number_answered}
use Rattle.ops_calls.specs.HostOps.{Answers}
use Rattle.ops_calls.specs.PolledCalls.{polls_rule}

pub returns-in_err-answer : goal.returns-in_err-answer
returns-in_err-answer g c =
    let s = g.W.View.view c.args.w.now in
    let t = g.W.View.view c.call_polled.new.w in
    let row = polls_rule c.args.register (first_heard c.args.host c.args.answer) s.core in
    let r = c.in_ok-op_result.op_result in
    let why = c.in_err-answer.field-0.0 in
    let refused : Err why ≡ answered (λ a. a) r = search rules in
    let is : c.from_residual-in_err-answer.result ≡ Err why = search rules in
    record {
      answers = subst (λ (a : Result ℕ TaskError). Answers true row number_answered s (at_once a) t) (sym is)
          (answers_of number_answered true row s t r c.in_ok-op_result.ensures.did (Err why) (refused_as number_answered r why refused));
    }
