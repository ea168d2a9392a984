use Rattle.std.proofs.Common.{rules, subst, sym}
use Rattle.std.specs.Prelude.{Err, Result, ℕ, ◌≡◌}
use Rattle.ops_dispatch.specs.Makes.{takes_memory}
use Rattle.ops_state.specs.declared.error.TaskError.{TaskError}
use Rattle.ops_calls.proofs.AnswerLemmas.{answers_of, refused_as}
use Rattle.ops_calls.proofs.host_ops.begin_event.Goals as goal
use Rattle.ops_calls.specs.OpAnswers.{answered, event_answered}
use Rattle.ops_calls.specs.HostOps.{AnswersOp, scripted_rule_of}
use Rattle.ops_calls.specs.declared.answer_calls.Step.{Step}

pub returns-in_err-answer : goal.returns-in_err-answer
returns-in_err-answer g c =
    let s = g.W.View.view c.args.w.now in
    let t = g.W.View.view c.do_host_op.new.w in
    let r = c.in_ok-op_result.op_result in
    let why = c.in_err-answer.field-0.0 in
    let refused : Err why ≡ answered (λ a. a) r = search rules in
    let is : c.from_residual-in_err-answer.result ≡ Err why = search rules in
    record {
      answers = subst (λ (a : Result (Step (ℕ × ℕ × ℕ)) TaskError). AnswersOp c.args.component.now c.args.op event_answered s a t) (sym is)
          (answers_of event_answered (takes_memory c.args.op) (scripted_rule_of c.args.component.now c.args.op s.core) s t r c.in_ok-op_result.ensures.did (Err why) (refused_as event_answered r why refused));
    }
