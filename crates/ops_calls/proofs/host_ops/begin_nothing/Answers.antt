use Rattle.std.proofs.Common.{rules, subst, sym}
use Rattle.std.specs.Prelude.{Err, Result, ◌≡◌}
use Rattle.ops_dispatch.specs.Makes.{takes_memory}
use Rattle.ops_state.specs.declared.error.TaskError.{TaskError}
use Rattle.ops_calls.proofs.AnswerLemmas.{answers_of, refused_as}
use Rattle.ops_calls.proofs.host_ops.begin_nothing.Goals as goal
use Rattle.ops_calls.specs.OpAnswers.{answered, nothing_answered}
use Rattle.ops_calls.specs.HostOps.{AnswersOp, scripted_rule_of}
use Rattle.ops_calls.specs.declared.answer_calls.Step.{Step}

pub returns-in_err-stepped : goal.returns-in_err-stepped
returns-in_err-stepped g c =
    let s = g.W.View.view c.args.w.now in
    let t = g.W.View.view c.do_host_op.new.w in
    let r = c.in_ok-op_result.op_result in
    let why = c.in_err-stepped.field-0.0 in
    let refused : Err why ≡ answered (λ a. a) r = search rules in
    let is : c.from_residual-in_err-stepped.result ≡ Err why = search rules in
    record {
      answers = subst (λ (a : Result (Step (Unit {0})) TaskError). AnswersOp c.args.component.now c.args.op nothing_answered s a t) (sym is)
          (answers_of nothing_answered (takes_memory c.args.op) (scripted_rule_of c.args.component.now c.args.op s.core) s t r c.in_ok-op_result.ensures.did (Err why) (refused_as nothing_answered r why refused));
    }
