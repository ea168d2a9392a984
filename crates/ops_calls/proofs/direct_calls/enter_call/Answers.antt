use Rattle.std.proofs.Common.{rules, sym, subst, ◌∙◌}
use Rattle.std.specs.Prelude.{Err, Ok, Result, Some, true, ◌≡◌}
use Rattle.machine_data.specs.declared.records.Turn.TheVariants as turn
use Rattle.ops_calls.proofs.AnswerLemmas.{answers_of, refused_as}
use Rattle.ops_calls.proofs.CallLemmas.{found_kind}
use Rattle.ops_calls.proofs.DirectLemmas.{entered_answer, entered_live, enters_did, enters_on}
use Rattle.ops_calls.proofs.direct_calls.enter_call.Goals as goal
use Rattle.ops_calls.specs.HostOps.{Answers}
use Rattle.ops_calls.specs.Directs.{entered, enters_rule, thread_entered}
use Rattle.ops_calls.specs.OpAnswers.{answered, at_once}
use Rattle.ops_calls.specs.declared.answer_calls.Step.TheVariants as step
use Rattle.ops_state.specs.declared.error.TaskError.{TaskError}
use Rattle.ops_state.specs.declared.name_calls.QualifiedThreadId.{QualifiedThreadId}
use Rattle.ops_turns.proofs.CoveredLemmas.{home_there}
use Rattle.ops_turns.proofs.OrderLemmas.{number_at, runner}

pub enter-requires-clause-live : goal.enter-requires-clause-live
enter-requires-clause-live g c =
    let q = c.requires.running in
    (runner c.args.component.now q.number (g.W.View.view c.args.w.now) q.order c.none_is_zero.ensures.threads q.runs c.in-Some.thread (sym c.current.ensures ∙ c.in-Some.is)).live

pub enter-requires-clause-there : goal.enter-requires-clause-there
enter-requires-clause-there g c =
    let q = c.requires.running in
    home_there c.args.component.now c.args.callee (turn.Run q.number) (g.W.View.view c.args.w.now).core q.order c.requires.there

pub at_once-requires : goal.at_once-requires
at_once-requires g c =
    let v = g.W.View.view in
    let q = c.requires.running in
    let f = c.args.callee in
    let def = c.in-Some-export_def in
    let id = c.in-Some.thread in
    let s = v c.args.w.now in
    let number = number_at q.number s q.runs id (sym c.current.ensures ∙ c.in-Some.is) in
    enters_on c.args.component.now f c.args.words.now def.def.now.kind (sym (found_kind c.args.component.now f def.def.now def.ensures)) id q.number s q.runs number c.in-Ok.op_result (v c.enter.new.w) c.in-Ok.ensures.does c.in-Ok.ensures.current

pub returns-in_err-at_once-clause-answers : goal.returns-in_err-at_once-clause-answers
returns-in_err-at_once-clause-answers g c =
    let v = g.W.View.view in
    let q = c.requires.running in
    let f = c.args.callee in
    let comp = c.args.component.now in
    let def = c.in-Some-export_def in
    let id = c.in-Some.thread in
    let s = v c.args.w.now in
    let t = v c.enter.new.w in
    let r = c.in-Ok.op_result in
    let row = enters_rule comp f c.args.words.now s.core in
    let number = number_at q.number s q.runs id (sym c.current.ensures ∙ c.in-Some.is) in
    let did = enters_did comp f c.args.words.now def.def.now.kind (sym (found_kind comp f def.def.now def.ensures)) id q.number s q.runs number r t c.in-Ok.ensures.does c.in-Ok.ensures.current in
    let why = c.in_err-at_once.field-0.0 in
    let refused : Err why ≡ answered (λ a. a) r = search rules in
    let is : c.from_residual.result ≡ Err why = search rules in
    subst (λ (a : Result QualifiedThreadId TaskError). Answers true row thread_entered s (at_once (entered t a)) t) (sym is)
    (answers_of thread_entered true row s t r did (Err why) (refused_as thread_entered r why refused))

pub returns-clause-answers : goal.returns-clause-answers
returns-clause-answers g c =
    let v = g.W.View.view in
    let q = c.requires.running in
    let f = c.args.callee in
    let comp = c.args.component.now in
    let def = c.in-Some-export_def in
    let kind = sym (found_kind comp f def.def.now def.ensures) in
    let id = c.in-Some.thread in
    let s = v c.args.w.now in
    let t = v c.enter.new.w in
    let r = c.in-Ok.op_result in
    let number = number_at q.number s q.runs id (sym c.current.ensures ∙ c.in-Some.is) in
    let ok : Ok (step.Done c.in_ok-at_once.field-0) ≡ answered (λ a. a) r = search rules in
    let here : t.current ≡ Some c.in-Some-current.entered = search rules in (
      r,
      (
        enters_did comp f c.args.words.now def.def.now.kind kind id q.number s q.runs number r t c.in-Ok.ensures.does c.in-Ok.ensures.current,
        entered_answer comp f c.args.words.now def.def.now.kind kind id q.number s q.runs number r t c.in-Ok.ensures.does c.in-Ok.ensures.current c.in_ok-at_once.field-0 ok c.in-Some-current.entered here,
      ),
    )

pub returns-clause-live : goal.returns-clause-live
returns-clause-live g c =
    let v = g.W.View.view in
    let q = c.requires.running in
    let f = c.args.callee in
    let comp = c.args.component.now in
    let def = c.in-Some-export_def in
    let kind = sym (found_kind comp f def.def.now def.ensures) in
    let id = c.in-Some.thread in
    let s = v c.args.w.now in
    let t = v c.enter.new.w in
    let r = c.in-Ok.op_result in
    let number = number_at q.number s q.runs id (sym c.current.ensures ∙ c.in-Some.is) in
    let ok : Ok (step.Done c.in_ok-at_once.field-0) ≡ answered (λ a. a) r = search rules in
    let here : t.current ≡ Some c.in-Some-current.entered = search rules in
    record {
      live = entered_live comp f c.args.words.now def.def.now.kind kind id q.number s q.runs number r t c.in-Ok.ensures.does c.in-Ok.ensures.current c.in_ok-at_once.field-0 ok c.in-Some-current.entered here;
      task = c.task_of.ensures.is;
    }
