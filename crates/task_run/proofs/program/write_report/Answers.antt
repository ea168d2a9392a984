use Rattle.std.proofs.Common.{◌++◌, ℕ, List, [], refl, subst, ap, ◌∙◌, append-nil, arith}
use Rattle.std.specs.Prelude.{Result, Ok, Err, OnOk}
use Rattle.text_bytes.specs.Outside.{Appends}
use Rattle.text_bytes.proofs.Appending.{appends_none, appends_then, behind}
use Rattle.text_report.specs.Lines.{lines_of}
use Rattle.machine_rules.specs.Texts.{text}
use Rattle.task_run.proofs.Fronts.{filled, page_cut, turned, whole}
use Rattle.task_run.proofs.program.write_report.Goals as goal

pub pages-init : goal.pages-init
pages-init g c = record {
  count = omega arith;
  fits = rw c.in_ok-page.ensures (omega arith);
  told = ([], (rw c.in_ok-page.ensures refl, appends_none _));
}

pub pages-preserved : goal.pages-preserved
pages-preserved g c =
    let t = c.pages.invariant.told in
    let left = filled c.pages.labels c.fill.new.labels t.0 c.pages.page c.fill.new.self _ t.1.0 c.fill.ensures.lines in
    record {
      count = omega (arith, c.pages.invariant.count, c.write.ensures.count);
      fits = c.take_full.ensures.room;
      told = (t.0 ++ c.full.result.now, (turned c.fill.new.labels 131072 t.0 c.fill.new.self c.full.result.now c.take_full.new.self _ left c.full.ensures c.take_full.ensures.rest, appends_then _ _ _ t.0 c.full.result.now t.1.1 c.in_ok-write.ensures.told));
    }

on_ok : {A E : Type 0} {P Q : Type 0} (r : Result A E) → (P → Q) → OnOk r P → OnOk r Q
on_ok (Ok x) f p = f p
on_ok (Err e) f p = p

pub returns-clause-told : goal.returns-clause-told
returns-clause-told g c =
    let t = c.pages.invariant.told in
    let left = filled c.pages.labels c.fill.new.labels t.0 c.pages.page c.fill.new.self _ t.1.0 c.fill.ensures.lines in
    let all = whole c.args.report.now.trace c.fill.new.labels c.args.report.now.outcome t.0 c.fill.new.self c.as_slice.result.now (c.fill.ensures.done c.pages-test.false).0 (left ∙ ap (λ ls. lines_of ls) c.labels-labels.ensures) (c.as_slice.ensures ∙ c.add_outcome.ensures) in
    on_ok c.write-2.result (λ said. subst (λ (bs : List ℕ). Appends (g.K.Sink.held c.args.sink.now) (g.K.Sink.held c.write-2.new.sink) bs) all (appends_then _ _ _ t.0 c.as_slice.result.now t.1.1 said)) c.write-2.ensures.told

pub returns-clause-front : goal.returns-clause-front
returns-clause-front g c =
    let t = c.pages.invariant.told in
    let left = filled c.pages.labels c.fill.new.labels t.0 c.pages.page c.fill.new.self _ t.1.0 c.fill.ensures.lines in
    let all = whole c.args.report.now.trace c.fill.new.labels c.args.report.now.outcome t.0 c.fill.new.self c.as_slice.result.now (c.fill.ensures.done c.pages-test.false).0 (left ∙ ap (λ ls. lines_of ls) c.labels-labels.ensures) (c.as_slice.ensures ∙ c.add_outcome.ensures) in
    behind _ _ _ t.0 c.as_slice.result.now [] (text c.args.report.now.trace c.args.report.now.outcome) (append-nil _ ∙ all) t.1.1 c.write-2.ensures.front

pub returns-in_err-write-clause-front : goal.returns-in_err-write-clause-front
returns-in_err-write-clause-front g c =
    let t = c.pages.invariant.told in
    let left = filled c.pages.labels c.fill.new.labels t.0 c.pages.page c.fill.new.self _ t.1.0 c.fill.ensures.lines in
    page_cut c.args.report.now.trace c.fill.new.labels c.args.report.now.outcome _ _ _ 131072 t.0 c.fill.new.self c.full.result.now (left ∙ ap (λ ls. lines_of ls) c.labels-labels.ensures) c.full.ensures t.1.1 c.write.ensures.front
