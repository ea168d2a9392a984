use Rattle.std.proofs.Common.{◌≡◌, ℕ, [], sym, ap, subst, ◌∙◌}
use Rattle.task_abort.specs.declared.log.HandleCaller.{HandleCaller}
use Rattle.task_abort.specs.declared.log.PassView.{PassView}
use Rattle.task_abort.specs.Cells.{view_of}
use Rattle.task_abort.specs.PhaseLog.{first_view, split_left, split_right}
use Rattle.task_abort.specs.Rule.{HasMet}
use Rattle.tests_runs.proofs.MeetLemmas.{met_first}
use Rattle.tests_runs.proofs.abort.a_pass_that_met_all_knows_all_callers.Goals as goal

pub known_callers-requires : goal.known_callers-requires
known_callers-requires g c =
    let w : PassView = view_of c.meet.new.pass in
    let opened : view_of c.in-Ok.pass ≡ first_view = ap view_of (sym c.in-Ok.pass-is) ∙ c.in-Ok.ensures.ok.3 in
    let left : view_of c.split_pass.new.pass ≡ split_left first_view = c.split_pass.ensures.left ∙ ap split_left opened in
    let right : view_of c.in-Ok-split_pass.other ≡ split_right first_view = c.in-Ok-split_pass.ensures.right.1 ∙ ap split_right opened in
    let aborted = c.abort-aborted.ensures.call.own in
    let finished = c.finish-finished.ensures.call.own in
    let name : (view_of c.finish-finished.new.pass).own.name ≡ [] = ap (λ (z : HandleCaller). z.name) finished ∙ ap (λ (z : PassView). z.own.name) left in
    let splits : (view_of c.meet.new.pass).own.splits ≡ 1 = ap (λ (z : HandleCaller). z.splits) (c.meet.ensures.met.own ∙ finished) ∙ ap (λ (z : PassView). z.own.splits) left in
    let met : HasMet 1 (view_of c.meet.new.pass) =
    met_first _ _ (view_of c.meet.new.pass) name c.meet.ensures.met
    (ap (λ (z : HandleCaller). z.name) aborted ∙ ap (λ (z : PassView). z.own.name) right) (ap (λ (z : HandleCaller). z.splits) aborted ∙ ap (λ (z : PassView). z.own.splits) right) in
    subst (λ (j : ℕ). HasMet j (view_of c.meet.new.pass)) (sym splits) met
