use Rattle.std.proofs.Common.{◌≡◌, ℕ, List, subst}
use Rattle.task_run.specs.declared.program.Form.{Form}
use Rattle.task_run.specs.declared.program.Form.TheVariants as forms
use Rattle.task_run.specs.Tool.{IsForm, Makes, RunsGenerated, RunsText}
use Rattle.task_run.proofs.ToolLemmas.{is_due}
use Rattle.task_run.proofs.program.tool.Goals as goal

form_is : (words : List (List ℕ)) (f g : Form) → f ≡ g → IsForm words f → IsForm words g
form_is words f g same is = subst (λ (h : Form). IsForm words h) same is

pub returns-in-Some-Run-clause-ended : goal.returns-in-Some-Run-clause-ended
returns-in-Some-Run-clause-ended g c =
    RunsText c.in-Some-Run.steps (form_is _ _ (forms.Run c.in-Some-Run.steps) c.in-Some-Run.field-0-is c.in-Some-Run.ensures) c.run.ensures.ended

pub returns-in-Some-Run-clause-due : goal.returns-in-Some-Run-clause-due
returns-in-Some-Run-clause-due g c = λ n all is told. is_due c.in-Some-Run.steps all _ _ _ _ c.run.result told c.run.ensures.ended

pub returns-in-Some-Make-clause-ended : goal.returns-in-Some-Make-clause-ended
returns-in-Some-Make-clause-ended g c =
    Makes c.in-Some-Make.number (form_is _ _ (forms.Make c.in-Some-Make.number) c.in-Some-Make.field-0-is c.in-Some-Make.ensures) c.make.ensures.ended

pub returns-in-Some-Big-clause-ended : goal.returns-in-Some-Big-clause-ended
returns-in-Some-Big-clause-ended g c =
    RunsGenerated c.in-Some-Big.number c.in-Some-Big.steps (form_is _ _ (forms.Big c.in-Some-Big.number c.in-Some-Big.steps) c.in-Some-Big.field-0-is c.in-Some-Big.ensures) c.big.ensures.ended

pub returns-in-None-clause-due : goal.returns-in-None-clause-due
returns-in-None-clause-due g c = λ n all is told. absurd (c.in-None.ensures (forms.Run n) is)
