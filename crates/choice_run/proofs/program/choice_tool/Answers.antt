-- The words ask for a run under choices, or they are others.
use Rattle.choice_run.proofs.ToolLemmas.{is_due, said_usage}
use Rattle.choice_run.proofs.program.choice_tool.Goals as goal
use Rattle.choice_run.specs.Tool.{Chooses}

pub returns-in-Some-clause-untouched : goal.returns-in-Some-clause-untouched
returns-in-Some-clause-untouched g c other = absurd (other c.in-Some.steps c.in-Some.ensures)

pub returns-in-Some-clause-ended : goal.returns-in-Some-clause-ended
returns-in-Some-clause-ended g c = Chooses c.in-Some.steps c.in-Some.ensures c.choose_source.ensures.ended

pub returns-in-Some-clause-due : goal.returns-in-Some-clause-due
returns-in-Some-clause-due g c = λ n all is told. is_due c.in-Some.steps all _ _ _ _ c.choose_source.result told c.choose_source.ensures.ended

pub returns-in-None-clause-ended : goal.returns-in-None-clause-ended
returns-in-None-clause-ended g c = said_usage _ _ _ _ _ c.say.result c.in-None.ensures c.say.ensures.told

pub returns-in-None-clause-due : goal.returns-in-None-clause-due
returns-in-None-clause-due g c = λ n all is told. absurd (c.in-None.ensures n is)
