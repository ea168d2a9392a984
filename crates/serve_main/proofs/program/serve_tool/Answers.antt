-- The words say what is served.
use Rattle.serve_main.proofs.ToolLemmas.{is_due, said_usage}
use Rattle.serve_main.proofs.program.serve_tool.Goals as goal
use Rattle.serve_main.specs.Tool.{ServesSource}

pub returns-in-Some-clause-ended : goal.returns-in-Some-clause-ended
returns-in-Some-clause-ended g c = ServesSource c.in-Some.limit c.in-Some.steps c.in-Some.ensures c.serve_source.ensures.ended

pub returns-in-Some-clause-due : goal.returns-in-Some-clause-due
returns-in-Some-clause-due g c = λ l n all is told. is_due c.in-Some.limit c.in-Some.steps all _ _ _ _ c.serve_source.result told c.serve_source.ensures.ended

pub returns-in-None-clause-ended : goal.returns-in-None-clause-ended
returns-in-None-clause-ended g c = said_usage _ _ _ _ _ c.say.result c.in-None.ensures c.say.ensures.told

pub returns-in-None-clause-due : goal.returns-in-None-clause-due
returns-in-None-clause-due g c = λ l n all is told. absurd (c.in-None.ensures l n is)
