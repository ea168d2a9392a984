use Rattle.text_scenario.proofs.Verdicts.{answers, only_memory}
use Rattle.text_scenario.proofs.read.read_text.Goals as goal

pub returns-clause-answer : goal.returns-clause-answer
returns-clause-answer c = answers c.read.result c.args.text.now c.read.ensures

pub returns-clause-only : goal.returns-clause-only
returns-clause-only c = λ x text_of. only_memory c.read.result x c.args.text.now (answers c.read.result c.args.text.now c.read.ensures) text_of
