-- What reading a text answers.
use Rattle.std.specs.Prelude.{ℕ, List, Result, Ok, Err}
use Rattle.text_scenario.specs.declared.read.TextError.{TextError}
use Rattle.text_scenario.specs.declared.read.TextError.TheVariants as errors
use Rattle.text_scenario.specs.declared.tree.ScenarioText.{ScenarioText}
use Rattle.text_scenario.specs.Grammar.{IsTextOf, IsBadLine}

abbrev pub AnswersLine : Result ScenarioText TextError → List ℕ → Type 0
AnswersLine (Ok s) text = IsTextOf s text
AnswersLine (Err (errors.Bad n)) text = IsBadLine text n
AnswersLine (Err errors.NoMemory) text = Unit {0}
