-- What the tree of a text is read as.
use Rattle.std.specs.Prelude.{ℕ, List, Result, Ok, Err}
use Rattle.text_reader.specs.declared.error.RunError.{RunError}
use Rattle.text_reader.specs.declared.error.RunError.TheVariants as errors
use Rattle.text_scenario.specs.Grammar.{IsBadLine, IsTextOf}
use Rattle.text_scenario.specs.declared.tree.ScenarioText.{ScenarioText}

-- a text is refused with its bad line; it may be out of memory
abbrev pub RefusedAs : List ℕ → RunError → Type 0
RefusedAs text (errors.BadScenario n) = IsBadLine text n
RefusedAs text errors.NoMemory = Unit {0}

-- a text gives its tree, or is refused
abbrev pub ReadsTree : List ℕ → Result ScenarioText RunError → Type 0
ReadsTree text (Ok tree) = IsTextOf tree text
ReadsTree text (Err why) = RefusedAs text why
