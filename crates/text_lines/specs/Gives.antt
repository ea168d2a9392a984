-- A step of reading gives a value or refuses it, unless it is out of memory.
use Rattle.std.specs.Prelude.{◌≡◌, Option, Some, None, Result, Ok, Err}
use Rattle.text_lines.specs.declared.line.LineError.{LineError}
use Rattle.text_lines.specs.declared.line.LineError.TheVariants as errors

abbrev pub Gives : {X : Type 0} → Result X LineError → Option X → Type 0
Gives (Ok x) read = read ≡ Some x
Gives (Err errors.Bad) read = read ≡ None
Gives (Err errors.NoMemory) read = Unit {0}

-- A step that changes what it is given, which becomes the value.
abbrev pub BecomesValue : {X : Type 0} → X → Result (Unit {0}) LineError → Option X → Type 0
BecomesValue now (Ok u) read = read ≡ Some now
BecomesValue now (Err errors.Bad) read = read ≡ None
BecomesValue now (Err errors.NoMemory) read = Unit {0}
