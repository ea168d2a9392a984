-- What a core is once what was read of it is let go.
use Rattle.std.specs.Borrow.{Fml, MutBor}
use Rattle.std.specs.Prelude.{⊤}
use Rattle.core_records.specs.contracts.parts.CoreParts.{the_row}
use Rattle.core_records.specs.declared.parts.CoreParts.{CoreParts}
use denote.Follow.{follows_so}
use mathlib.Core.Option.{none}

-- it is such
abbrev pub LeavesSo : MutBor CoreParts → (CoreParts → Type 0) → Fml
LeavesSo parts Holds = follows_so the_row the_row parts.ghost_name none (λ _ _. ⊤) Holds
