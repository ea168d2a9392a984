-- What a core is once what was read of it is let go.
use Rattle.core_state.specs.contracts.task_core.TaskCore.{the_row}
use Rattle.std.specs.Borrow.{Fml, MutBor}
use Rattle.std.specs.Prelude.{⊤, ◌≡◌}
use Rattle.core_primitives.specs.StateView.{StateView}
use denote.Follow.{follows_so}
use mathlib.Core.Option.{none}

-- it is as it was
abbrev pub StaysAs : MutBor StateView → StateView → Fml
StaysAs core s = follows_so the_row the_row core.ghost_name none (λ _ _. ⊤) (λ v. v ≡ s)
