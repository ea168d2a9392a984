-- Calls whose borrows a host counts.
use Rattle.std.specs.Prelude.{ℕ}
use Rattle.laws_states.specs.Order.{InOrder}
use Rattle.machine_data.specs.Core.{Core, State}
use Rattle.machine_data.specs.Write.{on_call}
use Rattle.machine_data.specs.declared.component.Component.{Component}

-- the call of this number holds so many borrows
abbrev pub borrowing : ℕ → ℕ → Core → Core
borrowing k n = on_call k (λ c. record c { borrows = n })

-- order hangs on no borrows
unfoldable pub BorrowsKeepOrder : Type 0
BorrowsKeepOrder = (c : Component) (s : State) (k n : ℕ) → InOrder c s → InOrder c (record s { core = borrowing k n s.core })
