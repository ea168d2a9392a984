-- The borrows that calls hold, which a host counts.
use Rattle.std.specs.Prelude.{Option, option_map, ℕ}
use Rattle.core_state.specs.declared.borrows.Scope.{Scope}
use Rattle.core_state.specs.declared.borrows.Scope.TheVariants as scope
use Rattle.machine_data.specs.Core.{Core}
use Rattle.machine_data.specs.Maps.{get}
use Rattle.machine_data.specs.Write.{on_call, on_work}
use Rattle.core_primitives.specs.StateView.{StateView, call_of, work_of}

-- the borrows of the call, or host call, that is named; None if none is
abbrev pub borrows_in : Scope → StateView → Option ℕ
borrows_in (scope.Id call) s = option_map (λ c. c.borrows) (get s.core.calls (call_of s call))
borrows_in (scope.HostId work) s = option_map (λ w. w.borrows) (get s.core.works (work_of s work))

-- the call holds so many borrows
abbrev pub call_borrowing : ℕ → ℕ → Core → Core
call_borrowing k n = on_call k (λ c. record c { borrows = n })

abbrev pub work_borrowing : ℕ → ℕ → Core → Core
work_borrowing i n = on_work i (λ w. record w { borrows = n })

abbrev pub scope_borrowing : Scope → ℕ → StateView → Core → Core
scope_borrowing (scope.Id call) n s = call_borrowing (call_of s call) n
scope_borrowing (scope.HostId work) n s = work_borrowing (work_of s work) n
