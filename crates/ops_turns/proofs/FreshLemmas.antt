-- The core of a new store is in order at main's turn.
use Rattle.machine_data.specs.declared.scenario.Version.{Version}
use Rattle.std.proofs.Common.{arith, refl}
use Rattle.std.proofs.lemmas.Bool.Decides.{nat_tests}
use Rattle.std.specs.Prelude.{is_some, length, true, ℕ, ◌<◌, ◌≡◌, ◌≤◌}
use Rattle.laws_states.specs.Order.{OpeningInOrder}
use Rattle.laws_states.specs.Settings.{CodesInCallbacks}
use Rattle.machine_data.specs.Core.{fresh, no_handles}
use Rattle.machine_data.specs.Maps.{get}
use Rattle.machine_data.specs.declared.component.Component.{Component}
use Rattle.machine_data.specs.declared.records.Turn.TheVariants as turn
use Rattle.laws_places.proofs.OrderLemmas.{opening_in_order}
use Rattle.machine_rules.proofs.Machine.{filled, get-insert, untouched}
use Rattle.ops_turns.specs.Turn.{CoreInOrder, given}

filled_at : {X : Type 0} (x : X) (n i : ℕ) → i < n → is_some (get (filled x n) i) ≡ true
filled_at x ℕ.zero i below = absurd (omega arith)
filled_at x (ℕ.suc n) i below = let rest = filled_at x n i in grind (arith, nat_tests, get-insert)

pub core_in_order_fresh : (c : Component) → CodesInCallbacks c → (v : Version) (n handles capacity : ℕ) → length c.instances ≤ n → CoreInOrder c turn.Main (fresh v n handles capacity)
unfolding OpeningInOrder fresh
core_in_order_fresh c codes v n handles capacity enough = record {
  order = λ m. opening_in_order c codes v n handles capacity m;
  there = λ i below. filled_at untouched n i (omega arith);
  handles = λ i below. filled_at no_handles n i (omega arith);
}

pub given_fresh : (v : Version) (n handles capacity : ℕ) → given (fresh v n handles capacity) ≡ 0
unfolding fresh
given_fresh v n handles capacity = refl
