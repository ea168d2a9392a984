-- Order hangs neither on groups nor on whether the store is trapped.
use Rattle.laws_order.proofs.StayLemmas.{beside_in_order}
use Rattle.std.proofs.Common.{refl}
use Rattle.std.specs.Prelude.{Bool, List, [], true, ℕ, ◌++◌, ◌+◌, ◌∷◌}
use Rattle.laws_states.specs.Order.{is_open}
use Rattle.machine_data.specs.Core.{Core}
use Rattle.machine_data.specs.Write.{add_group, set_trapped, with_groups_made}
use Rattle.machine_data.specs.declared.component.Component.{Component}
use Rattle.machine_data.specs.declared.records.Turn.{Turn}
use Rattle.ops_turns.specs.Turn.{CoreInOrder, state_at}

module _ (c : Component) (p : Turn) (s : Core) (in_turn : CoreInOrder c p s) where
  abbrev beside : List ℕ → Bool → ℕ → Core
  beside groups trapped made = record s { groups = groups; trapped = trapped; made = with_groups_made made s.made }

  in_turn_beside : (groups : List ℕ) (trapped : Bool) (made : ℕ) → CoreInOrder c p (beside groups trapped made)
  in_turn_beside groups trapped made = record {
    order = λ m. beside_in_order c (state_at s m p) (is_open p) (in_turn.order m) (beside groups trapped made)
        (record { threads = λ n. refl; calls = λ k. refl; works = λ i. refl; named = λ i h. refl; tables = λ kept. kept; enters = λ i. refl; presses = λ i. refl });
    there = in_turn.there;
    handles = in_turn.handles;
  }

  pub trap_in_order : CoreInOrder c p (set_trapped s)
  unfolding set_trapped
  trap_in_order = in_turn_beside [] true s.made.groups

  pub group_in_order : CoreInOrder c p (add_group s)
  unfolding add_group
  group_in_order = in_turn_beside (s.groups ++ (s.made.groups + 1) ∷ []) s.trapped (s.made.groups + 1)
