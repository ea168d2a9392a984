-- One record of a table goes: the order keys and the nodes of the others stay.
use Rattle.core_records.proofs.Core.{ap, cases_eq, cond, deleted, entry_of, eq-eqb, FreeNode, HaveNodes, inl, inr, is_made, item_at, item_of, List, ne_eqb, None, Ok, Option, option_map, place_at, place_at-deleted, Placed, Renames, same_Some, keyed, Some, SoundTable, Spot, spot_is_made, sym, Table, true, Unmade, ℕ, ◌∙◌, ◌≡◌}
use Rattle.core_records.specs.declared.{single.Single.Single}
use Rattle.core_removals.proofs.LessLemmas.{placed_before}
use Rattle.core_records.proofs.KindLemmas.{item_stands}

-- a number that is renamed leaves the nodes of others
pub renamed_made : {P : Type 0} (old new : List (Spot P)) (k : ℕ) → Renames old new k FreeNode Unmade → (n : ℕ) → (n ≡ k → ⊥) → is_made old n ≡ true → is_made new n ≡ true
renamed_made old new k names n other made = ap spot_is_made (names.others n other) ∙ made

module _ {T X : Type 0} (number : T → ℕ) (rec : T → X) (t : Table (Single T)) (made : ℕ) (sound : SoundTable (λ (e : Single T). Some (number e.item, rec e.item)) t made) (rep serial : ℕ) (g : T) (is : Ok g ≡ item_at item_of t rep serial) where
  stands : (q : Placed (Single T)) × ((place_at t rep ≡ Some q) × ((q.serial ≡ serial) × (q.entry ≡ entry_of g)))
  stands = item_stands number rec t made sound rep serial g is

  here : {Q : Type 0} (order_key : ℕ → T → Q) → keyed order_key t rep ≡ Some (order_key rep g)
  here order_key = ap (option_map (λ (q : Placed (Single T)). order_key rep q.entry.item)) stands.1.0 ∙ ap (λ (e : Single T). Some (order_key rep e.item)) stands.1.1.1

  pub keyed_left : {Q : Type 0} (order_key : ℕ → T → Q) (r : ℕ) (x : Q) → (order_key rep g ≡ x → ⊥) → keyed order_key t r ≡ Some x → keyed order_key (deleted rep t) r ≡ Some x
  keyed_left order_key r x differs is_x = elim (cases_eq r rep) [
    | inl same ↦ absurd (differs (same_Some (order_key rep g) x (sym (here order_key) ∙ (ap (keyed order_key t) (sym same) ∙ is_x))))
    | inr other ↦ ap (option_map (λ (q : Placed (Single T)). order_key r q.entry.item)) (place_at-deleted t rep r ∙ ap (λ b. cond b None (place_at t r)) (ne_eqb r rep other)) ∙ is_x
  ]

  away : (r : ℕ) (q : Placed (Single T)) → place_at (deleted rep t) r ≡ Some q → r ≡ rep → ⊥
  away r q at same = none (sym (ap (λ b. cond b None (place_at t r)) (eq-eqb r rep same)) ∙ (sym (place_at-deleted t rep r) ∙ at))
    where
      none : ◌≡◌ {A = Option (Placed (Single T))} None (Some q) → ⊥
      none is = absurd (cc)

  before : (r : ℕ) (q : Placed (Single T)) → place_at (deleted rep t) r ≡ Some q → place_at t r ≡ Some q
  before = placed_before number rec t made sound rep serial g is

  pub nodes_left : {P : Type 0} (node : T → ℕ) (old new : List (Spot P)) → ((n : ℕ) → (n ≡ node g → ⊥) → is_made old n ≡ true → is_made new n ≡ true) → HaveNodes node t old → HaveNodes node (deleted rep t) new
  nodes_left node old new keeps have = record {
    made = λ r q at. keeps (node q.entry.item) (λ same. away r q at (have.own r rep q stands.0 (before r q at) stands.1.0 (same ∙ sym (ap (λ (e : Single T). node e.item) stands.1.1.1)))) (have.made r q (before r q at));
    own = λ r s q w at_q at_w same. have.own r s q w (before r q at_q) (before s w at_w) same;
  }
