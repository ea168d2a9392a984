-- What the first entry of a chain says of all that the chain holds.
use Rattle.core_records.proofs.Core.{[], ap, false, head_of, inl, inr, link_of, List, list_any, None, refl, same_Some, Some, Spot, subst, sym, ℕ, ◌∙◌, ◌≡◌, ◌∷◌}
use Rattle.std.proofs.lemmas.Bool.{or_parts}
use Rattle.std.specs.Ordering.{is_lt, nat_cmp, ordering_then}
use Rattle.std.specs.declared.cmp.Ordering.{Ordering}
use Rattle.std.specs.declared.cmp.Ordering.TheVariants.{Equal, Greater, Less}
use Rattle.table_lists.specs.OrderKeys.{order_key_order}
use Rattle.table_lists.specs.declared.ordered_lists.OrderKey.{OrderKey}
use Rattle.table_lists.specs.Index.{Holds}
use Rattle.table_links.specs.Links.{AreLinked, In, IsLinks, entries}
use Rattle.table_links.specs.declared.{links.Node.Node}
use Rattle.task_wait.specs.Sets.{IsLeast}
use Rattle.core_places.specs.Picks.{thread_order}
use Rattle.core_records.specs.RecordPlaces.{thread_order_key}
use Rattle.core_records.specs.declared.thread_records.GuestThread.{GuestThread}
use Rattle.machine_data.specs.declared.scenario.Version.TheVariants as version
use Rattle.machine_data.specs.declared.scenario.Version.{Version}

-- what isn't less by three keys isn't by the first two
pub lt_front : (a b c : Ordering) → is_lt (ordering_then a (ordering_then b c)) ≡ false → is_lt (ordering_then a b) ≡ false
lt_front Less b c is = is
lt_front Equal Less c is = is
lt_front Equal Equal c is = refl
lt_front Equal Greater c is = refl
lt_front Greater b c is = refl

pub lt_first : (a b : Ordering) → is_lt (ordering_then a b) ≡ false → is_lt a ≡ false
lt_first Less b is = is
lt_first Equal b is = refl
lt_first Greater b is = refl

-- nor does a thread come before one whose order key isn't greater
pub thread_front : (v : Version) (r s : ℕ) (h g : GuestThread) → is_lt (order_key_order (thread_order_key v r h) (thread_order_key v s g)) ≡ false → is_lt (thread_order v h g) ≡ false
thread_front version.One r s h g off = lt_front (nat_cmp h.task_entry g.task_entry) (nat_cmp h.entry g.entry) (nat_cmp r s) off
thread_front version.Two r s h g off = lt_first (nat_cmp h.thread.came g.thread.came) _ off

module _ (links : List (Spot OrderKey)) (c : ℕ) where
  -- it is held
  pub first_held : (n : Node) (v : OrderKey) → AreLinked links c (entries links c) → Some (n.index, v) ≡ head_of (entries links c) → Holds links c v
  first_held n v linked first = by (entries links c) linked first
    where
      by : (l : List (ℕ × OrderKey)) → AreLinked links c l → Some (n.index, v) ≡ head_of l → Holds links c v
      by [] linked first = absurd (cc)
      by (e ∷ es) linked first = (e.0, linked.0 ∙ ap (λ (x : ℕ × OrderKey). Some (c, x.1)) (sym (same_Some (n.index, v) e first)))

  -- where there is none nothing is held
  pub none_held : IsLinks links → None ≡ head_of (entries links c) → (v : OrderKey) → Holds links c v → ⊥
  none_held sound none v holds = by (entries links c) none (sound.listed holds.0 c v holds.1).1
    where
      by : (l : List (ℕ × OrderKey)) → None ≡ head_of l → In holds.0 l → ⊥
      by [] none inside = inside
      by (e ∷ es) none inside = absurd (cc)

  -- nothing that is held is less than it
  pub none_less : (v : OrderKey) → IsLinks links → AreLinked links c (entries links c) → IsLeast order_key_order v (entries links c) → (n : ℕ) (s : OrderKey) → link_of links n ≡ Some (c, s) → is_lt (order_key_order s v) ≡ false
  none_less v sound linked least n s link = by (entries links c) linked least (sound.listed n c s link).1
    where
      by : (l : List (ℕ × OrderKey)) → AreLinked links c l → list_any (λ e. is_lt (order_key_order e.1 v)) l ≡ false → In n l → is_lt (order_key_order s v) ≡ false
      by [] linked none inside = absurd inside
      by (e ∷ es) linked none (inl same) = subst (λ (x : OrderKey). is_lt (order_key_order x v) ≡ false) (ap (λ (x : ℕ × OrderKey). x.1) (same_Some (c, e.1) (c, s) (sym linked.0 ∙ (ap (link_of links) (sym same) ∙ link)))) (or_parts (is_lt (order_key_order e.1 v)) _ none).0
      by (e ∷ es) linked none (inr more) = by es linked.1 (or_parts (is_lt (order_key_order e.1 v)) _ none).1 more
