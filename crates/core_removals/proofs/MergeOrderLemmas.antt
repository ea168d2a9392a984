-- Two chains as one list are in the order of places in the resource table.
use Rattle.core_records.proofs.Core.{[], ap, Bool, false, IsAscending, IsSoundCore, List, map, refl, subst, sym, true, ℕ, ◌∙◌, ◌∷◌, ◌≡◌}
use Rattle.std.proofs.lemmas.Bool.{or_from, or_parts}
use Rattle.core_records.specs.declared.parts.CoreParts.{CoreParts}
use Rattle.std.specs.Cmp.{IsTotalOrder, nat_cmp_total, on_total, then_total}
use Rattle.std.specs.Ordering.{is_lt, ordering_reverse}
use Rattle.std.specs.declared.cmp.Ordering.{Ordering}
use Rattle.std.specs.declared.cmp.Ordering.TheVariants.{Less, Equal, Greater}
use Rattle.table_lists.specs.OrderKeys.{order_key_order}
use Rattle.table_lists.specs.declared.ordered_lists.OrderKey.{OrderKey}
use Rattle.table_links.specs.Links.{AreLinked}
use Rattle.task_wait.proofs.OrderLemmas.{is_less}
use Rattle.task_wait.specs.Sets.{IsLeast}
use Rattle.core_removals.proofs.MergeLemmas.{comes_before, left_leads, right_leads}
use Rattle.core_removals.proofs.OrderLemmas.{AreKeyed, keyed_chain, keyed_in_order}
use Rattle.core_removals.specs.Merged.{merged}
use Rattle.core_removals.specs.Order.{AreInOrder}
use Rattle.core_removals.specs.Walks.{of_node}

order_keys_total : IsTotalOrder order_key_order
order_keys_total = then_total (on_total (λ (s : OrderKey). s.task) nat_cmp_total) (then_total (on_total (λ (s : OrderKey). s.thread) nat_cmp_total) (on_total (λ (s : OrderKey). s.place) nat_cmp_total))

-- what isn't less than one that isn't less than another isn't less than that other
not_less : (k y x : OrderKey) → is_lt (order_key_order k y) ≡ false → is_lt (order_key_order y x) ≡ false → is_lt (order_key_order k x) ≡ false
not_less k y x one two = by (order_key_order k y) refl (is_lt (order_key_order k x)) refl
  where
    by : (o : Ordering) → order_key_order k y ≡ o → (t : Bool) → is_lt (order_key_order k x) ≡ t → is_lt (order_key_order k x) ≡ false
    by o at false is = is
    by Less at true is = absurd (let bad = sym (ap is_lt at) ∙ one in cc)
    by Equal at true is = ap is_lt (order_keys_total.congr k y x at) ∙ two
    by Greater at true is =
        let below = ap is_lt (order_keys_total.trans y k x (order_keys_total.antisymm y k ∙ ap ordering_reverse at) (is_less (order_key_order k x) is)) in
        absurd (let bad = sym below ∙ two in cc)

not_turned : (y x : OrderKey) → is_lt (order_key_order y x) ≡ true → is_lt (order_key_order x y) ≡ false
not_turned y x on = ap is_lt (order_keys_total.antisymm x y ∙ ap ordering_reverse (is_less (order_key_order y x) on))

least_lifted : (y x : OrderKey) → is_lt (order_key_order y x) ≡ false → (l : List (ℕ × OrderKey)) → IsLeast order_key_order y l → IsLeast order_key_order x l
least_lifted y x off [] least = refl
least_lifted y x off (k ∷ ks) least =
    let two = or_parts (is_lt (order_key_order k.1 y)) _ least in
    or_from (is_lt (order_key_order k.1 x)) _ (not_less k.1 y x two.0 off) (least_lifted y x off ks two.1)

least_merged : (v : OrderKey) (xs ys : List (ℕ × OrderKey)) → IsLeast order_key_order v xs → IsLeast order_key_order v ys → IsLeast order_key_order v (merged xs ys)
least_merged v [] ys a b = b
least_merged v (x ∷ xs) ys a b = by (λ zs. least_merged v xs zs (or_parts (is_lt (order_key_order x.1 v)) _ a).1) ys b
  where
    first : is_lt (order_key_order x.1 v) ≡ false
    first = (or_parts (is_lt (order_key_order x.1 v)) _ a).0

    by : ((zs : List (ℕ × OrderKey)) → IsLeast order_key_order v zs → IsLeast order_key_order v (merged xs zs)) → (zs : List (ℕ × OrderKey)) → IsLeast order_key_order v zs → IsLeast order_key_order v (merged (x ∷ xs) zs)
    by less [] b = or_from (is_lt (order_key_order x.1 v)) _ first (less [] refl)
    by less (z ∷ zs) b = go (less (z ∷ zs) b) (by less zs (or_parts (is_lt (order_key_order z.1 v)) _ b).1) (comes_before z x) refl
      where
        go : IsLeast order_key_order v (merged xs (z ∷ zs)) → IsLeast order_key_order v (merged (x ∷ xs) zs) → (t : Bool) → comes_before z x ≡ t → IsLeast order_key_order v (merged (x ∷ xs) (z ∷ zs))
        go less more true on = subst (IsLeast order_key_order v) (sym (right_leads x z xs zs on)) (or_from (is_lt (order_key_order z.1 v)) _ (or_parts (is_lt (order_key_order z.1 v)) _ b).0 more)
        go less more false off = subst (IsLeast order_key_order v) (sym (left_leads x z xs zs off)) (or_from (is_lt (order_key_order x.1 v)) _ first less)

ascending_merged : (xs ys : List (ℕ × OrderKey)) → IsAscending order_key_order xs → IsAscending order_key_order ys → IsAscending order_key_order (merged xs ys)
ascending_merged [] ys a b = b
ascending_merged (x ∷ xs) ys a b = by (λ zs. ascending_merged xs zs a.1) ys b
  where
    by : ((zs : List (ℕ × OrderKey)) → IsAscending order_key_order zs → IsAscending order_key_order (merged xs zs)) → (zs : List (ℕ × OrderKey)) → IsAscending order_key_order zs → IsAscending order_key_order (merged (x ∷ xs) zs)
    by less [] b = (least_merged x.1 xs [] a.0 refl, less [] tt)
    by less (z ∷ zs) b = go (less (z ∷ zs) b) (by less zs b.1) (comes_before z x) refl
      where
        go : IsAscending order_key_order (merged xs (z ∷ zs)) → IsAscending order_key_order (merged (x ∷ xs) zs) → (t : Bool) → comes_before z x ≡ t → IsAscending order_key_order (merged (x ∷ xs) (z ∷ zs))
        go less more true on =
            let off = not_turned z.1 x.1 on in
            subst (IsAscending order_key_order) (sym (right_leads x z xs zs on)) (
              least_merged z.1 (x ∷ xs) zs (or_from (is_lt (order_key_order x.1 z.1)) _ off (least_lifted x.1 z.1 off xs a.0)) b.0,
              more,
            )
        go less more false off = subst (IsAscending order_key_order) (sym (left_leads x z xs zs off)) (
          least_merged x.1 xs (z ∷ zs) a.0 (or_from (is_lt (order_key_order z.1 x.1)) _ off (least_lifted z.1 x.1 off zs b.0)),
          less,
        )

module _ (a : CoreParts) where
  keyed_merged : (xs ys : List (ℕ × OrderKey)) → AreKeyed a xs → AreKeyed a ys → AreKeyed a (merged xs ys)
  keyed_merged [] ys one two = two
  keyed_merged (x ∷ xs) ys one two = by (λ zs. keyed_merged xs zs one.1) ys two
    where
      by : ((zs : List (ℕ × OrderKey)) → AreKeyed a zs → AreKeyed a (merged xs zs)) → (zs : List (ℕ × OrderKey)) → AreKeyed a zs → AreKeyed a (merged (x ∷ xs) zs)
      by less [] two = (one.0, less [] tt)
      by less (z ∷ zs) two = go (less (z ∷ zs) two) (by less zs two.1) (comes_before z x) refl
        where
          go : AreKeyed a (merged xs (z ∷ zs)) → AreKeyed a (merged (x ∷ xs) zs) → (t : Bool) → comes_before z x ≡ t → AreKeyed a (merged (x ∷ xs) (z ∷ zs))
          go less more true on = subst (AreKeyed a) (sym (right_leads x z xs zs on)) (two.0, more)
          go less more false off = subst (AreKeyed a) (sym (left_leads x z xs zs off)) (one.0, less)

  pub both_in_order : IsSoundCore a → (c d : ℕ) (xs ys : List (ℕ × OrderKey)) → AreLinked a.places c xs → AreLinked a.places d ys → IsAscending order_key_order xs → IsAscending order_key_order ys → AreInOrder a (map (λ e. of_node a e.0) (merged xs ys))
  both_in_order sound c d xs ys one two up rise =
      keyed_in_order a sound (merged xs ys) (keyed_merged xs ys (keyed_chain a sound c xs one) (keyed_chain a sound d ys two)) (ascending_merged xs ys up rise)
