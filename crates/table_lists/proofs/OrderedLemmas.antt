-- Chains that are in the order of order keys stay so where a node goes, or where one comes to its place.
use Rattle.std.proofs.Common.{cond, inl, inr, ◌≡◌, ℕ, Bool, true, false, List, [], ◌∷◌, ◌++◌, Option, Some, None, IsSome, refl, sym, ap, subst, ◌∙◌}
use Rattle.std.proofs.lemmas.Bool.{cases_eq, or_from, or_parts}
use Rattle.std.specs.Cmp.{IsTotalOrder}
use Rattle.std.proofs.lemmas.Option.{same_Some}
use Rattle.std.specs.Ordering.{is_lt, ordering_reverse}
use Rattle.std.specs.declared.cmp.Ordering.{Ordering}
use Rattle.std.specs.declared.cmp.Ordering.TheVariants.{Less, Equal, Greater}
use Rattle.table_lists.specs.OrderKeys.{AreOrdered, comes_first, order_key_order}
use Rattle.table_lists.specs.declared.ordered_lists.OrderKey.{OrderKey}
use Rattle.table_links.proofs.ReadLemmas.{entries-linked_other, entries-unlinked_other, entries-unlinked_same}
use Rattle.table_links.proofs.Paths.{before-at, split}
use Rattle.table_links.specs.Links.{Apart, AreLinked, before, in_list, preceding, IsLinks, Spot, entries, head_of, is_made, link_of, linked, list_of, removed, removed_by, unlinked, without}
use Rattle.task_wait.proofs.OrderLemmas.{IsAscending-without, IsLeast-first, is_less}
use Rattle.task_wait.specs.Sets.{IsAscending, IsLeast, place_of}
use Rattle.task_wait.specs.Walks.{IsWalk}

module _ (links new : List (Spot OrderKey)) (n : ℕ) where
  pub AreOrdered-removed : IsLinks links → is_made links n ≡ true → new ≡ removed n links → AreOrdered links → AreOrdered new
  AreOrdered-removed sound made is up = subst AreOrdered (sym is) (by (link_of links n) refl)
    where
      by : (l : Option (ℕ × OrderKey)) → link_of links n ≡ l → AreOrdered (removed_by n l links)
      by None at = up
      by (Some l) at = λ c. elim (cases_eq c l.0) [
        | inl same ↦ subst (λ d. IsAscending order_key_order (entries (unlinked l.0 n (without n (entries links l.0)) links) d)) (sym same) (subst (IsAscending order_key_order) (sym (entries-unlinked_same links l.0 n _ (sound.listed n l.0 l.1 at).0 made)) (IsAscending-without order_key_order n (entries links l.0) (up l.0)))
        | inr other ↦ subst (IsAscending order_key_order) (sym (entries-unlinked_other links l.0 n _ (sound.listed n l.0 l.1 at).0 made c other)) (up c)
      ]

  pub AreOrdered-linked : (c : ℕ) (v : OrderKey) (list : List (ℕ × OrderKey)) → IsSome (list_of links c) → is_made links n ≡ true → new ≡ linked c n v list links → (IsAscending order_key_order (entries links c) → IsAscending order_key_order (entries new c)) → AreOrdered links → AreOrdered new
  AreOrdered-linked c v list live made is order up d = elim (cases_eq d c) [
    | inl same ↦ subst (λ e. IsAscending order_key_order (entries new e)) (sym same) (order (up c))
    | inr other ↦ subst (IsAscending order_key_order) (sym (ap (λ l. entries l d) is ∙ entries-linked_other links c n list live made v d other)) (up d)
  ]

module _ {P : Type 0} (cmp : P → P → Ordering) (order : IsTotalOrder cmp) where
  -- what isn't below a value isn't below a lesser one
  lower : (k f v : P) → is_lt (cmp v f) ≡ true → is_lt (cmp k f) ≡ false → is_lt (cmp k v) ≡ false
  lower k f v less not_below = by_test (is_lt (cmp k v)) refl
    where
      by_test : (t : Bool) → is_lt (cmp k v) ≡ t → t ≡ false
      by_test true is = absurd (let below = ap is_lt (order.trans k v f (is_less (cmp k v) is) (is_less (cmp v f) less)) in let both = sym below ∙ not_below in cc)
      by_test false is = refl

  none_below : (v f : P) → is_lt (cmp v f) ≡ true → (l : List (ℕ × P)) → IsLeast cmp f l → IsLeast cmp v l
  none_below v f less [] least = refl
  none_below v f less (k ∷ ks) least =
      let parts = or_parts (is_lt (cmp k.1 f)) _ least in
      or_from (is_lt (cmp k.1 v)) _ (lower k.1 f v less parts.0) (none_below v f less ks parts.1)

  -- at the front of an ascending list what is less than its first leaves it ascending
  pub IsAscending-front : (e : ℕ × P) (l : List (ℕ × P)) → comes_first cmp e.1 (head_of l) ≡ true → IsAscending cmp l → IsAscending cmp (e ∷ l)
  IsAscending-front e [] first up = absurd (cc)
  IsAscending-front e (f ∷ fs) first up = (none_below e.1 f.1 first (f ∷ fs) (IsLeast-first cmp order (f ∷ fs) up), up)

  -- what comes after all of an ascending list doesn't come before its first
  pub last_not_first : (v : P) (l : List (ℕ × P)) → place_of (λ o. is_lt (cmp o v)) l ≡ None → IsAscending cmp l → comes_first cmp v (head_of l) ≡ false
  last_not_first v [] last up = refl
  last_not_first v (f ∷ fs) last up = by (is_lt (cmp v f.1)) refl
    where
      by : (t : Bool) → is_lt (cmp v f.1) ≡ t → t ≡ false
      by false is = refl
      by true is = absurd (let bad = subst (λ t. cond t (place_of (λ o. is_lt (cmp o v)) fs) (Some f.0) ≡ None) (none_below v f.1 is (f ∷ fs) (IsLeast-first cmp order (f ∷ fs) up)) last in cc)

  -- what isn't below a value that isn't below another isn't below that other
  not_below : (k e v : P) → is_lt (cmp k e) ≡ false → is_lt (cmp e v) ≡ false → is_lt (cmp k v) ≡ false
  not_below k e v up above = by (cmp e v) refl
    where
      by : (o : Ordering) → cmp e v ≡ o → is_lt (cmp k v) ≡ false
      by Less is = absurd (let both = sym above ∙ ap is_lt is in cc)
      by Equal is = ap is_lt (order.antisymm k v ∙ (ap ordering_reverse (sym (order.congr e v k is)) ∙ sym (order.antisymm k e))) ∙ up
      by Greater is = lower k e v (ap is_lt (order.antisymm v e ∙ ap ordering_reverse is)) up

  least_below : (e v : P) → is_lt (cmp e v) ≡ false → (l : List (ℕ × P)) → IsLeast cmp e l → IsLeast cmp v l
  least_below e v above [] least = refl
  least_below e v above (k ∷ ks) least =
      let parts = or_parts (is_lt (cmp k.1 e)) _ least in
      or_from (is_lt (cmp k.1 v)) _ (not_below k.1 e v parts.0 above) (least_below e v above ks parts.1)

  least_after : (a b : List (ℕ × P)) (x : ℕ × P) → IsAscending cmp (a ++ x ∷ b) → IsLeast cmp x.1 b
  least_after [] b x up = up.0
  least_after (y ∷ ys) b x up = least_after ys b x up.1

  -- a walk from a node of an ascending chain that isn't less
  pub Walk-from : (links : List (Spot P)) (c n : ℕ) (e v : P) → IsLinks links → AreLinked links c (entries links c) → link_of links n ≡ Some (c, e) → IsAscending cmp (entries links c) → is_lt (cmp e v) ≡ false → (next : Option (ℕ × P)) → next ≡ preceding n links → IsWalk (λ o. is_lt (cmp o v)) (entries links c) next (Some n)
  Walk-from links c n e v sound values at up above next is =
      let s = split n (entries links c) (sound.listed n c e at).1 in
      let same : s.1.1.0 ≡ e = ap (λ (p : ℕ × P). p.1) (same_Some (c, s.1.1.0) (c, e) (sym (linked_at links c n s.1.1.0 s.0 s.1.0 (subst (AreLinked links c) s.1.1.1 values)) ∙ at)) in
      let whole : entries links c ≡ s.0 ++ (n, e) ∷ s.1.0 = s.1.1.1 ∙ ap (λ w. s.0 ++ (n, w) ∷ s.1.0) same in
      record {
        front = s.0;
        back = (n, e) ∷ s.1.0;
        parts = whole;
        last_is = is ∙ (ap (λ o. in_list (before n) o links) at ∙ (ap (before n) whole ∙ before-at None n e s.0 s.1.0 (subst Apart whole (sound.once c))));
        place_is = refl;
        above = or_from (is_lt (cmp e v)) _ above (least_below e v above s.1.0 (least_after s.0 s.1.0 (n, e) (subst (IsAscending cmp) whole up)));
      }
    where
      linked_at : (ls : List (Spot P)) (d m : ℕ) (w : P) (a b : List (ℕ × P)) → AreLinked ls d (a ++ (m, w) ∷ b) → link_of ls m ≡ Some (d, w)
      linked_at ls d m w [] b l = l.0
      linked_at ls d m w (y ∷ ys) b l = linked_at ls d m w ys b l.1
