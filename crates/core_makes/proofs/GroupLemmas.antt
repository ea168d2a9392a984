-- The numbers of groups: where a group is counted anew, and where one is made.
use Rattle.core_records.proofs.Core.{[], ap, arith, Bool, by_order, cond, eq-eqb, eq_by_cmp, Equal, false, find, Greater, group_key, Less, List, map, mapped, mapped-with_entry_same, nat_cmp, nat_lt, None, numbers, on_item, Option, place_at, Placed, put, ranked, Records, records, refl, Some, sym, Table, true, unsigned_tied, with_entry, ℕ, ◌++◌, ◌<◌, ◌∙◌, ◌∷◌, ◌≡◌, ◌≤◌}
use Rattle.std.proofs.Common.{Ordering}
use Rattle.core_records.specs.declared.{call_records.TaskGroup.TaskGroup, single.Single.Single}
use Rattle.core_records.proofs.KeptLemmas.{records_seconds}
use Rattle.core_records.specs.Instances.{mapped as mapped_list}

-- ---- Another count

firsts : {X Y : Type 0} (r : X → Y) (es : List (ℕ × X)) → map (λ e. e.0) (mapped_list r es) ≡ map (λ e. e.0) es
firsts r [] = refl
firsts r (e ∷ es) = ap (λ ns. e.0 ∷ ns) (firsts r es)

abbrev uncounted : TaskGroup → TaskGroup
uncounted r = record r { calls = 0; entry = 0 }

module _ (t : Table (Single TaskGroup)) (rep : ℕ) (q : Placed (Single TaskGroup)) (at : place_at t rep ≡ Some q) (h : TaskGroup) (same : h.number ≡ q.entry.item.number) where
  through : (u : Table (Single TaskGroup)) → numbers (records group_key (mapped (on_item uncounted) u).places) ≡ numbers (records group_key u.places)
  unfolding numbers
  through u = ap (λ (m : Records ℕ). map (λ e. e.0) m.list) (records_seconds (λ n. 0) group_key group_key (on_item uncounted) (λ e. refl) u) ∙ firsts (λ n. 0) (records group_key u.places).list

  pub group_numbers : numbers (records group_key (with_entry rep (record { item = h }) t).places) ≡ numbers (records group_key t.places)
  group_numbers =
      sym (through (with_entry rep (record { item = h }) t))
      ∙ (ap (λ (u : Table (Single TaskGroup)). numbers (records group_key u.places)) (mapped-with_entry_same (on_item uncounted) t rep (record { item = h }) q at (ap (λ (n : ℕ). record { item = record { number = n; calls = 0; entry = 0 } }) same))
      ∙ through t)

-- ---- A number above all others comes last

module _ {X : Type 0} (made : ℕ) where
  tail_none : (b : Bool) (x : X) (o : Option X) → cond b (Some x) o ≡ None → o ≡ None
  tail_none true x o none = absurd (cc)
  tail_none false x o none = none

  head_within : (e : ℕ × X) (es : List (ℕ × X)) → ((n : ℕ) → made < n → find nat_cmp n (e ∷ es) ≡ None) → (b : Bool) → nat_lt made e.0 ≡ b → e.0 ≤ made
  head_within e es none true is =
      absurd (let here : cond true (Some e.1) (find nat_cmp e.0 es) ≡ None = sym (ap (λ b. cond b (Some e.1) (find nat_cmp e.0 es)) (unsigned_tied e.0 e.0 ∙ eq-eqb e.0 e.0 refl)) ∙ none e.0 (grind (arith, is)) in cc)
  head_within e es none false is = grind (arith, is)

  pub last_number : (es : List (ℕ × X)) → ((n : ℕ) → made < n → find nat_cmp n es ≡ None) → (n : ℕ) (x : X) → made < n → map (λ e. e.0) (put nat_cmp n x es) ≡ map (λ e. e.0) es ++ n ∷ []
  last_number [] none n x later = refl
  last_number (e ∷ es) none n x later = by (nat_cmp n e.0) refl (last_number es (λ m more. tail_none (eq_by_cmp nat_cmp m e.0) e.1 (find nat_cmp m es) (none m more)) n x later)
    where
      within : e.0 ≤ made
      within = head_within e es none (nat_lt made e.0) refl

      by : (o : Ordering) → nat_cmp n e.0 ≡ o → map (λ e. e.0) (put nat_cmp n x es) ≡ map (λ e. e.0) es ++ n ∷ [] → map (λ e. e.0) (by_order o ((n, x) ∷ e ∷ es) ((e.0, x) ∷ es) (e ∷ put nat_cmp n x es)) ≡ e.0 ∷ (map (λ e. e.0) es ++ n ∷ [])
      by Less is rest = absurd (let below : n < e.0 = ranked n e.0 Less (sym is) in omega (arith, within, later))
      by Equal is rest = absurd (let same : n ≡ e.0 = ranked n e.0 Equal (sym is) in omega (arith, within, later))
      by Greater is rest = ap (λ ns. e.0 ∷ ns) rest
