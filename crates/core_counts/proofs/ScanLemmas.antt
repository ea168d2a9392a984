-- A test of all records, as a scan of the table answers it.
use Rattle.core_records.proofs.Core.{[], ap, AreApart, AreApart-rest, arith, Bool, cond, empty, false, fresh_first, get, get-records, insert, List, list_any, nat_lt, None, one_if_passes, Option, passing, passing-with_at, Placed, records, refl, Some, sym, Table, true, ℕ, ◌+◌, ◌||◌, ◌∙◌, ◌∷◌, ◌≡◌}
use Rattle.core_records.specs.declared.{single.Single.Single}
use Rattle.task_table.specs.Entries.{entries, entries_from}
use Rattle.core_records.proofs.KeptLemmas.{any_passing}

one_more : (b : Bool) (k n : ℕ) → n ≡ k + cond b 1 0 → nat_lt 0 n ≡ (b || nat_lt 0 k)
one_more true k n is = grind arith
one_more false k n is = ap (nat_lt 0) (let same : n ≡ k = omega (arith, is) in same)

module _ {T X : Type 0} (number : T → ℕ) (rec : T → X) (test : X → Bool) where
  abbrev key : Single T → Option (ℕ × X)
  key e = Some (number e.item, rec e.item)

  scanned_from : (r : ℕ) (ps : List (Option (Placed (Single T)))) → AreApart key ps → list_any (λ (e : ℕ × Single T). test (rec e.1.item)) (entries_from r ps) ≡ nat_lt 0 (passing test (records key ps))
  unfolding records empty
  scanned_from r [] apart = refl
  scanned_from r (None ∷ os) apart = scanned_from (r + 1) os (AreApart-rest key None os apart)
  scanned_from r (Some p ∷ os) apart =
      let law = passing-with_at test (records key os) (number p.entry.item) (Some (rec p.entry.item)) in
      let new : one_if_passes test (get (records key os) (number p.entry.item)) ≡ 0 = ap (one_if_passes test) (get-records key os (number p.entry.item) ∙ fresh_first key (Some p) os (number p.entry.item) (rec p.entry.item) apart refl) in
      ap (λ b. test (rec p.entry.item) || b) (scanned_from (r + 1) os (AreApart-rest key (Some p) os apart))
      ∙ sym (one_more (test (rec p.entry.item)) (passing test (records key os)) (passing test (insert (records key os) (number p.entry.item) (rec p.entry.item))) (omega arith))

  pub scanned : (t : Table (Single T)) → AreApart key t.places → list_any (λ (e : ℕ × Single T). test (rec e.1.item)) (entries t) ≡ list_any (λ (e : ℕ × X). test e.1) (records key t.places).list
  scanned t apart = scanned_from 0 t.places apart ∙ any_passing test (records key t.places)
