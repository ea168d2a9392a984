-- How many records of a kind there are, by what is in the table.
use Rattle.std.proofs.Common.{◌≡◌, ℕ, ◌+◌, ◌≤◌, Bool, true, false, List, [], ◌∷◌, count_by, sum_by, Option, Some, None, is_some, refl, sym, ◌∙◌, arith}
use Rattle.std.proofs.lemmas.List.Sums.{sum_by-cons}
use Rattle.machine_data.specs.Maps.{size, empty}
use Rattle.machine_data.proofs.SizeLemmas.{size-empty, size-insert_new}
use Rattle.machine_data.proofs.SumLemmas.{count_by-insert_new}
use Rattle.task_table.specs.Table.{Table, Placed, table_len}
use Rattle.task_table.specs.Records.{key_in, is_of, with_record, records, AreApart}
use Rattle.task_table.proofs.TableLemmas.{one_if}
use Rattle.task_table.proofs.RecordLemmas.{get-records, AreApart-rest, fresh_first}

module _ {E X : Type 0} (key : E → Option (ℕ × X)) where
  -- the map has as many records as there are entries of the kind
  pub size-records : (ps : List (Option (Placed E))) → AreApart key ps → size (records key ps) ≡ count_by (is_of key) ps
  unfolding records
  size-records [] apart = size-empty X
  size-records (o ∷ os) apart = by_first (key_in key o) refl (size-records os (AreApart-rest key o os apart)) ∙ sym (sum_by-cons (λ p. one_if (is_of key p)) o os)
    where
      by_first : (e : Option (ℕ × X)) → key_in key o ≡ e → size (records key os) ≡ count_by (is_of key) os → size (with_record e (records key os)) ≡ one_if (is_some e) + count_by (is_of key) os
      by_first None first rest = omega arith
      by_first (Some e) first rest =
          let one = size-insert_new (records key os) e.0 e.1 (get-records key os e.0 ∙ fresh_first key o os e.0 e.1 apart first) in
          omega arith

  abbrev pub passes : (X → Bool) → Option (ℕ × X) → Bool
  passes test None = false
  passes test (Some e) = test e.1

  -- and as many that pass a test
  pub count_by-records : (test : X → Bool) (ps : List (Option (Placed E))) → AreApart key ps → count_by (λ e. test e.1) (records key ps).list ≡ count_by (λ o. passes test (key_in key o)) ps
  unfolding records empty
  count_by-records test [] apart = refl
  count_by-records test (o ∷ os) apart = by_first (key_in key o) refl (count_by-records test os (AreApart-rest key o os apart)) ∙ sym (sum_by-cons (λ p. one_if (passes test (key_in key p))) o os)
    where
      by_first : (e : Option (ℕ × X)) → key_in key o ≡ e → count_by (λ e. test e.1) (records key os).list ≡ count_by (λ p. passes test (key_in key p)) os → count_by (λ e. test e.1) (with_record e (records key os)).list ≡ one_if (passes test e) + count_by (λ p. passes test (key_in key p)) os
      by_first None first rest = omega arith
      by_first (Some e) first rest =
          let one = count_by-insert_new test (records key os) e.0 e.1 (get-records key os e.0 ∙ fresh_first key o os e.0 e.1 apart first) in
          omega arith

  count_by-is_of-le : (ps : List (Option (Placed E))) → count_by (is_of key) ps ≤ count_by is_some ps
  count_by-is_of-le [] = omega arith
  count_by-is_of-le (None ∷ ps) = let rest = count_by-is_of-le ps in omega (arith, sum_by-cons (λ p. one_if (is_of key p)) None ps, sum_by-cons (λ p. one_if (is_some p)) None ps)
  count_by-is_of-le (Some p ∷ ps) =
      let rest = count_by-is_of-le ps in
      let most = at_most_one (is_some (key p.entry)) in
      omega (arith, sum_by-cons (λ p. one_if (is_of key p)) (Some p) ps, sum_by-cons (λ p. one_if (is_some p)) (Some p) ps)
    where
      at_most_one : (b : Bool) → one_if b ≤ 1
      at_most_one true = omega arith
      at_most_one false = omega arith

  -- at most as many as there are entries
  pub size-records-le : (t : Table E) → AreApart key t.places → size (records key t.places) ≤ table_len t
  size-records-le t apart = let all = size-records t.places apart in let most = count_by-is_of-le t.places in omega arith

module _ {A : Type 0} where
  sum_by-plus : (f g : A → ℕ) (xs : List A) → sum_by (λ x. f x + g x) xs ≡ sum_by f xs + sum_by g xs
  sum_by-plus f g [] = refl
  sum_by-plus f g (x ∷ xs) = let rest = sum_by-plus f g xs in omega (arith, sum_by-cons (λ x. f x + g x) x xs, sum_by-cons f x xs, sum_by-cons g x xs)

  sum_by-zero : (xs : List A) → sum_by (λ x. 0) xs ≡ 0
  sum_by-zero [] = refl
  sum_by-zero (x ∷ xs) = let rest = sum_by-zero xs in omega (arith, sum_by-cons (λ x. 0) x xs)

  sum_by-same : (f g : A → ℕ) → ((x : A) → f x ≡ g x) → (xs : List A) → sum_by f xs ≡ sum_by g xs
  sum_by-same f g same [] = refl
  sum_by-same f g same (x ∷ xs) = let rest = sum_by-same f g same xs in let first = same x in omega (arith, sum_by-cons f x xs, sum_by-cons g x xs)

-- where each entry is of just one of the kinds, the counts of the kinds make up the count of the entries
module _ {E : Type 0} where
  pub count_by-kinds : (kinds : List (Option (Placed E) → Bool)) → ((o : Option (Placed E)) → one_if (is_some o) ≡ sum_by (λ k. one_if (k o)) kinds) → (ps : List (Option (Placed E))) → count_by is_some ps ≡ sum_by (λ k. count_by k ps) kinds
  count_by-kinds kinds each [] = sym (sum_by-zero kinds)
  count_by-kinds kinds each (o ∷ os) =
      let rest = count_by-kinds kinds each os in
      let first = each o in
      let split = sum_by-same (λ k. count_by k (o ∷ os)) (λ k. one_if (k o) + count_by k os) (λ k. sum_by-cons (λ p. one_if (k p)) o os) kinds in
      omega (arith, sum_by-cons (λ p. one_if (is_some p)) o os, sum_by-plus (λ k. one_if (k o)) (λ k. count_by k os) kinds)
