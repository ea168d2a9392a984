-- How many records pass a test, counted by their numbers.
use Rattle.laws_states.proofs.Primitives.{[], ap, arith, Bool, cond, count_by, false, found_any, get, get-remove, is_some, List, list_any, nat_cmp, nat_tests, None, Option, option_map_or, Records, refl, remove, Some, suc, sum_by-cons, sym, true, unsigned_tied, zero, ℕ, ◌+◌, ◌==◌, ◌∙◌, ◌∷◌, ◌≡◌, ◌≤◌}
use Rattle.machine_data.proofs.SumLemmas.{count_by-remove}
use Rattle.std.specs.FinMap.Entries.{find as seek}

abbrev pub one : Bool → ℕ
one b = cond b 1 0

-- how many numbers up to this one pass
abbrev upto : (ℕ → Bool) → ℕ → ℕ
upto f zero = one (f 0)
upto f (suc n) = one (f (suc n)) + upto f n

upto_same : (f g : ℕ → Bool) (n : ℕ) → ((k : ℕ) → k ≤ n → f k ≡ g k) → upto f n ≡ upto g n
upto_same f g zero same = ap one (same 0 (omega arith))
upto_same f g (suc n) same =
    let rest = upto_same f g n (λ k below. same k (omega (arith, below))) in let here = ap one (same (suc n) (omega arith)) in omega (arith, rest, here)

upto_weighs : (f e g d : ℕ → Bool) (n : ℕ) → ((k : ℕ) → one (f k) + one (e k) ≤ one (g k) + one (d k)) → upto f n + upto e n ≤ upto g n + upto d n
upto_weighs f e g d zero h = h 0
upto_weighs f e g d (suc n) h = let rest = upto_weighs f e g d n h in let here = h (suc n) in omega (arith, rest, here)

-- the number, if there is one
abbrev pub marks : Option ℕ → ℕ → Bool
marks None k = false
marks (Some n) k = k == n

abbrev pub mass : {X : Type 0} → Option X → ℕ
mass None = 0
mass (Some x) = 1

marks_above : (k n : ℕ) → n + 1 ≤ k → upto (λ i. i == k) n ≡ 0
marks_above k zero above = grind (arith, nat_tests, above)
marks_above k (suc n) above = let rest = marks_above k n (omega (arith, above)) in grind (arith, nat_tests, above)

marks_one : (k n : ℕ) → k ≤ n → upto (λ i. i == k) n ≡ 1
marks_one k zero below = grind (arith, nat_tests, below)
marks_one k (suc n) below = by (suc n == k) refl (λ low. marks_one k n low)
  where
    by : (b : Bool) → (suc n == k) ≡ b → (k ≤ n → upto (λ i. i == k) n ≡ 1) → one (suc n == k) + upto (λ i. i == k) n ≡ 1
    by true is rec = let same : suc n ≡ k = grind (arith, nat_tests) in let rest = marks_above k n (omega (arith, same)) in grind (arith, rest)
    by false is rec = let rest = rec (grind (arith, nat_tests, below)) in grind (arith, rest)

none_upto : (n : ℕ) → upto (λ i. false) n ≡ 0
none_upto zero = refl
none_upto (suc n) = let rest = none_upto n in omega (arith, rest)

abbrev number : Option ℕ → ℕ
number None = 0
number (Some k) = k

marks_mass : (o : Option ℕ) (n : ℕ) → number o ≤ n → upto (marks o) n ≡ mass o
marks_mass None n below = none_upto n
marks_mass (Some k) n below = marks_one k n below

-- ---- Maps

-- a number that is not below those of the entries
abbrev top : {X : Type 0} → List (ℕ × X) → ℕ
top [] = 0
top (e ∷ es) = e.0 + top es

found_below : {X : Type 0} (n : ℕ) (es : List (ℕ × X)) → is_some (seek nat_cmp n es) ≡ true → n ≤ top es
found_below n [] h = absurd (grind arith)
found_below n (e ∷ es) h = let rest = found_below n es in let tied = unsigned_tied n e.0 in grind (arith, nat_tests)

none_counts : {X : Type 0} (test : X → Bool) (es : List (ℕ × X)) → ((n : ℕ) → seek nat_cmp n es ≡ None) → count_by (λ e. test e.1) es ≡ 0
none_counts test [] none = refl
none_counts test (e ∷ es) none = absurd (let tied = unsigned_tied e.0 e.0 in let gone = none e.0 in grind (arith, nat_tests))

abbrev pub at_number : {X : Type 0} → (X → Bool) → Records X → ℕ → Bool
at_number test m n = option_map_or test (get m n) false

module _ {X : Type 0} (test : X → Bool) where
  abbrev pub counted : Records X → ℕ
  counted m = count_by (λ e. test e.1) m.list

  counted_none : (m : Records X) → ((n : ℕ) → get m n ≡ None) → counted m ≡ 0
  unfolding get
  counted_none m none = none_counts test m.list none

  counted_upto : (n : ℕ) (m : Records X) → ((k : ℕ) → is_some (get m k) ≡ true → k ≤ n) → counted m ≡ upto (at_number test m) n
  counted_upto zero m below = by (get m 0) refl
    where
      by : (o : Option X) → get m 0 ≡ o → counted m ≡ one (at_number test m 0)
      by None is =
          let none = counted_none m (λ k. only k (get m k) refl) in none ∙ ap (λ (o : Option X). one (option_map_or test o false)) (sym is)
        where
          only : (k : ℕ) (o : Option X) → get m k ≡ o → get m k ≡ None
          only k None at = at
          only k (Some x) at = absurd (let low = below k (grind arith) in let zero_is : k ≡ 0 = omega (arith, low) in grind arith)
      by (Some x) is =
          let removed = count_by-remove test m 0 x is in
          let none = counted_none (remove m 0) (λ k. only k (get (remove m 0) k) refl) in
          let here = ap (λ (o : Option X). one (option_map_or test o false)) is in omega (arith, removed, none, here)
        where
          only : (k : ℕ) (o : Option X) → get (remove m 0) k ≡ o → get (remove m 0) k ≡ None
          only k None at = at
          only k (Some y) at = absurd (let low = below k in let gone = get-remove m 0 k in grind (arith, nat_tests))
  counted_upto (suc n) m below = by (get m (suc n)) refl (λ k low. counted_upto n k low)
    where
      by : (o : Option X) → get m (suc n) ≡ o → ((k : Records X) → ((i : ℕ) → is_some (get k i) ≡ true → i ≤ n) → counted k ≡ upto (at_number test k) n) →
          counted m ≡ one (at_number test m (suc n)) + upto (at_number test m) n
      by None is rec =
          let rest = rec m (λ k there. let low = below k there in by_low k there (k == suc n) refl low) in
          let here = ap (λ (o : Option X). one (option_map_or test o false)) is in omega (arith, rest, here)
        where
          by_low : (k : ℕ) → is_some (get m k) ≡ true → (b : Bool) → (k == suc n) ≡ b → k ≤ suc n → k ≤ n
          by_low k there true e low = absurd (let same : k ≡ suc n = grind (arith, nat_tests) in grind arith)
          by_low k there false e low = grind (arith, nat_tests, low)
      by (Some x) is rec =
          let r = remove m (suc n) in
          let removed = count_by-remove test m (suc n) x is in
          let rest = rec r (λ k there. let low = below k in let gone = get-remove m (suc n) k in grind (arith, nat_tests)) in
          let same = upto_same (at_number test r) (at_number test m) n (λ k low. let gone = get-remove m (suc n) k in grind (arith, nat_tests, low)) in
          let here = ap (λ (o : Option X). one (option_map_or test o false)) is in omega (arith, removed, rest, same, here)

  -- a record that passes is counted
  pub counts_one : (m : Records X) (n : ℕ) → at_number test m n ≡ true → 1 ≤ counted m
  unfolding get
  counts_one m n h = go m.list h
    where
      go : (es : List (ℕ × X)) → option_map_or test (seek nat_cmp n es) false ≡ true → 1 ≤ count_by (λ e. test e.1) es
      go [] h = absurd (grind arith)
      go (e ∷ es) h = let rest = go es in let more = sum_by-cons (λ (y : ℕ × X). one (test y.1)) e es in grind arith

  any_counts : (es : List (ℕ × X)) → 1 ≤ count_by (λ e. test e.1) es → list_any (λ e. test e.1) es ≡ true
  any_counts [] h = absurd (grind arith)
  any_counts (e ∷ es) h = let rest = any_counts es in let more = sum_by-cons (λ (y : ℕ × X). one (test y.1)) e es in grind arith

  -- a record that passes, by its number
  pub any_at : (m : Records X) → list_any (λ e. test e.1) m.list ≡ true → (n : ℕ) × (at_number test m n ≡ true)
  unfolding get
  any_at m h = let r = found_any (λ n x. test x) m.list m.sorted h in (r.0, let at = r.1.1.0 in let on = r.1.1.1 in grind arith)

  -- where one is counted there is one that passes
  pub one_counted : (m : Records X) → 1 ≤ counted m → (n : ℕ) × (at_number test m n ≡ true)
  one_counted m h = any_at m (any_counts m.list h)

-- Two counts are compared number by number: e counts more in the second map, d in the first.
pub counted_weighs : {X : Type 0} (test : X → Bool) (m k : Records X) (e d : Option ℕ) →
    ((n : ℕ) → one (at_number test m n) + one (marks e n) ≤ one (at_number test k n) + one (marks d n)) →
    counted test m + mass e ≤ counted test k + mass d
unfolding get
counted_weighs test m k e d h =
    let n = top m.list + top k.list + number e + number d in
    let first = counted_upto test n m (λ i there. let low = found_below i m.list there in omega (arith, low)) in
    let second = counted_upto test n k (λ i there. let low = found_below i k.list there in omega (arith, low)) in
    let more = marks_mass e n (omega arith) in
    let less = marks_mass d n (omega arith) in
    let all = upto_weighs (at_number test m) (marks e) (at_number test k) (marks d) n h in
    omega (arith, first, second, more, less, all)
