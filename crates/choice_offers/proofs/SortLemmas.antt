-- A list in order that permutes a list of numbers that rise is that list.
use Rattle.laws_picks.proofs.CountLemmas.{itself, often, often_first, often_permuted, one_if, permutes}
use Rattle.laws_picks.proofs.OrderLemmas.{none_permuted}
use Rattle.machine_data.specs.Maps.{Records, numbers}
use Rattle.std.proofs.Common.{T, ap, arith, refl, sym, ◌∙◌}
use Rattle.std.proofs.lemmas.Bool.Decides.{nat_tests}
use Rattle.std.proofs.lemmas.Bool.{eqb-true}
use Rattle.std.proofs.lemmas.List.Sorted.{IsNonDecreasingBy-drop, length_permutation}
use Rattle.std.specs.FinMap.Entries.{below_all, is_sorted}
use Rattle.std.specs.List.Sorted.{IsNonDecreasingBy}
use Rattle.std.specs.List.{slice_index_or}
use Rattle.std.specs.Ordering.{is_lt, nat_cmp}
use Rattle.std.specs.Prelude.{Bool, IsPermutation, List, [], cond, false, filter, length, map, suc, true, ℕ, ◌&&◌, ◌+◌, ◌<◌, ◌==◌, ◌∷◌, ◌≡◌, ◌≤◌}

-- each number of the list is above this one, and each is above those before it
abbrev pub Above : ℕ → List ℕ → Type 0
Above a [] = Unit {0}
Above a (b ∷ ns) = (a < b) × Above a ns

abbrev pub Strict : List ℕ → Type 0
Strict [] = Unit {0}
Strict (a ∷ ns) = Above a ns × Strict ns

-- none of the list is below this one, and none is below those before it
abbrev pub From : ℕ → List ℕ → Type 0
From a [] = Unit {0}
From a (b ∷ ns) = (a ≤ b) × From a ns

abbrev pub Weak : List ℕ → Type 0
Weak [] = Unit {0}
Weak (a ∷ ns) = From a ns × Weak ns

-- ---- The numbers of a map

kept_above : (test : ℕ → Bool) (a : ℕ) (ns : List ℕ) → Above a ns → Above a (filter test ns)
kept_above test a [] h = tt
kept_above test a (b ∷ ns) h = by (test b) (kept_above test a ns h.1)
  where
    by : (c : Bool) → Above a (filter test ns) → Above a (cond c (b ∷ filter test ns) (filter test ns))
    by true rest = (h.0, rest)
    by false rest = rest

pub kept_strict : (test : ℕ → Bool) (ns : List ℕ) → Strict ns → Strict (filter test ns)
kept_strict test [] h = tt
kept_strict test (a ∷ ns) h = by (test a) (kept_strict test ns h.1)
  where
    by : (c : Bool) → Strict (filter test ns) → Strict (cond c (a ∷ filter test ns) (filter test ns))
    by true rest = (kept_above test a ns h.0, rest)
    by false rest = rest

left : (a b : Bool) → T (a && b) → a ≡ true
left true b h = refl
left false b h = absurd h

right : (a b : Bool) → T (a && b) → T b
right true b h = h
right false b h = absurd h

below_is : (a b : ℕ) → is_lt (nat_cmp a b) ≡ true → a < b
below_is a b h = grind (arith, nat_tests, h)

sorted_above : {X : Type 0} (a : ℕ) (es : List (ℕ × X)) → T (below_all nat_cmp a es) → Above a (map (λ e. e.0) es)
sorted_above a [] h = tt
sorted_above a (e ∷ es) h =
    (below_is a e.0 (left (is_lt (nat_cmp a e.0)) (below_all nat_cmp a es) h), sorted_above a es (right (is_lt (nat_cmp a e.0)) (below_all nat_cmp a es) h))

sorted_strict : {X : Type 0} (es : List (ℕ × X)) → T (is_sorted nat_cmp es) → Strict (map (λ e. e.0) es)
sorted_strict [] h = tt
sorted_strict (e ∷ es) h = (sorted_above e.0 es (below (below_all nat_cmp e.0 es) (is_sorted nat_cmp es) h), sorted_strict es (right (below_all nat_cmp e.0 es) (is_sorted nat_cmp es) h))
  where
    below : (a b : Bool) → T (a && b) → T a
    below true b h = tt
    below false b h = absurd h

pub numbers_strict : {X : Type 0} (m : Records X) → Strict (numbers m)
unfolding numbers
numbers_strict m = sorted_strict m.list m.sorted

-- ---- A list in order

from_each : {X : Type 0} (n : X → ℕ) (a : ℕ) (xs : List X) → ((k : ℕ) (d : X) → k < length xs → a ≤ n (slice_index_or xs k d)) → From a (map n xs)
from_each n a [] h = tt
from_each n a (x ∷ xs) h = (h 0 x (omega arith), from_each n a xs (λ k d within. h (suc k) d (omega (arith, within))))

pub weak_by : {X : Type 0} (n : X → ℕ) (xs : List X) → IsNonDecreasingBy n xs → Weak (map n xs)
weak_by n [] h = tt
weak_by n (x ∷ xs) h = (from_each n (n x) xs (λ k d within. h 0 (suc k) d (omega arith) (omega (arith, within))), weak_by n xs (IsNonDecreasingBy-drop n 1 (x ∷ xs) h))

-- ---- The same list

above_some : (a : ℕ) (ns : List ℕ) → Above a ns → (m : ℕ) → 1 ≤ often m ns → a < m
above_some a [] h m some = absurd (omega (arith, some))
above_some a (b ∷ ns) h m some = by (b == m) refl (above_some a ns h.1 m)
  where
    by : (c : Bool) → (b == m) ≡ c → (1 ≤ often m ns → a < m) → a < m
    by true same rest = let here : b ≡ m = eqb-true b m same in omega (arith, h.0, here)
    by false other rest = let off : one_if m b ≡ 0 = ap (λ (d : Bool). cond d 1 0) other in rest (omega (arith, some, off, often_first m b ns))

from_some : (a : ℕ) (ns : List ℕ) → From a ns → (m : ℕ) → 1 ≤ often m ns → a ≤ m
from_some a [] h m some = absurd (omega (arith, some))
from_some a (b ∷ ns) h m some = by (b == m) refl (from_some a ns h.1 m)
  where
    by : (c : Bool) → (b == m) ≡ c → (1 ≤ often m ns → a ≤ m) → a ≤ m
    by true same rest = let here : b ≡ m = eqb-true b m same in omega (arith, h.0, here)
    by false other rest = let off : one_if m b ≡ 0 = ap (λ (d : Bool). cond d 1 0) other in rest (omega (arith, some, off, often_first m b ns))

pub same_sorted : (xs ys : List ℕ) → Strict xs → Weak ys → IsPermutation xs ys → ys ≡ xs
same_sorted [] ys up rises p = none_permuted ys p
same_sorted (a ∷ xs) [] up rises p = absurd (omega (arith, length_permutation (a ∷ xs) [] p))
same_sorted (a ∷ xs) (b ∷ ys) up rises p = ap (λ c. c ∷ ys) (sym same) ∙ ap (λ l. a ∷ l) (same_sorted xs ys up.1 rises.1 (permutes xs ys long (λ m some. each m)))
  where
    counts : (m : ℕ) → one_if m a + often m xs ≡ one_if m b + often m ys
    counts m = sym (often_first m a xs) ∙ (often_permuted m (a ∷ xs) (b ∷ ys) p ∙ often_first m b ys)

    first_below : (m : ℕ) → 1 ≤ one_if m a + often m xs → a ≤ m
    first_below m some = by (a == m) refl
      where
        by : (c : Bool) → (a == m) ≡ c → a ≤ m
        by true is = let here : a ≡ m = eqb-true a m is in omega (arith, here)
        by false other = let off : one_if m a ≡ 0 = ap (λ (d : Bool). cond d 1 0) other in let later : a < m = above_some a xs up.0 m (omega (arith, some, off)) in omega (arith, later)

    second_below : (m : ℕ) → 1 ≤ one_if m b + often m ys → b ≤ m
    second_below m some = by (b == m) refl
      where
        by : (c : Bool) → (b == m) ≡ c → b ≤ m
        by true is = let here : b ≡ m = eqb-true b m is in omega (arith, here)
        by false other = let off : one_if m b ≡ 0 = ap (λ (d : Bool). cond d 1 0) other in from_some b ys rises.0 m (omega (arith, some, off))

    same : a ≡ b
    same = let one : a ≤ b = first_below b (omega (arith, counts b, itself b)) in let two : b ≤ a = second_below a (omega (arith, counts a, itself a)) in omega (arith, one, two)

    each : (m : ℕ) → often m xs ≡ often m ys
    each m = let two : one_if m a ≡ one_if m b = ap (λ c. one_if m c) same in omega (arith, counts m, two)

    long : length xs ≡ length ys
    long = omega (arith, length_permutation (a ∷ xs) (b ∷ ys) p)
