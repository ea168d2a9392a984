-- Places that are given back one after the other, and in order of a number.
use Rattle.std.proofs.Common.{if◌then◌else◌, ◌≡◌, ◌-◌, ◌≤◌, ◌∷◌, ◌++◌, ◌∙◌, [], ap, arith, Bool, drop, false, length, List, map, nat_lt, refl, reverse, subst, suc, sym, take, true, ℕ}
use Rattle.std.proofs.lemmas.List.{append-nil, append_assoc, drop_all, drop_at, length-append, length-drop, length-map, length-reverse, length-take, reverse-append, reverse-reverse, take_all, take_at}
use Rattle.std.proofs.lemmas.List.Sorted.{length_permutation}
use Rattle.std.specs.List.Sorted.{IsNonDecreasingBy, IsPermutation}
use Rattle.table_lists.specs.GivenPlaces.{given_each, GivenInOrder, Places, used}

same_places : (p q : Places) → p.free ≡ q.free → p.made ≡ q.made → p ≡ q
same_places p q free made = ap (λ (f : List ℕ). record p { free = f }) free ∙ ap (λ (m : ℕ). record q { made = m }) made

one_more : (a b : ℕ) → nat_lt a b ≡ true → b - a ≡ suc (b - suc a)
one_more a b less = grind (arith, less)

no_more : (a b : ℕ) → nat_lt a b ≡ false → b - a ≡ 0
no_more a b less = grind (arith, less)

module _ (x : ℕ) (xs : List ℕ) (p : Places) where
  abbrev freed : Bool → Places
  freed b = if b then record p { free = x ∷ p.free } else p

  free_one : ((q : Places) → reverse (given_each xs q).free ≡ reverse q.free ++ take (used q) xs) → (b : Bool) → nat_lt (length p.free) p.made ≡ b → reverse (given_each xs (freed b)).free ≡ reverse p.free ++ take (used p) (x ∷ xs)
  free_one more true less =
      more (freed true)
      ∙ (ap (λ (l : List ℕ). l ++ take (used (freed true)) xs) (reverse-append (x ∷ []) p.free)
      ∙ (append_assoc (reverse p.free) (x ∷ []) (take (used (freed true)) xs)
      ∙ sym (ap (λ (n : ℕ). reverse p.free ++ take n (x ∷ xs)) (one_more (length p.free) p.made less))))
  free_one more false less =
      let none : used p ≡ 0 = no_more (length p.free) p.made less in
      more p ∙ (ap (λ (n : ℕ). reverse p.free ++ take n xs) none ∙ sym (ap (λ (n : ℕ). reverse p.free ++ take n (x ∷ xs)) none))

  made_one : ((q : Places) → (given_each xs q).made ≡ q.made) → (b : Bool) → (given_each xs (freed b)).made ≡ p.made
  made_one more true = more (freed true)
  made_one more false = more p

-- what is given back is in front, the last one first
free_each : (places : List ℕ) (p : Places) → reverse (given_each places p).free ≡ reverse p.free ++ take (used p) places
free_each [] p = sym (ap (λ (l : List ℕ). reverse p.free ++ l) (take_all (used p) [] (omega arith)) ∙ append-nil (reverse p.free))
free_each (x ∷ xs) p = free_one x xs p (free_each xs) (nat_lt (length p.free) p.made) refl

made_each : (places : List ℕ) (p : Places) → (given_each places p).made ≡ p.made
made_each [] p = refl
made_each (x ∷ xs) p = made_one x xs p (made_each xs) (nat_lt (length p.free) p.made)

module _ (number place : ℕ → ℕ) (names : List ℕ) (before : Places) (xs ys order : List ℕ) (made : ℕ) where
  -- names that are in order, and then their places
  pub in_order : record { free = reverse xs; made = made } ≡ given_each names before → IsPermutation (drop (length before.free) xs) order → IsNonDecreasingBy number order → ys ≡ take (length before.free) xs ++ map place order → GivenInOrder number place names before (record { free = reverse ys; made = made })
  in_order is same rises put =
      let kept = length before.free in
      let long : length (reverse before.free) ≡ kept = length-reverse before.free in
      let all : xs ≡ reverse before.free ++ take (used before) names = sym (reverse-reverse xs) ∙ (ap (λ (p : Places). reverse p.free) is ∙ free_each names before) in
      let front : take kept xs ≡ reverse before.free = ap (take kept) all ∙ take_at (reverse before.free) (take (used before) names) kept long in
      let back : drop kept xs ≡ take (used before) names = ap (drop kept) all ∙ drop_at (reverse before.free) (take (used before) names) kept long in
      let moved : IsPermutation (take (used before) names) order = subst (λ (l : List ℕ). IsPermutation l order) back same in
      let few : length (map place order) ≤ used before = grind (arith, length-map order place, length_permutation (take (used before) names) order moved, length-take (used before) names) in
      let each : reverse (given_each (map place order) before).free ≡ reverse before.free ++ map place order = free_each (map place order) before ∙ ap (λ (l : List ℕ). reverse before.free ++ l) (take_all (used before) (map place order) few) in
      record {
        order = order;
        same = moved;
        rises = rises;
        places =
            same_places (record { free = reverse ys; made = made }) (given_each (map place order) before)
            (ap reverse (put ∙ (ap (λ (l : List ℕ). l ++ map place order) front ∙ sym each)) ∙ reverse-reverse (given_each (map place order) before).free)
            (ap (λ (p : Places). p.made) is ∙ (made_each names before ∙ sym (made_each (map place order) before)));
      }

-- the end of a list, from a place on, is another as long
pub other_end : (kept : ℕ) (xs ys : List ℕ) → length ys ≡ length xs - kept → take kept xs ++ (ys ++ drop (length xs - kept) (drop kept xs)) ≡ take kept xs ++ ys
other_end kept xs ys long =
    ap (λ (l : List ℕ). take kept xs ++ l)
    (ap (λ (l : List ℕ). ys ++ l) (drop_all (length xs - kept) (drop kept xs) (omega (arith, length-drop kept xs))) ∙ append-nil ys)

-- no place is taken
pub no_fewer : (places : List ℕ) (p : Places) → length p.free ≤ length (given_each places p).free
no_fewer places p =
    omega (arith, ap length (free_each places p), length-reverse (given_each places p).free, length-append (reverse p.free) (take (used p) places), length-reverse p.free)
