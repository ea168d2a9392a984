-- Lists of counts, as aborts are made.
use Rattle.std.proofs.Common.{◌≡◌, ℕ, zero, suc, ◌+◌, ◌-◌, ◌<◌, ◌≤◌, List, [], ◌∷◌, ◌++◌, length, map, refl, ap, sym, ◌∙◌, arith, get_or, length-append, take, true, false, Bool}
use Rattle.std.proofs.lemmas.Bool.Decides.{nat_tests}
use Rattle.std.proofs.lemmas.List.{map-set}
use Rattle.std.proofs.Math.Seq.{take-suc}
use Rattle.std.proofs.lemmas.List.Sums.{sum_by-append}
use Rattle.std.proofs.lemmas.Option.{same_Some, slice_get-map}
use Rattle.std.specs.List.{sum_by}
use Rattle.std.specs.Prelude.{◌==◌, None, Option, Some, cond, count_by, nat_lt, option_map, slice_get, slice_set}
use Rattle.beside_works.specs.Counts.{added, added_each, cells_in, counts_in, places_in}
use Rattle.beside_works.specs.Views.{found_list, pass_cell_of, place_of}
use Rattle.beside_works.specs.declared.cells.AborterPass.{AborterPass}

added_nil : (n : ℕ) → added n [] ≡ []
added_nil zero = refl
added_nil (suc n) = refl

times : ℕ → List ℕ → ℕ
times k line = count_by (λ s. s == k) line

times_more : (line : List ℕ) (s k : ℕ) → times k (line ++ s ∷ []) ≡ times k line + cond (s == k) 1 0
unfolding times
times_more line s k = sum_by-append (λ (x : ℕ). cond (x == k) 1 0) line (s ∷ []) ∙ ap (λ (n : ℕ). sum_by (λ (x : ℕ). cond (x == k) 1 0) line + n) (first (cond (s == k) 1 0))
  where
    first : (n : ℕ) → 0 + n ≡ n
    first n = omega arith

-- a spawn that is in the line once more has one more
pub added_more : (line : List ℕ) (s k : ℕ) (ns : List ℕ) → added_each (line ++ s ∷ []) k ns ≡ added (s - k) (added_each line k ns)
unfolding times
added_more line s k [] = sym (added_nil (s - k))
added_more line s k (n ∷ ns) = by (s == k + 1) (nat_lt (k + 1) s) refl refl (added_more line s (k + 1) ns) (times_more line s (k + 1))
  where
    h : ℕ
    h = n + times (k + 1) line

    t : List ℕ
    t = added_each line (k + 1) ns

    both : (a b : ℕ) (ks ms : List ℕ) → a ≡ b → ks ≡ ms → a ∷ ks ≡ b ∷ ms
    both a b ks ms p q = ap (λ (m : ℕ). m ∷ ks) p ∙ ap (λ (js : List ℕ). b ∷ js) q

    by : (b c : Bool) → (s == k + 1) ≡ b → nat_lt (k + 1) s ≡ c → added_each (line ++ s ∷ []) (k + 1) ns ≡ added (s - (k + 1)) t →
        times (k + 1) (line ++ s ∷ []) ≡ times (k + 1) line + cond (s == k + 1) 1 0 →
        (n + times (k + 1) (line ++ s ∷ [])) ∷ added_each (line ++ s ∷ []) (k + 1) ns ≡ added (s - k) (h ∷ t)
    by true c is lt rest count =
        let one : s - k ≡ suc zero = grind (arith, nat_tests, is) in
        let none : s - (k + 1) ≡ zero = grind (arith, nat_tests, is) in
        let more = ap (λ (b : Bool). times (k + 1) line + cond b 1 0) is in
        let head : n + times (k + 1) (line ++ s ∷ []) ≡ h + 1 = omega (arith, count, more) in
        both _ _ _ _ head (rest ∙ ap (λ (m : ℕ). added m t) none) ∙ sym (ap (λ (m : ℕ). added m (h ∷ t)) one)
    by false true is lt rest count =
        let two : s - k ≡ suc (suc (s - (k + 2))) = grind (arith, nat_tests, lt) in
        let one : s - (k + 1) ≡ suc (s - (k + 2)) = grind (arith, nat_tests, lt) in
        let more = ap (λ (b : Bool). times (k + 1) line + cond b 1 0) is in
        let head : n + times (k + 1) (line ++ s ∷ []) ≡ h = omega (arith, count, more) in
        both _ _ _ _ head (rest ∙ ap (λ (m : ℕ). added m t) one) ∙ sym (ap (λ (m : ℕ). added m (h ∷ t)) two)
    by false false is lt rest count =
        let none : s - k ≡ zero = grind (arith, nat_tests, is, lt) in
        let less : s - (k + 1) ≡ zero = grind (arith, nat_tests, is, lt) in
        let more = ap (λ (b : Bool). times (k + 1) line + cond b 1 0) is in
        let head : n + times (k + 1) (line ++ s ∷ []) ≡ h = omega (arith, count, more) in
        both _ _ _ _ head (rest ∙ ap (λ (m : ℕ). added m t) less) ∙ sym (ap (λ (m : ℕ). added m (h ∷ t)) none)

-- a line with no spawn adds nothing
pub added_none : (k : ℕ) (ns : List ℕ) → added_each [] k ns ≡ ns
added_none k [] = refl
added_none k (n ∷ ns) = let same : n + 0 ≡ n = omega arith in ap (λ (m : ℕ). m ∷ added_each [] (k + 1) ns) same ∙ ap (λ (ms : List ℕ). n ∷ ms) (added_none (k + 1) ns)

-- the entry at the spawn's place is one more
added_at : (k n : ℕ) (ns : List ℕ) → slice_get ns k ≡ Some n → slice_set ns k (n + 1) ≡ added (suc k) ns
added_at k n [] at = absurd (cc)
added_at zero n (m ∷ ns) at = ap (λ (j : ℕ). (j + 1) ∷ ns) (sym (same_Some _ _ at))
added_at (suc k) n (m ∷ ns) at = ap (λ (ms : List ℕ). m ∷ ms) (added_at k n ns at)

pub added_past : (k : ℕ) (ns : List ℕ) → slice_get ns k ≡ None → added (suc k) ns ≡ ns
added_past k [] at = refl
added_past zero (m ∷ ns) at = absurd (cc)
added_past (suc k) (m ∷ ns) at = ap (λ (ms : List ℕ). m ∷ ms) (added_past k ns at)

pub set_same : {A : Type 0} (xs : List A) (k : ℕ) (x : A) → slice_get xs k ≡ Some x → slice_set xs k x ≡ xs
set_same [] k x at = absurd (cc)
set_same (y ∷ ys) zero x at = ap (λ z. z ∷ ys) (sym (same_Some _ _ at))
set_same (y ∷ ys) (suc k) x at = ap (λ zs. y ∷ zs) (set_same ys k x at)

module _ (ps : List AborterPass) (k : ℕ) (p q : AborterPass) (at : slice_get ps k ≡ Some p) where
  got : {A : Type 0} (f : AborterPass → A) → slice_get (map f ps) k ≡ Some (f p)
  got f = slice_get-map f ps k ∙ ap (option_map f) at

  pub cells_after : pass_cell_of q ≡ pass_cell_of p → cells_in (slice_set ps k q) ≡ cells_in ps
  cells_after same = map-set pass_cell_of ps k q ∙ (ap (slice_set (map pass_cell_of ps) k) same ∙ set_same (map pass_cell_of ps) k (pass_cell_of p) (got pass_cell_of))

  pub places_after : place_of q ≡ place_of p → places_in (slice_set ps k q) ≡ places_in ps
  places_after same = map-set place_of ps k q ∙ (ap (slice_set (map place_of ps) k) same ∙ set_same (map place_of ps) k (place_of p) (got place_of))

  pub counts_after : length (found_list q) ≡ length (found_list p) + 1 → counts_in (slice_set ps k q) ≡ added (suc k) (counts_in ps)
  counts_after more =
      map-set (λ (r : AborterPass). length (found_list r)) ps k q
      ∙ (ap (slice_set (counts_in ps) k) more ∙ added_at k (length (found_list p)) (counts_in ps) (got (λ (r : AborterPass). length (found_list r))))

pub longer : {A : Type 0} (xs ys : List A) (x : A) → ys ≡ xs ++ x ∷ [] → length ys ≡ length xs + 1
longer xs ys x is = ap length is ∙ length-append xs (x ∷ [])

-- how many aborts there were, once the next spawn of the line has one more
pub next_added : (line : List ℕ) (i : ℕ) (ns ms : List ℕ) → i < length line → ms ≡ added_each (take i line) 0 ns →
    added (get_or line i 0) ms ≡ added_each (take (i + 1) line) 0 ns
next_added line i ns ms lt is =
    let none : get_or line i 0 ≡ get_or line i 0 - 0 = omega arith in
    let next : suc i ≡ i + 1 = omega arith in
    ap (λ (ks : List ℕ). added (get_or line i 0) ks) is
    ∙ (ap (λ (k : ℕ). added k (added_each (take i line) 0 ns)) none
    ∙ (sym (added_more (take i line) (get_or line i 0) 0 ns)
    ∙ (ap (λ (ks : List ℕ). added_each ks 0 ns) (sym (take-suc line i 0 lt)) ∙ ap (λ (j : ℕ). added_each (take j line) 0 ns) next)))

pub counts_past : (ps : List AborterPass) (k : ℕ) → slice_get ps k ≡ None → added (suc k) (counts_in ps) ≡ counts_in ps
counts_past ps k at = added_past k (counts_in ps) (slice_get-map (λ (r : AborterPass). length (found_list r)) ps k ∙ ap (option_map (λ (r : AborterPass). length (found_list r))) at)

pub not_below : (k n : ℕ) → (k < n → ⊥) → n ≤ k
not_below k n not = by (nat_lt k n) refl
  where
    by : (b : Bool) → nat_lt k n ≡ b → n ≤ k
    by true lt = absurd (not (grind (arith, nat_tests, lt)))
    by false lt = grind (arith, nat_tests, lt)
