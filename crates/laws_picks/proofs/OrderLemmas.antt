-- Of threads that are all wanted, in one order and each once, there is one order that a release may have.
use Rattle.laws_picks.proofs.CountLemmas.{itself, often, often_first, often_permuted, one_if, permutes}
use Rattle.machine_data.specs.Maps.{Records, numbers}
use Rattle.machine_rules.specs.Picks.{Preference, goes_in_order, held_before, listed_before}
use Rattle.std.proofs.Common.{T, ap, arith, refl, subst, sym, ◌∙◌}
use Rattle.std.proofs.lemmas.Bool.Decides.{nat_tests}
use Rattle.std.proofs.lemmas.Bool.{eq-eqb, eqb-true, ne_eqb}
use Rattle.std.proofs.lemmas.List.Sorted.{length_permutation}
use Rattle.std.specs.Cmp.{unsigned_tied}
use Rattle.std.specs.FinMap.Entries.{below_all, is_sorted}
use Rattle.std.specs.List.{list_any}
use Rattle.std.specs.Ordering.{is_eq, is_lt, nat_cmp}
use Rattle.std.specs.Prelude.{Bool, IsPermutation, List, [], cond, false, filter, length, map, not, true, ℕ, ◌&&◌, ◌+◌, ◌==◌, ◌||◌, ◌∷◌, ◌≡◌, ◌≤◌}
use Rattle.std.specs.declared.cmp.Ordering.TheVariants.{Equal, Greater, Less}
use Rattle.std.specs.declared.cmp.Ordering.{Ordering}

-- ---- Numbers of a map are there once

not_both : (o : Ordering) → is_lt o ≡ true → is_eq o ≡ true → ⊥
not_both Less h k = absurd (grind arith)
not_both Equal h k = absurd (grind arith)
not_both Greater h k = absurd (grind arith)

apart : (a b : ℕ) → is_lt (nat_cmp a b) ≡ true → a ≡ b → ⊥
apart a b h e = not_both (nat_cmp a b) h (unsigned_tied a b ∙ grind (arith, nat_tests, e))

left : (a b : Bool) → T (a && b) → a ≡ true
left true b h = refl
left false b h = absurd h

right : (a b : Bool) → T (a && b) → T b
right true b h = h
right false b h = absurd h

none_below : {X : Type 0} (a : ℕ) (es : List (ℕ × X)) → T (below_all nat_cmp a es) → often a (map (λ e. e.0) es) ≡ 0
none_below a [] h = refl
none_below a (e ∷ es) h =
    let other : (e.0 == a) ≡ false = ne_eqb e.0 a (λ same. apart a e.0 (left (is_lt (nat_cmp a e.0)) (below_all nat_cmp a es) h) (sym same)) in
    let apart_is : one_if a e.0 ≡ 0 = ap (λ b. cond b 1 0) other in
    omega (arith, apart_is, often_first a e.0 (map (λ e. e.0) es), none_below a es (right (is_lt (nat_cmp a e.0)) (below_all nat_cmp a es) h))

sorted_once : {X : Type 0} (n : ℕ) (es : List (ℕ × X)) → T (is_sorted nat_cmp es) → often n (map (λ e. e.0) es) ≤ 1
sorted_once n [] h = omega arith
sorted_once n (e ∷ es) h = by (e.0 == n) refl (sorted_once n es (right (below_all nat_cmp e.0 es) (is_sorted nat_cmp es) h)) (none_below e.0 es (first_of (below_all nat_cmp e.0 es) (is_sorted nat_cmp es) h))
  where
    first_of : (a b : Bool) → T (a && b) → T a
    first_of true b h = tt
    first_of false b h = absurd h

    by : (b : Bool) → (e.0 == n) ≡ b → often n (map (λ e. e.0) es) ≤ 1 → often e.0 (map (λ e. e.0) es) ≡ 0 → often n (e.0 ∷ map (λ e. e.0) es) ≤ 1
    by true same rest none =
        let gone : often n (map (λ e. e.0) es) ≡ 0 = ap (λ k. often k (map (λ e. e.0) es)) (sym (eqb-true e.0 n same)) ∙ none in
        let one : one_if n e.0 ≡ 1 = ap (λ b. cond b 1 0) same in
        omega (arith, gone, one, often_first n e.0 (map (λ e. e.0) es))
    by false other rest none = let off : one_if n e.0 ≡ 0 = ap (λ b. cond b 1 0) other in omega (arith, rest, off, often_first n e.0 (map (λ e. e.0) es))

numbers_once : {X : Type 0} (m : Records X) (n : ℕ) → often n (numbers m) ≤ 1
unfolding numbers
numbers_once m n = sorted_once n m.list m.sorted

often_kept : (test : ℕ → Bool) (n : ℕ) (ns : List ℕ) → often n (filter test ns) ≤ often n ns
often_kept test n [] = omega arith
often_kept test n (m ∷ ns) = by (test m) (often_kept test n ns)
  where
    by : (b : Bool) → often n (filter test ns) ≤ often n ns → often n (cond b (m ∷ filter test ns) (filter test ns)) ≤ often n (m ∷ ns)
    by true rest = omega (arith, rest, often_first n m (filter test ns), often_first n m ns)
    by false rest = omega (arith, rest, often_first n m ns)

pub kept_once : {X : Type 0} (test : ℕ → Bool) (m : Records X) (n : ℕ) → often n (filter test (numbers m)) ≤ 1
kept_once test m n = omega (arith, often_kept test n (numbers m), numbers_once m n)

-- ---- Lists of nothing

no_length : (ns : List ℕ) → length ns ≡ 0 → ns ≡ []
no_length [] none = refl
no_length (n ∷ ns) none = absurd (omega (arith, none))

pub none_permuted : (ns : List ℕ) → IsPermutation [] ns → ns ≡ []
none_permuted ns p = no_length ns (length_permutation [] ns p)

pub permuted_none : (ns : List ℕ) → IsPermutation ns [] → ns ≡ []
permuted_none ns p = no_length ns (sym (length_permutation ns [] p))

-- ---- One order

any_of : (test : ℕ → Bool) (n : ℕ) (ns : List ℕ) → 1 ≤ often n ns → test n ≡ true → list_any test ns ≡ true
any_of test n [] some on = absurd (omega (arith, some))
any_of test n (m ∷ ns) some on = by (m == n) refl (λ later. any_of test n ns later on)
  where
    or_on : (b : Bool) → (b || true) ≡ true
    or_on true = refl
    or_on false = refl

    by : (b : Bool) → (m == n) ≡ b → (1 ≤ often n ns → list_any test ns ≡ true) → (test m || list_any test ns) ≡ true
    by true same rest = ap (λ k. test k || list_any test ns) (eqb-true m n same) ∙ ap (λ b. b || list_any test ns) on
    by false other rest = let off : one_if n m ≡ 0 = ap (λ b. cond b 1 0) other in ap (λ b. test m || b) (rest (omega (arith, some, off, often_first n m ns))) ∙ or_on (test m)

and_left : (a b : Bool) → (not a && b) ≡ true → a ≡ false
and_left true b h = absurd (cc)
and_left false b h = refl

and_right : (a b : Bool) → (not a && b) ≡ true → b ≡ true
and_right true b h = absurd (cc)
and_right false b h = h

no_any : (test other : ℕ → Bool) (ns : List ℕ) → ((m : ℕ) → 1 ≤ often m ns → test m ≡ other m) → list_any test ns ≡ list_any other ns
no_any test other [] same = refl
no_any test other (n ∷ ns) same =
    ap (λ b. b || list_any test ns) (same n (omega (arith, often_first n n ns, itself n)))
    ∙ ap (λ b. other n || b) (no_any test other ns (λ m some. same m (omega (arith, some, often_first m n ns))))

module _ (earlier : ℕ → ℕ → Bool) where
  before : List ℕ → ℕ → ℕ → Bool
  before held m n = listed_before held m n (earlier m n)

  goes : List ℕ → List ℕ → Bool
  goes held [] = true
  goes held (n ∷ ns) = not (list_any (λ m. before held m n) ns) && goes held ns

  -- a wanted thread that isn't in the list makes no difference to it
  less : (k : ℕ) (held ns : List ℕ) → often k ns ≡ 0 → goes (k ∷ held) ns ≡ goes held ns
  unfolding goes before
  less k held [] none = refl
  less k held (n ∷ ns) none =
      let other : (k == n) ≡ false = ne_eqb k n (λ same. differs n ns (subst (λ j. often j (n ∷ ns) ≡ 0) same none)) in
      let rest : often k ns ≡ 0 = omega (arith, none, often_first k n ns) in
      let any : list_any (λ m. before (k ∷ held) m n) ns ≡ list_any (λ m. before held m n) ns =
      no_any (λ m. before (k ∷ held) m n) (λ m. before held m n) ns (λ m some.
      let apart : (k == m) ≡ false = ne_eqb k m (λ same. none_some m ns (subst (λ j. often j ns ≡ 0) same rest) some) in
      ap (λ b. cond b false (cond (k == m) true (before held m n))) other ∙ ap (λ b. cond b true (before held m n)) apart) in
      ap (λ b. not b && goes (k ∷ held) ns) any ∙ ap (λ b. not (list_any (λ m. before held m n) ns) && b) (less k held ns rest)
    where
      differs : (n : ℕ) (ns : List ℕ) → often n (n ∷ ns) ≡ 0 → ⊥
      differs n ns is = absurd (omega (arith, is, often_first n n ns, itself n))

      none_some : (m : ℕ) (ns : List ℕ) → often m ns ≡ 0 → 1 ≤ often m ns → ⊥
      none_some m ns is some = absurd (omega (arith, is, some))

  one_order : (held order : List ℕ) → ((n : ℕ) → often n held ≤ 1) → IsPermutation held order → goes held order ≡ true → order ≡ held
  unfolding goes before
  one_order [] order once p in_order = none_permuted order p
  one_order (k ∷ held) [] once p in_order = absurd (omega (arith, length_permutation (k ∷ held) [] p))
  one_order (k ∷ held) (n ∷ order) once p in_order = by (k == n) refl (one_order held order)
    where
      counts : (m : ℕ) → one_if m k + often m held ≡ one_if m n + often m order
      counts m = sym (often_first m k held) ∙ (often_permuted m (k ∷ held) (n ∷ order) p ∙ often_first m n order)

      by : (b : Bool) → (k == n) ≡ b → (((m : ℕ) → often m held ≤ 1) → IsPermutation held order → goes held order ≡ true → order ≡ held) → n ∷ order ≡ k ∷ held
      by true is again =
          let same : k ≡ n = eqb-true k n is in
          let gone : often k held ≡ 0 = omega (arith, once k, often_first k k held, itself k) in
          let each : (m : ℕ) → often m held ≡ often m order = λ m. rest m same in
          let long : length held ≡ length order = omega (arith, length_permutation (k ∷ held) (n ∷ order) p) in
          let tail : goes held order ≡ true = sym (less k held order (sym (each k) ∙ gone)) ∙ and_right (list_any (λ m. before (k ∷ held) m n) order) (goes (k ∷ held) order) in_order in
          let ending : order ≡ held = again (λ m. omega (arith, once m, often_first m k held)) (permutes held order long (λ m some. each m)) tail in
          ap (λ j. j ∷ order) (sym same) ∙ ap (λ l. k ∷ l) ending
        where
          rest : (m : ℕ) → k ≡ n → often m held ≡ often m order
          rest m same = let two : one_if m n ≡ one_if m k = ap (λ j. one_if m j) (sym same) in omega (arith, counts m, two)
      by false other again =
          let some : 1 ≤ often k order = here in
          let first : before (k ∷ held) k n ≡ true = ap (λ b. cond b false (cond (k == k) true (before held k n))) other ∙ ap (λ b. cond b true (before held k n)) (eq-eqb k k refl) in
          let any : list_any (λ m. before (k ∷ held) m n) order ≡ true = any_of (λ m. before (k ∷ held) m n) k order some first in
          let none = and_left (list_any (λ m. before (k ∷ held) m n) order) (goes (k ∷ held) order) in_order in
          absurd (differ (list_any (λ m. before (k ∷ held) m n) order) any none)
        where
          here : 1 ≤ often k order
          here = let apart : one_if k n ≡ 0 = ap (λ (d : Bool). cond d 1 0) (ne_eqb n k (λ same. not_same (sym same))) in omega (arith, counts k, itself k, apart)
            where
              not_same : k ≡ n → ⊥
              not_same same = let on : (k == n) ≡ true = eq-eqb k n same in absurd (let bad = sym on ∙ other in cc)

          differ : (b : Bool) → b ≡ true → b ≡ false → ⊥
          differ b on off = let bad = sym on ∙ off in cc

as_goes : (p : Preference) (ns : List ℕ) → goes_in_order p ns ≡ goes p.earlier p.held ns
unfolding goes before
as_goes p [] = refl
as_goes p (n ∷ ns) = ap (λ b. not (list_any (λ m. held_before p m n) ns) && b) (as_goes p ns)

-- the order in which wanted threads go is that in which they are wanted
pub wanted_order : (p : Preference) (order : List ℕ) → ((n : ℕ) → often n p.held ≤ 1) → IsPermutation p.held order → goes_in_order p order ≡ true → order ≡ p.held
wanted_order p order once perm in_order = one_order p.earlier p.held order once perm (sym (as_goes p order) ∙ in_order)
