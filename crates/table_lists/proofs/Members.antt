-- Lists that have the numbers that pass a test, each once: two of them are permutations of one another, so the walk of a chain may
-- represent the machine's search.
use Rattle.std.proofs.Common.{inl, inr, ◌≡◌, ◌==◌, ◌&&◌, ◌||◌, ℕ, Bool, true, false, cond, List, [], ◌∷◌, filter, map, option_map, refl, sym, ap, subst, ◌∙◌}
use Rattle.std.specs.Prelude.{IsPermutation, None, Option, Some, T, is_some, option_and_then}
use Rattle.std.specs.Cmp.{unsigned_tied}
use Rattle.std.specs.FinMap.Entries.{below_all, find, is_sorted}
use Rattle.std.specs.Ordering.{eq_by_cmp, is_eq, is_lt, nat_cmp}
use Rattle.std.specs.declared.cmp.Ordering.{Ordering}
use Rattle.std.specs.declared.cmp.Ordering.TheVariants.{Less, Equal, Greater}
use Rattle.std.proofs.lemmas.Bool.{cases_eq, eq-eqb, eqb-true, ne_eqb}
use Rattle.std.proofs.lemmas.List.Sorted.{IsPermutation-cons, IsPermutation-middle, IsPermutation-refl, IsPermutation-sym, IsPermutation-trans}
use Rattle.table_lists.specs.Members.{IsMembers, Once, has, is_held_in}
use Rattle.table_lists.specs.Rows.{less_by}
use Rattle.machine_data.specs.Core.{Core}
use Rattle.machine_data.specs.Maps.{Records, get, numbers}
use Rattle.machine_data.specs.declared.records.Thread.{Thread}
use Rattle.machine_data.specs.declared.records.Why.{Why}
use Rattle.machine_data.specs.Moves.{held_why_of}
use Rattle.machine_data.specs.Read.{admits, admitted_held, held_why, instance_of, is_held_admitted}

abbrev out : ℕ → List ℕ → List ℕ
out n xs = less_by (λ m. n == m) xs

not_both : {X : Type 0} (b : Bool) → b ≡ true → b ≡ false → X
not_both true p q = absurd (cc)
not_both false p q = absurd (cc)

not_same : (n x : ℕ) → (n == x) ≡ false → x ≡ n → ⊥
not_same n x differ same = not_both (n == x) (eq-eqb n x (sym same)) differ

-- ---- A number less

has-out_other : (n k : ℕ) (xs : List ℕ) → (k ≡ n → ⊥) → has k (out n xs) ≡ has k xs
has-out_other n k [] other = refl
has-out_other n k (x ∷ xs) other = by (n == x) refl (has-out_other n k xs other)
  where
    by : (b : Bool) → (n == x) ≡ b → has k (out n xs) ≡ has k xs → has k (cond b xs (x ∷ out n xs)) ≡ ((k == x) || has k xs)
    by true is rest = ap (λ b. b || has k xs) (sym (ne_eqb k x (λ same. other (same ∙ sym (eqb-true n x is)))))
    by false is rest = ap (λ b. (k == x) || b) rest

has-out_same : (n : ℕ) (xs : List ℕ) → Once xs → has n (out n xs) ≡ false
has-out_same n [] once = refl
has-out_same n (x ∷ xs) once = by (n == x) refl (has-out_same n xs once.1)
  where
    by : (b : Bool) → (n == x) ≡ b → has n (out n xs) ≡ false → has n (cond b xs (x ∷ out n xs)) ≡ false
    by true is rest = ap (λ k. has k xs) (eqb-true n x is) ∙ once.0
    by false is rest = ap (λ b. b || has n (out n xs)) is ∙ rest

Once-out : (n : ℕ) (xs : List ℕ) → Once xs → Once (out n xs)
Once-out n [] once = tt
Once-out n (x ∷ xs) once = by (n == x) refl (Once-out n xs once.1)
  where
    by : (b : Bool) → (n == x) ≡ b → Once (out n xs) → Once (cond b xs (x ∷ out n xs))
    by true is rest = once.1
    by false is rest = (has-out_other n x xs (not_same n x is) ∙ once.0, rest)

-- ---- A number more, at the end

-- ---- Those that pass a further test

has-filter : (p : ℕ → Bool) (n : ℕ) (xs : List ℕ) → has n (filter p xs) ≡ (has n xs && p n)
has-filter p n [] = refl
has-filter p n (x ∷ xs) = by (n == x) refl (p x) refl (has-filter p n xs)
  where
    alone : (b d : Bool) → b ≡ false → (d && b) ≡ b
    alone b true off = refl
    alone b false off = sym off

    by : (b : Bool) → (n == x) ≡ b → (d : Bool) → p x ≡ d → has n (filter p xs) ≡ (has n xs && p n) → has n (cond d (x ∷ filter p xs) (filter p xs)) ≡ ((b || has n xs) && p n)
    by true is true passes rest = ap (λ b. b || has n (filter p xs)) is ∙ sym (ap p (eqb-true n x is) ∙ passes)
    by true is false passes rest = rest ∙ alone (p n) (has n xs) (ap p (eqb-true n x is) ∙ passes)
    by false is true passes rest = ap (λ b. b || has n (filter p xs)) is ∙ rest
    by false is false passes rest = rest

Once-filter : (p : ℕ → Bool) (xs : List ℕ) → Once xs → Once (filter p xs)
Once-filter p [] once = tt
Once-filter p (x ∷ xs) once = by (p x) (Once-filter p xs once.1) (has-filter p x xs ∙ ap (λ b. b && p x) once.0)
  where
    by : (b : Bool) → Once (filter p xs) → has x (filter p xs) ≡ false → Once (cond b (x ∷ filter p xs) (filter p xs))
    by true rest new = (new, rest)
    by false rest new = rest

-- ---- Permutations

-- a number that is there, before all others
to_front : (n : ℕ) (xs : List ℕ) → has n xs ≡ true → IsPermutation (n ∷ out n xs) xs
to_front n [] there = absurd (cc)
to_front n (x ∷ xs) there = by (n == x) refl there (to_front n xs)
  where
    by : (b : Bool) → (n == x) ≡ b → (b || has n xs) ≡ true → (has n xs ≡ true → IsPermutation (n ∷ out n xs) xs) → IsPermutation (n ∷ cond b xs (x ∷ out n xs)) (x ∷ xs)
    by true is there rest = subst (λ k. IsPermutation (n ∷ xs) (k ∷ xs)) (eqb-true n x is) (IsPermutation-refl (n ∷ xs))
    by false is there rest = IsPermutation-trans (n ∷ x ∷ out n xs) (x ∷ n ∷ out n xs) (x ∷ xs) (IsPermutation-sym (x ∷ n ∷ out n xs) (n ∷ x ∷ out n xs) (IsPermutation-middle (x ∷ []) n (out n xs))) (IsPermutation-cons x (n ∷ out n xs) xs (rest there))

IsPermutation-same : (xs ys : List ℕ) → Once xs → Once ys → ((n : ℕ) → has n xs ≡ has n ys) → IsPermutation xs ys
IsPermutation-same [] [] once_x once_y same = IsPermutation-refl []
IsPermutation-same [] (y ∷ ys) once_x once_y same = not_both (has y (y ∷ ys)) (ap (λ b. b || has y ys) (eq-eqb y y refl)) (sym (same y))
IsPermutation-same (x ∷ xs) ys once_x once_y same =
    let rest : (n : ℕ) → has n xs ≡ has n (out x ys) = λ n. elim (cases_eq n x) [
      | inl is ↦ subst (λ k. has k xs ≡ has k (out x ys)) (sym is) (once_x.0 ∙ sym (has-out_same x ys once_y))
      | inr other ↦ ap (λ b. b || has n xs) (sym (ne_eqb n x other)) ∙ (same n ∙ sym (has-out_other x n ys other))
    ] in
    IsPermutation-trans (x ∷ xs) (x ∷ out x ys) ys
    (IsPermutation-cons x xs (out x ys) (IsPermutation-same xs (out x ys) once_x.1 (Once-out x ys once_y) rest))
    (to_front x ys (sym (same x) ∙ ap (λ b. b || has x xs) (eq-eqb x x refl)))

-- ---- Laws of members

module _ (test : ℕ → Bool) (list : List ℕ) (members : IsMembers test list) where
  -- another list of the same members
  pub members_permute : (other : List ℕ) → IsMembers test other → IsPermutation list other
  members_permute other also = IsPermutation-same list other members.once also.once (λ n. members.are n ∙ sym (also.are n))

  pub IsMembers-same : (test' : ℕ → Bool) → ((n : ℕ) → test' n ≡ test n) → IsMembers test' list
  IsMembers-same test' same = record { once = members.once; are = λ n. members.are n ∙ sym (same n) }

  -- those of them that pass a further test
  pub IsMembers-filter : (p : ℕ → Bool) → IsMembers (λ n. test n && p n) (filter p list)
  IsMembers-filter p = record { once = Once-filter p list members.once; are = λ n. has-filter p n list ∙ ap (λ b. b && p n) (members.are n) }

pub IsMembers-nothing : (test : ℕ → Bool) → ((n : ℕ) → test n ≡ false) → IsMembers test []
IsMembers-nothing test none = record { once = tt; are = λ n. sym (none n) }

-- ---- The numbers of a map

left : (a b : Bool) → T (a && b) → T a
left true b p = tt
left false b p = p

right : (a b : Bool) → T (a && b) → T b
right true b p = p
right false b p = absurd p

not_tied : (o : Ordering) → T (is_lt o) → is_eq o ≡ false
not_tied Less p = refl
not_tied Equal p = absurd p
not_tied Greater p = absurd p

module _ {X : Type 0} where
  below_has : (n : ℕ) (es : List (ℕ × X)) → T (below_all nat_cmp n es) → has n (map (λ e. e.0) es) ≡ false
  below_has n [] below = refl
  below_has n (e ∷ es) below = ap (λ b. b || has n (map (λ e. e.0) es)) (sym (unsigned_tied n e.0) ∙ not_tied (nat_cmp n e.0) (left _ _ below)) ∙ below_has n es (right _ _ below)

  Once-sorted : (es : List (ℕ × X)) → T (is_sorted nat_cmp es) → Once (map (λ e. e.0) es)
  Once-sorted [] sorted = tt
  Once-sorted (e ∷ es) sorted = (below_has e.0 es (left _ _ sorted), Once-sorted es (right _ _ sorted))

  has-found : (n : ℕ) (es : List (ℕ × X)) → has n (map (λ e. e.0) es) ≡ is_some (find nat_cmp n es)
  has-found n [] = refl
  has-found n (e ∷ es) = ap (λ b. b || has n (map (λ e. e.0) es)) (sym (unsigned_tied n e.0)) ∙ by (eq_by_cmp nat_cmp n e.0) (has-found n es)
    where
      by : (b : Bool) → has n (map (λ e. e.0) es) ≡ is_some (find nat_cmp n es) → (b || has n (map (λ e. e.0) es)) ≡ is_some (cond b (Some e.1) (find nat_cmp n es))
      by true rest = refl
      by false rest = rest

  pub IsMembers-numbers : (m : Records X) → IsMembers (λ n. is_some (get m n)) (numbers m)
  unfolding numbers get
  IsMembers-numbers m = record { once = Once-sorted m.list m.sorted; are = λ n. has-found n m.list }

  -- of a list of members, those that pass a test which only such pass are those that the machine finds among all its numbers
  pub found_permute : (m : Records X) (p h : ℕ → Bool) (list : List ℕ) → IsMembers h list → ((n : ℕ) → (is_some (get m n) && p n) ≡ (h n && p n)) → IsPermutation (filter p (numbers m)) (filter p list)
  found_permute m p h list members same = members_permute (λ n. is_some (get m n) && p n) (filter p (numbers m)) (IsMembers-filter (λ n. is_some (get m n)) (numbers m) (IsMembers-numbers m) p) (filter p list) (IsMembers-same (λ n. h n && p n) (filter p list) (IsMembers-filter h list members p) (λ n. is_some (get m n) && p n) same)

-- ---- A release

-- the threads of the chain of those held in an instance that are admitted are those that the machine admits, in some order
pub admitted_permute : (i : ℕ) (s : Core) (list : List ℕ) → IsMembers (is_held_in i s) list → IsPermutation (admitted_held i s) (filter (λ n. is_held_admitted i s n (held_why_of n s)) list)
unfolding admitted_held
admitted_permute i s list members = found_permute s.threads (λ n. is_held_admitted i s n (held_why_of n s)) (is_held_in i s) list members (λ n. found n (get s.threads n) ∙ held n (held_why_of n s))
  where
    found : (n : ℕ) (o : Option Thread) → (is_some o && is_held_admitted i s n (option_and_then held_why (option_map (λ t. t.place) o))) ≡ is_held_admitted i s n (option_and_then held_why (option_map (λ t. t.place) o))
    found n None = refl
    found n (Some t) = refl

    none : (b : Bool) → false ≡ ((b && false) && false)
    none true = refl
    none false = refl

    some : (b a : Bool) → (b && a) ≡ ((b && true) && (b && a))
    some true a = refl
    some false a = refl

    held : (n : ℕ) (o : Option Why) → is_held_admitted i s n o ≡ (((instance_of n s == i) && is_some o) && is_held_admitted i s n o)
    held n None = none (instance_of n s == i)
    held n (Some w) = some (instance_of n s == i) (admits n s w)
