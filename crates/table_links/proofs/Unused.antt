-- The unused names: which they are, and what a change of the names after others leaves of their order.
use Rattle.std.proofs.Common.{◌≡◌, ℕ, ◌+◌, ◌<◌, ◌≤◌, ◌==◌, ◌⊎◌, inl, inr, Bool, true, false, cond, List, [], ◌∷◌, length, slice_get, count_by, Option, Some, None, refl, sym, ap, subst, arith}
use Rattle.std.proofs.lemmas.Bool.{eq-eqb}
use Rattle.std.proofs.lemmas.List.Sums.{sum_by-cons}
use Rattle.std.proofs.lemmas.Option.{slice_get_within, get_or_from_slice_get}
use Rattle.table_links.specs.declared.links.Role.{Role}
use Rattle.table_links.specs.declared.links.Role.TheVariants.{Unused, Chain, Free, Linked}
use Rattle.table_links.specs.Rings.{at, role_at, IsSound, UnusedFrom, role_is_unused, is_unused_at}

abbrev pub one_if : Bool → ℕ
one_if b = cond b 1 0

abbrev pub InNames : ℕ → List ℕ → Type 0
InNames n [] = ⊥
InNames n (m ∷ ms) = (n ≡ m) ⊎ InNames n ms

pub count_by-cons : {X : Type 0} (p : X → Bool) (x : X) (xs : List X) → count_by p (x ∷ xs) ≡ one_if (p x) + count_by p xs
count_by-cons p x xs = sum_by-cons (λ y. cond (p y) 1 0) x xs

pub counted_in : (n : ℕ) (ns : List ℕ) → InNames n ns → 0 < count_by (λ m. m == n) ns
counted_in n [] i = absurd i
counted_in n (m ∷ ms) (inl same) =
    let all = count_by-cons (λ k. k == n) m ms in
    let one : one_if (m == n) ≡ 1 = ap one_if (eq-eqb m n (sym same)) in
    omega arith
counted_in n (m ∷ ms) (inr i) =
    let all = count_by-cons (λ k. k == n) m ms in
    let more = counted_in n ms i in
    omega arith

pub UnusedFrom-kept : (nx nx' : List ℕ) (first : ℕ) (ns : List ℕ) → ((n : ℕ) → InNames n ns → at nx' n ≡ at nx n) → UnusedFrom nx first ns → UnusedFrom nx' first ns
UnusedFrom-kept nx nx' first [] same is = is
UnusedFrom-kept nx nx' first (n ∷ ns) same is = (is.0, subst (λ k. UnusedFrom nx' k ns) (sym (same n (inl refl))) (UnusedFrom-kept nx nx' (at nx n) ns (λ m i. same m (inr i)) is.1))

module _ {P : Type 0} where
  by_role : (r : Role P) → one_if (role_is_unused r) ≡ 1 → r ≡ Unused
  by_role Unused one = refl
  by_role Chain one = absurd (omega arith)
  by_role Free one = absurd (omega arith)
  by_role (Linked c v) one = absurd (omega arith)

  pub by_slot : (o : Option (Role P)) → one_if (is_unused_at o) ≡ 1 → o ≡ Some Unused
  by_slot None one = absurd (omega arith)
  by_slot (Some r) one = ap Some (by_role r one)

  pub at_most_one : (o : Option (Role P)) → one_if (is_unused_at o) ≤ 1
  at_most_one o = by_test (is_unused_at o)
    where
      by_test : (b : Bool) → one_if b ≤ 1
      by_test true = omega arith
      by_test false = omega arith

  module _ (nx pv : List ℕ) (rs : List (Role P)) (unused : ℕ) (sound : IsSound nx pv rs unused) where
    -- each of them represents nothing
    unused_slot : (n : ℕ) → InNames n sound.names → slice_get rs n ≡ Some Unused
    unused_slot n i = by_slot (slice_get rs n) (let some = counted_in n sound.names i in let once = sound.unused_once n in let few = at_most_one (slice_get rs n) in omega arith)

    pub unused_kept : (nx' : List ℕ) → ((n : ℕ) → role_at rs n ≡ Unused → n < length rs → at nx' n ≡ at nx n) → UnusedFrom nx' unused sound.names
    unused_kept nx' same =
        UnusedFrom-kept nx nx' unused sound.names (λ n i. same n (get_or_from_slice_get rs n Unused Unused (unused_slot n i)) (slice_get_within rs n Unused (unused_slot n i))) sound.chained
