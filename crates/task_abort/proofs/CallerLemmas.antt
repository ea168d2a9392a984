-- Places in lists, sums over views, and the callers of passes by their names.
use Rattle.std.proofs.Common.{◌≡◌, ℕ, zero, suc, ◌+◌, ◌≤◌, ◌<◌, ◌≢◌, ◌⊎◌, Bool, true, false, cond, if◌then◌else◌, List, [], ◌∷◌, ◌++◌, length, set, sum_by, refl, sym, ap, subst, ◌∙◌, inl, inr, ⊎_elim, le_refl, arith}
use Rattle.std.proofs.lemmas.List.Sums.{sum_by-cons}
use mathlib.Core.Option.{some, some-injective, some-ne-none}
use lib.ListN.{get_elem?}
use Rattle.atomic_table.proofs.Lists.{at_set}
use Rattle.task_abort.specs.declared.log.LogEntry.{LogEntry}
use Rattle.task_abort.specs.declared.log.HandleCaller.{HandleCaller}
use Rattle.task_abort.specs.declared.log.PassView.{PassView}
use Rattle.task_abort.specs.PhaseLog.{Name, same_name, callers, IsFirst}
use Rattle.task_abort.specs.Rule.{named, named_at, At, Has, PassHas, NameGoesOn, KeptPass}
use Rattle.task_abort.proofs.LogLemmas.{same_name-refl, same_name-other, names}

module _ {A : Type 0} where
  pub at_nothing : (y : A) (i : ℕ) → get_elem? [] i ≡ some y → ⊥
  at_nothing y i h = some-ne-none y (sym h)

  pub at_only : (x y : A) (i : ℕ) → get_elem? (x ∷ []) i ≡ some y → x ≡ y
  at_only x y zero h = some-injective x y h
  at_only x y (suc i) h = absurd (some-ne-none y (sym h))

  pub at_written : (xs : List A) (i : ℕ) (x y : A) → get_elem? xs i ≡ some x → get_elem? (set xs i y) i ≡ some y
  at_written [] i x y h = absurd (some-ne-none x (sym h))
  at_written (z ∷ xs) zero x y h = refl
  at_written (z ∷ xs) (suc i) x y h = at_written xs i x y h

  -- an element of two lists one after the other is in one of them
  pub at_either : (xs ys : List A) (i : ℕ) (y : A) → get_elem? (xs ++ ys) i ≡ some y → (get_elem? xs i ≡ some y) ⊎ ((j : ℕ) × (get_elem? ys j ≡ some y))
  at_either [] ys i y h = inr (i, h)
  at_either (x ∷ xs) ys zero y h = inl h
  at_either (x ∷ xs) ys (suc i) y h = at_either xs ys i y h

  -- and one that was added last is past the others
  pub at_last_or : (xs : List A) (x y : A) (i : ℕ) → get_elem? (xs ++ x ∷ []) i ≡ some y → (get_elem? xs i ≡ some y) ⊎ ((i ≡ length xs) × (x ≡ y))
  at_last_or [] x y zero h = inr (refl, some-injective x y h)
  at_last_or [] x y (suc i) h = absurd (some-ne-none y (sym h))
  at_last_or (z ∷ xs) x y zero h = inl h
  at_last_or (z ∷ xs) x y (suc i) h = ⊎_elim inl (λ (t : (i ≡ length xs) × (x ≡ y)). inr (ap suc t.0, t.1)) (at_last_or xs x y i h)

  module _ (f : A → ℕ) where
    pub sum_by-at : (xs : List A) (i : ℕ) (x : A) → get_elem? xs i ≡ some x → f x ≤ sum_by f xs
    sum_by-at [] i x h = absurd (at_nothing x i h)
    sum_by-at (z ∷ xs) zero x h = let e : f z ≡ f x = ap f (some-injective z x h) in omega (arith, sum_by-cons f z xs)
    sum_by-at (z ∷ xs) (suc i) x h = let l = sum_by-at xs i x h in omega (arith, sum_by-cons f z xs)

    pub sum_by-two : (xs : List A) (i j : ℕ) (x y : A) → i ≢ j → get_elem? xs i ≡ some x → get_elem? xs j ≡ some y → f x + f y ≤ sum_by f xs
    sum_by-two [] i j x y ne h g = absurd (at_nothing x i h)
    sum_by-two (z ∷ xs) zero zero x y ne h g = absurd (ne refl)
    sum_by-two (z ∷ xs) zero (suc j) x y ne h g = let e : f z ≡ f x = ap f (some-injective z x h) in let l = sum_by-at xs j y g in omega (arith, sum_by-cons f z xs)
    sum_by-two (z ∷ xs) (suc i) zero x y ne h g = let e : f z ≡ f y = ap f (some-injective z y g) in let l = sum_by-at xs i x h in omega (arith, sum_by-cons f z xs)
    sum_by-two (z ∷ xs) (suc i) (suc j) x y ne h g = let l = sum_by-two xs i j x y (λ e. ne (ap suc e)) h g in omega (arith, sum_by-cons f z xs)

    pub sum_by-written : (xs : List A) (i : ℕ) (x y : A) → get_elem? xs i ≡ some x → sum_by f (set xs i y) + f x ≡ sum_by f xs + f y
    sum_by-written [] i x y h = absurd (at_nothing x i h)
    sum_by-written (z ∷ xs) zero x y h = let e : f z ≡ f x = ap f (some-injective z x h) in omega (arith, sum_by-cons f z xs, sum_by-cons f y xs)
    sum_by-written (z ∷ xs) (suc i) x y h = let l = sum_by-written xs i x y h in omega (arith, sum_by-cons f z xs, sum_by-cons f z (set xs i y))

    pub sum_by-none : (xs : List A) → ((i : ℕ) (x : A) → get_elem? xs i ≡ some x → f x ≡ 0) → sum_by f xs ≡ 0
    sum_by-none [] h = refl
    sum_by-none (z ∷ xs) h = let e = h 0 z refl in let l = sum_by-none xs (λ i x g. h (suc i) x g) in omega (arith, sum_by-cons f z xs)

abbrev pub counts : Name → HandleCaller → ℕ
counts n c = cond (same_name c.name n) 1 0

pub counts-same : (n : Name) (c : HandleCaller) → c.name ≡ n → counts n c ≡ 1
counts-same n c e = ap (λ (b : Bool). cond b 1 0) (same_name-refl c.name n e)

pub counts-other : (n : Name) (c : HandleCaller) → c.name ≢ n → counts n c ≡ 0
counts-other n c ne = ap (λ (b : Bool). cond b 1 0) (same_name-other c.name n ne)

pub named_at-alive : (n : Name) (v : PassView) → v.spent ≡ false → named_at n v ≡ named n (callers v)
named_at-alive n v alive = ap (λ (b : Bool). if b then 0 else named n (callers v)) alive

pub named-has : (v : PassView) (c : HandleCaller) → Has v c → 1 ≤ named c.name (callers v)
named-has v c h = let e = counts-same c.name c refl in let l = sum_by-at (counts c.name) (callers v) h.0 c h.1 in omega arith

pub has_own : (v : PassView) → Has v v.own
has_own v = (0, refl)

-- the caller after a change has the name of one before, with no fewer splits
pub record Stems (v : PassView) (c : HandleCaller) : Type 0 where
  pub from : HandleCaller
  pub has : Has v from
  pub name : from.name ≡ c.name
  pub splits : from.splits ≤ c.splits

pub goes_on_stem : (d c : HandleCaller) (n : Name) → d.name ≡ c.name → d.splits ≤ c.splits → NameGoesOn d n → NameGoesOn c n
goes_on_stem d c n same le g k rest h = let b : k < d.splits = g k rest (h ∙ ap (λ (z : Name). z ++ k ∷ rest) (sym same)) in omega arith

module _ (words : List ℕ) (views : List PassView) (kept : KeptPass words views) (i : ℕ) (v : PassView) (at : At views i v) where
  -- what a pass knows of its own names
  pub named-here : (n : Name) → named n (callers v) ≤ 1
  named-here n = let e = named_at-alive n v at.1 in let l = sum_by-at (named_at n) views i v at.0 in let h = kept.apart n in omega arith

  -- no other caller has the pass's own name
  pub met_apart : (a : ℕ) (c : HandleCaller) → get_elem? v.met a ≡ some c → c.name ≢ v.own.name
  met_apart a c h same =
      let l = sum_by-at (counts v.own.name) v.met a c h in let e = counts-same v.own.name c same in let own = counts-same v.own.name v.own refl in
      let le = named-here v.own.name in omega (arith, sum_by-cons (counts v.own.name) v.own v.met)

  pub others_apart : (j : ℕ) (u : PassView) (c : HandleCaller) → j ≢ i → At views j u → Has u c → c.name ≢ v.own.name
  others_apart j u c ne there h same =
      let l = sum_by-two (named_at v.own.name) views j i u v ne there.0 at.0 in let le = kept.apart v.own.name in
      let here : 1 ≤ named v.own.name (callers v) = named-has v v.own (has_own v) in
      let other : 1 ≤ named v.own.name (callers u) = subst (λ (n : Name). 1 ≤ named n (callers u)) same (named-has u c h) in
      omega (arith, named_at-alive v.own.name v at.1, named_at-alive v.own.name u there.1)

  -- where a first pass was never split there is no other
  pub sole : (j : ℕ) (u : PassView) → j ≢ i → At views j u → IsFirst u → ⊥
  sole j u ne there first = go v.own.name refl
    where
      go : (n : Name) → v.own.name ≡ n → ⊥
      go [] e = others_apart j u u.own ne there (has_own u) (first.0 ∙ sym e)
      go (k ∷ rest) e =
          let l : k < u.own.splits = kept.among u.own v.own (j, u, there, has_own u) (i, v, at, has_own v) k rest (e ∙ ap (λ (z : Name). z ++ k ∷ rest) (sym first.0)) in
          let none : u.own.splits ≡ 0 = first.1 in omega arith

  -- a view in the pass's place whose callers stem from its own
  module _ (w : PassView) (stems : (c : HandleCaller) → Has w c → Stems v c) where
    pub stands_before : (c : HandleCaller) → PassHas (set views i w) c → (d : HandleCaller) × PassHas views d × (d.name ≡ c.name) × (d.splits ≤ c.splits)
    stands_before c h = ⊎_elim
        (λ (t : (h.0 ≡ i) × (w ≡ h.1)). let s = stems c (subst (λ (z : PassView). Has z c) (sym t.1) h.3) in (s.from, (i, v, at, s.has), s.name, s.splits))
        (λ (t : (h.0 ≢ i) × (get_elem? views h.0 ≡ some h.1)). (c, (h.0, h.1, (t.1, h.2.1), h.3), refl, le_refl _))
        (at_set views i h.0 w h.1 h.2.0)

    pub among_after : (c d : HandleCaller) → PassHas (set views i w) c → PassHas (set views i w) d → NameGoesOn c d.name
    among_after c d hc hd =
        let c' = stands_before c hc in let d' = stands_before d hd in
        goes_on_stem c'.0 c d.name c'.2 c'.3 (subst (λ (n : Name). NameGoesOn c'.0 n) d'.2 (kept.among c'.0 d'.0 c'.1 d'.1))

    pub old_log_after : (c : HandleCaller) (m : ℕ) (e : LogEntry Name) → PassHas (set views i w) c → get_elem? kept.log m ≡ some e → NameGoesOn c e.caller
    old_log_after c m e hc he = let c' = stands_before c hc in goes_on_stem c'.0 c e.caller c'.2 c'.3 (kept.in_log c'.0 m e c'.1 he)

    pub by_place : (P : ℕ → PassView → Type 0) → P i w → ((j : ℕ) (u : PassView) → j ≢ i → At views j u → P j u) → (j : ℕ) (u : PassView) → At (set views i w) j u → P j u
    by_place P here there j u h = ⊎_elim
        (λ (t : (j ≡ i) × (w ≡ u)). subst (λ (z : ℕ). P z u) (sym t.0) (subst (λ (z : PassView). P i z) t.1 here))
        (λ (t : (j ≢ i) × (get_elem? views j ≡ some u)). there j u t.0 (t.1, h.1))
        (at_set views i j w u h.0)

    pub apart_after : ((n : Name) → named_at n w ≡ named_at n v) → (n : Name) → sum_by (named_at n) (set views i w) ≤ 1
    apart_after same n = let e = same n in let s = sum_by-written (named_at n) views i v w at.0 in let l = kept.apart n in omega arith

counts_at_most : (n : Name) (c : HandleCaller) → counts n c ≤ 1
counts_at_most n c = ⊎_elim
    (λ (t : (c.name ≡ n) × (same_name c.name n ≡ true)). let e = counts-same n c t.0 in omega arith)
    (λ (t : (c.name ≢ n) × (same_name c.name n ≡ false)). let e = counts-other n c t.0 in omega arith) (names c.name n)

-- one caller alone has each name at most once
pub named-one : (n : Name) (c : HandleCaller) → named n (c ∷ []) ≤ 1
named-one n c = let l = counts_at_most n c in omega (arith, sum_by-cons (counts n) c [])

-- a name that no caller has is at no pass
pub named_at-none : (n : Name) (v : PassView) → (v.spent ≡ false → (c : HandleCaller) → Has v c → c.name ≢ n) → named_at n v ≡ 0
named_at-none n v none = go v.spent refl
  where
    go : (b : Bool) → v.spent ≡ b → named_at n v ≡ 0
    go true e = ap (λ (b : Bool). if b then 0 else named n (callers v)) e
    go false e = named_at-alive n v e ∙ sum_by-none (counts n) (callers v) (λ a c h. counts-other n c (none e c (a, h)))
