-- Who is in a list of numbers, and who precedes whom there.
use Rattle.machine_data.specs.Maps.{Records, get, numbers}
use Rattle.machine_rules.specs.Arrivals.{precedes}
use Rattle.machine_rules.specs.Notices.{is_in}
use Rattle.std.proofs.Common.{T, ap, arith, refl, sym, ◌∙◌}
use Rattle.std.proofs.lemmas.Bool.Decides.{nat_tests}
use Rattle.std.proofs.lemmas.Bool.{eqb-true}
use Rattle.std.specs.Cmp.{unsigned_tied}
use Rattle.std.specs.FinMap.Entries.{below_all, is_sorted, is_some-find}
use Rattle.std.specs.List.{list_any}
use Rattle.std.specs.Ordering.{eq_by_cmp, is_eq, is_lt, nat_cmp}
use Rattle.std.specs.Prelude.{Bool, List, [], false, filter, if◌then◌else◌, is_some, map, true, ℕ, ◌&&◌, ◌++◌, ◌==◌, ◌||◌, ◌∷◌, ◌≡◌}
use Rattle.std.specs.declared.cmp.Ordering.TheVariants.{Equal, Greater, Less}
use Rattle.std.specs.declared.cmp.Ordering.{Ordering}

pub flip : (a b : ℕ) → (a == b) ≡ (b == a)
flip a b = grind (arith, nat_tests)

pub or_true : (b : Bool) → (b || true) ≡ true
or_true true = refl
or_true false = refl

pub or_false : (b : Bool) → (b || false) ≡ b
or_false true = refl
or_false false = refl

and_true : (b : Bool) → (b && true) ≡ b
and_true true = refl
and_true false = refl

-- ---- Who is in

pub in_filter : (P : ℕ → Bool) (xs : List ℕ) (n : ℕ) → is_in (filter P xs) n ≡ (is_in xs n && P n)
in_filter P [] n = refl
in_filter P (k ∷ ks) n = by (in_filter P ks n) (P k) refl (n == k) refl
  where
    by : is_in (filter P ks) n ≡ (is_in ks n && P n) → (p : Bool) → P k ≡ p → (e : Bool) → (n == k) ≡ e →
        is_in (if p then k ∷ filter P ks else filter P ks) n ≡ ((e || is_in ks n) && P n)
    by rest true p true e = ap (λ b. b || is_in (filter P ks) n) e ∙ sym (ap P (eqb-true n k e) ∙ p)
    by rest true p false e = ap (λ b. b || is_in (filter P ks) n) e ∙ rest
    by rest false p true e = let off : P n ≡ false = ap P (eqb-true n k e) ∙ p in grind (arith, rest, off)
    by rest false p false e = rest

or_more : (b c d e : Bool) → c ≡ (d || e) → (b || c) ≡ ((b || d) || e)
or_more true c d e h = refl
or_more false c d e h = h

pub in_append : (xs ys : List ℕ) (n : ℕ) → is_in (xs ++ ys) n ≡ (is_in xs n || is_in ys n)
in_append [] ys n = refl
in_append (k ∷ ks) ys n = or_more (n == k) (is_in (ks ++ ys) n) (is_in ks n) (is_in ys n) (in_append ks ys n)

-- ---- Who precedes whom

pub later : (b c : Bool) → c ≡ true → (b || c) ≡ true
later true c h = refl
later false c h = h

-- who is preceded is in
pub precedes_in : (xs : List ℕ) (m n : ℕ) → precedes xs m n ≡ true → is_in xs n ≡ true
precedes_in [] m n h = absurd (cc)
precedes_in (k ∷ ks) m n h = later (n == k) (is_in ks n) (by (precedes_in ks m n) (k == m) h)
  where
    by : (precedes ks m n ≡ true → is_in ks n ≡ true) → (b : Bool) → (if b then is_in ks n else precedes ks m n) ≡ true → is_in ks n ≡ true
    by rest true h = h
    by rest false h = rest h

pub precedes_filter : (P : ℕ → Bool) (xs : List ℕ) (m n : ℕ) → P m ≡ true → P n ≡ true → precedes (filter P xs) m n ≡ precedes xs m n
precedes_filter P [] m n one two = refl
precedes_filter P (k ∷ ks) m n one two = by (precedes_filter P ks m n one two) (P k) refl (k == m) refl
  where
    kept : is_in (filter P ks) n ≡ is_in ks n
    kept = in_filter P ks n ∙ (ap (λ b. is_in ks n && b) two ∙ and_true (is_in ks n))

    by : precedes (filter P ks) m n ≡ precedes ks m n → (p : Bool) → P k ≡ p → (e : Bool) → (k == m) ≡ e →
        precedes (if p then k ∷ filter P ks else filter P ks) m n ≡ (if e then is_in ks n else precedes ks m n)
    by rest true p true e = ap (λ b. if b then is_in (filter P ks) n else precedes (filter P ks) m n) e ∙ kept
    by rest true p false e = ap (λ b. if b then is_in (filter P ks) n else precedes (filter P ks) m n) e ∙ rest
    by rest false p true e = absurd (let bad : false ≡ true = sym p ∙ (ap P (eqb-true k m e) ∙ one) in cc)
    by rest false p false e = rest

-- behind one of the first list are those of the second, too
pub precedes_append : (xs ys : List ℕ) (m n : ℕ) → is_in xs m ≡ true → precedes (xs ++ ys) m n ≡ (precedes xs m n || is_in ys n)
precedes_append [] ys m n there = absurd (cc)
precedes_append (k ∷ ks) ys m n there = by (precedes_append ks ys m n) (k == m) refl
  where
    by : (is_in ks m ≡ true → precedes (ks ++ ys) m n ≡ (precedes ks m n || is_in ys n)) → (b : Bool) → (k == m) ≡ b →
        (if b then is_in (ks ++ ys) n else precedes (ks ++ ys) m n) ≡ ((if b then is_in ks n else precedes ks m n) || is_in ys n)
    by rest true e = in_append ks ys n
    by rest false e = rest (sym (ap (λ b. b || is_in ks m) (flip m k ∙ e)) ∙ there)

-- who isn't in the first list precedes as in the second
pub precedes_past : (xs ys : List ℕ) (m n : ℕ) → is_in xs m ≡ false → precedes (xs ++ ys) m n ≡ precedes ys m n
precedes_past [] ys m n out = refl
precedes_past (k ∷ ks) ys m n out = by (precedes_past ks ys m n) (k == m) refl
  where
    by : (is_in ks m ≡ false → precedes (ks ++ ys) m n ≡ precedes ys m n) → (b : Bool) → (k == m) ≡ b →
        (if b then is_in (ks ++ ys) n else precedes (ks ++ ys) m n) ≡ precedes ys m n
    by rest true e = absurd (let bad : true ≡ false = sym (ap (λ b. b || is_in ks m) (flip m k ∙ e)) ∙ out in cc)
    by rest false e = rest (sym (ap (λ b. b || is_in ks m) (flip m k ∙ e)) ∙ out)

-- ---- The numbers of a map

any_same : (p q : ℕ → Bool) → ((n : ℕ) → p n ≡ q n) → (ns : List ℕ) → list_any p ns ≡ list_any q ns
any_same p q same [] = refl
any_same p q same (n ∷ ns) = ap (λ b. b || list_any p ns) (same n) ∙ ap (λ b. q n || b) (any_same p q same ns)

-- those of its records
pub in_numbers : {X : Type 0} (m : Records X) (n : ℕ) → is_in (numbers m) n ≡ is_some (get m n)
unfolding get numbers
in_numbers m n = any_same (λ h. n == h) (eq_by_cmp nat_cmp n) (λ h. sym (unsigned_tied n h)) (map (λ e. e.0) m.list) ∙ sym (is_some-find nat_cmp n m.list)

left : (a b : Bool) → T (a && b) → T a
left true b h = tt
left false b h = absurd h

right : (a b : Bool) → T (a && b) → T b
right true b h = h
right false b h = absurd h

lt_apart : (o : Ordering) → T (is_lt o) → is_eq o ≡ false
lt_apart Less h = refl
lt_apart Equal h = absurd h
lt_apart Greater h = absurd h

below_out : {X : Type 0} (a : ℕ) (es : List (ℕ × X)) → T (below_all nat_cmp a es) → is_in (map (λ e. e.0) es) a ≡ false
below_out a [] h = refl
below_out a (e ∷ es) h =
    ap (λ b. b || is_in (map (λ e. e.0) es) a) (sym (unsigned_tied a e.0) ∙ lt_apart (nat_cmp a e.0) (left (is_lt (nat_cmp a e.0)) (below_all nat_cmp a es) h))
    ∙ below_out a es (right (is_lt (nat_cmp a e.0)) (below_all nat_cmp a es) h)

sorted_once : {X : Type 0} (n : ℕ) (es : List (ℕ × X)) → T (is_sorted nat_cmp es) → precedes (map (λ e. e.0) es) n n ≡ false
sorted_once n [] h = refl
sorted_once n (e ∷ es) h =
    by (sorted_once n es (right (below_all nat_cmp e.0 es) (is_sorted nat_cmp es) h))
    (below_out e.0 es (left (below_all nat_cmp e.0 es) (is_sorted nat_cmp es) h)) (e.0 == n) refl
  where
    by : precedes (map (λ e. e.0) es) n n ≡ false → is_in (map (λ e. e.0) es) e.0 ≡ false → (b : Bool) → (e.0 == n) ≡ b →
        (if b then is_in (map (λ e. e.0) es) n else precedes (map (λ e. e.0) es) n n) ≡ false
    by rest out true same = ap (λ k. is_in (map (λ e. e.0) es) k) (sym (eqb-true e.0 n same)) ∙ out
    by rest out false other = rest

-- none of them precedes itself
pub numbers_once : {X : Type 0} (m : Records X) (n : ℕ) → precedes (numbers m) n n ≡ false
unfolding numbers
numbers_once m n = sorted_once n m.list m.sorted
