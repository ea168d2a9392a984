-- The order in which threads were held last, after one more, and a list that rises by when they were.
use Rattle.laws_picks.proofs.CountLemmas.{itself, often, often_first, often_permuted, one_if}
use Rattle.choice_offers.specs.Held.{IsOnce, RisesIn}
use Rattle.laws_picks.specs.Arrival.{comes_before, held_last, in_order, is_in}
use Rattle.std.proofs.Common.{ap, ap₂, arith, inl, inr, refl, subst, sym, ◌∙◌}
use Rattle.std.proofs.lemmas.Bool.Decides.{nat_tests}
use Rattle.std.proofs.lemmas.Bool.{eqb-true}
use Rattle.std.specs.Prelude.{Bool, IsPermutation, List, [], cond, false, filter, if◌then◌else◌, not, true, ℕ, ◌++◌, ◌<◌, ◌==◌, ◌∷◌, ◌≡◌, ◌≢◌, ◌≤◌, ◌⊎◌}

-- all but this one
abbrev others : ℕ → List ℕ → List ℕ
others n ns = filter (λ m. not (m == n)) ns

-- ---- Who is in it

in_others : (n b : ℕ) (ns : List ℕ) → is_in b (others n ns) ≡ true → (is_in b ns ≡ true) × ((b == n) ≡ false)
in_others n b [] h = absurd (cc)
in_others n b (k ∷ ns) h = by (k == n) refl (k == b) refl (in_others n b ns)
  where
    by : (c : Bool) → (k == n) ≡ c → (d : Bool) → (k == b) ≡ d → (is_in b (others n ns) ≡ true → (is_in b ns ≡ true) × ((b == n) ≡ false)) →
        (is_in b (k ∷ ns) ≡ true) × ((b == n) ≡ false)
    by true e d f again =
        let rest : is_in b (others n ns) ≡ true = grind (arith, nat_tests) in
        let r = again rest in
        let there = r.0 in
        (grind (arith, nat_tests), r.1)
    by false e true f again = (grind (arith, nat_tests), grind (arith, nat_tests))
    by false e false f again =
        let rest : is_in b (others n ns) ≡ true = grind (arith, nat_tests) in
        let r = again rest in
        let there = r.0 in
        (grind (arith, nat_tests), r.1)

-- of those that end with n
in_last : (n b : ℕ) (ns : List ℕ) → is_in b (ns ++ n ∷ []) ≡ true → (is_in b ns ≡ true) ⊎ ((n == b) ≡ true)
in_last n b [] h = inr (grind (arith, nat_tests))
in_last n b (k ∷ ns) h = by (k == b) refl (in_last n b ns)
  where
    more : (is_in b ns ≡ true) ⊎ ((n == b) ≡ true) → (is_in b (k ∷ ns) ≡ true) ⊎ ((n == b) ≡ true)
    more (inl there) = inl (grind (arith, nat_tests))
    more (inr last) = inr last

    by : (c : Bool) → (k == b) ≡ c → (is_in b (ns ++ n ∷ []) ≡ true → (is_in b ns ≡ true) ⊎ ((n == b) ≡ true)) → (is_in b (k ∷ ns) ≡ true) ⊎ ((n == b) ≡ true)
    by true e again = inl (grind (arith, nat_tests))
    by false e again = let rest : is_in b (ns ++ n ∷ []) ≡ true = grind (arith, nat_tests) in more (again rest)

-- ---- Who stands before whom

-- the one that stands before another is in the list
before_in : (a b : ℕ) (ns : List ℕ) → comes_before a b ns ≡ true → is_in a ns ≡ true
before_in a b [] h = absurd (cc)
before_in a b (k ∷ ns) h = by (k == a) refl (before_in a b ns)
  where
    by : (c : Bool) → (k == a) ≡ c → (comes_before a b ns ≡ true → is_in a ns ≡ true) → is_in a (k ∷ ns) ≡ true
    by true e again = grind (arith, nat_tests)
    by false e again =
        let rest : comes_before a b ns ≡ true = grind (arith, nat_tests) in
        let there = again rest in grind (arith, nat_tests)

-- among all but n as among all
before_others : (n a b : ℕ) (ns : List ℕ) → comes_before a b (others n ns) ≡ true → comes_before a b ns ≡ true
before_others n a b [] h = absurd (cc)
before_others n a b (k ∷ ns) h = by (k == n) refl (k == a) refl (before_others n a b ns)
  where
    by : (c : Bool) → (k == n) ≡ c → (d : Bool) → (k == a) ≡ d → (comes_before a b (others n ns) ≡ true → comes_before a b ns ≡ true) → comes_before a b (k ∷ ns) ≡ true
    by true e true f again =
        let rest : comes_before a b (others n ns) ≡ true = grind (arith, nat_tests) in
        let apart = (in_others n a ns (before_in a b (others n ns) rest)).1 in
        absurd (grind (arith, nat_tests))
    by true e false f again =
        let rest : comes_before a b (others n ns) ≡ true = grind (arith, nat_tests) in
        let more = again rest in grind (arith, nat_tests)
    by false e true f again =
        let rest : is_in b (others n ns) ≡ true = grind (arith, nat_tests) in
        let there = (in_others n b ns rest).0 in grind (arith, nat_tests)
    by false e false f again =
        let rest : comes_before a b (others n ns) ≡ true = grind (arith, nat_tests) in
        let more = again rest in grind (arith, nat_tests)

-- before n, which is last, or before another one
before_last : (n a b : ℕ) (ns : List ℕ) → comes_before a b (ns ++ n ∷ []) ≡ true → (comes_before a b ns ≡ true) ⊎ (((n == b) ≡ true) × (is_in a ns ≡ true))
before_last n a b [] h = absurd (grind (arith, nat_tests))
before_last n a b (k ∷ ns) h = by (k == a) refl (before_last n a b ns)
  where
    here : (k == a) ≡ true → (is_in b ns ≡ true) ⊎ ((n == b) ≡ true) → (comes_before a b (k ∷ ns) ≡ true) ⊎ (((n == b) ≡ true) × (is_in a (k ∷ ns) ≡ true))
    here e (inl there) = inl (grind (arith, nat_tests))
    here e (inr last) = inr (last, grind (arith, nat_tests))

    later : (k == a) ≡ false → (comes_before a b ns ≡ true) ⊎ (((n == b) ≡ true) × (is_in a ns ≡ true)) →
        (comes_before a b (k ∷ ns) ≡ true) ⊎ (((n == b) ≡ true) × (is_in a (k ∷ ns) ≡ true))
    later e (inl more) = inl (grind (arith, nat_tests))
    later e (inr last) = let there = last.1 in inr (last.0, grind (arith, nat_tests))

    by : (c : Bool) → (k == a) ≡ c → (comes_before a b (ns ++ n ∷ []) ≡ true → (comes_before a b ns ≡ true) ⊎ (((n == b) ≡ true) × (is_in a ns ≡ true))) →
        (comes_before a b (k ∷ ns) ≡ true) ⊎ (((n == b) ≡ true) × (is_in a (k ∷ ns) ≡ true))
    by true e again = let rest : is_in b (ns ++ n ∷ []) ≡ true = grind (arith, nat_tests) in here e (in_last n b ns rest)
    by false e again = let rest : comes_before a b (ns ++ n ∷ []) ≡ true = grind (arith, nat_tests) in later e (again rest)

-- the other one is in the list, too
behind_in : (a b : ℕ) (ns : List ℕ) → comes_before a b ns ≡ true → is_in b ns ≡ true
behind_in a b [] h = absurd (cc)
behind_in a b (k ∷ ns) h = by (k == a) refl (behind_in a b ns)
  where
    by : (c : Bool) → (k == a) ≡ c → (comes_before a b ns ≡ true → is_in b ns ≡ true) → is_in b (k ∷ ns) ≡ true
    by true e again =
        let there : is_in b ns ≡ true = grind (arith, nat_tests) in grind (arith, nat_tests)
    by false e again =
        let rest : comes_before a b ns ≡ true = grind (arith, nat_tests) in
        let there = again rest in grind (arith, nat_tests)

-- ---- The times

-- the thread that was held just now has the last one
pub times_after : (n : ℕ) (order : List ℕ) (old new : ℕ → ℕ) → ((m : ℕ) → m ≢ n → new m < new n) → ((m : ℕ) → m ≢ n → new m ≡ old m) → RisesIn old order → RisesIn new (held_last n order)
times_after n order old new last same times a b h = by (before_last n a b (others n order) h)
  where
    apart : (m : ℕ) → (m == n) ≡ false → m ≡ n → ⊥
    apart m other same = absurd (grind (arith, nat_tests))

    by : (comes_before a b (others n order) ≡ true) ⊎ (((n == b) ≡ true) × (is_in a (others n order) ≡ true)) → new a < new b
    by (inl before) =
        let first = in_others n a order (before_in a b (others n order) before) in
        let second = in_others n b order (behind_in a b (others n order) before) in
        let was = times a b (before_others n a b order before) in
        subst (λ (k : ℕ). k < new b) (sym (same a (apart a first.1)))
        (subst (λ (k : ℕ). old a < k) (sym (same b (apart b second.1))) was)
    by (inr here) =
        let first = in_others n a order here.1 in
        subst (λ (m : ℕ). new a < new m) (eqb-true n b here.0) (last a (apart a first.1))

-- and is there once
once_others : (n k : ℕ) (ns : List ℕ) → is_in k ns ≡ false → is_in k (others n ns) ≡ false
once_others n k [] h = refl
once_others n k (j ∷ ns) h = by (j == n) refl (once_others n k ns)
  where
    by : (c : Bool) → (j == n) ≡ c → (is_in k ns ≡ false → is_in k (others n ns) ≡ false) → is_in k (others n (j ∷ ns)) ≡ false
    by true e again =
        let rest : is_in k ns ≡ false = grind (arith, nat_tests) in
        let more = again rest in grind (arith, nat_tests)
    by false e again =
        let rest : is_in k ns ≡ false = grind (arith, nat_tests) in
        let more = again rest in grind (arith, nat_tests)

in_ended : (n k : ℕ) (ns : List ℕ) → is_in k ns ≡ false → (k == n) ≡ false → is_in k (ns ++ n ∷ []) ≡ false
in_ended n k [] h other = grind (arith, nat_tests)
in_ended n k (j ∷ ns) h other =
    let rest : is_in k ns ≡ false = grind (arith, nat_tests) in
    let more = in_ended n k ns rest other in grind (arith, nat_tests)

pub once_after : (n : ℕ) (ns : List ℕ) → IsOnce ns → IsOnce (held_last n ns)
once_after n [] once = (refl, tt)
once_after n (k ∷ ns) once = by (k == n) refl (once_after n ns once.1)
  where
    by : (c : Bool) → (k == n) ≡ c → IsOnce (held_last n ns) → IsOnce (held_last n (k ∷ ns))
    by true e rest = subst (λ (b : Bool). IsOnce ((if not b then k ∷ others n ns else others n ns) ++ n ∷ [])) (sym e) rest
    by false e rest =
        subst (λ (b : Bool). IsOnce ((if not b then k ∷ others n ns else others n ns) ++ n ∷ [])) (sym e)
        (in_ended n k (others n ns) (once_others n k ns once.0) e, rest)

-- ---- A list in the order of the times

-- none of the list has an earlier time than one that comes before it there
abbrev pub RisesBy : (ℕ → ℕ) → List ℕ → Type 0
RisesBy f [] = Unit {0}
RisesBy f (a ∷ list) = ((m : ℕ) → is_in m list ≡ true → f a ≤ f m) × RisesBy f list

none_in : (ks : List ℕ) → in_order ks [] ≡ []
none_in [] = refl
none_in (k ∷ ks) = none_in ks

-- the tests agree on the list
same_kept : (p q : ℕ → Bool) (ks : List ℕ) → ((m : ℕ) → is_in m ks ≡ true → p m ≡ q m) → filter p ks ≡ filter q ks
same_kept p q [] same = refl
same_kept p q (k ∷ ks) same =
    let here : p k ≡ q k = same k (grind (arith, nat_tests)) in
    let rest = same_kept p q ks (λ m there. same m (grind (arith, nat_tests))) in
    grind (arith, nat_tests)

apart_in : (a b : ℕ) (ns : List ℕ) → is_in a ns ≡ true → is_in b ns ≡ false → (a == b) ≡ false
apart_in a b ns there gone = by (a == b) refl
  where
    by : (c : Bool) → (a == b) ≡ c → c ≡ false
    by true e = let bad = subst (λ (k : ℕ). is_in k ns ≡ true) (eqb-true a b e) there in absurd (cc)
    by false e = refl

-- a list that rises, and whose numbers are in the order, has them as they are there
pub in_order_is : (f : ℕ → ℕ) (order list : List ℕ) → RisesIn f order → IsOnce order → IsOnce list → RisesBy f list →
    ((m : ℕ) → is_in m list ≡ true → is_in m order ≡ true) → list ≡ in_order order list
in_order_is f [] [] times once single rises within = refl
in_order_is f [] (a ∷ list) times once single rises within = absurd (let there = within a (grind (arith, nat_tests)) in cc)
in_order_is f (k ∷ ks) [] times once single rises within = sym (none_in (k ∷ ks))
in_order_is f (k ∷ ks) (a ∷ list) times once single rises within = by (k == a) refl (in_order_is f ks list later once.1 single.1 rises.1) (in_order_is f ks (a ∷ list) later once.1 single rises)
  where
    -- of those behind the first one
    later : RisesIn f ks
    later x y before =
        let other = apart_in x k ks (before_in x y ks before) once.0 in
        times x y (grind (arith, nat_tests))

    by : (c : Bool) → (k == a) ≡ c → (((m : ℕ) → is_in m list ≡ true → is_in m ks ≡ true) → list ≡ in_order ks list) →
        (((m : ℕ) → is_in m (a ∷ list) ≡ true → is_in m ks ≡ true) → a ∷ list ≡ in_order ks (a ∷ list)) → a ∷ list ≡ in_order (k ∷ ks) (a ∷ list)
    by true e one all =
        let same : k ≡ a = eqb-true k a e in
        let rest = one (λ m there. let other = apart_in m a list there single.0 in let here = within m (grind (arith, nat_tests)) in grind (arith, nat_tests)) in
        let kept = same_kept (λ n. is_in n list) (λ n. is_in n (a ∷ list)) ks (λ m there. let other = apart_in m k ks there once.0 in grind (arith, nat_tests)) in
        let tail : list ≡ filter (λ n. is_in n (a ∷ list)) ks = rest ∙ kept in
        let first : is_in k (a ∷ list) ≡ true = grind (arith, nat_tests) in
        ap₂ (λ (n : ℕ) (ns : List ℕ). n ∷ ns) (sym same) tail ∙ sym (ap (λ (b : Bool). if b then k ∷ filter (λ n. is_in n (a ∷ list)) ks else filter (λ n. is_in n (a ∷ list)) ks) first)
    by false e one all = gone (is_in k list) refl
      where
        gone : (b : Bool) → is_in k list ≡ b → a ∷ list ≡ in_order (k ∷ ks) (a ∷ list)
        gone true there =
            let late = rises.0 k there in
            let mine = within a (grind (arith, nat_tests)) in
            let behind : is_in a ks ≡ true = grind (arith, nat_tests) in
            let early = times k a (grind (arith, nat_tests)) in
            absurd (omega (arith, late, early))
        gone false off =
            let none : is_in k (a ∷ list) ≡ false = grind (arith, nat_tests) in
            let rest = all (λ m there. let other = apart_in m k (a ∷ list) there none in let here = within m there in grind (arith, nat_tests)) in
            rest ∙ sym (ap (λ (b : Bool). if b then k ∷ filter (λ n. is_in n (a ∷ list)) ks else filter (λ n. is_in n (a ∷ list)) ks) none)

-- ---- Lists that have each number as often

often_in : (m : ℕ) (xs : List ℕ) → is_in m xs ≡ true → 1 ≤ often m xs
often_in m [] h = absurd (cc)
often_in m (x ∷ xs) h = by (x == m) refl (often_in m xs)
  where
    by : (b : Bool) → (x == m) ≡ b → (is_in m xs ≡ true → 1 ≤ often m xs) → 1 ≤ often m (x ∷ xs)
    by true e again = let one : one_if m x ≡ 1 = ap (λ (b : Bool). cond b 1 0) e in omega (arith, one, often_first m x xs)
    by false e again = let rest : is_in m xs ≡ true = grind (arith, nat_tests) in let more = again rest in omega (arith, more, often_first m x xs)

in_often : (m : ℕ) (xs : List ℕ) → 1 ≤ often m xs → is_in m xs ≡ true
in_often m [] h = absurd (omega (arith, h))
in_often m (x ∷ xs) h = by (x == m) refl (in_often m xs)
  where
    by : (b : Bool) → (x == m) ≡ b → (1 ≤ often m xs → is_in m xs ≡ true) → is_in m (x ∷ xs) ≡ true
    by true e again = grind (arith, nat_tests)
    by false e again =
        let off : one_if m x ≡ 0 = ap (λ (b : Bool). cond b 1 0) e in
        let rest = again (omega (arith, h, off, often_first m x xs)) in grind (arith, nat_tests)

same_bool : (a b : Bool) → (a ≡ true → b ≡ true) → (b ≡ true → a ≡ true) → a ≡ b
same_bool true b f g = sym (f refl)
same_bool false true f g = g refl
same_bool false false f g = refl

pub permuted_in : (xs ys : List ℕ) → IsPermutation xs ys → (m : ℕ) → is_in m xs ≡ is_in m ys
permuted_in xs ys p m =
    same_bool (is_in m xs) (is_in m ys) (λ h. in_often m ys (omega (arith, often_in m xs h, often_permuted m xs ys p)))
    (λ h. in_often m xs (omega (arith, often_in m ys h, often_permuted m xs ys p)))

pub once_of : (xs : List ℕ) → ((m : ℕ) → often m xs ≤ 1) → IsOnce xs
once_of [] h = tt
once_of (x ∷ xs) h = (gone (is_in x xs) refl, once_of xs (λ m. omega (arith, h m, often_first m x xs)))
  where
    gone : (b : Bool) → is_in x xs ≡ b → b ≡ false
    gone true there = absurd (omega (arith, h x, often_first x x xs, itself x, often_in x xs there))
    gone false off = refl

-- a permutation of numbers that are in the order, each once, that rises by the times, is in that order
pub permuted_order : (f : ℕ → ℕ) (order held list : List ℕ) → RisesIn f order → IsOnce order → ((m : ℕ) → often m held ≤ 1) →
    ((m : ℕ) → is_in m held ≡ true → is_in m order ≡ true) → IsPermutation held list → RisesBy f list → list ≡ in_order order held
permuted_order f order held list times once single within p rises =
    let same = permuted_in held list p in
    in_order_is f order list times once (once_of list (λ m. omega (arith, single m, often_permuted m held list p))) rises (λ m there. within m (same m ∙ there))
    ∙ same_kept (λ n. is_in n list) (λ n. is_in n held) order (λ m there. sym (same m))
