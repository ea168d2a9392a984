-- The passes of an aborter, as they are split off.
use Rattle.std.proofs.Common.{◌≡◌, ℕ, zero, suc, ◌+◌, ◌≤◌, List, [], ◌∷◌, ◌++◌, ap, arith, drop, length, map, refl, replicate, subst, sym, take, ◌∙◌}
use Rattle.std.proofs.lemmas.List.{append-nil, length-map, map-append, map-set}
use Rattle.std.proofs.lemmas.Option.{same_Some, slice_get-map}
use Rattle.std.specs.Prelude.{Err, Ok, OnErr, Option, Result, Some, option_map, slice_get, slice_set}
use Rattle.beside_works.proofs.CountLemmas.{set_same}
use Rattle.beside_works.specs.Counts.{later, raised}

pub raise_next : (i n : ℕ) (xs : List ℕ) → slice_get (raised i xs) i ≡ Some n → (slice_get xs i ≡ Some n) × (slice_set (raised i xs) i (n + 1) ≡ raised (suc i) xs)
raise_next zero n [] at = absurd (cc)
raise_next zero n (x ∷ xs) at = (at, ap (λ (m : ℕ). (m + 1) ∷ xs) (sym (same_Some _ _ at)))
raise_next (suc i) n [] at = absurd (cc)
raise_next (suc i) n (x ∷ xs) at = let rest = raise_next i n xs at in (rest.0, ap (λ (ms : List ℕ). (x + 1) ∷ ms) rest.1)

pub take_next : {A : Type 0} (i : ℕ) (x : A) (xs : List A) → slice_get xs i ≡ Some x → take (suc i) xs ≡ take i xs ++ x ∷ []
take_next i x [] at = absurd (cc)
take_next zero x (y ∷ ys) at = ap (λ z. z ∷ []) (same_Some _ _ at)
take_next (suc i) x (y ∷ ys) at = ap (λ zs. y ∷ zs) (take_next i x ys at)

pub replicate_next : (i : ℕ) → replicate {A = ℕ} (suc i) 0 ≡ replicate i 0 ++ 0 ∷ []
replicate_next zero = refl
replicate_next (suc i) = ap (λ (ns : List ℕ). 0 ∷ ns) (replicate_next i)

-- what a change of one item leaves of a field that it leaves
pub field_after : {A B : Type 0} (f : A → B) (ps : List A) (k : ℕ) (p q : A) → slice_get ps k ≡ Some p → f q ≡ f p → map f (slice_set ps k q) ≡ map f ps
field_after f ps k p q at same = map-set f ps k q ∙ (ap (slice_set (map f ps) k) same ∙ set_same (map f ps) k (f p) (slice_get-map f ps k ∙ ap (option_map f) at))

pub got : {A B : Type 0} (f : A → B) (ps : List A) (k : ℕ) (p : A) → slice_get ps k ≡ Some p → slice_get (map f ps) k ≡ Some (f p)
got f ps k p at = slice_get-map f ps k ∙ ap (option_map f) at

-- the counts of passes, where one is split off of each of the first i and then of the next
pub splits_after : {A : Type 0} (f : A → ℕ) (ps : List A) (k : ℕ) (p q : A) (xs : List ℕ) → slice_get ps k ≡ Some p → f q ≡ f p + 1 →
    map f ps ≡ raised k xs → (map f (slice_set ps k q) ≡ raised (suc k) xs) × (slice_get xs k ≡ Some (f p))
splits_after f ps k p q xs at more is =
    let here : slice_get (raised k xs) k ≡ Some (f p) = subst (λ (ms : List ℕ). slice_get ms k ≡ Some (f p)) is (got f ps k p at) in
    let next = raise_next k (f p) xs here in (
      map-set f ps k q ∙ (ap (slice_set (map f ps) k) more ∙ (ap (λ (ms : List ℕ). slice_set ms k (f p + 1)) is ∙ next.1)),
      next.0,
    )

-- with one more item
pub more_items : {A B : Type 0} (f : A → B) (ps rs : List A) (q : A) (k : ℕ) (xs : List B) (x : B) → rs ≡ ps ++ q ∷ [] → f q ≡ x →
    slice_get xs k ≡ Some x → map f ps ≡ take k xs → map f rs ≡ take (suc k) xs
more_items f ps rs q k xs x is same at was =
    ap (map f) is ∙ (map-append f ps (q ∷ []) ∙ (ap (λ ys. ys ++ f q ∷ []) was ∙ (ap (λ y. take k xs ++ y ∷ []) same ∙ sym (take_next k x xs at))))

-- with one more that has none
pub zero_items : {A : Type 0} (f : A → ℕ) (ps rs : List A) (q : A) (k : ℕ) → rs ≡ ps ++ q ∷ [] → f q ≡ 0 → map f ps ≡ replicate k 0 → map f rs ≡ replicate (suc k) 0
zero_items f ps rs q k is none was =
    ap (map f) is ∙ (map-append f ps (q ∷ []) ∙ (ap (λ ys. ys ++ f q ∷ []) was ∙ (ap (λ (n : ℕ). replicate k 0 ++ n ∷ []) none ∙ sym (replicate_next k))))

pub next_index : (k : ℕ) → suc k ≡ k + 1
next_index k = omega arith

pub raised_past : (i : ℕ) (xs : List ℕ) → length xs ≤ i → raised i xs ≡ later 1 xs
raised_past zero [] past = refl
raised_past (suc i) [] past = refl
raised_past zero (x ∷ xs) past = absurd (omega (arith, past))
raised_past (suc i) (x ∷ xs) past = ap (λ (ms : List ℕ). (x + 1) ∷ ms) (raised_past i xs (omega (arith, past)))

-- lists of which a field is the same are as long
pub same_length : {A B : Type 0} (f : A → B) (xs ys : List A) → map f xs ≡ map f ys → length xs ≡ length ys
same_length f xs ys same = sym (length-map xs f) ∙ (ap length same ∙ length-map ys f)

pub take_past : {A : Type 0} (i : ℕ) (xs : List A) → length xs ≤ i → take i xs ≡ xs
take_past zero [] past = refl
take_past (suc i) [] past = refl
take_past zero (x ∷ xs) past = absurd (omega (arith, past))
take_past (suc i) (x ∷ xs) past = ap (λ zs. x ∷ zs) (take_past i xs (omega (arith, past)))

drop_past : {A : Type 0} (i : ℕ) (xs : List A) → length xs ≤ i → drop i xs ≡ []
drop_past zero [] past = refl
drop_past (suc i) [] past = refl
drop_past zero (x ∷ xs) past = absurd (omega (arith, past))
drop_past (suc i) (x ∷ xs) past = drop_past i xs (omega (arith, past))

-- a list written over another one of its length
pub whole_items : {A : Type 0} (xs ys : List A) (n : ℕ) → length xs ≡ length ys → n ≡ length ys → take n (xs ++ drop (length xs) ys) ≡ xs
whole_items xs ys n same is =
    ap (λ zs. take n (xs ++ zs)) (drop_past (length xs) ys (omega (arith, same))) ∙ (ap (take n) (append-nil xs) ∙ take_past n xs (omega (arith, same, is)))

pub set_length : {A : Type 0} (xs : List A) (k : ℕ) (x : A) → length (slice_set xs k x) ≡ length xs
set_length [] k x = refl
set_length (y ∷ ys) zero x = refl
set_length (y ∷ ys) (suc k) x = ap suc (set_length ys k x)

-- the same, where one item was set last
pub set_whole : {A : Type 0} (xs ys : List A) (n k : ℕ) (x : A) → length xs ≡ length ys → n ≡ length ys →
    take n (slice_set xs k x ++ drop (length (slice_set xs k x)) ys) ≡ slice_set xs k x
set_whole xs ys n k x same is = whole_items (slice_set xs k x) ys n (set_length xs k x ∙ same) is

pub raised_none : (xs : List ℕ) → raised 0 xs ≡ xs
raised_none [] = refl
raised_none (x ∷ xs) = refl

-- what holds is so where a call was refused
pub at_err : {A E P : Type 0} (r : Result A E) → P → OnErr r P
at_err (Ok x) p = tt
at_err (Err e) p = p
