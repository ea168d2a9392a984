-- What stays of numbers when a list grows or an element is put in the place of another.
use Rattle.task_nursery.specs.Numbers.{count_where, first_among, first_where, numbered, numbers_where}
use Rattle.std.proofs.Common.{ap, arith, drop, drop-cons, get_or, refl, subst, sym, ◌∙◌, ◌<◌, ◌≤◌}
use Rattle.std.proofs.lemmas.Option.{slice_get-get_or}
use Rattle.std.specs.Prelude.{Bool, List, None, Option, Some, [], false, if◌then◌else◌, length, slice_get, slice_set, suc, true, zero, ℕ, ◌+◌, ◌++◌, ◌-◌, ◌∷◌, ◌≡◌}
use Rattle.std.specs.List.{remove}
use Rattle.std.specs.Option.{option_map_or}

-- the one of a number is that of the place before
pub numbered_from : {A : Type 0} (xs : List A) (i : ℕ) → numbered xs (1 + i) ≡ slice_get xs i
numbered_from xs i =
    let here : numbered xs (suc i) ≡ slice_get xs i = refl in
    let same : suc i ≡ 1 + i = omega arith in
    subst (λ (k : ℕ). numbered xs k ≡ slice_get xs i) same here

module _ {A : Type 0} (f g : A → Bool) (so : (x : A) → g x ≡ true → f x ≡ true) where
  among_one : (at : ℕ → Option A) (x : A) (n : ℕ) (ns : List ℕ) (later : Option ℕ) (b c : Bool) → f x ≡ b → g x ≡ c → at n ≡ Some x → first_among g at ns ≡ later →
      first_among g at (if b then n ∷ ns else ns) ≡ (if c then Some n else later)
  among_one at x n ns later true true here ended is rest = rw (is, ended) refl
  among_one at x n ns later true false here ended is rest = rw (is, ended) rest
  among_one at x n ns later false true here ended is rest = absurd (let was = so x ended in cc)
  among_one at x n ns later false false here ended is rest = rest

  among : (at : ℕ → Option A) (n : ℕ) (xs : List A) → ((i : ℕ) → at (n + i) ≡ slice_get xs i) → first_among g at (numbers_where f n xs) ≡ first_where g n xs
  among at n [] is = refl
  among at n (x ∷ xs) is =
      let here : at n ≡ Some x = subst (λ (k : ℕ). at k ≡ Some x) (omega arith) (is 0) in
      let rest = among at (suc n) xs (λ i. subst (λ (k : ℕ). at k ≡ slice_get xs i) (omega arith) (is (suc i))) in
      among_one at x n (numbers_where f (suc n) xs) (first_where g (suc n) xs) (f x) (g x) refl refl here rest

  -- the first open one that is so is the least one that is so
  pub first_is_least : (xs : List A) → first_among g (numbered xs) (numbers_where f 1 xs) ≡ first_where g 1 xs
  first_is_least xs = among (numbered xs) 1 xs (numbered_from xs)

module _ {A : Type 0} (f : A → Bool) where
  abbrev at_least : ℕ → List ℕ → Type 0
  at_least n ns = (j m : ℕ) → slice_get ns j ≡ Some m → n ≤ m

  below_one : (n : ℕ) (ns : List ℕ) (b : Bool) → at_least (suc n) ns → at_least n (if b then n ∷ ns else ns)
  below_one n ns true rest zero m at = let same : n ≡ m = cc in omega (arith, same)
  below_one n ns true rest (suc j) m at = let more = rest j m at in omega (arith, more)
  below_one n ns false rest j m at = let more = rest j m at in omega (arith, more)

  none_below : (n : ℕ) (xs : List A) → at_least n (numbers_where f n xs)
  none_below n [] j m at = absurd (cc)
  none_below n (x ∷ xs) j m at = below_one n (numbers_where f (suc n) xs) (f x) (none_below (suc n) xs) j m at

  abbrev Removes : ℕ → List A → Type 0
  Removes n xs = (j i : ℕ) (y : A) → f y ≡ false → slice_get (numbers_where f n xs) j ≡ Some (n + i) → numbers_where f n (slice_set xs i y) ≡ remove (numbers_where f n xs) j

  removed_one : (n : ℕ) (x : A) (xs : List A) (b : Bool) → f x ≡ b → Removes (suc n) xs → (j i : ℕ) (y : A) → f y ≡ false → slice_get (if b then n ∷ numbers_where f (suc n) xs else numbers_where f (suc n) xs) j ≡ Some (n + i) →
      numbers_where f n (slice_set (x ∷ xs) i y) ≡ remove (if b then n ∷ numbers_where f (suc n) xs else numbers_where f (suc n) xs) j
  removed_one n x xs true is rest zero zero y gone at = rw gone refl
  removed_one n x xs true is rest zero (suc i) y gone at = absurd (let same : n ≡ n + suc i = cc in omega (arith, same))
  removed_one n x xs true is rest (suc j) zero y gone at = absurd (let more = none_below (suc n) xs j (n + zero) at in omega (arith, more))
  removed_one n x xs true is rest (suc j) (suc i) y gone at =
      rw is (ap (λ (ns : List ℕ). n ∷ ns) (rest j i y gone (subst (λ (k : ℕ). slice_get (numbers_where f (suc n) xs) j ≡ Some k) (omega arith) at)))
  removed_one n x xs false is rest j zero y gone at = absurd (let more = none_below (suc n) xs j (n + zero) at in omega (arith, more))
  removed_one n x xs false is rest j (suc i) y gone at =
      rw is (rest j i y gone (subst (λ (k : ℕ). slice_get (numbers_where f (suc n) xs) j ≡ Some k) (omega arith) at))

  removed_at : (n : ℕ) (xs : List A) → Removes n xs
  removed_at n [] j i y gone at = absurd (cc)
  removed_at n (x ∷ xs) j i y gone at = removed_one n x xs (f x) refl (removed_at (suc n) xs) j i y gone at

  -- one that is so no more leaves the numbers
  pub removed : (xs : List A) (j m : ℕ) (y : A) → f y ≡ false → slice_get (numbers_where f 1 xs) j ≡ Some m → numbers_where f 1 (slice_set xs (m - 1) y) ≡ remove (numbers_where f 1 xs) j
  removed xs j m y gone at =
      let some = none_below 1 xs j m at in
      removed_at 1 xs j (m - 1) y gone (subst (λ (k : ℕ). slice_get (numbers_where f 1 xs) j ≡ Some k) (omega (arith, some)) at)

  counted_one : (b : Bool) (k n : ℕ) → suc n ≡ k → suc (if b then suc n else n) ≡ (if b then suc k else k)
  counted_one true k n more = ap (λ (i : ℕ). suc i) more
  counted_one false k n more = more

  -- and is counted no more
  pub counted : (xs : List A) (i : ℕ) (x y : A) → slice_get xs i ≡ Some x → f x ≡ true → f y ≡ false → suc (count_where f (slice_set xs i y)) ≡ count_where f xs
  counted [] i x y at was gone = absurd (cc)
  counted (z ∷ zs) zero x y at was gone = let same : z ≡ x = cc in rw (same, was, gone) refl
  counted (z ∷ zs) (suc i) x y at was gone = counted_one (f z) (count_where f zs) (count_where f (slice_set zs i y)) (counted zs i x y at was gone)

  grown_one : (n k : ℕ) (b : Bool) (ns ms : List ℕ) → ms ≡ ns ++ k ∷ [] → (if b then n ∷ ms else ms) ≡ (if b then n ∷ ns else ns) ++ k ∷ []
  grown_one n k true ns ms is = ap (λ (ls : List ℕ). n ∷ ls) is
  grown_one n k false ns ms is = is

  grown_at : (n : ℕ) (xs : List A) (x : A) → f x ≡ true → numbers_where f n (xs ++ x ∷ []) ≡ numbers_where f n xs ++ (n + length xs) ∷ []
  grown_at n [] x is = rw is (ap (λ (k : ℕ). k ∷ []) (omega arith))
  grown_at n (z ∷ zs) x is =
      grown_one n (n + suc (length zs)) (f z) (numbers_where f (suc n) zs) (numbers_where f (suc n) (zs ++ x ∷ []))
      (grown_at (suc n) zs x is ∙ ap (λ (k : ℕ). numbers_where f (suc n) zs ++ k ∷ []) (omega arith))

  -- one more that is so has the next number
  pub grown : (xs : List A) (x : A) → f x ≡ true → numbers_where f 1 (xs ++ x ∷ []) ≡ numbers_where f 1 xs ++ (length xs + 1) ∷ []
  grown xs x is = grown_at 1 xs x is ∙ ap (λ (k : ℕ). numbers_where f 1 xs ++ k ∷ []) (omega arith)

  few_one : (b : Bool) (k n : ℕ) → k ≤ n → (if b then suc k else k) ≤ suc n
  few_one true k n few = omega (arith, few)
  few_one false k n few = omega (arith, few)

  -- so many of them there are at most
  pub count_few : (xs : List A) → count_where f xs ≤ length xs
  count_few [] = omega arith
  count_few (x ∷ xs) = few_one (f x) (count_where f xs) (length xs) (count_few xs)

  above_one : (n : ℕ) (ns : List ℕ) (size : ℕ) (b : Bool) → ((j m : ℕ) → slice_get ns j ≡ Some m → m < suc n + size) → (j m : ℕ) → slice_get (if b then n ∷ ns else ns) j ≡ Some m → m < n + suc size
  above_one n ns size true rest zero m at = let same : n ≡ m = cc in omega (arith, same)
  above_one n ns size true rest (suc j) m at = let less = rest j m at in omega (arith, less)
  above_one n ns size false rest j m at = let less = rest j m at in omega (arith, less)

  none_above : (n : ℕ) (xs : List A) (j m : ℕ) → slice_get (numbers_where f n xs) j ≡ Some m → m < n + length xs
  none_above n [] j m at = absurd (cc)
  none_above n (x ∷ xs) j m at = above_one n (numbers_where f (suc n) xs) (length xs) (f x) (none_above (suc n) xs) j m at

  -- each number is that of an element
  pub numbers_there : (xs : List A) (j m : ℕ) → slice_get (numbers_where f 1 xs) j ≡ Some m → (0 < m) × (m ≤ length xs)
  numbers_there xs j m at =
      let more = none_below 1 xs j m at in
      let less = none_above 1 xs j m at in
      (omega (arith, more), omega (arith, less))

  uncounted_one : (b : Bool) (k n : ℕ) → k ≡ n → (if b then suc k else k) ≡ (if b then suc n else n)
  uncounted_one true k n is = ap (λ (i : ℕ). suc i) is
  uncounted_one false k n is = is

  -- one that wasn't counted, and isn't
  pub uncounted : (xs : List A) (i : ℕ) (x y : A) → slice_get xs i ≡ Some x → f x ≡ false → f y ≡ false → count_where f (slice_set xs i y) ≡ count_where f xs
  uncounted [] i x y at was gone = absurd (cc)
  uncounted (z ∷ zs) zero x y at was gone = let same : z ≡ x = cc in rw (same, was, gone) refl
  uncounted (z ∷ zs) (suc i) x y at was gone = uncounted_one (f z) (count_where f (slice_set zs i y)) (count_where f zs) (uncounted zs i x y at was gone)

  more_one : (b : Bool) (k n : ℕ) → k ≡ suc n → (if b then suc k else k) ≡ suc (if b then suc n else n)
  more_one true k n is = ap (λ (i : ℕ). suc i) is
  more_one false k n is = is

  -- one more is counted
  pub count_grown : (xs : List A) (x : A) → f x ≡ true → count_where f (xs ++ x ∷ []) ≡ suc (count_where f xs)
  count_grown [] x is = rw is refl
  count_grown (z ∷ zs) x is = more_one (f z) (count_where f (zs ++ x ∷ [])) (count_where f zs) (count_grown zs x is)

  -- or isn't
  pub count_same : (xs : List A) (x : A) → f x ≡ false → count_where f (xs ++ x ∷ []) ≡ count_where f xs
  count_same [] x is = rw is refl
  count_same (z ∷ zs) x is = uncounted_one (f z) (count_where f (zs ++ x ∷ [])) (count_where f zs) (count_same zs x is)

  abbrev IsSo : (ℕ → Option A) → ℕ → Type 0
  IsSo at m = (x : A) × ((at m ≡ Some x) × (f x ≡ true))

  so_two : (at : ℕ → Option A) (x : A) (n m : ℕ) (later : Option ℕ) (b : Bool) → f x ≡ b → at n ≡ Some x → (later ≡ Some m → IsSo at m) → (if b then Some n else later) ≡ Some m → IsSo at m
  so_two at x n m later true is here rest found = let same : n ≡ m = cc in (x, (subst (λ (k : ℕ). at k ≡ Some x) same here, is))
  so_two at x n m later false is here rest found = rest found

  so_one : (at : ℕ → Option A) (n m : ℕ) (later : Option ℕ) (o : Option A) → at n ≡ o → (later ≡ Some m → IsSo at m) → (if option_map_or f o false then Some n else later) ≡ Some m → IsSo at m
  so_one at n m later None here rest found = rest found
  so_one at n m later (Some x) here rest found = so_two at x n m later (f x) refl here rest found

  -- the first one that is so is
  pub first_is_so : (at : ℕ → Option A) (ns : List ℕ) (m : ℕ) → first_among f at ns ≡ Some m → IsSo at m
  first_is_so at [] m found = absurd (cc)
  first_is_so at (n ∷ ns) m found = so_one at n m (first_among f at ns) (at n) refl (first_is_so at ns m) found

-- ---- One number after another

-- the one of a number is the element at the place before
pub numbered_get : {A : Type 0} (xs : List A) (n : ℕ) (d : A) → 0 < n → n ≤ length xs → numbered xs n ≡ Some (get_or xs (n - 1) d)
numbered_get xs zero d some few = absurd (omega (arith, some))
numbered_get xs (suc i) d some few =
    let place : i ≡ suc i - 1 = omega arith in
    subst (λ (j : ℕ). slice_get xs i ≡ Some (get_or xs j d)) place (slice_get-get_or xs i d (omega (arith, few)))

pass_one : {A : Type 0} (f : A → Bool) (at : ℕ → Option A) (n : ℕ) (ns : List ℕ) → option_map_or f (at n) false ≡ false → first_among f at (n ∷ ns) ≡ first_among f at ns
pass_one f at n ns is = rw is refl

hit_one : {A : Type 0} (f : A → Bool) (at : ℕ → Option A) (n : ℕ) (ns : List ℕ) → option_map_or f (at n) false ≡ true → first_among f at (n ∷ ns) ≡ Some n
hit_one f at n ns is = rw is refl

-- one that isn't so is passed
pub first_passes : {A : Type 0} (f : A → Bool) (at : ℕ → Option A) (ns : List ℕ) (i : ℕ) → i < length ns → option_map_or f (at (get_or ns i 0)) false ≡ false →
    first_among f at (drop (i + 1) ns) ≡ first_among f at (drop i ns)
first_passes f at ns i within is =
    let next : i + 1 ≡ suc i = omega arith in
    ap (λ (k : ℕ). first_among f at (drop k ns)) next
    ∙ sym (ap (λ (ks : List ℕ). first_among f at ks) (drop-cons ns i 0 within) ∙ pass_one f at (get_or ns i 0) (drop (suc i) ns) is)

-- the first that is so is found
pub first_found : {A : Type 0} (f : A → Bool) (at : ℕ → Option A) (ns : List ℕ) (i : ℕ) → i < length ns → option_map_or f (at (get_or ns i 0)) false ≡ true → first_among f at (drop i ns) ≡ slice_get ns i
first_found f at ns i within is =
    ap (λ (ks : List ℕ). first_among f at ks) (drop-cons ns i 0 within) ∙ (hit_one f at (get_or ns i 0) (drop (suc i) ns) is ∙ sym (slice_get-get_or ns i 0 within))

-- the element that is at the place before has this number
pub numbered_is : {A : Type 0} (xs : List A) (k : ℕ) (x : A) → 0 < k → k ≤ length xs → x ≡ get_or xs (k - 1) x → numbered xs k ≡ Some x
numbered_is xs k x some few is = numbered_get xs k x some few ∙ ap (λ y. Some y) (sym is)
