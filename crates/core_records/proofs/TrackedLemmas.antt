-- Which groups are tracked: as a list, each law is one of its members.
use Rattle.std.proofs.Common.{[], ap, append-nil, arith, Bool, cond, false, filter, get_or, inl, inr, length, List, not, refl, subst, suc, sym, true, zero, ℕ, ◌+◌, ◌<◌, ◌==◌, ◌∙◌, ◌∷◌, ◌≡◌, ◌&&◌, ◌||◌}
use Rattle.std.proofs.lemmas.Bool.{cases_eq, eq-eqb, eqb-true, ne_eqb}
use Rattle.std.proofs.lemmas.Bool.Decides.{nat_tests}
use Rattle.std.proofs.lemmas.List.{length-append}
use Rattle.std.proofs.lemmas.List.Elements.{filter-append}
use Rattle.std.specs.List.Sorted.{IsNonDecreasing}
use Rattle.std.specs.Prelude.{◌++◌, ◌≤◌}
use Rattle.table_lists.specs.Members.{Once, has}
use Rattle.core_records.specs.Groups.{AreEnded, after, is_tracked, tracked_of}

-- ---- Filters

keep_if : (b : Bool) (x : ℕ) (xs ys : List ℕ) → xs ≡ ys → cond b (x ∷ xs) xs ≡ cond b (x ∷ ys) ys
keep_if true x xs ys e = ap (λ zs. x ∷ zs) e
keep_if false x xs ys e = e

pub has_here : (x : ℕ) (xs : List ℕ) → has x (x ∷ xs) ≡ true
has_here x xs = ap (λ b. b || has x xs) (eq-eqb x x refl)

pub has_later : (n x : ℕ) (xs : List ℕ) → has n xs ≡ true → has n (x ∷ xs) ≡ true
has_later n x xs there = by (n == x)
  where
    by : (b : Bool) → (b || has n xs) ≡ true
    by true = refl
    by false = there

-- two tests that agree on the members of a list keep the same of it
pub filter_same : (p q : ℕ → Bool) (xs : List ℕ) → ((n : ℕ) → has n xs ≡ true → p n ≡ q n) → filter p xs ≡ filter q xs
filter_same p q [] same = refl
filter_same p q (x ∷ xs) same =
    keep_if (p x) x (filter p xs) (filter q xs) (filter_same p q xs (λ n there. same n (has_later n x xs there)))
    ∙ ap (λ b. cond b (x ∷ filter q xs) (filter q xs)) (same x (has_here x xs))

filter_nothing : (xs : List ℕ) → filter (λ n. false) xs ≡ []
filter_nothing [] = refl
filter_nothing (x ∷ xs) = filter_nothing xs

-- one test after another
pub filter_both : (p q : ℕ → Bool) (xs : List ℕ) → filter p (filter q xs) ≡ filter (λ n. q n && p n) xs
filter_both p q [] = refl
filter_both p q (x ∷ xs) = by (q x) refl (filter_both p q xs)
  where
    by : (b : Bool) → q x ≡ b → filter p (filter q xs) ≡ filter (λ n. q n && p n) xs →
        filter p (cond b (x ∷ filter q xs) (filter q xs)) ≡ cond (b && p x) (x ∷ filter (λ n. q n && p n) xs) (filter (λ n. q n && p n) xs)
    by true is rest = keep_if (p x) x (filter p (filter q xs)) (filter (λ n. q n && p n) xs) rest
    by false is rest = rest

pub has_filter : (p : ℕ → Bool) (n : ℕ) (xs : List ℕ) → has n (filter p xs) ≡ (has n xs && p n)
has_filter p n [] = refl
has_filter p n (x ∷ xs) = by (n == x) refl (p x) refl (has_filter p n xs)
  where
    alone : (b d : Bool) → b ≡ false → (d && b) ≡ b
    alone b true off = refl
    alone b false off = sym off

    by : (b : Bool) → (n == x) ≡ b → (d : Bool) → p x ≡ d → has n (filter p xs) ≡ (has n xs && p n) → has n (cond d (x ∷ filter p xs) (filter p xs)) ≡ ((b || has n xs) && p n)
    by true is true passes rest = ap (λ b. b || has n (filter p xs)) is ∙ sym (ap p (eqb-true n x is) ∙ passes)
    by true is false passes rest = rest ∙ alone (p n) (has n xs) (ap p (eqb-true n x is) ∙ passes)
    by false is true passes rest = ap (λ b. b || has n (filter p xs)) is ∙ rest
    by false is false passes rest = rest

-- ---- The numbers that follow one

pub after_within : (low count n : ℕ) → has n (after low count) ≡ true → (low < n) × (n ≤ low + count)
after_within low zero n there = absurd (cc)
after_within low (suc c) n there = by (n == suc low) refl there (λ in_rest. after_within (suc low) c n in_rest)
  where
    by : (b : Bool) → (n == suc low) ≡ b → (b || has n (after (suc low) c)) ≡ true → (has n (after (suc low) c) ≡ true → (suc low < n) × (n ≤ suc low + c)) → (low < n) × (n ≤ low + suc c)
    by true is there later = let same : n ≡ suc low = eqb-true n (suc low) is in (omega (arith, same), omega (arith, same))
    by false is there later = let rest = later there in let more = rest.0 in let less = rest.1 in (omega (arith, more), omega (arith, less))

pub after_has : (low count n : ℕ) → low < n → n ≤ low + count → has n (after low count) ≡ true
after_has low zero n more less = absurd (omega (arith, more, less))
after_has low (suc c) n more less = elim (cases_eq n (suc low)) [
  | inl same ↦ ap (λ b. b || has n (after (suc low) c)) (eq-eqb n (suc low) same)
  | inr other ↦ has_later n (suc low) (after (suc low) c) (after_has (suc low) c n (omega (arith, more, other)) (omega (arith, less)))
]

pub after_more : (low count : ℕ) → after low (count + 1) ≡ after low count ++ (low + count + 1) ∷ []
after_more low zero = ap (λ n. n ∷ []) (let e : suc low ≡ low + zero + 1 = omega arith in e)
after_more low (suc c) =
    ap (after low) (let e : suc c + 1 ≡ suc (c + 1) = omega arith in e)
    ∙ ap (λ ns. suc low ∷ ns) (after_more (suc low) c ∙ ap (λ n. after (suc low) c ++ n ∷ []) (let e : suc low + c + 1 ≡ low + suc c + 1 = omega arith in e))

-- ---- Rising lists

-- each is above the one before it, the first above this
abbrev pub Rising : ℕ → List ℕ → Type 0
Rising low [] = Unit {0}
Rising low (x ∷ xs) = (low < x) × Rising x xs

pub rising_from : (low high : ℕ) (xs : List ℕ) → low ≤ high → Rising high xs → Rising low xs
rising_from low high [] less up = tt
rising_from low high (x ∷ xs) less up = let more = up.0 in (omega (arith, less, more), up.1)

pub rising_above : (low : ℕ) (xs : List ℕ) → Rising low xs → (n : ℕ) → has n xs ≡ true → low < n
rising_above low [] up n there = absurd (cc)
rising_above low (x ∷ xs) up n there = by (n == x) refl there (λ in_rest. rising_above x xs up.1 n in_rest)
  where
    by : (b : Bool) → (n == x) ≡ b → (b || has n xs) ≡ true → (has n xs ≡ true → x < n) → low < n
    by true is there later = let same : n ≡ x = eqb-true n x is in let more = up.0 in omega (arith, same, more)
    by false is there later = let rest = later there in let more = up.0 in omega (arith, rest, more)

pub rising_filter : (p : ℕ → Bool) (low : ℕ) (xs : List ℕ) → Rising low xs → Rising low (filter p xs)
rising_filter p low [] up = tt
rising_filter p low (x ∷ xs) up = by (p x) (rising_filter p x xs up.1)
  where
    by : (b : Bool) → Rising x (filter p xs) → Rising low (cond b (x ∷ filter p xs) (filter p xs))
    by true rest = (up.0, rest)
    by false rest = let more = up.0 in rising_from low x (filter p xs) (omega (arith, more)) rest

-- a rising list is what is kept of the numbers up to its last one
pub listed : (low count : ℕ) (xs : List ℕ) → Rising low xs → ((n : ℕ) → has n xs ≡ true → n ≤ low + count) → filter (λ n. has n xs) (after low count) ≡ xs
listed low zero [] up few = refl
listed low zero (x ∷ xs) up few = let more = up.0 in let less = few x (has_here x xs) in absurd (omega (arith, more, less))
listed low (suc c) [] up few = filter_nothing (after low (suc c))
listed low (suc c) (x ∷ xs) up few = elim (cases_eq (suc low) x) [
  | inl same ↦
      ap (λ b. cond b (suc low ∷ rest_of x xs) (rest_of x xs)) (ap (λ k. has k (x ∷ xs)) same ∙ has_here x xs)
      ∙ (ap (λ k. k ∷ rest_of x xs) same
      ∙ ap (λ ns. x ∷ ns)
      (filter_same (λ n. has n (x ∷ xs)) (λ n. has n xs) (after (suc low) c)
      (λ n there. let more = (after_within (suc low) c n there).0 in ap (λ b. b || has n xs) (ne_eqb n x (λ is. omega (arith, is, more, same))))
      ∙ listed (suc low) c xs (rising_from (suc low) x xs (let e = same in omega (arith, e)) up.1)
      (λ n there. let less = few n (has_later n x xs there) in omega (arith, less))))
  | inr other ↦
      let above : suc low < x = let more = up.0 in omega (arith, more, other) in
      let out : has (suc low) (x ∷ xs) ≡ false = not_there (suc low) (x ∷ xs) (λ there. let more = rising_above (suc low) (x ∷ xs) (above, up.1) (suc low) there in omega (arith, more)) in
      ap (λ b. cond b (suc low ∷ rest_of x xs) (rest_of x xs)) out
      ∙ listed (suc low) c (x ∷ xs) (above, up.1) (λ n there. let less = few n there in omega (arith, less))
]
  where
    rest_of : ℕ → List ℕ → List ℕ
    rest_of x xs = filter (λ n. has n (x ∷ xs)) (after (suc low) c)

    not_there : (n : ℕ) (ys : List ℕ) → (has n ys ≡ true → ⊥) → has n ys ≡ false
    not_there n ys never = by (has n ys) refl
      where
        by : (b : Bool) → has n ys ≡ b → b ≡ false
        by true is = absurd (never is)
        by false is = refl

-- ---- A list that was sorted

position : (n : ℕ) (xs : List ℕ) (d : ℕ) → has n xs ≡ true → (j : ℕ) × ((j < length xs) × (get_or xs j d ≡ n))
position n [] d there = absurd (cc)
position n (x ∷ xs) d there = by (n == x) refl there (λ in_rest. position n xs d in_rest)
  where
    by : (b : Bool) → (n == x) ≡ b → (b || has n xs) ≡ true → (has n xs ≡ true → (j : ℕ) × ((j < length xs) × (get_or xs j d ≡ n))) → (j : ℕ) × ((j < length (x ∷ xs)) × (get_or (x ∷ xs) j d ≡ n))
    by true is there later = (0, (omega arith, sym (eqb-true n x is)))
    by false is there later = let p = later there in let less = p.1.0 in (suc p.0, (omega (arith, less), p.1.1))

later_falls : (x : ℕ) (xs : List ℕ) → IsNonDecreasing (x ∷ xs) → IsNonDecreasing xs
later_falls x xs up i j d le lt = up (suc i) (suc j) d (omega (arith, le)) (omega (arith, lt))

pub rising_sorted : (low : ℕ) (xs : List ℕ) → IsNonDecreasing xs → Once xs → ((n : ℕ) → has n xs ≡ true → low < n) → Rising low xs
rising_sorted low [] up once above = tt
rising_sorted low (x ∷ xs) up once above = (
  above x (has_here x xs),
  rising_sorted x xs (later_falls x xs up) once.1 (λ n there.
      let p = position n xs 0 there in
      let least : x ≤ get_or xs p.0 0 = up 0 (suc p.0) 0 (omega arith) (let less = p.1.0 in omega (arith, less)) in
      let is = p.1.1 in
      elim (cases_eq n x) [
        | inl same ↦ absurd (let never : true ≡ false = sym there ∙ (ap (λ k. has k xs) same ∙ once.0) in cc)
        | inr other ↦ omega (arith, least, is, other)
      ]),
)

-- ---- What is known

module _ (ended live : List ℕ) (made : ℕ) where
  pub known_has : (n : ℕ) → (is_tracked ended live n ≡ true → (0 < n) × (n ≤ made)) → has n (tracked_of ended live made) ≡ is_tracked ended live n
  known_has n within = has_filter (is_tracked ended live) n (after 0 made) ∙ by (is_tracked ended live n) refl
    where
      by : (b : Bool) → is_tracked ended live n ≡ b → (has n (after 0 made) && b) ≡ b
      by true is = let both = within is in let more = both.0 in let less = both.1 in ap (λ b. b && true) (after_has 0 made n more (omega (arith, less)))
      by false is = off (has n (after 0 made))
        where
          off : (b : Bool) → (b && false) ≡ false
          off true = refl
          off false = refl

  pub known_above_zero : has 0 (tracked_of ended live made) ≡ false
  known_above_zero = has_filter (is_tracked ended live) 0 (after 0 made) ∙ ap (λ b. b && is_tracked ended live 0) none
    where
      none : has 0 (after 0 made) ≡ false
      none = by (has 0 (after 0 made)) refl
        where
          by : (b : Bool) → has 0 (after 0 made) ≡ b → b ≡ false
          by true is = let more = (after_within 0 made 0 is).0 in absurd (omega (arith, more))
          by false is = refl

-- what is known is the same, where that is so of each number
pub known_same : (e f gs hs : List ℕ) (made : ℕ) → ((n : ℕ) → is_tracked e gs n ≡ is_tracked f hs n) → tracked_of e gs made ≡ tracked_of f hs made
known_same e f gs hs made same = filter_same (is_tracked e gs) (is_tracked f hs) (after 0 made) (λ n there. same n)

-- ---- A number more, at the end

pub has_snoc : (n y : ℕ) (xs : List ℕ) → has n (xs ++ y ∷ []) ≡ (has n xs || (n == y))
has_snoc n y [] = by (n == y)
  where
    by : (b : Bool) → (b || false) ≡ b
    by true = refl
    by false = refl
has_snoc n y (x ∷ xs) = by (n == x) (has_snoc n y xs)
  where
    by : (b : Bool) → has n (xs ++ y ∷ []) ≡ (has n xs || (n == y)) → (b || has n (xs ++ y ∷ [])) ≡ ((b || has n xs) || (n == y))
    by true rest = refl
    by false rest = rest

pub or_false : (b : Bool) → (b || false) ≡ b
or_false true = refl
or_false false = refl

pub once_snoc : (y : ℕ) (xs : List ℕ) → Once xs → has y xs ≡ false → Once (xs ++ y ∷ [])
once_snoc y [] once out = (refl, tt)
once_snoc y (x ∷ xs) once out = elim (cases_eq y x) [
  | inl same ↦ absurd (let never : true ≡ false = sym (ap (λ b. b || has y xs) (eq-eqb y x same)) ∙ out in cc)
  | inr other ↦ (
    has_snoc x y xs ∙ (ap (λ b. b || (x == y)) once.0 ∙ ne_eqb x y (λ is. other (sym is))),
    once_snoc y xs once.1 (ap (λ b. b || has y xs) (sym (ne_eqb y x other)) ∙ out),
  )
]

-- a group more, with the next number
pub known_more : (ended live : List ℕ) (made : ℕ) → tracked_of ended (live ++ (made + 1) ∷ []) (made + 1) ≡ tracked_of ended live made ++ (made + 1) ∷ []
known_more ended live made =
    ap (filter (is_tracked ended (live ++ (made + 1) ∷ []))) (after_more 0 made ∙ ap (λ n. after 0 made ++ n ∷ []) (let e : 0 + made + 1 ≡ made + 1 = omega arith in e))
    ∙ (filter-append (is_tracked ended (live ++ (made + 1) ∷ [])) (after 0 made) ((made + 1) ∷ [])
    ∙ (ap (λ ns. ns ++ filter (is_tracked ended (live ++ (made + 1) ∷ [])) ((made + 1) ∷ [])) before
    ∙ ap (λ b. tracked_of ended live made ++ cond b ((made + 1) ∷ []) []) last))
  where
    before : filter (is_tracked ended (live ++ (made + 1) ∷ [])) (after 0 made) ≡ tracked_of ended live made
    before = filter_same (is_tracked ended (live ++ (made + 1) ∷ [])) (is_tracked ended live) (after 0 made)
        (λ n there. let less = (after_within 0 made n there).1 in
        ap (λ b. has n ended || b) (has_snoc n (made + 1) live ∙ (ap (λ b. has n live || b) (ne_eqb n (made + 1) (λ is. omega (arith, is, less))) ∙ or_false (has n live))))

    last : is_tracked ended (live ++ (made + 1) ∷ []) (made + 1) ≡ true
    last = ap (λ b. has (made + 1) ended || b) (has_snoc (made + 1) (made + 1) live ∙ ap (λ b. has (made + 1) live || b) (eq-eqb (made + 1) (made + 1) refl)) ∙ or_true (has (made + 1) ended) (has (made + 1) live)
      where
        or_true : (a b : Bool) → (a || (b || true)) ≡ true
        or_true true b = refl
        or_true false true = refl
        or_true false false = refl

-- where nothing has ended, the live ones are known
pub known_live : (live : List ℕ) (made : ℕ) → Rising 0 live → ((n : ℕ) → has n live ≡ true → n ≤ made) → tracked_of [] live made ≡ live
known_live live made up few = listed 0 made live up (λ n there. let less = few n there in omega (arith, less))

count_both : (p : ℕ → Bool) (xs : List ℕ) → length (filter (λ n. not (p n)) xs) + length (filter p xs) ≡ length xs
count_both p [] = refl
count_both p (x ∷ xs) = by (p x) (count_both p xs)
  where
    by : (b : Bool) → length (filter (λ n. not (p n)) xs) + length (filter p xs) ≡ length xs →
        length (cond (not b) (x ∷ filter (λ n. not (p n)) xs) (filter (λ n. not (p n)) xs)) + length (cond b (x ∷ filter p xs) (filter p xs)) ≡ length (x ∷ xs)
    by true rest = omega (arith, rest)
    by false rest = omega (arith, rest)

-- the live ones are known, whatever has ended
pub known_counted : (ended live : List ℕ) (made : ℕ) → Rising 0 live → ((n : ℕ) → has n live ≡ true → n ≤ made) →
    length (filter (λ g. not (has g live)) (tracked_of ended live made)) + length live ≡ length (tracked_of ended live made)
known_counted ended live made up few =
    ap (λ (ns : List ℕ). length (filter (λ g. not (has g live)) (tracked_of ended live made)) + length ns) (sym kept)
    ∙ count_both (λ g. has g live) (tracked_of ended live made)
  where
    by : (b d : Bool) → ((b || d) && d) ≡ d
    by true d = refl
    by false true = refl
    by false false = refl

    kept : filter (λ g. has g live) (tracked_of ended live made) ≡ live
    kept =
        filter_both (λ g. has g live) (is_tracked ended live) (after 0 made)
        ∙ (filter_same (λ n. is_tracked ended live n && has n live) (λ n. has n live) (after 0 made) (λ n there. by (has n ended) (has n live))
        ∙ listed 0 made live up (λ n there. let less = few n there in omega (arith, less)))

-- those that have ended are those that are known less the live ones
pub ended_listed : (ended live sorted : List ℕ) (made : ℕ) → Rising 0 sorted → ((n : ℕ) → has n sorted ≡ has n ended) → ((n : ℕ) → has n ended ≡ true → has n live ≡ false) →
    ((n : ℕ) → has n ended ≡ true → n ≤ made) → filter (λ g. not (has g live)) (tracked_of ended live made) ≡ sorted
ended_listed ended live sorted made up same apart few =
    filter_both (λ g. not (has g live)) (is_tracked ended live) (after 0 made)
    ∙ (filter_same (λ n. is_tracked ended live n && not (has n live)) (λ n. has n sorted) (after 0 made) (λ n there. by n (has n ended) refl (has n live) refl ∙ sym (same n))
    ∙ listed 0 made sorted up (λ n there. let less = few n (sym (same n) ∙ there) in omega (arith, less)))
  where
    by : (n : ℕ) (b : Bool) → has n ended ≡ b → (d : Bool) → has n live ≡ d → ((b || d) && not d) ≡ b
    by n true is true is_live = absurd (let never : true ≡ false = sym is_live ∙ apart n is in cc)
    by n true is false is_live = refl
    by n false is true is_live = refl
    by n false is false is_live = refl

-- ---- Of those that have ended

pub false_or : (b : Bool) → (b ≡ true → ⊥) → b ≡ false
false_or true never = absurd (never refl)
false_or false never = refl

pub not_both : {X : Type 0} (b : Bool) → b ≡ true → b ≡ false → X
not_both true p q = absurd (cc)
not_both false p q = absurd (cc)

-- where the same ones are live
pub ended_alike : (ended : List ℕ) (room : ℕ) (gs hs : List ℕ) (made : ℕ) → hs ≡ gs → AreEnded ended room gs made → AreEnded ended room hs made
ended_alike ended room gs hs made same are = subst (λ ns. AreEnded ended room ns made) (sym same) are

-- where a group more is live, with the next number
pub ended_more : (ended : List ℕ) (room : ℕ) (live : List ℕ) (made : ℕ) → AreEnded ended room live made → length ended + length live + 1 ≤ room →
    AreEnded ended room (live ++ (made + 1) ∷ []) (made + 1)
ended_more ended room live made are fits = record {
  once = are.once;
  apart = λ n there.
      let less = (are.within n there).1 in
      has_snoc n (made + 1) live ∙ (ap (λ b. b || (n == made + 1)) (are.apart n there) ∙ ne_eqb n (made + 1) (λ is. omega (arith, is, less)));
  within = λ n there. let more = (are.within n there).0 in let less = (are.within n there).1 in (more, omega (arith, less));
  room = let long = length-append live ((made + 1) ∷ []) in omega (arith, long, fits);
}

-- ---- A group that was live has ended, if it was

-- with this number more, if it is so
abbrev pub with_one : Bool → ℕ → List ℕ → List ℕ
with_one b r ns = ns ++ cond b (r ∷ []) []

module _ (ended : List ℕ) (room : ℕ) (live : List ℕ) (made r : ℕ) (b : Bool) (was : has r live ≡ b) where
  abbrev pub less_one : List ℕ
  less_one = filter (λ q. not (r == q)) live

  one_more_has : (n : ℕ) (d : Bool) → has n (with_one d r ended) ≡ (has n ended || (d && (n == r)))
  one_more_has n true = has_snoc n r ended
  one_more_has n false = ap (has n) (append-nil ended) ∙ sym (or_false (has n ended))

  less_one_has : (n : ℕ) → has n less_one ≡ (has n live && not (r == n))
  less_one_has n = has_filter (λ q. not (r == q)) n live

  still_known : (n : ℕ) → is_tracked (with_one b r ended) less_one n ≡ is_tracked ended live n
  still_known n = elim (cases_eq n r) [
    | inl same ↦
        ap (λ c. c || has n less_one) (one_more_has n b) ∙ (ap (λ c. (has n ended || (b && (n == r))) || c) (less_one_has n)
        ∙ (ap (λ k. (has k ended || (b && (k == r))) || (has k live && not (r == k))) same
        ∙ (here (has r ended) b (r == r) (has r live) (eq-eqb r r refl) was ∙ sym (ap (λ k. is_tracked ended live k) same))))
    | inr other ↦
        ap (λ c. c || has n less_one) (one_more_has n b) ∙ (ap (λ c. (has n ended || (b && (n == r))) || c) (less_one_has n)
        ∙ there (has n ended) b (n == r) (has n live) (r == n) (ne_eqb n r other) (ne_eqb r n (λ is. other (sym is))))
  ]
    where
      here : (e b s l : Bool) → s ≡ true → l ≡ b → ((e || (b && s)) || (l && not s)) ≡ (e || l)
      here true b s l is_s is_l = refl
      here false true true true is_s is_l = refl
      here false true true false is_s is_l = absurd (cc)
      here false false true true is_s is_l = absurd (cc)
      here false false true false is_s is_l = refl
      here false b false l is_s is_l = absurd (cc)

      there : (e b s l m : Bool) → s ≡ false → m ≡ false → ((e || (b && s)) || (l && not m)) ≡ (e || l)
      there true b s l m is_s is_m = refl
      there false b true l m is_s is_m = absurd (cc)
      there false b false l true is_s is_m = absurd (cc)
      there false true false true false is_s is_m = refl
      there false true false false false is_s is_m = refl
      there false false false true false is_s is_m = refl
      there false false false false false is_s is_m = refl

  pub known_settled : tracked_of (with_one b r ended) less_one made ≡ tracked_of ended live made
  known_settled = known_same (with_one b r ended) ended less_one live made still_known

  pub ended_settled : AreEnded ended room live made → (0 < r) × (r ≤ made) → length less_one + cond b 1 0 ≡ length live → AreEnded (with_one b r ended) room less_one made
  ended_settled are within fewer = record {
    once = once_by b was;
    apart = λ n is. apart_by n b was (sym (one_more_has n b) ∙ is);
    within = λ n is. within_by n b (sym (one_more_has n b) ∙ is);
    room = let fits = are.room in room_by b fewer fits;
  }
    where
      once_by : (d : Bool) → has r live ≡ d → Once (with_one d r ended)
      once_by true there = once_snoc r ended are.once (false_or (has r ended) (λ is. not_both (has r live) there (are.apart r is)))
      once_by false out = subst Once (sym (append-nil ended)) are.once

      apart_by : (n : ℕ) (d : Bool) → has r live ≡ d → (has n ended || (d && (n == r))) ≡ true → has n less_one ≡ false
      apart_by n d was is = less_one_has n ∙ by (has n ended) refl (n == r) refl is
        where
          and_false : (l m : Bool) → m ≡ true → (l && not m) ≡ false
          and_false true true is = refl
          and_false false m is = refl
          and_false true false is = absurd (cc)

          never : {X : Type 0} (d : Bool) → (d && false) ≡ true → X
          never true is = absurd (cc)
          never false is = absurd (cc)

          by : (e : Bool) → has n ended ≡ e → (s : Bool) → (n == r) ≡ s → (e || (d && s)) ≡ true → (has n live && not (r == n)) ≡ false
          by true in_ended s is_s is = ap (λ c. c && not (r == n)) (are.apart n in_ended)
          by false out true is_s is = let same : n ≡ r = eqb-true n r is_s in and_false (has n live) (r == n) (eq-eqb r n (sym same))
          by false out false is_s is = never d is

      within_by : (n : ℕ) (d : Bool) → (has n ended || (d && (n == r))) ≡ true → (0 < n) × (n ≤ made)
      within_by n d is = by (has n ended) refl (n == r) refl is
        where
          never : {X : Type 0} (d : Bool) → (d && false) ≡ true → X
          never true is = absurd (cc)
          never false is = absurd (cc)

          by : (e : Bool) → has n ended ≡ e → (s : Bool) → (n == r) ≡ s → (e || (d && s)) ≡ true → (0 < n) × (n ≤ made)
          by true in_ended s is_s is = are.within n in_ended
          by false out true is_s is = subst (λ k. (0 < k) × (k ≤ made)) (sym (eqb-true n r is_s)) within
          by false out false is_s is = never d is

      room_by : (d : Bool) → length less_one + cond d 1 0 ≡ length live → length ended + length live ≤ room → length (with_one d r ended) + length less_one ≤ room
      room_by true fewer fits = let long = length-append ended (r ∷ []) in omega (arith, long, fewer, fits)
      room_by false fewer fits = let long = ap (λ (ns : List ℕ). length ns) (append-nil ended) in omega (arith, long, fewer, fits)
