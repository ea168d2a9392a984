-- The foot of a strand: nobody is under it, and it is where the threads that are under others end.
use Rattle.laws_places.proofs.Laws.{[], ap, arith, Core, foot_from, foot_of, found_none, get, if◌then◌else◌, inl, inr, is_at, is_under, length, List, nat_cmp, nat_lt, nat_tests, None, numbers, Option, option_map_or, Place, place_of, size, Some, subst, suc, Thread, under_of, under_place, unsigned_tied, zero, ℕ, ⊎_elim, ◌+◌, ◌∙◌, ◌∷◌, ◌≡◌, ◌≤◌, ◌⊎◌}
use Rattle.std.specs.FinMap.Entries.{find as seek}

-- who is under another is below it
abbrev pub Rising : Core → Type 0
Rising s = (n m : ℕ) → place_of n s ≡ Some (Place.Under m) → n + 1 ≤ m

-- how many entries of the list have a number below n
abbrev below : {X : Type 0} → ℕ → List (ℕ × X) → ℕ
below n [] = 0
below n (e ∷ es) = (if nat_lt e.0 n then 1 else 0) + below n es

below_most : {X : Type 0} (n : ℕ) (es : List (ℕ × X)) → below n es ≤ length es
below_most n [] = omega arith
below_most n (e ∷ es) = let rest = below_most n es in grind arith

below_more : {X : Type 0} (u n : ℕ) (es : List (ℕ × X)) → u + 1 ≤ n → below u es ≤ below n es
below_more u n [] h = omega arith
below_more u n (e ∷ es) h = let rest = below_more u n es h in grind (arith, nat_tests)

below_found : {X : Type 0} (u n : ℕ) (x : X) (es : List (ℕ × X)) → seek nat_cmp u es ≡ Some x → u + 1 ≤ n → below u es + 1 ≤ below n es
below_found u n x [] at h = absurd (grind arith)
below_found u n x (e ∷ es) at h =
    let rest = below_found u n x es in let more = below_more u n es h in let tied = unsigned_tied u e.0 in grind (arith, nat_tests)

-- who is under n is found
pub under_none : (n u : ℕ) (s : Core) → under_of n s ≡ None → place_of u s ≡ Some (Place.Under n) → ⊥
unfolding under_of numbers get
under_none n u s none at = by (get s.threads u) (λ i. get s.threads u)
  where
    by : (o : Option Thread) → get s.threads u ≡ o → ⊥
    by None is = absurd (grind arith)
    by (Some r) is = found_none (λ k. is_at k s (is_under n)) u r s.threads.list is (grind (arith, nat_tests)) none

deeper : (n u : ℕ) (s : Core) → place_of u s ≡ Some (Place.Under n) → u + 1 ≤ n → below u s.threads.list + 1 ≤ below n s.threads.list
unfolding get
deeper n u s at low = by (get s.threads u) (λ i. get s.threads u)
  where
    by : (o : Option Thread) → get s.threads u ≡ o → below u s.threads.list + 1 ≤ below n s.threads.list
    by None is = absurd (grind arith)
    by (Some r) is = below_found u n r s.threads.list is low

module _ (s : Core) (rising : Rising s) where
  -- nobody is under the last one
  bottom_from : (k n j : ℕ) → below n s.threads.list ≤ k → place_of j s ≡ Some (Place.Under (foot_from k s n)) → ⊥
  bottom_from zero n j enough at = let d = deeper n j s at (rising j n at) in absurd (omega (arith, d, enough))
  bottom_from (suc k) n j enough at = by (λ u. bottom_from k u j) (under_of n s) (λ i. under_of n s)
    where
      by : ((u : ℕ) → below u s.threads.list ≤ k → place_of j s ≡ Some (Place.Under (foot_from k s u)) → ⊥) → (o : Option ℕ) → under_of n s ≡ o → ⊥
      by rec None is = under_none n j s is (subst (λ (o : Option ℕ). place_of j s ≡ Some (Place.Under (option_map_or (foot_from k s) o n))) is at)
      by rec (Some u) is =
          let up = under_place n u s is in let d = deeper n u s up (rising u n up) in
          rec u (omega (arith, d, enough)) (subst (λ (o : Option ℕ). place_of j s ≡ Some (Place.Under (option_map_or (foot_from k s) o n))) is at)

  pub foot_bottom : (n j : ℕ) → place_of j s ≡ Some (Place.Under (foot_of n s)) → ⊥
  unfolding foot_of size
  foot_bottom n j at = bottom_from (size s.threads) n j (below_most n s.threads.list) at

-- the foot is the thread itself, or under another one
foot_from_place : (s : Core) (k i : ℕ) → (foot_from k s i ≡ i) ⊎ ((v : ℕ) × (place_of (foot_from k s i) s ≡ Some (Place.Under v)))
foot_from_place s zero i = inl (λ j. i)
foot_from_place s (suc k) i = by (λ v. foot_from_place s k v) (under_of i s) (λ j. under_of i s)
  where
    by : ((v : ℕ) → (foot_from k s v ≡ v) ⊎ ((y : ℕ) × (place_of (foot_from k s v) s ≡ Some (Place.Under y)))) → (o : Option ℕ) → under_of i s ≡ o →
        (option_map_or (foot_from k s) (under_of i s) i ≡ i) ⊎ ((y : ℕ) × (place_of (option_map_or (foot_from k s) (under_of i s) i) s ≡ Some (Place.Under y)))
    by rec None is = inl (ap (λ (o : Option ℕ). option_map_or (foot_from k s) o i) is)
    by rec (Some v) is =
        let same : option_map_or (foot_from k s) (under_of i s) i ≡ foot_from k s v = ap (λ (o : Option ℕ). option_map_or (foot_from k s) o i) is in
        let up = under_place i v s is in
        inr (⊎_elim (λ e. (i, ap (λ (x : ℕ). place_of x s) (same ∙ e) ∙ up)) (λ y. (y.0, ap (λ (x : ℕ). place_of x s) same ∙ y.1)) (rec v))

pub foot_place : (m : ℕ) (s : Core) → (foot_of m s ≡ m) ⊎ ((v : ℕ) × (place_of (foot_of m s) s ≡ Some (Place.Under v)))
unfolding foot_of
foot_place m s = foot_from_place s (size s.threads) m

-- From a thread down through those that are under it.
pub data Down (s : Core) : ℕ → ℕ → Type 0 where
  Here : (n : ℕ) → Down s n n
  Below : (n u f : ℕ) → place_of u s ≡ Some (Place.Under n) → Down s u f → Down s n f

-- the last one is the first one, or under another
pub last_under : {s : Core} (n j : ℕ) → Down s n j → (n ≡ j) ⊎ ((m : ℕ) × (place_of j s ≡ Some (Place.Under m)))
last_under n j (Here _) = inl (λ i. n)
last_under n j (Below _ u _ up d) = ⊎_elim (λ e. inr (n, grind (arith, up, e))) inr (last_under u j d)

pub down_further : (s : Core) (n m j : ℕ) → Down s n m → place_of j s ≡ Some (Place.Under m) → Down s n j
down_further s n m j (Here _) at = Below n j j at (Here j)
down_further s n m j (Below _ u f up d) at = Below n u j up (down_further s u m j d at)

module _ (s : Core) (rising : Rising s) (alone : (n k m : ℕ) → place_of n s ≡ Some (Place.Under m) → place_of k s ≡ Some (Place.Under m) → n ≡ k) where
  -- the last one is found
  lowest_from : (k n f : ℕ) → below n s.threads.list ≤ k → Down s n f → ((j : ℕ) → place_of j s ≡ Some (Place.Under f) → ⊥) → foot_from k s n ≡ f
  lowest_from zero n f enough (Here _) none = λ i. n
  lowest_from zero n f enough (Below _ u g up d) none = let e = deeper n u s up (rising u n up) in absurd (omega (arith, e, enough))
  lowest_from (suc k) n f enough (Here _) none = by (under_of n s) (λ i. under_of n s)
    where
      by : (o : Option ℕ) → under_of n s ≡ o → option_map_or (foot_from k s) (under_of n s) n ≡ n
      by None is = ap (λ (o : Option ℕ). option_map_or (foot_from k s) o n) is
      by (Some u) is = absurd (none u (under_place n u s is))
  lowest_from (suc k) n f enough (Below _ u g up d) none = by (λ low. lowest_from k u f low d none) (under_of n s) (λ i. under_of n s)
    where
      by : (below u s.threads.list ≤ k → foot_from k s u ≡ f) → (o : Option ℕ) → under_of n s ≡ o → option_map_or (foot_from k s) (under_of n s) n ≡ f
      by rec None is = absurd (under_none n u s is up)
      by rec (Some v) is =
          let e = deeper n u s up (rising u n up) in
          let same = alone v u n (under_place n v s is) up in
          ap (λ (o : Option ℕ). option_map_or (foot_from k s) o n) is ∙ (ap (λ (w : ℕ). foot_from k s w) same ∙ rec (omega (arith, e, enough)))

  pub lowest : (n f : ℕ) → Down s n f → ((j : ℕ) → place_of j s ≡ Some (Place.Under f) → ⊥) → foot_of n s ≡ f
  unfolding foot_of size
  lowest n f d none = lowest_from (size s.threads) n f (below_most n s.threads.list) d none
