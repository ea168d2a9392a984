-- Who is under whom, along the primitives of a step.
use Rattle.laws_states.proofs.Primitives.{after_primitive, Allowed, arith, Came, came_primitive, Comes, Core, inl, inr, is_some, is_there, IsRunner, made_threads_primitive, MayMove, Moved, next_thread, Option, Place, place_of, Scene, Shifts, Some, true, Turned, Turns, Why, Primitive, ℕ, ◌+◌, ◌≡◌, ◌≤◌, ◌⊎◌}

-- On the way of a step: who is under a thread that was made now is the running one.
pub record Layered (a : Scene) (s : Core) : Type 0 where
  pub numbered : (n : ℕ) → is_there n s ≡ true → n ≤ s.made.threads
  pub below : (n m : ℕ) → place_of n s ≡ Some (Place.Under m) → n + 1 ≤ m
  pub made : (n m : ℕ) → place_of n s ≡ Some (Place.Under m) → m ≤ s.made.threads
  pub fresh : (n m : ℕ) → place_of n s ≡ Some (Place.Under m) → (m ≤ a.base.made.threads) ⊎ (IsRunner a n × (m ≡ next_thread a.base))
  pub alone : (n k m : ℕ) → place_of n s ≡ Some (Place.Under m) → place_of k s ≡ Some (Place.Under m) → n ≡ k

-- who runs or was taken has a number that was given
abbrev pub RunnerGiven : Scene → Type 0
RunnerGiven a = (n : ℕ) → IsRunner a n → n ≤ a.base.made.threads

-- the running thread has come under a thread that was just made
abbrev NowUnder : Scene → Core → ℕ → ℕ → Type 0
NowUnder a s k m = IsRunner a k × ((m ≡ next_thread a.base) × (place_of m s ≡ Some Place.New))

shifted_under : (may : Why → Type 0) (m : ℕ) (o p : Option Place) → Moved may o p → p ≡ Some (Place.Under m) → o ≡ Some (Place.Under m)
shifted_under may m o p c h = grind arith

comes_not_under : (a : Scene) (k m : ℕ) (q : Place) (s : Core) → MayMove a k q s → q ≡ Place.Under m → ⊥
comes_not_under a k m q s c h = grind arith

turned_under : (a : Scene) (s t : Core) (k m : ℕ) (o p : Option Place) → Turned a s t k o p → p ≡ Some (Place.Under m) → NowUnder a s k m
turned_under a s t k m o p c h = grind arith

-- a thread that is there was there before, or was just made
there_came : (a : Scene) (s t : Core) (k : ℕ) (o p : Option Place) → Came a s t k o p → is_some p ≡ true →
    (is_some o ≡ true) ⊎ (k ≤ t.made.threads)
there_came a s t k o p c h = grind arith

-- the thread was under that one before, or has come there now
under_came : (a : Scene) (s t : Core) (k m : ℕ) (o p : Option Place) → Came a s t k o p → p ≡ Some (Place.Under m) →
    (o ≡ Some (Place.Under m)) ⊎ NowUnder a s k m
under_came a s t k m o p (Shifts c) h = inl (shifted_under _ m o p c h)
under_came a s t k m o p (Comes q c e there) h = absurd (comes_not_under a k m q s c (cc))
under_came a s t k m o p (Turns c) h = inr (turned_under a s t k m o p c h)

module _ (a : Scene) (given : RunnerGiven a) (w : Primitive) (s : Core) (ok : Allowed a w s) (q : Layered a s) where
  came : (n m : ℕ) → place_of n (after_primitive w s) ≡ Some (Place.Under m) → (place_of n s ≡ Some (Place.Under m)) ⊎ NowUnder a s n m
  came n m e = under_came a s (after_primitive w s) n m (place_of n s) (place_of n (after_primitive w s)) (came_primitive w s ok n) e

  pub layered_primitive : Layered a (after_primitive w s)
  layered_primitive = record {
    numbered = λ n h. let c = there_came a s _ n (place_of n s) _ (came_primitive w s ok n) h in let b = made_threads_primitive a w s in
        grind (arith, q.numbered n);
    below = λ n m e. let c = came n m e in grind (arith, q.below n m, given n);
    made = λ n m e. let c = came n m e in let b = made_threads_primitive a w s in grind (arith, q.made n m, q.numbered m);
    fresh = λ n m e. let c = came n m e in grind (arith, q.fresh n m);
    alone = λ n k m e f. let c = came n m e in let d = came k m f in grind (arith, q.alone n k m, q.fresh n m, q.fresh k m);
  }
