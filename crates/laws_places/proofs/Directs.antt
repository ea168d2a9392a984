-- Under the first thread of a direct call there is another one, along the primitives of a step.
use Rattle.laws_places.proofs.Laws.{arith, at_place, Core, DirectsOnTop, DirectsRun, false, get, goal_of, inl, inr, is_direct, None, Numbered, Option, Place, place_of, refl, Scene, Some, Steady, task_of, Thread, true, Turn, ℕ, ◌∙◌, ◌≡◌, ◌≤◌, ◌⊎◌}
use Rattle.laws_places.proofs.PlaceLaw.{Arrives}

module _ (a : Scene) (s t : Core) (steady : Steady s t) (before : Numbered s) (after : Numbered t) (arrives : Arrives a t)
    (home : (k : ℕ) → place_of k a.base ≡ place_of k s) (calls : (k : ℕ) → goal_of k a.base ≡ goal_of k s) where
  pub directs_on_top : DirectsOnTop s → DirectsRun a t → DirectsOnTop t
  directs_on_top top runs m there implicit direct =
      let u = at_place (λ (r : Thread). true) (get t.threads m) (grind arith) in
      by_place u.0 u.1.0 (place_of m s) refl
    where
      -- it is the call's first thread
      own : (u : Thread) → get t.threads m ≡ Some u → task_of m t ≡ m
      own u at = let o = (after.threads m u at).own in grind arith

      of_call : (u : Thread) → get t.threads m ≡ Some u → is_direct (goal_of m t) ≡ true
      of_call u at = let o = own u at in grind arith

      -- who was there had it under itself
      still : (r u : Thread) → get s.threads m ≡ Some r → get t.threads m ≡ Some u → (n : ℕ) × (place_of n t ≡ Some (Place.Under m))
      still r u was at =
          let below = (before.threads m r was).number in
          let same = steady.threads m below in
          let first : r.explicit ≡ false = grind arith in
          let call = (before.threads m r was).own first in
          let direct = of_call u at in
          let later = steady.calls m below in
          let e = top m (grind arith) (grind arith) (grind arith) in
          let c = arrives.covered e.0 m (home e.0 ∙ e.1) in (e.0, grind arith)

      -- who was not is the new one, which runs
      entered : (u : Thread) → get t.threads m ≡ Some u → place_of m s ≡ None →
          (is_direct (goal_of m a.base) ≡ true) ⊎ (a.next ≡ Turn.Run m) → (n : ℕ) × (place_of n t ≡ Some (Place.Under m))
      entered u at none (inr next) = let e = arrives.entered m (home m ∙ none) next in (e.0, e.1.1)
      entered u at none (inl was) =
          let is = calls m in
          let below : m ≤ s.made.threads = grind (arith, before.calls m) in
          let later = steady.threads m below in absurd (grind arith)

      by_place : (u : Thread) → get t.threads m ≡ Some u → (o : Option Place) → place_of m s ≡ o →
          (n : ℕ) × (place_of n t ≡ Some (Place.Under m))
      by_place u at None none = entered u at none (runs m (of_call u at))
      by_place u at (Some p) is = let r = at_place (λ (r : Thread). true) (get s.threads m) (grind arith) in still r.0 u r.1.0 at
