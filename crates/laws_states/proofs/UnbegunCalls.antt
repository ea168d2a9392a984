-- Where the first thread of a call waits for its start: along the primitives of a step.
use Rattle.laws_states.proofs.Primitives.{after_primitive, Allowed, arith, Bool, call_came, CallAfter, CallEnd, CallsGo, CallsHold, came_primitive, Comes, component_of, Core, end_of, Exits, false, get, GivesUp, Grown, HasNotRun, inl, inr, is_explicit, is_fresh, is_some, IsBeside, IsFirst, IsGone, IsSame, IsWithdrawn, MayEnd, MayMove, MayStand, Moved, NewCall, next_thread, NoCall, None, not, Option, option_map_or, Place, place_of, PlaceAfter, refl, ReturnsNow, Scene, Shifts, Some, StartsFirst, task_of, Thread, thread_came, ThreadAfter, true, Turn, Turns, WasReady, Why, Primitive, ℕ, ⊎_elim, ◌&&◌, ◌≡◌, ◌⊎◌}

abbrev is_new_start : Option Place → Bool
is_new_start o = is_some o && is_fresh o

-- the first thread of a call waits for its start
abbrev pub first_waits : ℕ → Core → Bool
first_waits k s = option_map_or (λ (t : Thread). not t.explicit && is_fresh (Some t.place)) (get s.threads k) false

-- it did so before the step, or is made in it
abbrev pub Waited : Scene → ℕ → Type 0
Waited a k = (first_waits k a.base ≡ true) ⊎ (k ≡ next_thread a.base)

pub record Unbegun (a : Scene) (s : Core) : Type 0 where
  pub came : (k : ℕ) → first_waits k s ≡ true → Waited a k
  pub rest : (k : ℕ) → Waited a k → is_some (get s.threads k) ≡ true → HasNotRun s k

-- who waits for its start after a primitive did so before it, or before the step, or is new
stands_fresh : (a : Scene) (s : Core) (k : ℕ) (o p : Option Place) → o ≡ place_of k s → is_explicit k s ≡ false → Moved (MayStand a s k) o p → is_new_start p ≡ true → is_new_start o ≡ true
stands_fresh a s k o p is first m f = grind arith

moves_fresh : (a : Scene) (s : Core) (k : ℕ) (p : Place) → MayMove a k p s → is_fresh (Some p) ≡ true → WasReady a k Why.Start
moves_fresh a s k p m f = grind arith

module _ (a : Scene) (h : CallsHold (component_of a) a.base) (runs : (n : ℕ) → a.turn ≡ Turn.Run n → place_of n a.base ≡ Some Place.Running) (starts : StartsFirst a.base) where
  -- no running thread is of its call
  apart : (k n : ℕ) → Waited a k → a.turn ≡ Turn.Run n → k ≡ task_of n a.base → ⊥
  apart k n (inl waits) to own = by (get a.base.threads k) refl
    where
      by : (o : Option Thread) → get a.base.threads k ≡ o → ⊥
      by None at = absurd (grind arith)
      by (Some t) at = let r = runs n to in let alone = (starts k t at (grind arith) (grind arith)).alone n in absurd (grind arith)
  apart k n (inr new) to own = let r = runs n to in let low = h.numbered.threads n in absurd (grind arith)

  unended : (k : ℕ) (e : CallEnd) (s : Core) → Waited a k → is_some (get s.threads k) ≡ true → MayEnd a k e s → ⊥
  unended k e s w there (ReturnsNow n runner to own live lifted is) = apart k n w to own
  unended k e s w there (GivesUp n runner to own live given is) = apart k n w to own
  unended k e s w there (Exits n runner to exit own first kind same is) = apart k n w to own
  unended k e s w there (IsWithdrawn may gone is) = absurd (grind arith)

  module _ (w : Primitive) (s : Core) (ok : Allowed a w s) (go : CallsGo a s) (q : Unbegun a s) where
    came_after : (k : ℕ) → first_waits k (after_primitive w s) ≡ true → Waited a k
    came_after k waits = by (thread_came w s ok k) (came_primitive w s ok k)
      where
        ready : (r : Thread) → get s.threads k ≡ Some r → r.explicit ≡ false → WasReady a k Why.Start → Waited a k
        ready r at first was = let below = h.numbered.threads k in let since = go.threads k in inl (grind arith)

        placed : (r u : Thread) → get s.threads k ≡ Some r → get (after_primitive w s).threads k ≡ Some u → r.explicit ≡ false → is_fresh (Some u.place) ≡ true → PlaceAfter a w s k → Waited a k
        placed r u e f first fresh (Shifts m) = let before = stands_fresh a s k (place_of k s) (place_of k (after_primitive w s)) refl (grind arith) m (grind arith) in q.came k (grind arith)
        placed r u e f first fresh (Comes p m is there) = ready r e first (moves_fresh a s k p m (grind arith))
        placed r u e f first fresh (Turns x) = absurd (let low = (go.numbered.threads k r e).number in grind arith)

        by : ThreadAfter a w s k → PlaceAfter a w s k → Waited a k
        by (IsSame r u e f call explicit far place on) p = placed r u e f (grind arith) (grind arith) p
        by (IsGone e) p = absurd (grind arith)
        by (IsBeside u is l same m e) p = absurd (grind arith)
        by (IsFirst u is l there x y far new e z) p = let c : CallAfter a w s k = call_came w s ok k in let none = go.numbered.calls k in inr (grind arith)

    -- the thread was there, or it is new, and the call too
    was_there : (k : ℕ) → ThreadAfter a w s k → is_some (get (after_primitive w s).threads k) ≡ true → (is_some (get s.threads k) ≡ true) ⊎ (k ≡ next_thread s)
    was_there k x there = grind arith

    rest_after : (k : ℕ) → Waited a k → is_some (get (after_primitive w s).threads k) ≡ true → HasNotRun (after_primitive w s) k
    rest_after k waited there = by (was_there k (thread_came w s ok k) there)
      where
        ends : ((e : CallEnd) → MayEnd a k e s → is_some (get s.calls k) ≡ true → ⊥) → end_of k s ≡ None → CallAfter a w s k → end_of k (after_primitive w s) ≡ None
        ends none before (Grown c d e f g) = ⊎_elim (λ same. grind arith) (λ now. absurd (none now.0 now.1.1 (grind arith))) g.ended
        ends none before (NoCall e r) = grind arith
        ends none before (NewCall f e x g group is l m new) = grind arith

        alone : (n : ℕ) (t : Thread) → get (after_primitive w s).threads n ≡ Some t → t.call ≡ k → ((r : Thread) → get s.threads n ≡ Some r → r.call ≡ k → n ≡ k) → ThreadAfter a w s n → n ≡ k
        alone n t at of before (IsSame r u e f call explicit far place on) = before r e (grind arith)
        alone n t at of before (IsGone e) = absurd (grind arith)
        alone n t at of before (IsBeside u is l same m e) = absurd (apart k m.0 waited m.1.1.1.1.1.1.1.1 (let made = m.1.1.1.1.1.0 in grind arith))
        alone n t at of before (IsFirst u is l there x y far new e z) = grind arith

        by : (is_some (get s.threads k) ≡ true) ⊎ (k ≡ next_thread s) → HasNotRun (after_primitive w s) k
        by (inl old) = let r = q.rest k waited old in record {
          unended = ends (λ e may call. unended k e s waited old may) r.unended (call_came w s ok k);
          alone = λ n t at of. alone n t at of (r.alone n) (thread_came w s ok n);
        }
        by (inr new) = let none = go.numbered.calls k in record {
          unended = ends (λ e may call. absurd (grind arith)) (grind arith) (call_came w s ok k);
          alone = λ n t at of. alone n t at of (λ r was is. let low = (go.numbered.threads n r was).call in absurd (grind arith)) (thread_came w s ok n);
        }

  pub unbegun_primitive : (w : Primitive) (s : Core) → Allowed a w s → CallsGo a s → Unbegun a s → Unbegun a (after_primitive w s)
  unbegun_primitive w s ok go q = record { came = came_after w s ok go q; rest = rest_after w s ok go q }
