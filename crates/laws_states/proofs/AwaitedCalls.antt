-- The call that an op is inside of is there: along the primitives of a step.
use Rattle.laws_states.proofs.Primitives.{after_primitive, Allowed, ap, arith, Bool, Call, call_came, CallAfter, CallEnd, CallsAwaited, cancelled_call, Core, end_of, false, get, goal_of, has_ended, HasCalled, op_progress_of, OpProgress, inl, inr, is_awaited, is_deletable, is_direct, is_none, is_returned, IsNamed, IsRunner, IsStarting, MayCome, MayTakeEvent, MayTell, next_thread, None, Numbered, OnlyCalled, op_came, Option, option_map_or, Place, place_of, refl, Scene, Some, StartsFirst, Status, subst, Subtask, sym, TakesCalled, TakesCancelled, TakesNamed, Thread, true, Turn, Primitive, ℕ, ⊎_elim, ◌&&◌, ◌||◌, ◌∙◌, ◌≡◌, ◌≤◌, ◌⊎◌}
use Rattle.laws_states.proofs.{CallEnds.EndsNow, CallEnds.Gone, CallEnds.Made, CallEnds.Same, CallEnds.Telling, CallEnds.TellingCame, CallEnds.TellsNow, CallEnds.ending, CallEnds.is_for_guest, CallEnds.telling_came, CallEnds.telling_of, NamedCalls.NamesGo, NamedCalls.NamesHold, NamedCalls.WasInside, NamedCalls.called_call, NamedCalls.calls_call, NamedCalls.unnamed_inside}

-- ---- Which calls are direct

-- a direct call was so before the step, or its thread runs next
abbrev pub DirectsRun : Scene → Core → Type 0
DirectsRun a s = (k : ℕ) → is_direct (goal_of k s) ≡ true → (is_direct (goal_of k a.base) ≡ true) ⊎ (a.next ≡ Turn.Run k)

pub directs_primitive : (a : Scene) (w : Primitive) (s : Core) → Allowed a w s → DirectsRun a s → DirectsRun a (after_primitive w s)
directs_primitive a w s ok q k direct = let i : CallAfter a w s k = call_came w s ok k in grind (arith, q k)

-- ---- On the way of a step

abbrev Awaited : ℕ → Core → Type 0
Awaited k s = option_map_or is_awaited (get s.calls k) false ≡ true

-- where the op of n is inside of the call k: its thread was under the call's one, or the call is awaited, or it's the direct one that begins
abbrev pub Inside : Scene → ℕ → ℕ → Core → Type 0
Inside a n k s = (place_of n a.base ≡ Some (Place.Under k)) ⊎ ((option_map_or is_awaited (get s.calls k) false ≡ true) ⊎
    ((k ≡ next_thread a.base) × (IsRunner a n × (a.next ≡ Turn.Run k))))

pub record CallsInside (a : Scene) (s : Core) : Type 0 where
  pub inside : (n k : ℕ) → op_progress_of n s ≡ OpProgress.Calls (Subtask.Guest k) → Inside a n k s
  pub cancelled : (m k : ℕ) → cancelled_call (op_progress_of m s) ≡ Some k → (cancelled_call (op_progress_of m a.base) ≡ Some k) ⊎ IsNamed a (Subtask.Guest k)

-- what is awaited, as it is told
abbrev awaits : Option Telling → Bool
awaits o = option_map_or (λ r. is_for_guest r && (is_none r.ends || is_returned r.event)) o false

awaits_is : (k : ℕ) (s : Core) → awaits (telling_of k s) ≡ option_map_or is_awaited (get s.calls k) false
awaits_is k s = grind arith

-- an awaited call isn't deleted once it has ended
kept_ended : (k : ℕ) (s : Core) → Awaited k s → is_deletable k s ≡ true → has_ended k s ≡ true → ⊥
unfolding is_deletable
kept_ended k s w d e = absurd (grind arith)

-- what no cancel has come to ends as returned
ends_returned : (n k : ℕ) (s : Core) (u : Telling) (x : CallEnd) → OnlyCalled n k s → telling_of k s ≡ Some (ending x u) → awaits (Some u) ≡ true → awaits (Some (ending x u)) ≡ true
ends_returned n k s u x only at h = by (get s.calls k) refl
  where
    by : (o : Option Call) → get s.calls k ≡ o → awaits (Some (ending x u)) ≡ true
    by None is = absurd (grind arith)
    by (Some c) is = let q = (only c is).1.1 in grind arith

cancel_named : (a : Scene) (m k : ℕ) (s : Core) (g : OpProgress) → MayCome a m g s → cancelled_call g ≡ Some k → (cancelled_call (op_progress_of m a.base) ≡ Some k) ⊎ IsNamed a (Subtask.Guest k)
cancel_named a m k s (OpProgress.Cancels (Subtask.Guest j)) may is = grind arith
cancel_named a m k s (OpProgress.AwaitsEnd (Subtask.Guest j)) may is = grind arith
cancel_named a m k s g may is = absurd (grind arith)

module _ (a : Scene) (base : NamesHold a.base) (calls : CallsAwaited a.base) (starts : StartsFirst a.base) (numbered : Numbered a.base) (least : (m k : ℕ) → cancelled_call (op_progress_of m a.base) ≡ Some k → k ≤ a.base.made.threads) where
  -- the call of a thread that was taken to start hasn't ended
  starting_unended : (k : ℕ) (s : Core) → IsStarting a k s → end_of k s ≡ None
  starting_unended k s (m, (runner, (ready, (first, (own, same))))) = same ∙ by (get a.base.threads m) refl
    where
      by : (o : Option Thread) → get a.base.threads m ≡ o → end_of k a.base ≡ None
      by None at = let x = ready.1 in absurd (grind arith)
      by (Some t) at =
          let x = ready.1 in let r = (numbered.threads m t at).own (grind arith) in
          let waits = (starts m t at (grind arith) (grind arith)).unended in grind arith

  -- nobody cancels the call
  uncancelled : (n m k : ℕ) → WasInside a n k → cancelled_call (op_progress_of m a.base) ≡ Some k → ⊥
  uncancelled n m k (inl was) c = calls.apart n m k was c
  uncancelled n m k (inr new) c = let low = least m k c in absurd (grind arith)

  module _ (w : Primitive) (s : Core) (ok : Allowed a w s) (q : NamesGo a s) (after : NamesGo a (after_primitive w s)) (n k : ℕ) (was : WasInside a n k)
      (own : (m : ℕ) → op_progress_of m a.base ≡ OpProgress.Calls (Subtask.Guest k) → op_progress_of m s ≡ OpProgress.Fresh → ⊥) where
    taken : (u : Telling) → awaits (Some u) ≡ true → telling_of k s ≡ Some u → MayTakeEvent a k s → awaits (Some (record u { event = None })) ≡ true
    taken u w at (TakesNamed named) = absurd (unnamed_inside a base n k was named)
    taken u w at (TakesCancelled m runner far) = absurd (uncancelled n m k was (grind arith))
    taken u w at (TakesCalled m runner far (inl done)) = absurd (own m far done)
    taken u w at (TakesCalled m runner far (inr other)) = grind arith

    tells : (u : Telling) (e : Option Status) → awaits (Some u) ≡ true → telling_of k s ≡ Some u → MayTell a k e s → awaits (Some (record u { event = e })) ≡ true
    tells u None w at may = taken u w at may
    tells u (Some e) w at may = let none = starting_unended k s may.1.1 in grind arith

    awaited_stays : op_progress_of n (after_primitive w s) ≡ OpProgress.Calls (Subtask.Guest k) → Awaited k s → Awaited k (after_primitive w s)
    awaited_stays far aw = sym (awaits_is k (after_primitive w s)) ∙ go (telling_came a w s ok k) (awaits_is k s ∙ aw)
      where
        go : TellingCame a s k (telling_of k s) (telling_of k (after_primitive w s)) → awaits (telling_of k s) ≡ true → awaits (telling_of k (after_primitive w s)) ≡ true
        go (Same is) h = ap awaits is ∙ h
        go (Gone is may) h = absurd (⊎_elim (λ ended. kept_ended k s aw may.0 ended) (λ m. own m.0 m.1.1.0 m.1.1.1) may.1)
        go (Made f g is fits at) h = absurd (let low = q.hold.number k in grind arith)
        go (TellsNow u e is may at) h = ap awaits at ∙ tells u e (ap awaits (sym is) ∙ h) is may
        go (EndsNow u x is may at) h = ap awaits at ∙ ends_returned n k (after_primitive w s) u x (after.hold.known.called n k far) at (ap awaits (sym is) ∙ h)

  -- the op that is inside of the call and is done is that of n
  module _ (w : Primitive) (s : Core) (ok : Allowed a w s) (q : NamesGo a s) (after : NamesGo a (after_primitive w s)) (direct : DirectsRun a s) (p : CallsInside a s) where
    inside_after : (n k : ℕ) → op_progress_of n (after_primitive w s) ≡ OpProgress.Calls (Subtask.Guest k) → Inside a n k (after_primitive w s)
    inside_after n k far = by (after.were n k far)
      where
        -- what was inside of it before the primitive, or comes so
        goes : WasInside a n k → ((m : ℕ) → op_progress_of m a.base ≡ OpProgress.Calls (Subtask.Guest k) → m ≡ n) → Inside a n k (after_primitive w s)
        goes was one = go (op_came called_call k w s ok n refl (ap called_call far))
          where
            stays : ((m : ℕ) → op_progress_of m a.base ≡ OpProgress.Calls (Subtask.Guest k) → op_progress_of m s ≡ OpProgress.Fresh → ⊥) → Inside a n k s → Inside a n k (after_primitive w s)
            stays own (inl under) = inl under
            stays own (inr (inl aw)) = inr (inl (awaited_stays w s ok q after n k was own far aw))
            stays own (inr (inr new)) = inr (inr new)

            old : op_progress_of n s ≡ OpProgress.Calls (Subtask.Guest k) → Inside a n k (after_primitive w s)
            old far = stays (λ m at done. let same = one m at in absurd (grind arith)) (p.inside n k far)

            new : k ≡ next_thread a.base → IsRunner a n → HasCalled n k s → (b : Bool) → is_direct (goal_of k s) ≡ b → Inside a n k (after_primitive w s)
            new is runner called true d = let c = numbered.calls k in inr (inr (is, (runner, ⊎_elim (λ was. absurd (grind arith)) (λ next. next) (direct k d))))
            new is runner called false d = let e = called.1.0 in let c = called.0.0 in
                stays (λ m at done. let low = base.least m k at in absurd (grind arith)) (inr (inl (grind arith)))

            come : MayCome a n (OpProgress.Calls (Subtask.Guest k)) s → Inside a n k (after_primitive w s)
            come (is, inl (was, far)) = old far
            come (is, inr (at, called)) = new at.0 is called (is_direct (goal_of k s)) refl

            go : (called_call (op_progress_of n s) ≡ Some k) ⊎ ((g : OpProgress) × (MayCome a n g s × (called_call g ≡ Some k))) → Inside a n k (after_primitive w s)
            go (inl was) = old (calls_call (op_progress_of n s) k was)
            go (inr (g, (may, is))) = come (subst (λ f. MayCome a n f s) (calls_call g k is) may)

        -- the call is there, and says whose it is
        whose : (m : ℕ) → op_progress_of n a.base ≡ OpProgress.Calls (Subtask.Guest k) → op_progress_of m a.base ≡ OpProgress.Calls (Subtask.Guest k) → Awaited k a.base → m ≡ n
        whose m at also aw = one (get a.base.calls k) refl
          where
            one : (o : Option Call) → get a.base.calls k ≡ o → m ≡ n
            one None is = absurd (grind arith)
            one (Some c) is = let x = (base.known.called n k at c is).0 in let y = (base.known.called m k also c is).0 in grind arith

        by : WasInside a n k → Inside a n k (after_primitive w s)
        by (inl was) = ⊎_elim (λ under. inl under) (λ aw. goes (inl was) (λ m at. whose m was at aw)) (calls.inside n k was)
        by (inr new) = goes (inr new) (λ m at. let low = base.least m k at in absurd (grind arith))

    pub inside_primitive : CallsInside a (after_primitive w s)
    inside_primitive = record {
      inside = inside_after;
      cancelled = λ m k e. ⊎_elim (p.cancelled m k) (λ c. cancel_named a m k s c.0 c.1.0 c.1.1) (op_came cancelled_call k w s ok m refl e);
    }

  -- no op cancels what another one is inside of
  pub apart_after : (t : Core) → NamesGo a t → CallsInside a t → (n m k : ℕ) → op_progress_of n t ≡ OpProgress.Calls (Subtask.Guest k) → cancelled_call (op_progress_of m t) ≡ Some k → ⊥
  apart_after t q p n m k far c = ⊎_elim (λ before. uncancelled n m k (q.were n k far) before) (λ named. unnamed_inside a base n k (q.were n k far) named) (p.cancelled m k c)
