-- What script each thread runs, and where in it, along the primitives of a step.
use Rattle.laws_states.proofs.Primitives.{[], after_primitive, Allowed, ap, arith, AtOp, Bool, call_instance, Callee, callee_of, CallsGo, CallsHold, Came, came_primitive, can_come, code_callback, Codes, CodesInCallbacks, Comes, Component, component_of, Core, delivered_in, Ends, ends_activation, EndsActivation, Entered, Enters, false, FitsAs, get, has_one_on_top, OpProgress, inl, InOp, inr, is_delivered, is_delivery, is_explicit, is_some, is_sync_call, IsBeside, IsFirst, IsGone, IsMade, IsSame, Leaves, length, MayMove, MayStand, Moved, names_script, new_thread, next_thread, None, one_runner, Op, op_at_place, op_in, op_of, op_of_thread, Option, option_map, option_map_or, Place, place_of, refl, registers_for, RunnerHoused, RunsOn, Scene, Script, script_in, script_of, script_of_thread, shifted_delivers, Shifts, Some, some_none, sym, task_of, Thread, thread_came, ThreadAfter, true, Turn, turned_silent, Turns, WasReady, WasUnder, Why, Primitive, ℕ, ⊎_elim, ◌∙◌, ◌∷◌, ◌≡◌, ◌≤◌, ◌⊎◌}

-- what brings a delivery for the thread: there was one, its activation ends, or it was taken with one
abbrev pub Brings : Scene → ℕ → Option Place → Type 0
Brings a n o = (delivered_in o ≡ true) ⊎ (EndsActivation a n ⊎ ((w : Why) × (WasReady a n w × (is_delivery w ≡ true))))

abbrev pub under_in : Option Place → Bool
under_in o = option_map_or (λ p. has_one_on_top p) o false

under_moved : (may : Why → Type 0) (o p : Option Place) → Moved may o p → under_in p ≡ true → p ≡ o
under_moved may o p came d = grind arith

module _ (a : Scene) (s : Core) (n : ℕ) where
  stand_brings : (w : Why) → MayStand a s n w → is_delivery w ≡ true → (delivered_in (place_of n s) ≡ true) ⊎ EndsActivation a n
  stand_brings w ok d = grind arith

  move_brings : (p : Place) → MayMove a n p s → is_delivered p ≡ true →
      EndsActivation a n ⊎ ((w : Why) × (WasReady a n w × (is_delivery w ≡ true)))
  move_brings p ok d = grind arith

  brings : (t : Core) (o p : Option Place) → o ≡ place_of n s → Came a s t n o p → delivered_in p ≡ true → Brings a n o
  brings t o p is (Shifts m) d = ⊎_elim inl (λ e. ⊎_elim (λ f. inl (rw is f)) (λ f. inr (inl f)) (stand_brings e.0 e.1.0 e.1.1))
      (shifted_delivers (MayStand a s n) o p m d).1
  brings t o p is (Comes r ok e there) d = inr (move_brings r ok (rw e at d))
  brings t o p is (Turns x) d = absurd (turned_silent x d)

module _ (c : Component) (codes : CodesInCallbacks c) where
  slot_no_code : (f : Callee) (x : Script) (p : ℕ) → names_script c f.instance true x ≡ true →
      ends_activation (op_at_place (script_in c f x) p) ≡ false
  slot_no_code f x p h = grind (arith, codes.slots f.instance)

  -- whose op ends an activation is a first thread
  ends_first : (ops : ℕ → Op) (n : ℕ) (s : Core) → FitsAs ops c s → ends_activation (op_of c n s) ≡ true → is_explicit n s ≡ false
  unfolding op_of script_of
  ends_first ops n s fits ends = by (get s.threads n) refl ends
    where
      by : (o : Option Thread) → get s.threads n ≡ o → ends_activation (op_at_place (option_map_or (script_of_thread c s) o [])
          (option_map_or (λ (t : Thread). t.position) o 0)) ≡ true →
          option_map_or (λ (t : Thread). t.explicit) o false ≡ false
      by None at ends = refl
      by (Some t) at ends = let f = (fits n t at).script in let no = slot_no_code (callee_of t.call s) t.script t.position in grind arith

-- the two are of one call, and at one place of one script
abbrev pub SameOp : Thread → Thread → Type 0
SameOp t r = (t.call ≡ r.call) × ((t.script ≡ r.script) × (t.position ≡ r.position))

pub op_same : (c : Component) (b : Core) (t r : Thread) → SameOp t r → op_of_thread c b t ≡ op_of_thread c b r
op_same c b t r is = grind (arith, is.0, is.1.0, is.1.1)

pub op_there : (c : Component) (b : Core) (n : ℕ) (r : Thread) → get b.threads n ≡ Some r → op_of c n b ≡ op_of_thread c b r
unfolding op_of script_of
op_there c b n r at = grind arith

-- the thread is where it was as the step began, and its op passes
abbrev pub OfBase : Scene → ℕ → Thread → (Op → Bool) → Type 0
OfBase a n t test = (test (op_in a n) ≡ true) × ((b : Thread) × ((get a.base.threads n ≡ Some b) × SameOp t b))

-- a thread was on top of it already, or the step makes that one
abbrev pub Covered : Scene → ℕ → Type 0
Covered a n = (under_in (place_of n a.base) ≡ true) ⊎ ((a.turn ≡ Turn.Run n) × (a.next ≡ Turn.Run (next_thread a.base)))

-- its place is one in its script, or the end
abbrev pub Within : Scene → Thread → Type 0
Within a t = (is_some (get a.base.calls t.call) ≡ true) ×
    (t.position ≤ length (script_in (component_of a) (callee_of t.call a.base) t.script))

-- What is said of the thread n on the way of a step.
pub record FitsSo (a : Scene) (n : ℕ) (t : Thread) : Type 0 where
  pub script : names_script (component_of a) (call_instance t.call a.base) t.explicit t.script ≡ true
  pub call : t.explicit ≡ true → is_some (get a.base.calls t.call) ≡ true
  pub first : is_delivered t.place ≡ true → t.explicit ≡ false
  pub position : (t.position ≡ 0) ⊎ Within a t
  -- while it runs, it runs one script
  pub same : a.turn ≡ Turn.Run n → (r : Thread) → get a.base.threads n ≡ Some r → (t.call ≡ r.call) × (t.script ≡ r.script)
  pub op : (t.op_progress ≡ OpProgress.Fresh) ⊎ OfBase a n t (λ o. can_come o t.op_progress)
  pub under : has_one_on_top t.place ≡ true → OfBase a n t is_sync_call × Covered a n
  -- while a thread is on top of it, it stays at its op
  pub still : under_in (place_of n a.base) ≡ true → (r : Thread) → get a.base.threads n ≡ Some r → SameOp t r

abbrev pub AllFit : Scene → Core → Type 0
AllFit a s = (n : ℕ) (t : Thread) → get s.threads n ≡ Some t → FitsSo a n t

-- the script of a thread that is there
script_within : (c : Component) (s : Core) (n p : ℕ) (b : Thread) → get s.threads n ≡ Some b → p ≤ length (script_of c n s) →
    (task_of n s ≡ b.call) × (p ≤ length (script_in c (callee_of b.call s) b.script))
unfolding script_of
script_within c s n p b is within = grind arith

module _ (a : Scene) (codes : Codes a) (h : CallsHold (component_of a) a.base) (known : RunnerHoused a)
    (fits : FitsAs a.ops (component_of a) a.base) (runs : (n : ℕ) → a.turn ≡ Turn.Run n → place_of n a.base ≡ Some Place.Running)
    (there : (n : ℕ) (r : Thread) → get a.base.threads n ≡ Some r → is_some (get a.base.calls r.call) ≡ true) where
  abbrev c : Component
  c = component_of a

  -- who was there as the step began
  base_thread : (n : ℕ) (p : Place) → place_of n a.base ≡ Some p → (b : Thread) × ((get a.base.threads n ≡ Some b) × (b.place ≡ p))
  base_thread n p is = by (get a.base.threads n) refl
    where
      by : (o : Option Thread) → get a.base.threads n ≡ o → (b : Thread) × ((get a.base.threads n ≡ Some b) × (b.place ≡ p))
      by None at = absurd (grind arith)
      by (Some b) at = (b, (at, grind arith))

  -- who is taken doesn't run
  not_taken : {n : ℕ} {v : Why} {A : Type 0} → WasReady a n v → a.turn ≡ Turn.Run n → A
  not_taken {n = n} was to = let r = runs n to in absurd (grind arith)

  module _ (w : Primitive) (s : Core) (ok : Allowed a w s) (go : CallsGo a s) (q : AllFit a s) (n : ℕ) (r : Thread)
      (at : get s.threads n ≡ Some r) where
    -- a first thread that was there is one
    since : n ≤ a.base.made.threads → is_explicit n a.base ≡ false → r.explicit ≡ false
    since below first = grind (arith, go.threads n)

    ready_since : (v : Why) → WasReady a n v → is_delivery v ≡ true → r.explicit ≡ false
    ready_since v was d = let b = base_thread n _ was.1 in
        since (h.numbered.threads n b.0 b.1.0).number ((let f = (fits n b.0 b.1.0).first (ap is_delivered b.1.1 ∙ d) in grind arith))

    brings_first : Brings a n (place_of n s) → r.explicit ≡ false
    brings_first (inl d) = (q n r at).first (rw at at d)
    brings_first (inr (inl e)) = let code = codes.here n e.0 e.1 in since (code_callback codes.all n a.base h code).0 (ends_first c codes.all a.ops n a.base fits code)
    brings_first (inr (inr e)) = ready_since e.0 e.1.0 e.1.1

    -- what is so of the op in which it is at the same place
    of_same : (u : Thread) (test : Op → Bool) → SameOp u r → OfBase a n r test → OfBase a n u test
    of_same u test is e = (e.0, (e.1.0, (e.1.1.0, (is.0 ∙ e.1.1.1.0, (is.1.0 ∙ e.1.1.1.1.0, is.1.1 ∙ e.1.1.1.1.1)))))

    -- it is at the op of the base
    at_op : (u : Thread) (test : Op → Bool) → SameOp u r → AtOp a n s → test (op_in a n) ≡ true → OfBase a n u test
    at_op u test is (to, stays) passes =
        let b = base_thread n Place.Running (runs n to) in let same = (q n r at).same to b.0 b.1.0 in let here = b.1.0 in
        let kept = stays (runs n to) (h.numbered.threads n b.0 here).number (grind arith) in
        let position : r.position ≡ b.0.position = grind (arith, kept, at, here) in
        of_same u test is (passes, (b.0, (here, (same.0, (same.1, position)))))

    -- who comes under a thread calls it directly
    covered : (t : Core) (o p : Option Place) → o ≡ Some r.place → Came a s t n o p → under_in p ≡ true →
        OfBase a n r is_sync_call × Covered a n
    covered t o p is (Shifts m) d = (q n r at).under (let e = under_moved (MayStand a s n) o p m d in grind arith)
    covered t o p is (Turns (Enters m runner new stand e there (to, (at_it, sync)))) d =
        (at_op r is_sync_call (refl, (refl, refl)) at_it sync, inr (at_it.0, to ∙ ap (λ k. Turn.Run k) new))
    covered t o p is (Comes y ok e there) d = absurd (grind arith)
    covered t o p is (Turns (Entered e there)) d = absurd (grind arith)
    covered t o p is (Turns (Leaves e)) d = absurd (grind arith)
    covered t o p is (Turns (IsMade new low e)) d = absurd (grind arith)

    module _ (u : Thread) (call : u.call ≡ r.call) where
      script_after : u.explicit ≡ r.explicit → RunsOn a s n r u → names_script c (call_instance u.call a.base) u.explicit u.script ≡ true
      script_after explicit (inr (far, inr e)) = let f = ready_since (Why.Delivery e.0.1.0) e.0.1.1 refl in grind arith
      script_after explicit (inr (far, inl on)) = let f = (q n r at).script in grind arith
      script_after explicit (inl on) = let f = (q n r at).script in grind arith

      position_after : RunsOn a s n r u → (u.position ≡ 0) ⊎ Within a u
      position_after (inl on) = let f = (q n r at).position in grind arith
      position_after (inr (far, inr e)) = inl e.1.1
      position_after (inr (far, inl (script, (runner, (to, (next, below)))))) =
          let b = base_thread n Place.Running (runs n to) in let same = (q n r at).same to b.0 b.1.0 in let here = known n runner in
          let within = script_within c a.base n u.position b.0 b.1.0 below in inr (grind arith)

      same_after : RunsOn a s n r u → a.turn ≡ Turn.Run n → (b : Thread) → get a.base.threads n ≡ Some b →
          (u.call ≡ b.call) × (u.script ≡ b.script)
      same_after (inr (far, inr e)) to b is = not_taken e.0.1.1 to
      same_after on to b is = let f = (q n r at).same to b is in grind arith

      -- who is under a thread comes to no other op
      ends_uncovered : {A : Type 0} → Covered a n → Ends a n r u → A
      ends_uncovered (inl under) (inl (script, (runner, (to, e)))) = let was = runs n to in absurd (grind arith)
      ends_uncovered (inl under) (inr e) = let was = e.0.1.1.1 in absurd (grind arith)
      ends_uncovered (inr (to, next)) (inl (script, may)) =
          let b = base_thread n Place.Running (runs n to) in let low = (h.numbered.threads n b.0 b.1.0).number in
          let is : n ≡ next_thread a.base = one_runner n (next_thread a.base) (sym may.1.1.0 ∙ next) in absurd (omega (arith, low, is))
      ends_uncovered (inr (to, next)) (inr e) = not_taken e.0.1.1 to

      op_after : RunsOn a s n r u → (u.op_progress ≡ OpProgress.Fresh) ⊎ OfBase a n u (λ o. can_come o u.op_progress)
      op_after (inr (far, e)) = inl far
      op_after (inl (script, (position, inl far))) = rw far
          (⊎_elim inl (λ e. inr (of_same u (λ o. can_come o r.op_progress) (call, (script, position)) e)) (q n r at).op)
      op_after (inl (script, (position, inr (InOp at_it can)))) =
          inr (at_op u (λ o. can_come o u.op_progress) (call, (script, position)) at_it can)
      op_after (inl (script, (position, inr (WasUnder m v under far)))) =
          let b = base_thread n (Place.Under m) under in let is = (q n r at).still (ap under_in under) b.0 b.1.0 in
          let sync = ((fits n b.0 b.1.0).under (ap has_one_on_top b.1.1)) in
          inr (rw far sync, (b.0, (b.1.0, (call ∙ is.0, (script ∙ is.1.0, position ∙ is.1.1)))))

      under_after : RunsOn a s n r u → OfBase a n r is_sync_call × Covered a n → OfBase a n u is_sync_call × Covered a n
      under_after (inl (script, (position, far))) d = (of_same u is_sync_call (call, (script, position)) d.0, d.1)
      under_after (inr (far, e)) d = ends_uncovered d.1 e

      still_after : RunsOn a s n r u → under_in (place_of n a.base) ≡ true → (b : Thread) → get a.base.threads n ≡ Some b → SameOp u b
      still_after (inl on) under b is = let f = (q n r at).still under b is in grind arith
      still_after (inr (far, e)) under b is = ends_uncovered (inl under) e

  module _ (w : Primitive) (s : Core) (ok : Allowed a w s) (go : CallsGo a s) (q : AllFit a s) (n : ℕ) where
    -- a thread that is made now wasn't there
    made_new : {A : Type 0} → n ≡ next_thread s → (b : Thread) → get a.base.threads n ≡ Some b → A
    made_new new b is = let c = go.counted in let d = (h.numbered.threads n b is).number in absurd (omega (arith, new, c, d))

    new_fits : (t : Thread) → n ≡ next_thread s → names_script c (call_instance t.call a.base) t.explicit t.script ≡ true →
        (t.explicit ≡ true → is_some (get a.base.calls t.call) ≡ true) → t.place ≡ Place.New → t.op_progress ≡ OpProgress.Fresh → t.position ≡ 0 →
        FitsSo a n t
    new_fits t new script call place far zero = record {
      script = script;
      call = call;
      first = λ d. absurd (grind arith);
      position = inl zero;
      same = λ to b at. made_new new b at;
      op = inl far;
      under = λ d. absurd (grind arith);
      still = λ d b at. made_new new b at;
    }

    fits_after : (t : Thread) → get (after_primitive w s).threads n ≡ Some t → ThreadAfter a w s n → FitsSo a n t
    fits_after t at (IsSame r u e f call x h m z) = let same : t ≡ u = cc in let came = came_primitive w s ok n in rw same (record {
      script = script_after w s ok go q n r e u call x z;
      call = λ y. let g = (q n r e).call in grind arith;
      first = λ d. x ∙ brings_first w s ok go q n r e (brings a s n (after_primitive w s) _ _ refl came (rw at (rw same d)));
      position = position_after w s ok go q n r e u call z;
      same = same_after w s ok go q n r e u call z;
      op = op_after w s ok go q n r e u call z;
      under = λ d. under_after w s ok go q n r e u call z
          (covered w s ok go q n r e (after_primitive w s) _ _ (ap (option_map (λ (y : Thread). y.place)) e) came (rw at (rw same d)));
      still = still_after w s ok go q n r e u call z;
    })
    fits_after t at (IsGone e) = some_none (sym at ∙ e)
    fits_after t at (IsBeside u is l same (m, (runner, (made, (y, (v, (fresh, (calls, slot))))))) e) =
        let new : t ≡ new_thread (task_of m a.base) true (Script.Slot y) (registers_for (v ∷ [])) None = cc in let g = known m runner in
        rw new (new_fits _ is slot.0 (λ d. g) refl refl refl)
    fits_after t at (IsFirst u is l there x y far new e z) = let same : t ≡ u = cc in
        rw same (new_fits u is (grind arith) (λ d. grind arith) new far z.1)

  pub fits_primitive : (w : Primitive) (s : Core) → Allowed a w s → CallsGo a s → AllFit a s → AllFit a (after_primitive w s)
  fits_primitive w s ok go q n t at = fits_after w s ok go q n t at (thread_came w s ok n)
