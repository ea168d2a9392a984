-- Callers go on: along the primitives of a step.
use Rattle.laws_places.proofs.Laws.{[], after_primitive, along, ap, arith, Bool, by_number, Core, false, foot_from, foot_of, get, Halted, inl, inr, is_fresh, is_some, is_there, made_threads_primitive, Mark, nat_tests, None, Option, option_map, option_map_or, Place, place_of, Places, placing_shifted, refl, Scene, Some, Stand, Stay, Stop, stopped, subst, suc, sym, Thread, true, Turn, under_of, under_place, Why, why_of, zero, ℕ, ⊎_elim, ◌+◌, ◌==◌, ◌∙◌, ◌≡◌, ◌≤◌, ◌⊎◌}
use Rattle.laws_places.proofs.{PlaceLaw.Follows, PlaceLaw.covered_still, PlaceLaw.stay_primitive, PlaceLaw.watch, StayMoves.Born, StayMoves.Early, StayMoves.Gone, StayMoves.Kept, StayMoves.Marked, StayMoves.Moves, StayMoves.Passed, StayMoves.Resumed, StayMoves.Woken, StayMoves.behind_called, StayMoves.called_behind, StayMoves.stay_moves, StayMoves.stops, StayMoves.switch_ready, StrandFeet.Below, StrandFeet.Down, StrandFeet.Here, StrandFeet.Rising, StrandFeet.down_further, StrandFeet.foot_bottom, StrandFeet.last_under, StrandFeet.lowest}

-- The thread comes, through those that it is behind or under, to one that is ready or runs and isn't left out.
pub data Goes (out : ℕ → Bool) (s : Core) : ℕ → Type 0 where
  AtMark : (n : ℕ) (m : Mark) (w : Why) → place_of n s ≡ Some (Place.Ready m w) → out n ≡ false → Goes out s n
  AtWork : (n : ℕ) → place_of n s ≡ Some Place.Running → out n ≡ false → Goes out s n
  Up : (n m : ℕ) → place_of n s ≡ Some (Place.Under m) → Goes out s m → Goes out s n
  Back : (n f : ℕ) → place_of n s ≡ Some (Place.Behind f) → Goes out s f → Goes out s n

pub goes_there : {out : ℕ → Bool} {s : Core} (n : ℕ) → Goes out s n → is_there n s ≡ true
goes_there n (AtMark _ m w at o) = grind arith
goes_there n (AtWork _ at o) = grind arith
goes_there n (Up _ m at g) = grind arith
goes_there n (Back _ f at g) = grind arith

-- What is so of callers along the primitives of a step from b on.
pub record Calling (a : Scene) (b : Core) (out : ℕ → Bool) (s : Core) : Type 0 where
  pub goes : (j f : ℕ) → place_of j s ≡ Some (Place.Behind f) → Goes out s j
  pub feet : (j k f : ℕ) → place_of j s ≡ Some (Place.Behind f) → place_of k s ≡ Some (Place.Under f) → ⊥
  pub unders : (j m : ℕ) → place_of j s ≡ Some (Place.Under m) → place_of j b ≡ Some (Place.Under m)
  pub lively : (m : ℕ) → is_fresh (place_of m b) ≡ false → is_fresh (place_of m s) ≡ false
  pub fresh : (j k : ℕ) → place_of j s ≡ Some (Place.Behind k) → is_fresh (place_of k s) ≡ true →
      place_of k s ≡ Some (Place.Ready Mark.Switch Why.Start)
  pub came : (a.next ≡ Turn.Main → ⊥) → (j f : ℕ) → place_of j s ≡ Some (Place.Behind f) → place_of j b ≡ Some (Place.Behind f)
  pub made : b.made.threads ≤ s.made.threads
  pub new : (m : ℕ) → place_of m b ≡ None → is_there m s ≡ true → b.made.threads + 1 ≤ m

-- What is known of the core from which the primitives begin.
pub record Begins (a : Scene) (b : Core) : Type 0 where
  pub home : (k : ℕ) → place_of k b ≡ place_of k a.base
  pub covers : (j m : ℕ) → place_of j b ≡ Some (Place.Under m) → (place_of m b ≡ None) ⊎ (is_fresh (place_of m b) ≡ false)
  pub early : (m : ℕ) → a.turn ≡ Turn.Run m → (j k : ℕ) → place_of j a.base ≡ Some (Place.Behind k) → is_fresh (place_of k a.base) ≡ false
  pub made : b.made.threads ≡ a.base.made.threads
  pub rising : Rising b
  pub given : (j m : ℕ) → place_of j b ≡ Some (Place.Under m) → m ≤ b.made.threads
  pub alone : (j k m : ℕ) → place_of j b ≡ Some (Place.Under m) → place_of k b ≡ Some (Place.Under m) → j ≡ k

-- ---- One primitive

module _ {a : Scene} {out : ℕ → Bool} (s t : Core) (moves : (j : ℕ) → Moves a s t j) (apart : (m : ℕ) → s.queues.switch ≡ Some m → out m ≡ false) where
  -- who is under another was so before, and stays so
  under_was : (j m : ℕ) → place_of j t ≡ Some (Place.Under m) → place_of j s ≡ Some (Place.Under m)
  under_was j m at = by (moves j)
    where
      by : Moves a s t j → place_of j s ≡ Some (Place.Under m)
      by (Kept k) = sym k ∙ at
      by (Marked x y w was to why) = absurd (cc)
      by (Woken p y w was parked to fresh put) = absurd (cc)
      by (Resumed f y was to) = absurd (cc)
      by (Passed f i u was switch same to ready next) = absurd (cc)
      by (Born new none to) = absurd (cc)
      by (Gone fresh to early) = absurd (cc)

  under_stays : (j m : ℕ) → place_of j s ≡ Some (Place.Under m) → place_of j t ≡ Some (Place.Under m)
  under_stays j m at = by (moves j)
    where
      by : Moves a s t j → place_of j t ≡ Some (Place.Under m)
      by (Kept k) = k ∙ at
      by (Marked x y w was to why) = absurd (cc)
      by (Woken p y w was parked to fresh put) = absurd (grind arith)
      by (Resumed f y was to) = absurd (cc)
      by (Passed f i u was switch same to ready next) = absurd (cc)
      by (Born new none to) = absurd (cc)
      by (Gone fresh to early) = absurd (grind arith)

  -- up from a thread that goes on
  up_goes : (u : Core) → u.threads ≡ s.threads → (k i : ℕ) → Goes out t i → Goes out t (foot_from k u i)
  up_goes u same zero i g = g
  up_goes u same (suc k) i g = by (λ v. up_goes u same k v) (under_of i u) refl
    where
      by : ((v : ℕ) → Goes out t v → Goes out t (foot_from k u v)) → (o : Option ℕ) → under_of i u ≡ o →
          Goes out t (option_map_or (foot_from k u) (under_of i u) i)
      by rec None is = subst (λ (o : Option ℕ). Goes out t (option_map_or (foot_from k u) o i)) (sym is) g
      by rec (Some v) is =
          let at = under_place i v u is in
          let now : place_of v t ≡ Some (Place.Under i) = under_stays v i (grind (arith, same, at)) in
          subst (λ (o : Option ℕ). Goes out t (option_map_or (foot_from k u) o i)) (sym is) (rec v (Up v i now g))

  passed_goes : (m : ℕ) (u : Core) → s.queues.switch ≡ Some m → u.threads ≡ s.threads → place_of m t ≡ Some (Place.Ready Mark.Switch (why_of m s)) → Goes out t (foot_of m u)
  unfolding foot_of
  passed_goes m u is same at = up_goes u same _ m (AtMark m Mark.Switch (why_of m s) at (apart m is))

module _ {a : Scene} {b : Core} (base : Begins a b) {out : ℕ → Bool} (s t : Core) (moves : (j : ℕ) → Moves a s t j)
    (outs : (j f : ℕ) → place_of j s ≡ Some (Place.Behind f) → out j ≡ false) (apart : (m : ℕ) → s.queues.switch ≡ Some m → out m ≡ false)
    (q : Calling a b out s) where
  -- a thread that another one is under or behind isn't withdrawn
  under_kept : (i m : ℕ) → place_of i s ≡ Some (Place.Under m) → is_there m s ≡ true → is_fresh (place_of m s) ≡ true → ⊥
  under_kept i m at there fresh =
      let was = q.unders i m at in
      ⊎_elim (λ none. let new = q.new m none there in let low = base.given i m was in absurd (omega (arith, new, low)))
      (λ old. let live = q.lively m old in absurd (grind arith)) (base.covers i m was)

  behind_kept : (i m : ℕ) → place_of i s ≡ Some (Place.Behind m) → is_fresh (place_of m s) ≡ true → Early a s → ⊥
  behind_kept i m at fresh early =
      let old = base.early early.0.0 early.0.1 i m (early.1 i m at) in
      let live = q.lively m (ap is_fresh (base.home m) ∙ old) in absurd (grind arith)

  keeps_goes : (j : ℕ) → Goes out s j → (is_fresh (place_of j s) ≡ true → Early a s → ⊥) → Goes out t j
  keeps_goes j (AtMark _ m w at o) stays = by (moves j)
    where
      by : Moves a s t j → Goes out t j
      by (Kept k) = AtMark j m w (k ∙ at) o
      by (Marked x y v was to why) = AtMark j y v to o
      by (Woken p y v was parked to fresh put) = AtMark j y v to o
      by (Resumed f y was to) = AtMark j y Why.Resumption to o
      by (Passed f i u was switch same to ready next) = absurd (cc)
      by (Born new none to) = absurd (cc)
      by (Gone fresh to early) = absurd (stays fresh early)
  keeps_goes j (AtWork _ at o) stays = by (moves j)
    where
      by : Moves a s t j → Goes out t j
      by (Kept k) = AtWork j (k ∙ at) o
      by (Marked x y v was to why) = AtMark j y v to o
      by (Woken p y v was parked to fresh put) = AtMark j y v to o
      by (Resumed f y was to) = AtMark j y Why.Resumption to o
      by (Passed f i u was switch same to ready next) = absurd (cc)
      by (Born new none to) = absurd (cc)
      by (Gone fresh to early) = absurd (stays fresh early)
  keeps_goes j (Up _ m at g) stays = Up j m (under_stays {out = out} s t moves apart j m at) (keeps_goes m g (λ fresh early. under_kept j m at (goes_there m g) fresh))
  keeps_goes j (Back _ f at g) stays = by (keeps_goes f g (λ fresh early. behind_kept j f at fresh early)) (moves j)
    where
      by : Goes out t f → Moves a s t j → Goes out t j
      by rec (Kept k) = Back j f (k ∙ at) rec
      by rec (Marked x y v was to why) = AtMark j y v to (outs j f at)
      by rec (Woken p y v was parked to fresh put) = AtMark j y v to (outs j f at)
      by rec (Resumed h y was to) = AtMark j y Why.Resumption to (outs j f at)
      by rec (Passed h m u was switch same to ready next) = Back j (foot_of m u) to (passed_goes s t moves apart m u switch same ready)
      by rec (Born new none to) = absurd (cc)
      by rec (Gone fresh to early) = absurd (grind arith)

  lively_next : (m : ℕ) → is_fresh (place_of m s) ≡ false → is_fresh (place_of m t) ≡ false
  lively_next m live = by (moves m)
    where
      by : Moves a s t m → is_fresh (place_of m t) ≡ false
      by (Kept k) = ap is_fresh k ∙ live
      by (Marked x y w was to why) = grind arith
      by (Woken p y w was parked to fresh put) = grind arith
      by (Resumed f y was to) = grind arith
      by (Passed f i u was switch same to ready next) = grind arith
      by (Born new none to) = absurd (grind arith)
      by (Gone fresh to early) = absurd (grind arith)

  goes_next : (j f : ℕ) → place_of j t ≡ Some (Place.Behind f) → Goes out t j
  goes_next j f at = by (moves j)
    where
      by : Moves a s t j → Goes out t j
      by (Kept k) = let was = sym k ∙ at in keeps_goes j (q.goes j f was) (λ fresh early. absurd (grind arith))
      by (Marked x y w was to why) = absurd (cc)
      by (Woken p y w was parked to fresh put) = absurd (cc)
      by (Resumed g y was to) = absurd (cc)
      by (Passed g m u was switch same to ready next) = Back j (foot_of m u) to (passed_goes s t moves apart m u switch same ready)
      by (Born new none to) = absurd (cc)
      by (Gone fresh to early) = absurd (cc)

  rising_at : (u : Core) → u.threads ≡ s.threads → Rising u
  rising_at u same n m at = base.rising n m (q.unders n m (grind (arith, same, at)))

  feet_next : (j k f : ℕ) → place_of j t ≡ Some (Place.Behind f) → place_of k t ≡ Some (Place.Under f) → ⊥
  feet_next j k f at under = by (moves j)
    where
      by : Moves a s t j → ⊥
      by (Kept e) = q.feet j k f (sym e ∙ at) (under_was {out = out} s t moves apart k f under)
      by (Marked x y w was to why) = absurd (cc)
      by (Woken p y w was parked to fresh put) = absurd (cc)
      by (Resumed g y was to) = absurd (cc)
      by (Passed g m u was switch same to ready next) =
          let foot : foot_of m u ≡ f = grind arith in
          let below = under_was {out = out} s t moves apart k f under in
          foot_bottom u (rising_at u same) m k (grind (arith, same, below, foot))
      by (Born new none to) = absurd (cc)
      by (Gone fresh to early) = absurd (cc)

  -- the foot of a strand whose top is at switch, if it waits for its start, is that top
  foot_start : (m : ℕ) (u : Core) → s.queues.switch ≡ Some m → u.threads ≡ s.threads → place_of m t ≡ Some (Place.Ready Mark.Switch (why_of m s)) →
      is_fresh (place_of (foot_of m u) t) ≡ true → place_of (foot_of m u) t ≡ Some (Place.Ready Mark.Switch Why.Start)
  unfolding foot_of
  foot_start m u is same at fresh = go _ m (inl at) fresh
    where
      start : (o : Option Place) → o ≡ Some (Place.Ready Mark.Switch (why_of m s)) → is_fresh o ≡ true → o ≡ Some (Place.Ready Mark.Switch Why.Start)
      start o e h = grind arith

      go : (k i : ℕ) → (place_of i t ≡ Some (Place.Ready Mark.Switch (why_of m s))) ⊎ ((v : ℕ) × (place_of i t ≡ Some (Place.Under v))) →
          is_fresh (place_of (foot_from k u i) t) ≡ true → place_of (foot_from k u i) t ≡ Some (Place.Ready Mark.Switch Why.Start)
      go zero i (inl e) h = start (place_of i t) e h
      go zero i (inr v) h = let e = v.1 in absurd (grind arith)
      go (suc k) i at h = by (λ v. go k v) (under_of i u) refl
        where
          by : ((v : ℕ) → (place_of v t ≡ Some (Place.Ready Mark.Switch (why_of m s))) ⊎ ((y : ℕ) × (place_of v t ≡ Some (Place.Under y))) →
              is_fresh (place_of (foot_from k u v) t) ≡ true → place_of (foot_from k u v) t ≡ Some (Place.Ready Mark.Switch Why.Start)) →
              (o : Option ℕ) → under_of i u ≡ o →
              place_of (option_map_or (foot_from k u) (under_of i u) i) t ≡ Some (Place.Ready Mark.Switch Why.Start)
          by rec None e =
              let same : option_map_or (foot_from k u) (under_of i u) i ≡ i = ap (λ (o : Option ℕ). option_map_or (foot_from k u) o i) e in
              subst (λ (x : ℕ). place_of x t ≡ Some (Place.Ready Mark.Switch Why.Start)) (sym same)
              (⊎_elim (λ r. start (place_of i t) r (subst (λ (x : ℕ). is_fresh (place_of x t) ≡ true) same h)) (λ v. let r = v.1 in absurd (grind arith)) at)
          by rec (Some v) e =
              let foot : option_map_or (foot_from k u) (under_of i u) i ≡ foot_from k u v = ap (λ (o : Option ℕ). option_map_or (foot_from k u) o i) e in
              let up = under_place i v u e in
              let now : place_of v t ≡ Some (Place.Under i) = under_stays {out = out} s t moves apart v i (ap (λ m. option_map (λ (r : Thread). r.place) (get m v)) (sym same) ∙ up) in
              subst (λ (x : ℕ). place_of x t ≡ Some (Place.Ready Mark.Switch Why.Start)) (sym foot) (rec v (inr (i, now)) (subst (λ (x : ℕ). is_fresh (place_of x t) ≡ true) foot h))

  fresh_next : (j k : ℕ) → place_of j t ≡ Some (Place.Behind k) → is_fresh (place_of k t) ≡ true → place_of k t ≡ Some (Place.Ready Mark.Switch Why.Start)
  fresh_next j k at fresh = by (moves j)
    where
      -- one that was behind it before
      old : place_of j s ≡ Some (Place.Behind k) → Moves a s t k → place_of k t ≡ Some (Place.Ready Mark.Switch Why.Start)
      old was (Kept e) = e ∙ q.fresh j k was (ap is_fresh (sym e) ∙ fresh)
      old was (Marked x y w here to why) = ⊎_elim (λ e. grind arith) (λ early. absurd (behind_kept j k was (grind arith) early)) why
      old was (Woken p y w here parked to same put) = let r = q.fresh j k was in absurd (grind arith)
      old was (Resumed f y here to) = absurd (grind arith)
      old was (Passed f i u here switch same to ready next) = absurd (grind arith)
      old was (Born new none to) = let r = q.fresh j k was in absurd (grind arith)
      old was (Gone gone to early) = absurd (behind_kept j k was gone early)

      by : Moves a s t j → place_of k t ≡ Some (Place.Ready Mark.Switch Why.Start)
      by (Kept e) = old (sym e ∙ at) (moves k)
      by (Marked x y w was to why) = absurd (cc)
      by (Woken p y w was parked to same put) = absurd (cc)
      by (Resumed g y was to) = absurd (cc)
      by (Passed g m u was switch same to ready next) =
          let foot : foot_of m u ≡ k = grind arith in
          subst (λ (x : ℕ). place_of x t ≡ Some (Place.Ready Mark.Switch Why.Start)) foot
          (foot_start m u switch same ready (subst (λ (x : ℕ). is_fresh (place_of x t) ≡ true) (sym foot) fresh))
      by (Born new none to) = absurd (cc)
      by (Gone fresh to early) = absurd (cc)

  came_next : (a.next ≡ Turn.Main → ⊥) → (j f : ℕ) → place_of j t ≡ Some (Place.Behind f) → place_of j b ≡ Some (Place.Behind f)
  came_next on j f at = by (moves j)
    where
      by : Moves a s t j → place_of j b ≡ Some (Place.Behind f)
      by (Kept e) = q.came on j f (sym e ∙ at)
      by (Marked x y w was to why) = absurd (cc)
      by (Woken p y w was parked to same put) = absurd (cc)
      by (Resumed g y was to) = absurd (cc)
      by (Passed g m u was switch same to ready next) = absurd (on next)
      by (Born new none to) = absurd (cc)
      by (Gone fresh to early) = absurd (cc)

  new_next : (m : ℕ) → place_of m b ≡ None → is_there m t ≡ true → b.made.threads + 1 ≤ m
  new_next m none there = by (moves m)
    where
      by : Moves a s t m → b.made.threads + 1 ≤ m
      by (Kept e) = q.new m none (ap (λ (o : Option Place). is_some o) (sym e) ∙ there)
      by (Marked x y w was to why) = q.new m none (ap (λ (o : Option Place). is_some o) was)
      by (Woken p y w was parked to same put) = q.new m none (ap (λ (o : Option Place). is_some o) was)
      by (Resumed g y was to) = q.new m none (ap (λ (o : Option Place). is_some o) was)
      by (Passed g i u was switch same to ready next) = q.new m none (ap (λ (o : Option Place). is_some o) was)
      by (Born new gone to) = let more = q.made in omega (arith, new, more)
      by (Gone fresh to early) = absurd (grind arith)

  pub calling_next : s.made.threads ≤ t.made.threads → Calling a b out t
  calling_next more = record {
    goes = goes_next;
    feet = feet_next;
    unders = λ j m at. q.unders j m (under_was {out = out} s t moves apart j m at);
    lively = λ m live. lively_next m (q.lively m live);
    fresh = fresh_next;
    came = came_next;
    made = let was = q.made in omega (arith, was, more);
    new = new_next;
  }

-- ---- The primitives while the running thread stays

module _ {a : Scene} {b : Core} {n : ℕ} {q : Option Place} (f : Follows a b n q) (base : Begins a b) where
  abbrev pub Both : (ℕ → Bool) → Core → Type 0
  Both out s = Stand (watch a) n q [] s × Calling a b out s

  -- who is behind another isn't the thread that stays
  behind_apart : (s : Core) → Stand (watch a) n q [] s → (j g : ℕ) → place_of j s ≡ Some (Place.Behind g) → (j == n) ≡ false
  behind_apart s st j g at = by_number j n _ (λ e. absurd (let busy = f.busy in let here = st.here in grind (arith, nat_tests))) (λ other. other)

  pub walk_calling : (out : ℕ → Bool) → ((j : ℕ) → (j == n) ≡ false → out j ≡ false) → {s t : Core} → Stay a s t → Both out s → Both out t
  walk_calling out ok c first = along (Both out) (λ w u may h. (
    stay_primitive f w u may h.0,
    calling_next base u (after_primitive w u) (stay_moves f u h.0 w may) (λ j g at. ok j (behind_apart u h.0 j g at))
        (λ m is. ok m (switch_ready a h.0 m is).1) h.1 (made_threads_primitive a w u),
  )) first c

  -- ---- A strand that stops

  module _ (s : Core) (h : Halted a b n s) (to : a.next ≡ Turn.Main) (first : Both (λ j. false) b) where
    abbrev lone : ℕ → Bool
    lone j = j == n

    at_first : Both (λ j. false) h.at
    at_first = walk_calling (λ j. false) (λ j e. refl) h.first first

    before : Both (λ j. false) h.before
    before = walk_calling (λ j. false) (λ j e. refl) h.stays at_first

    abbrev foot : ℕ
    foot = foot_of n h.at

    abbrev stop : Core
    stop = after_primitive (Places (Stop foot)) h.before

    moves : (j : ℕ) → Moves a h.before stop j
    moves = stay_moves f h.before before.0 (Places (Stop foot)) (inr to)

    -- threads that are under others stay so all the way
    under_at : (j m : ℕ) → place_of j h.before ≡ Some (Place.Under m) → place_of j h.at ≡ Some (Place.Under m)
    under_at j m at = covered_still a at_first.0 j m (sym (base.home j) ∙ before.1.unders j m at)

    under_before : (j m : ℕ) → place_of j h.at ≡ Some (Place.Under m) → place_of j h.before ≡ Some (Place.Under m)
    under_before j m at = covered_still a before.0 j m (sym (base.home j) ∙ at_first.1.unders j m at)

    -- the foot is the only one of the strand that others are behind
    foot_only : (j g : ℕ) → place_of j h.before ≡ Some (Place.Behind g) → Down h.at n g → foot ≡ g
    foot_only j g at d = lowest h.at (λ i m e. base.rising i m (at_first.1.unders i m e))
        (λ i k m e o. base.alone i k m (at_first.1.unders i m e) (at_first.1.unders k m o)) n g d (λ i e. before.1.feet j i g at (under_before i g e))

    apart : (m : ℕ) → h.before.queues.switch ≡ Some m → lone m ≡ false
    apart m is = (switch_ready a before.0 m is).1

    called : (j : ℕ) → place_of j h.before ≡ Some (Place.Behind foot) → is_there foot h.before ≡ true → Goes lone stop j
    called j at there =
        let other = behind_apart h.before before.0 j foot at in
        let one = behind_called a before.0 foot j there at other in
        let place = λ (p : Option Place) (e : place_of j (stopped foot h.before) ≡ p). ap (λ (t : Core). place_of j t) (placing_shifted (Stop foot) h.before).only ∙ e in
        ⊎_elim (λ e. absurd (let none = e.1 in omega (arith, one, none)))
        (λ r. ⊎_elim (λ y. AtMark j y.0 Why.Resumption (place _ y.1) other)
        (λ m. Back j (foot_of m.0 m.1.0) (place _ m.1.1.1.1) (passed_goes h.before stop moves apart m.0 m.1.0 m.1.1.0 m.1.1.1.0 (ready_still m.0 m.1.1.0))) r.1)
        (stops a before.0 foot j (ap (λ (o : Option Place). is_some o) at))
      where
        ready_still : (m : ℕ) → h.before.queues.switch ≡ Some m → place_of m stop ≡ Some (Place.Ready Mark.Switch (why_of m h.before))
        ready_still m is =
            let ready = switch_ready a before.0 m is in
            ap (λ (t : Core). place_of m t) (placing_shifted (Stop foot) h.before).only ∙
            ⊎_elim (λ e. e.0 ∙ ready.0) (λ r. absurd (let at = called_behind a before.0 foot m r.0 in let e = ready.0 in grind arith))
            (stops a before.0 foot m (ap (λ (o : Option Place). is_some o) ready.0))

    from_mark : (j : ℕ) (m : Mark) (w : Why) → place_of j h.before ≡ Some (Place.Ready m w) → lone j ≡ false →
        (is_fresh (place_of j h.before) ≡ true → Early a h.before → ⊥) → Moves a h.before stop j → Goes lone stop j
    from_mark j m w at o stays (Kept k) = AtMark j m w (k ∙ at) o
    from_mark j m w at o stays (Marked x y v was now why) = AtMark j y v now o
    from_mark j m w at o stays (Woken x y v was parked now fresh put) = AtMark j y v now o
    from_mark j m w at o stays (Resumed x y was now) = AtMark j y Why.Resumption now o
    from_mark j m w at o stays (Passed x i u was switch same now ready next) = absurd (cc)
    from_mark j m w at o stays (Born new none now) = absurd (cc)
    from_mark j m w at o stays (Gone fresh now early) = absurd (stays fresh early)

    from_work : (j : ℕ) → place_of j h.before ≡ Some Place.Running → lone j ≡ false →
        (is_fresh (place_of j h.before) ≡ true → Early a h.before → ⊥) → Moves a h.before stop j → Goes lone stop j
    from_work j at o stays (Kept k) = AtWork j (k ∙ at) o
    from_work j at o stays (Marked x y v was now why) = AtMark j y v now o
    from_work j at o stays (Woken x y v was parked now fresh put) = AtMark j y v now o
    from_work j at o stays (Resumed x y was now) = AtMark j y Why.Resumption now o
    from_work j at o stays (Passed x i u was switch same now ready next) = absurd (cc)
    from_work j at o stays (Born new none now) = absurd (cc)
    from_work j at o stays (Gone fresh now early) = absurd (stays fresh early)

    -- who comes to the thread does so through its strand, or comes to another one
    parts : (j : ℕ) → Goes (λ i. false) h.before j → (is_fresh (place_of j h.before) ≡ true → Early a h.before → ⊥) → Down h.at n j ⊎ Goes lone stop j
    parts j (AtMark _ m w at o) stays = by_number j n _ (λ e. inl (subst (λ (i : ℕ). Down h.at n i) (sym e) (Here n)))
        (λ other. inr (from_mark j m w at other stays (moves j)))
    parts j (AtWork _ at o) stays = by_number j n _ (λ e. inl (subst (λ (i : ℕ). Down h.at n i) (sym e) (Here n)))
        (λ other. inr (from_work j at other stays (moves j)))
    parts j (Up _ m at g) stays = ⊎_elim (λ d. inl (down_further h.at n m j d (under_at j m at)))
        (λ y. inr (Up j m (under_stays {out = lone} h.before stop moves apart j m at) y)) (parts m g (λ fresh early. under_kept base h.before stop moves (λ i x e. refl) (λ i x. refl) before.1 j m at (goes_there m g) fresh))
    parts j (Back _ g at y) stays = by_number g foot _ (λ e. inr (called j (at ∙ ap (λ (i : ℕ). Some (Place.Behind i)) e) (subst (λ (i : ℕ). is_there i h.before ≡ true) e (goes_there g y))))
        (λ other. ⊎_elim (λ d. absurd (let only = foot_only j g at d in grind (arith, nat_tests)))
        (λ z. inr (back j g at z (moves j))) (parts g y (λ fresh early. behind_kept base h.before stop moves (λ i x e. refl) (λ i x. refl) before.1 j g at fresh early)))
      where
        back : (j g : ℕ) → place_of j h.before ≡ Some (Place.Behind g) → Goes lone stop g → Moves a h.before stop j → Goes lone stop j
        back j g at z (Kept k) = Back j g (k ∙ at) z
        back j g at z (Marked x e v was now why) = absurd (cc)
        back j g at z (Woken x e v was parked now fresh put) = absurd (grind arith)
        back j g at z (Resumed x e was now) = AtMark j e Why.Resumption now (behind_apart h.before before.0 j g at)
        back j g at z (Passed x m u was switch same now ready next) = Back j (foot_of m u) now (passed_goes h.before stop moves apart m u switch same ready)
        back j g at z (Born new none now) = absurd (cc)
        back j g at z (Gone fresh now early) = absurd (grind arith)

    -- who is on the strand is the thread or under another one
    strand_place : (i g : ℕ) → place_of i h.before ≡ Some (Place.Behind g) → Down h.at n i → ⊥
    strand_place i g at (Here _) = let other = behind_apart h.before before.0 i g at in absurd (grind (arith, nat_tests))
    strand_place i g at (Below _ u _ up d) = let below = last_under n i (Below n u i up d) in
        ⊎_elim (λ e. absurd (let other = behind_apart h.before before.0 i g at in grind (arith, nat_tests))) (λ m. absurd (let now = under_before i m.0 m.1 in cc)) below

    -- once the strand has stopped, all callers go on without the thread
    stopped_both : Both lone stop
    stopped_both =
        let all = calling_next base h.before stop moves (λ j g e. refl) (λ m is. refl) before.1 (made_threads_primitive a (Places (Stop foot)) h.before) in (
          stay_primitive f (Places (Stop foot)) h.before (inr to) before.0,
          record {
            goes = λ j g at. go j g at (moves j);
            feet = all.feet;
            unders = all.unders;
            lively = all.lively;
            fresh = all.fresh;
            came = all.came;
            made = all.made;
            new = all.new;
          },
        )
      where
        go : (j g : ℕ) → place_of j stop ≡ Some (Place.Behind g) → Moves a h.before stop j → Goes lone stop j
        go j g at (Kept k) =
            let was = sym k ∙ at in
            ⊎_elim (λ d. absurd (strand_place j g was d)) (λ y. y) (parts j (before.1.goes j g was) (λ fresh early. absurd (grind arith)))
        go j g at (Marked x e v was now why) = absurd (cc)
        go j g at (Woken x e v was parked now fresh put) = absurd (cc)
        go j g at (Resumed x e was now) = absurd (cc)
        go j g at (Passed x m u was switch same now ready next) = Back j (foot_of m u) now (passed_goes h.before stop moves apart m u switch same ready)
        go j g at (Born new none now) = absurd (cc)
        go j g at (Gone fresh now early) = absurd (cc)

    pub halted_both : Both lone s
    halted_both = walk_calling lone (λ j e. e) h.rest stopped_both
