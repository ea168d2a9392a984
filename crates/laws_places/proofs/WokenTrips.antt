-- Where a thread that doesn't run comes to in a step, of those that wait, are held or have an entry.
use Rattle.laws_places.proofs.Laws.{[], after_placing, after_primitive, along, ap, arith, behind_one, Bool, by_number, Collapses, Core, Delivery, Enter, false, get, get-change, get-remove, GoBehind, GoesBack, op_progress_of, OpProgress, inl, inr, is_for_start, is_some, is_there, IsBeside, IsFirst, IsGone, IsRunner, IsSame, Lands, LandsAt, Mark, MayCome, MayLand, MayPut, Move, nat_tests, no_time, not, on_thread, Option, Place, place_kept, place_of, Places, Placing, placing_shifted, push_high, push_low, Put, put_high, put_low, Quits, refl, Remains, remove_thread, RemoveThread, Scene, set_callers, set_op_progress, set_place, SetOpProgress, settle_threads, Settles, shifted_far, Some, Stand, Stay, Stays, stays_allowed, subst, sym, thread_came, ThreadAfter, Trip, true, Turn, wake_why, Why, Primitive, ℕ, ⊎_elim, ◌==◌, ◌∙◌, ◌≡◌, ◌≤◌, ◌⊎◌}
use Rattle.laws_places.proofs.{InsideLemmas.come_who, PlaceLaw.Frame, PlaceLaw.move_runner, PlaceLaw.runner_there, PlaceLaw.stay_primitive, PlaceLaw.watch, PlaceLaw.yield_leaves, StayMoves.Born, StayMoves.Gone, StayMoves.Kept, StayMoves.Marked, StayMoves.Moves, StayMoves.Passed, StayMoves.Resumed, StayMoves.Woken, StayMoves.stay_moves}

abbrev pub ReadyFor : Why → Option Place → Type 0
ReadyFor w p = (m : Mark) × (p ≡ Some (Place.Ready m w))

abbrev pub is_wending : Place → Bool
is_wending (Place.Ready m w) = not (is_for_start w)
is_wending (Place.Held w) = not (is_for_start w)
is_wending (Place.Waiting x c) = true
is_wending _ = false

-- While another thread runs its entry stays one for the same, what is held gets its entry, and who waits on a set is woken for it or cancelled.
abbrev pub Wends : Place → Option Place → Type 0
Wends (Place.Ready m w) p = ReadyFor w p
Wends (Place.Held w) p = (p ≡ Some (Place.Held w)) ⊎ ReadyFor w p
Wends (Place.Waiting x c) p = (p ≡ Some (Place.Waiting x c)) ⊎ (ReadyFor (wake_why x c) p ⊎ ReadyFor (Why.Delivery Delivery.Cancel) p)
Wends _ p = Unit {0}

-- ---- Primitives

put_held : (n : ℕ) (v w : Why) (s : Core) → MayPut n v s → place_of n s ≡ Some (Place.Held w) → v ≡ w
put_held n v w s ok at = grind arith

put_waiting : (n x : ℕ) (c : Bool) (v : Why) (s : Core) → MayPut n v s → place_of n s ≡ Some (Place.Waiting x c) → (v ≡ wake_why x c) ⊎ (v ≡ Why.Delivery Delivery.Cancel)
put_waiting n x c v s ok at = grind (arith, nat_tests)

module _ {a : Scene} {s t : Core} {j : ℕ} where
  moves_ready : (w : Why) → is_for_start w ≡ false → Moves a s t j → ReadyFor w (place_of j s) → ReadyFor w (place_of j t)
  moves_ready w other (Kept e) r = (r.0, e ∙ r.1)
  moves_ready w other (Marked x y v at to why) r = (y, let here = r.1 in let same : v ≡ w = cc in subst (λ (u : Why). place_of j t ≡ Some (Place.Ready y u)) same to)
  moves_ready w other (Woken p y v was parked to fresh put) r = absurd (let here = r.1 in grind arith)
  moves_ready w other (Resumed f y at to) r = absurd (let here = r.1 in cc)
  moves_ready w other (Passed f m u at switch same to ready next) r = absurd (let here = r.1 in cc)
  moves_ready w other (Born new none to) r = absurd (let here = r.1 in cc)
  moves_ready w other (Gone fresh none early) r = absurd (let here = r.1 in grind arith)

  moves_held : (w : Why) → is_for_start w ≡ false → Moves a s t j → place_of j s ≡ Some (Place.Held w) → (place_of j t ≡ Some (Place.Held w)) ⊎ ReadyFor w (place_of j t)
  moves_held w other (Kept e) here = inl (e ∙ here)
  moves_held w other (Marked x y v at to why) here = absurd (cc)
  moves_held w other (Woken p y v was parked to fresh put) here = inr (y, subst (λ (u : Why). place_of j t ≡ Some (Place.Ready y u)) (put_held j v w s put here) to)
  moves_held w other (Resumed f y at to) here = absurd (cc)
  moves_held w other (Passed f m u at switch same to ready next) here = absurd (cc)
  moves_held w other (Born new none to) here = absurd (cc)
  moves_held w other (Gone fresh none early) here = absurd (grind arith)

  moves_waiting : (x : ℕ) (c : Bool) → Moves a s t j → place_of j s ≡ Some (Place.Waiting x c) → Wends (Place.Waiting x c) (place_of j t)
  moves_waiting x c (Kept e) here = inl (e ∙ here)
  moves_waiting x c (Marked y z v at to why) here = absurd (cc)
  moves_waiting x c (Woken p y v was parked to fresh put) here = inr (⊎_elim
      (λ e. inl (y, subst (λ (u : Why). place_of j t ≡ Some (Place.Ready y u)) e to))
      (λ e. inr (y, subst (λ (u : Why). place_of j t ≡ Some (Place.Ready y u)) e to)) (put_waiting j x c v s put here))
  moves_waiting x c (Resumed f y at to) here = absurd (cc)
  moves_waiting x c (Passed f m u at switch same to ready next) here = absurd (cc)
  moves_waiting x c (Born new none to) here = absurd (cc)
  moves_waiting x c (Gone fresh none early) here = absurd (grind arith)

  wends_moves : (q : Place) → is_wending q ≡ true → Moves a s t j → Wends q (place_of j s) → Wends q (place_of j t)
  wends_moves (Place.Ready m w) kind go h = moves_ready w (grind arith) go h
  wends_moves (Place.Held w) kind go (inl here) = moves_held w (grind arith) go here
  wends_moves (Place.Held w) kind go (inr r) = inr (moves_ready w (grind arith) go r)
  wends_moves (Place.Waiting x c) kind go (inl here) = moves_waiting x c go here
  wends_moves (Place.Waiting x true) kind go (inr (inl r)) = inr (inl (moves_ready _ refl go r))
  wends_moves (Place.Waiting x false) kind go (inr (inl r)) = inr (inl (moves_ready _ refl go r))
  wends_moves (Place.Waiting x c) kind go (inr (inr r)) = inr (inr (moves_ready _ refl go r))
  wends_moves q kind go h = absurd (grind arith)

wends_there : (q : Place) (o : Option Place) → is_wending q ≡ true → Wends q o → is_some o ≡ true
wends_there (Place.Ready m w) o kind h = let at = h.1 in grind arith
wends_there (Place.Held w) o kind (inl at) = grind arith
wends_there (Place.Held w) o kind (inr h) = let at = h.1 in grind arith
wends_there (Place.Waiting x c) o kind (inl at) = grind arith
wends_there (Place.Waiting x c) o kind (inr (inl h)) = let at = h.1 in grind arith
wends_there (Place.Waiting x c) o kind (inr (inr h)) = let at = h.1 in grind arith
wends_there q o kind h = absurd (grind arith)

wends_old : (q : Place) (o : Option Place) → is_wending q ≡ true → Wends q o → o ≡ Some Place.New → ⊥
wends_old (Place.Ready m w) o kind h is = let at = h.1 in absurd (cc)
wends_old (Place.Held w) o kind (inl at) is = absurd (cc)
wends_old (Place.Held w) o kind (inr h) is = let at = h.1 in absurd (cc)
wends_old (Place.Waiting x c) o kind (inl at) is = absurd (cc)
wends_old (Place.Waiting x c) o kind (inr (inl h)) is = let at = h.1 in absurd (cc)
wends_old (Place.Waiting x c) o kind (inr (inr h)) is = let at = h.1 in absurd (cc)
wends_old q o kind h is = absurd (grind arith)

wends_first : (q : Place) → is_wending q ≡ true → Wends q (Some q)
wends_first (Place.Ready m w) kind = (m, refl)
wends_first (Place.Held w) kind = inl refl
wends_first (Place.Waiting x c) kind = inl refl
wends_first q kind = absurd (grind arith)

-- ---- Trips

module _ {a : Scene} {b : Core} {n : ℕ} {o : Option Place} (f : Frame a b n o) (j : ℕ) (q : Place) (kind : is_wending q ≡ true)
    (home : place_of j b ≡ Some q) (other : IsRunner a j → ⊥) where
  free : (m : ℕ) → place_of j a.base ≡ Some (Place.Under m) → ⊥
  free m at = let is = sym home ∙ f.home j in absurd (grind arith)

  apart : (k : ℕ) → IsRunner a k → (j == k) ≡ false
  apart k is = by_number j k _ (λ e. absurd (other (subst (λ (i : ℕ). IsRunner a i) (sym e) is))) (λ e. e)

  beside_own : (j == n) ≡ false
  beside_own = by_number j n _ (λ e. absurd (other (subst (λ (i : ℕ). IsRunner a i) (sym e) (f.own q (sym f.follows.start.here ∙ (ap (λ (i : ℕ). place_of i b) (sym e) ∙ home)))))) (λ e. e)

  -- on the way
  abbrev On : Core → Type 0
  On s = Wends q (place_of j s) × (op_progress_of j s ≡ op_progress_of j b)

  far_primitive : (w : Primitive) (s : Core) → Stays a w s → j ≤ s.made.threads → is_there j (after_primitive w s) ≡ true → op_progress_of j (after_primitive w s) ≡ op_progress_of j s
  far_primitive w s ok low there = go (thread_came w s (stays_allowed a w s ok) j)
    where
      go : ThreadAfter a w s j → op_progress_of j (after_primitive w s) ≡ op_progress_of j s
      go (IsSame r u e f c y (inl same) m z) = grind arith
      go (IsSame r u e f c y (inr come) m z) = absurd (⊎_elim other (λ under. free under.0 under.1) (come_who a j u.op_progress s come))
      go (IsGone e) = absurd (grind arith)
      go (IsBeside u new l same m e) = absurd (omega (arith, new, low))
      go (IsFirst u new l there y z far fresh e x) = absurd (omega (arith, new, low))

  on_primitive : (w : Primitive) (s : Core) → Stays a w s → Stand (watch a) n o [] s × On s → Stand (watch a) n o [] (after_primitive w s) × On (after_primitive w s)
  on_primitive w s ok h =
      let now = wends_moves q kind (stay_moves f.follows s h.0 w ok j) h.1.0 in
      let low = (h.0.placed j (no_time j n beside_own)).number (wends_there q (place_of j s) kind h.1.0) in
      (stay_primitive f.follows w s ok h.0, (now, far_primitive w s ok low (wends_there q (place_of j (after_primitive w s)) kind now) ∙ h.1.1))

  stay_on : {s : Core} → Stay a b s → On s
  stay_on c = (along (λ (u : Core). Stand (watch a) n o [] u × On u) on_primitive
      (f.follows.start, (subst (λ (p : Option Place). Wends q p) (sym home) (wends_first q kind), refl)) c).1

  -- another thread comes to a place
  abbrev Same : Core → Core → Type 0
  Same s t = (place_of j t ≡ place_of j s) × (op_progress_of j t ≡ op_progress_of j s)

  on_same : (s t : Core) → Same s t → On s → On t
  on_same s t same h = (subst (λ (p : Option Place). Wends q p) (sym same.0) h.0, same.1 ∙ h.1)

  land_same : (x : Placing) (s : Core) → MayLand a x s → Stay a b s → place_of j (after_placing x s) ≡ place_of j s
  unfolding put_high push_high put_low push_low behind_one set_callers
  land_same (Put Mark.High k w) s ok c = place_kept j k _ s (apart k (yield_leaves k w ok).0)
  land_same (Put Mark.Low k w) s ok c = place_kept j k _ s (apart k (yield_leaves k w ok).0)
  land_same (GoBehind g k) s ok c = place_kept j k _ s (apart k ok.0.0)
  land_same (Move k p) s ok c = place_kept j k p s (apart k (move_runner k p s ok (λ m is. runner_there f m s is c)))
  land_same (Enter k m) s ok c =
      place_kept j k _ (set_place m Place.Running s) (apart k ok.0)
      ∙ place_kept j m _ s (by_number j m _ (λ e. absurd (wends_old q (place_of j s) kind (stay_on c).0 (ap (λ (i : ℕ). place_of i s) e ∙ ok.1.1.1.0))) (λ e. e))
  land_same x s ok c = absurd (grind arith)

  lands_on : (x : Placing) (s : Core) → MayLand a x s → Stay a b s → On (after_primitive (Places x) s)
  lands_on x s ok c =
      on_same s (after_primitive (Places x) s) (
        ap (λ (t : Core). place_of j t) (placing_shifted x s).only ∙ land_same x s ok c,
        ap (λ (t : Core). op_progress_of j t) (placing_shifted x s).only ∙ shifted_far (placing_shifted x s) j,
      ) (stay_on c)

  far_on : (m : ℕ) (h : OpProgress) (s : Core) → (j == m) ≡ false → On s → On (after_primitive (SetOpProgress m h) s)
  unfolding set_op_progress on_thread
  far_on m h s other on = on_same s (set_op_progress m h s) (grind (arith, nat_tests, get-change), grind (arith, nat_tests, get-change, other)) on

  come_apart : (m : ℕ) (h : OpProgress) (s : Core) → MayCome a m h s → (j == m) ≡ false
  come_apart m h s ok = by_number j m _ (λ e. absurd (⊎_elim other (λ under. free under.0 under.1)
      (come_who a j h s (subst (λ (i : ℕ). MayCome a i h s) (sym e) ok)))) (λ e. e)

  gone_same : (k : ℕ) (s t : Core) → IsRunner a k → Settles (after_primitive (RemoveThread k) s) t → get t.threads j ≡ get s.threads j
  unfolding remove_thread
  gone_same k s t is d =
      let other = apart k is in
      along (λ (u : Core). get u.threads j ≡ get s.threads j) (λ w v ok h. ap (λ m. get m j) (settle_threads w v ok) ∙ h) (grind (arith, nat_tests, get-remove, other)) d

  quits_on : (k : ℕ) (s t : Core) → Stay a b s → IsRunner a k → Settles (after_primitive (RemoveThread k) s) t → On t
  quits_on k s t c is d = let same = gone_same k s t is d in on_same s t (grind arith, grind arith) (stay_on c)

  pub trip_on : {t : Core} → Trip a b t → (a.next ≡ Turn.Over → ⊥) → On t
  trip_on (Remains t c still on) live = stay_on c
  trip_on (Lands s x c ok fit halts) live = lands_on x s ok c
  trip_on (LandsAt s x m h c ok fit comes halts) live = far_on m h (after_primitive (Places x) s) (come_apart m h (after_primitive (Places x) s) comes.0) (lands_on x s ok c)
  trip_on (Quits s t k c leave d halts) live = quits_on k s t c leave.0 d
  trip_on (GoesBack s t k m v c is runs to under back d ok) live =
      let low : (j == m) ≡ false = by_number j m _ (λ e. absurd (free k (ap (λ (i : ℕ). place_of i a.base) e ∙ under))) (λ e. e) in
      far_on m (OpProgress.Answered v) (after_primitive (Places (Move m Place.Running)) t) low
      (on_same t (after_primitive (Places (Move m Place.Running)) t) (
        ap (λ (u : Core). place_of j u) (placing_shifted (Move m Place.Running) t).only ∙ place_kept j m Place.Running t low,
        ap (λ (u : Core). op_progress_of j u) (placing_shifted (Move m Place.Running) t).only ∙ shifted_far (placing_shifted (Move m Place.Running) t) j,
      ) (quits_on k s t c is d))
  trip_on (Collapses t over c) live = absurd (live over)
