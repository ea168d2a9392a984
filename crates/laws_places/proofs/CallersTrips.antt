-- Callers go on where a step has brought its thread.
use Rattle.laws_places.proofs.Laws.{[], after_placing, after_primitive, along, ap, arith, AwaitsEvent, behind_one, Blocks, Bool, by_number, Collapses, Core, Enter, eq_refl, false, foot_from, foot_of, get, get-change, get-remove, GoBehind, GoesBack, Halted, Halts, Holds, OpProgress, if◌then◌else◌, inl, inr, is_for_start, is_fresh, is_none, is_some, IsFoot, IsRunner, Lands, LandsAt, Leaves, leaving, Mark, MayLand, MayMove, MayYield, Move, nat_tests, None, on_thread, Option, option_map, option_map_or, Place, place_kept, place_of, place_written, Places, Placing, placing_shifted, push_high, push_low, Put, put_high, put_low, Quits, refl, Remains, remove_thread, RemoveThread, Runs, Scene, set_callers, set_op_progress, set_place, set_place_is, SetOpProgress, settle_threads, Settles, Some, Stand, Stay, subst, suc, Suspends, sym, Thread, Trip, true, Turn, Uncovers, under_of, under_place, Waits, WaitsAgain, Why, why_of, zero, ℕ, ⊎_elim, ◌==◌, ◌∙◌, ◌≡◌, ◌≤◌, ◌⊎◌}
use Rattle.laws_places.proofs.{CallersLemmas.AtMark, CallersLemmas.AtWork, CallersLemmas.Back, CallersLemmas.Begins, CallersLemmas.Both, CallersLemmas.Calling, CallersLemmas.Goes, CallersLemmas.Up, CallersLemmas.halted_both, CallersLemmas.walk_calling, PlaceLaw.Frame, PlaceLaw.beside, PlaceLaw.covered_still, PlaceLaw.move_runner, PlaceLaw.runner_there, PlaceLaw.stands, PlaceLaw.watch, StayMoves.switch_ready, StrandFeet.foot_bottom, StrandFeet.foot_place}

-- What is so of callers after the primitives from b on.
pub record Called (a : Scene) (b t : Core) : Type 0 where
  pub goes : (j f : ℕ) → place_of j t ≡ Some (Place.Behind f) → Goes (λ i. false) t j
  pub feet : (j k f : ℕ) → place_of j t ≡ Some (Place.Behind f) → place_of k t ≡ Some (Place.Under f) → ⊥
  pub under : (j m : ℕ) → place_of j t ≡ Some (Place.Under m) → (place_of m t ≡ None) ⊎ (is_fresh (place_of m t) ≡ false)
  pub fresh : (j k : ℕ) → place_of j t ≡ Some (Place.Behind k) → is_fresh (place_of k t) ≡ true → place_of k t ≡ Some (Place.Ready Mark.Switch Why.Start)
  pub came : (a.next ≡ Turn.Main → ⊥) → (j f : ℕ) → place_of j t ≡ Some (Place.Behind f) → place_of j b ≡ Some (Place.Behind f)
  pub live : (m : ℕ) → is_fresh (place_of m b) ≡ false → (place_of m t ≡ None) ⊎ (is_fresh (place_of m t) ≡ false)

-- under or behind another thread
abbrev pub is_held_on : Place → Bool
is_held_on (Place.Under m) = true
is_held_on (Place.Behind f) = true
is_held_on _ = false

-- who goes on, where one thread has come elsewhere
goes_by : {out : ℕ → Bool} (n : ℕ) (s t : Core) → ((k : ℕ) → (k == n) ≡ false → (place_of k s ≡ Some Place.New) ⊎ (place_of k t ≡ place_of k s)) →
    ((p : Place) → place_of n s ≡ Some p → is_held_on p ≡ false) → (out n ≡ false → Goes (λ i. false) t n) → (j : ℕ) → Goes out s j → Goes (λ i. false) t j
goes_by n s t others free own j (AtMark _ m w at o) = by_number j n _ (λ e. subst (λ (i : ℕ). Goes (λ i. false) t i) (sym e) (own (grind (arith, e, o))))
    (λ other. ⊎_elim (λ new. absurd (cc)) (λ k. AtMark j m w (k ∙ at) refl) (others j other))
goes_by n s t others free own j (AtWork _ at o) = by_number j n _ (λ e. subst (λ (i : ℕ). Goes (λ i. false) t i) (sym e) (own (grind (arith, e, o))))
    (λ other. ⊎_elim (λ new. absurd (cc)) (λ k. AtWork j (k ∙ at) refl) (others j other))
goes_by n s t others free own j (Up _ m at g) = by_number j n _
    (λ e. absurd (let no = free (Place.Under m) (ap (λ (i : ℕ). place_of i s) (sym e) ∙ at) in grind arith))
    (λ other. ⊎_elim (λ new. absurd (cc)) (λ k. Up j m (k ∙ at) (goes_by n s t others free own m g)) (others j other))
goes_by n s t others free own j (Back _ f at g) = by_number j n _
    (λ e. absurd (let no = free (Place.Behind f) (ap (λ (i : ℕ). place_of i s) (sym e) ∙ at) in grind arith))
    (λ other. ⊎_elim (λ new. absurd (cc)) (λ k. Back j f (k ∙ at) (goes_by n s t others free own f g)) (others j other))

-- the same places
pub goes_as : (s t : Core) → ((k : ℕ) → place_of k t ≡ place_of k s) → (j : ℕ) → Goes (λ i. false) s j → Goes (λ i. false) t j
goes_as s t same j (AtMark _ m w at o) = AtMark j m w (same j ∙ at) o
goes_as s t same j (AtWork _ at o) = AtWork j (same j ∙ at) o
goes_as s t same j (Up _ m at g) = Up j m (same j ∙ at) (goes_as s t same m g)
goes_as s t same j (Back _ f at g) = Back j f (same j ∙ at) (goes_as s t same f g)

pub called_as : {a : Scene} {b : Core} (s t : Core) → ((k : ℕ) → place_of k t ≡ place_of k s) → Called a b s → Called a b t
called_as s t same q = record {
  goes = λ j f at. goes_as s t same j (q.goes j f (sym (same j) ∙ at));
  feet = λ j k f at under. q.feet j k f (sym (same j) ∙ at) (sym (same k) ∙ under);
  under = λ j m at. ⊎_elim (λ none. inl (same m ∙ none)) (λ live. inr (ap is_fresh (same m) ∙ live)) (q.under j m (sym (same j) ∙ at));
  fresh = λ j k at fresh. same k ∙ q.fresh j k (sym (same j) ∙ at) (ap is_fresh (sym (same k)) ∙ fresh);
  came = λ on j f at. q.came on j f (sym (same j) ∙ at);
  live = λ m live. ⊎_elim (λ none. inl (same m ∙ none)) (λ e. inr (ap is_fresh (same m) ∙ e)) (q.live m live);
}

-- nobody is behind one that is left out
none_behind : {out : ℕ → Bool} {s : Core} (n j : ℕ) → out n ≡ true → ((p : Place) → place_of n s ≡ Some p → is_held_on p ≡ false) →
    place_of j s ≡ Some (Place.Behind n) → Goes out s j → ⊥
none_behind {out = out} {s = s} n j is free at (AtMark _ m w e o) = absurd (cc)
none_behind {out = out} {s = s} n j is free at (AtWork _ e o) = absurd (cc)
none_behind {out = out} {s = s} n j is free at (Up _ m e g) = absurd (cc)
none_behind {out = out} {s = s} n j is free at (Back _ f e g) = let same : f ≡ n = grind arith in ends f same g
  where
    ends : (f : ℕ) → f ≡ n → Goes out s f → ⊥
    ends f same (AtMark _ m w e o) = absurd (grind (arith, same))
    ends f same (AtWork _ e o) = absurd (grind (arith, same))
    ends f same (Up _ m e g) = absurd (let no = free (Place.Under m) (ap (λ (i : ℕ). place_of i s) (sym same) ∙ e) in grind arith)
    ends f same (Back _ h e g) = absurd (let no = free (Place.Behind h) (ap (λ (i : ℕ). place_of i s) (sym same) ∙ e) in grind arith)

-- The thread n has come elsewhere from s to t, after the primitives from b on.
module _ {a : Scene} {b : Core} (base : Begins a b) {out : ℕ → Bool} (n : ℕ) (s t : Core) (q : Calling a b out s)
    (others : (k : ℕ) → (k == n) ≡ false → place_of k t ≡ place_of k s) (there : is_fresh (place_of n b) ≡ true → place_of n b ≡ None → ⊥)
    (free : (p : Place) → place_of n s ≡ Some p → is_held_on p ≡ false) where
  -- it is gone, or waits for no start, or waited for one before
  abbrev Own : Type 0
  Own = (place_of n t ≡ None) ⊎ ((is_fresh (place_of n t) ≡ false) ⊎ (is_fresh (place_of n b) ≡ true))

  own_live : Own → is_fresh (place_of n b) ≡ false → (place_of n t ≡ None) ⊎ (is_fresh (place_of n t) ≡ false)
  own_live (inl none) live = inl none
  own_live (inr (inl e)) live = inr e
  own_live (inr (inr e)) live = absurd (grind arith)

  live_next : Own → (m : ℕ) → is_fresh (place_of m b) ≡ false → (place_of m t ≡ None) ⊎ (is_fresh (place_of m t) ≡ false)
  live_next own m live = by_number m n _ (λ e. subst (λ (i : ℕ). (place_of i t ≡ None) ⊎ (is_fresh (place_of i t) ≡ false)) (sym e) (own_live own (ap (λ (i : ℕ). is_fresh (place_of i b)) (sym e) ∙ live)))
      (λ other. inr (ap is_fresh (others m other) ∙ q.lively m live))

  under_next : Own → (j m : ℕ) → place_of j s ≡ Some (Place.Under m) → (place_of m t ≡ None) ⊎ (is_fresh (place_of m t) ≡ false)
  under_next own j m at = ⊎_elim (λ none. gone none) (λ live. live_next own m live) (base.covers j m (q.unders j m at))
    where
      gone : place_of m b ≡ None → (place_of m t ≡ None) ⊎ (is_fresh (place_of m t) ≡ false)
      gone none = by_number m n _ (λ e. absurd (there (ap is_fresh (ap (λ (i : ℕ). place_of i b) (sym e) ∙ none)) (ap (λ (i : ℕ). place_of i b) (sym e) ∙ none)))
          (λ other. inl (others m other ∙ never (place_of m s) refl none))
        where
          never : (o : Option Place) → place_of m s ≡ o → place_of m b ≡ None → place_of m s ≡ None
          never None is none = is
          never (Some p) is none = absurd (let new = q.new m none (ap (λ (o : Option Place). is_some o) is) in let low = base.given j m (q.unders j m at) in omega (arith, new, low))

  -- it is neither under nor behind another thread now
  pub called_off : ((p : Place) → place_of n t ≡ Some p → is_held_on p ≡ false) → (out n ≡ false → Goes (λ i. false) t n) →
      ((j : ℕ) → place_of j s ≡ Some (Place.Behind n) → is_fresh (place_of n t) ≡ false) → Own → Called a b t
  called_off loose own_goes edges own = record {
    goes = λ j f at. goes_by n s t (λ k e. inr (others k e)) free own_goes j (q.goes j f (was j f at));
    feet = λ j k f at under. q.feet j k f (was j f at) (was_under k f under);
    under = λ j m at. under_next own j m (was_under j m at);
    fresh = λ j k at fresh. by_number k n _ (λ e. absurd (let live = edges j (was j k at ∙ ap (λ (i : ℕ). Some (Place.Behind i)) e) in grind (arith, e)))
        (λ other. others k other ∙ q.fresh j k (was j k at) (ap is_fresh (sym (others k other)) ∙ fresh));
    came = λ on j f at. q.came on j f (was j f at);
    live = live_next own;
  }
    where
      was : (j f : ℕ) → place_of j t ≡ Some (Place.Behind f) → place_of j s ≡ Some (Place.Behind f)
      was j f at = by_number j n _ (λ e. absurd (let no = loose (Place.Behind f) (ap (λ (i : ℕ). place_of i t) (sym e) ∙ at) in grind arith)) (λ other. sym (others j other) ∙ at)

      was_under : (j m : ℕ) → place_of j t ≡ Some (Place.Under m) → place_of j s ≡ Some (Place.Under m)
      was_under j m at = by_number j n _ (λ e. absurd (let no = loose (Place.Under m) (ap (λ (i : ℕ). place_of i t) (sym e) ∙ at) in grind arith)) (λ other. sym (others j other) ∙ at)

  -- it is behind g now
  pub called_behind_now : (g : ℕ) → place_of n t ≡ Some (Place.Behind g) → Goes (λ i. false) t n → ((k : ℕ) → place_of k s ≡ Some (Place.Under g) → ⊥) →
      (is_fresh (place_of g t) ≡ true → place_of g t ≡ Some (Place.Ready Mark.Switch Why.Start)) → a.next ≡ Turn.Main → Called a b t
  called_behind_now g here goes foot start to = record {
    goes = λ j f at. by_number j n _ (λ e. subst (λ (i : ℕ). Goes (λ i. false) t i) (sym e) goes)
        (λ other. goes_by n s t (λ k e. inr (others k e)) free (λ e. goes) j (q.goes j f (sym (others j other) ∙ at)));
    feet = λ j k f at under.
        let below = was_under k f under in
        by_number j n _ (λ e. foot k (below ∙ ap (λ (i : ℕ). Some (Place.Under i)) (grind (arith, e, at, here)))) (λ other. q.feet j k f (sym (others j other) ∙ at) below);
    under = λ j m at. under_next (inr (inl (ap is_fresh here))) j m (was_under j m at);
    fresh = λ j k at fresh. by_number j n _ (λ e. let same : k ≡ g = grind (arith, e, at, here) in rw same (start (rw same at fresh)))
        (λ other. by_number k n _ (λ e. absurd (grind (arith, e, here)))
        (λ apart. others k apart ∙ q.fresh j k (sym (others j other) ∙ at) (ap is_fresh (sym (others k apart)) ∙ fresh)));
    came = λ on. absurd (on to);
    live = live_next (inr (inl (ap is_fresh here)));
  }
    where
      was_under : (j m : ℕ) → place_of j t ≡ Some (Place.Under m) → place_of j s ≡ Some (Place.Under m)
      was_under j m at = by_number j n _ (λ e. absurd (grind (arith, e, here))) (λ other. sym (others j other) ∙ at)

calling_called : {a : Scene} {b s : Core} → Begins a b → Calling a b (λ i. false) s → Called a b s
calling_called {b = b} {s = s} base q = record {
  goes = q.goes;
  feet = q.feet;
  under = λ j m at. ⊎_elim (λ none. inl (never m none (base.given j m (q.unders j m at)) (place_of m s) refl)) (λ live. inr (q.lively m live)) (base.covers j m (q.unders j m at));
  fresh = q.fresh;
  came = q.came;
  live = λ m live. inr (q.lively m live);
}
  where
    never : (m : ℕ) → place_of m b ≡ None → m ≤ b.made.threads → (o : Option Place) → place_of m s ≡ o → place_of m s ≡ None
    never m none low None is = is
    never m none low (Some p) is = absurd (let new = q.new m none (ap (λ (o : Option Place). is_some o) is) in omega (arith, new, low))

-- ---- Trips

abbrev pub all_in : ℕ → Bool
all_in j = false

module _ {a : Scene} {b : Core} {n : ℕ} {o : Option Place} (f : Frame a b n o) (base : Begins a b) (first : Both f.follows base all_in b) where
  stay_both : {s : Core} → Stay a b s → Both f.follows base all_in s
  stay_both c = walk_calling f.follows base all_in (λ j e. refl) c first

  lone_both : (k : ℕ) (s : Core) → IsRunner a k → Halted a b k s → a.next ≡ Turn.Main → Calling a b (λ j. j == k) s
  lone_both k s is h to =
      let one = f.one k is in
      let same : Halted a b n s = subst (λ (j : ℕ). Halted a b j s) one h in
      subst (λ (i : ℕ). Calling a b (λ j. j == i) s) (sym one) (halted_both f.follows base s same to first).1

  -- the thread is at work or was taken
  own_place : (k : ℕ) (s : Core) → IsRunner a k → Stay a b s → (p : Place) → place_of k s ≡ Some p → is_held_on p ≡ false
  own_place k s is c p at = let h = beside f k is in let here = (stands h.1 c).here in let busy = h.1.follows.busy in let top = h.1.top in grind (arith, nat_tests)

  own_there : (k : ℕ) → IsRunner a k → is_fresh (place_of k b) ≡ true → place_of k b ≡ None → ⊥
  own_there k is fresh none = let h = beside f k is in let here = h.1.follows.start.here in absurd (cc)

  own_was : (k : ℕ) (x : Mark) (w : Why) → place_of k a.base ≡ Some (Place.Ready x w) → is_fresh (place_of k b) ≡ is_for_start w
  own_was k x w at = ap is_fresh (f.home k ∙ at)

  -- it goes on at a place of its own
  goes_on_at : (k : ℕ) (s t : Core) (p : Place) → IsRunner a k → Stay a b s → ((j : ℕ) → (j == k) ≡ false → place_of j t ≡ place_of j s) → place_of k t ≡ Some p →
      ((p ≡ Place.Running) ⊎ ((x : Mark) × ((w : Why) × ((p ≡ Place.Ready x w) × (is_for_start w ≡ false))))) → Called a b t
  goes_on_at k s t p is c others at kind =
      called_off base k s t (stay_both c).1 others (own_there k is) (own_place k s is c)
      (λ r here. ⊎_elim (λ e. grind (arith, here, at, e)) (λ y. let e = y.1.1.0 in grind (arith, here, at)) kind)
      (λ e. ⊎_elim (λ r. AtWork k (at ∙ ap (λ (q : Place). Some q) r) refl) (λ y. AtMark k y.0 y.1.0 (at ∙ ap (λ (q : Place). Some q) y.1.1.0) refl) kind)
      (λ j behind. awake) (inr (inl awake))
    where
      awake : is_fresh (place_of k t) ≡ false
      awake = ⊎_elim (λ e. grind (arith, at, e)) (λ y. let e = y.1.1.0 in let w = y.1.1.1 in grind (arith, at)) kind

  -- it leaves, and its strand has stopped
  leaves_at : (k : ℕ) (s t : Core) → IsRunner a k → Stay a b s → Halted a b k s → a.next ≡ Turn.Main → ((j : ℕ) → (j == k) ≡ false → place_of j t ≡ place_of j s) →
      ((p : Place) → place_of k t ≡ Some p → is_held_on p ≡ false) →
      (place_of k t ≡ None) ⊎ ((is_fresh (place_of k t) ≡ false) ⊎ (is_fresh (place_of k b) ≡ true)) → Called a b t
  leaves_at k s t is c h to others loose own =
      let q = lone_both k s is h to in
      called_off base k s t q others (own_there k is) (own_place k s is c) loose (λ e. absurd (grind (arith, nat_tests)))
      (λ j at. absurd (none_behind {out = λ i. i == k} k j (eq_refl k) (own_place k s is c) at (q.goes j k at))) own

  put_kind : (k : ℕ) (w : Why) → MayYield a k w → IsRunner a k × (is_for_start w ≡ false)
  put_kind k w ok = (grind arith, grind arith)

  moves_to : (k : ℕ) (p : Place) (s : Core) → MayMove a k p s → Stay a b s → Halts a b (leaving (Move k p)) s → ((m : ℕ) → IsRunner a m → is_none (get s.threads m) ≡ false) →
      place_of k (set_place k p s) ≡ Some p → Called a b (set_place k p s)
  moves_to k p s (Runs is to starts e) c halts there at = goes_on_at k s _ p is c (λ j other. place_kept j k p s other) at (inl e)
  moves_to k p s (Uncovers m is to under none e) c halts there at = absurd (let no = there m is in grind arith)
  moves_to k p s (Holds w l was out e) c halts there at =
      leaves_at k s _ l.0 c (rw e at halts) l.1 (λ j other. place_kept j k p s other) (λ r here. grind (arith, here, at, e)) (inr (held (is_for_start w) refl))
    where
      held : (v : Bool) → is_for_start w ≡ v → (is_fresh (place_of k (set_place k p s)) ≡ false) ⊎ (is_fresh (place_of k b) ≡ true)
      held true is = inr (own_was k was.0 w was.1 ∙ is)
      held false is = inl (grind (arith, at, e, is))
  moves_to k p s (WaitsAgain x l was none e) c halts there at = leaves_at k s _ l.0 c (rw e at halts) l.1 (λ j other. place_kept j k p s other) (λ r here. grind (arith, here, at, e)) (inr (inl (grind (arith, at, e))))
  moves_to k p s (AwaitsEvent x l d g none e) c halts there at = leaves_at k s _ l.0 c (rw e at halts) l.1.0 (λ j other. place_kept j k p s other) (λ r here. grind (arith, here, at, e)) (inr (inl (grind (arith, at, e))))
  moves_to k p s (Waits x l g none e) c halts there at = leaves_at k s _ l.0 c (rw e at halts) l.1.0 (λ j other. place_kept j k p s other) (λ r here. grind (arith, here, at, e)) (inr (inl (grind (arith, at, e))))
  moves_to k p s (Blocks sub l g opens live e) c halts there at = leaves_at k s _ l.0 c (rw e at halts) l.1.0 (λ j other. place_kept j k p s other) (λ r here. grind (arith, here, at, e)) (inr (inl (grind (arith, at, e))))
  moves_to k p s (Suspends l e) c halts there at = leaves_at k s _ l.0 c (rw e at halts) l.1.0 (λ j other. place_kept j k p s other) (λ r here. grind (arith, here, at, e)) (inr (inl (grind (arith, at, e))))

  -- up from a thread that is ready in t
  climbs : (s t : Core) → ((v i : ℕ) → place_of v s ≡ Some (Place.Under i) → place_of v t ≡ Some (Place.Under i)) → (k i : ℕ) → Goes all_in t i → Goes all_in t (foot_from k s i)
  climbs s t up zero i g = g
  climbs s t up (suc k) i g = by (λ v. climbs s t up k v) (under_of i s) refl
    where
      by : ((v : ℕ) → Goes all_in t v → Goes all_in t (foot_from k s v)) → (x : Option ℕ) → under_of i s ≡ x → Goes all_in t (option_map_or (foot_from k s) (under_of i s) i)
      by rec None is = subst (λ (x : Option ℕ). Goes all_in t (option_map_or (foot_from k s) x i)) (sym is) g
      by rec (Some v) is = subst (λ (x : Option ℕ). Goes all_in t (option_map_or (foot_from k s) x i)) (sym is) (rec v (Up v i (up v i (under_place i v s is)) g))

  goes_behind : (g k : ℕ) (s : Core) → Leaves a k → IsFoot a g s → Stay a b s → Called a b (behind_one g k s)
  unfolding behind_one set_callers foot_of
  goes_behind g k s leave foot c =
      called_behind_now base k s t q others (own_there k leave.0) (own_place k s leave.0 c) g at (Back k g at (on foot)) (bottom foot) (start foot) leave.1.0
    where
      t : Core
      t = behind_one g k s

      st : Stand (watch a) n o [] s
      st = (stay_both c).0

      q : Calling a b all_in s
      q = (stay_both c).1

      others : (j : ℕ) → (j == k) ≡ false → place_of j t ≡ place_of j s
      others j other = place_kept j k (Place.Behind g) s other

      at : place_of k t ≡ Some (Place.Behind g)
      at = let h = beside f k leave.0 in place_written k (Place.Behind g) h.0 s (stands h.1 c).here

      ready : (m : ℕ) → s.queues.switch ≡ Some m → place_of m t ≡ Some (Place.Ready Mark.Switch (why_of m s))
      ready m is = let r = switch_ready a st m is in others m (ap (λ (j : ℕ). m == j) (f.one k leave.0) ∙ r.1) ∙ r.0

      up : (v i : ℕ) → place_of v s ≡ Some (Place.Under i) → place_of v t ≡ Some (Place.Under i)
      up v i e = by_number v k _ (λ same. absurd (let no = own_place k s leave.0 c (Place.Under i) (ap (λ (j : ℕ). place_of j s) (sym same) ∙ e) in grind arith)) (λ other. others v other ∙ e)

      on : IsFoot a g s → Goes all_in t g
      on (inl e) = AtMark g Mark.Switch (why_of g s) (ready g e.0) refl
      on (inr m) = subst (λ (x : ℕ). Goes all_in t x) (sym m.1.1) (climbs s t up _ m.0 (AtMark m.0 Mark.Switch (why_of m.0 s) (ready m.0 m.1.0) refl))

      bottom : IsFoot a g s → (j : ℕ) → place_of j s ≡ Some (Place.Under g) → ⊥
      bottom (inl e) j under = let low = base.given j g (q.unders j g under) in let new = e.1 in let made = base.made in omega (arith, low, new, made)
      bottom (inr m) j under = foot_bottom s (λ i x e. base.rising i x (q.unders i x e)) m.0 j (under ∙ ap (λ (x : ℕ). Some (Place.Under x)) m.1.1)

      starts : (m : ℕ) → s.queues.switch ≡ Some m → is_fresh (place_of m t) ≡ true → place_of m t ≡ Some (Place.Ready Mark.Switch Why.Start)
      starts m is fresh = let r = ready m is in grind arith

      start : IsFoot a g s → is_fresh (place_of g t) ≡ true → place_of g t ≡ Some (Place.Ready Mark.Switch Why.Start)
      start (inl e) fresh = starts g e.0 fresh
      start (inr m) fresh = ⊎_elim (λ same. let is : m.0 ≡ g = sym (m.1.1 ∙ same) in
          subst (λ (x : ℕ). place_of x t ≡ Some (Place.Ready Mark.Switch Why.Start)) is (starts m.0 m.1.0 (subst (λ (x : ℕ). is_fresh (place_of x t) ≡ true) (sym is) fresh)))
          (λ v. absurd (let now = up g v.0 (ap (λ (x : ℕ). place_of x s) m.1.1 ∙ v.1) in grind arith)) (foot_place m.0 s)

  enters_new : (k m : ℕ) (s : Core) → MayLand a (Enter k m) s → Stay a b s → Called a b (set_place k (Place.Under m) (set_place m Place.Running s))
  enters_new k m s ok c = record {
    goes = λ j g at. goes_by k s t others (own_place k s is c) (λ e. Up k m own (AtWork m new refl)) j (q.goes j g (was_behind j g at));
    feet = λ j i g at under. by_number i k _ (λ e. absurd (let same : g ≡ m = grind (arith, e, under, own) in none_at j (was_behind j g at ∙ ap (λ (x : ℕ). Some (Place.Behind x)) same)))
        (λ other. q.feet j i g (was_behind j g at) (was_under i g other under));
    under = λ j x at. by_number j k _ (λ e. let same : x ≡ m = grind (arith, e, at, own) in inr (rw same (ap is_fresh new)))
        (λ other. late x (base_called.under j x (was_under j x other at)));
    fresh = λ j x at fresh. by_number x k _ (λ e. absurd (grind (arith, e, own)))
        (λ other. by_number x m _ (λ e. absurd (none_at j (was_behind j x at ∙ ap (λ (y : ℕ). Some (Place.Behind y)) e)))
        (λ apart. kept x other apart ∙ q.fresh j x (was_behind j x at) (ap is_fresh (sym (kept x other apart)) ∙ fresh)));
    came = λ on j g at. q.came on j g (was_behind j g at);
    live = λ x live. late x (inr (q.lively x live));
  }
    where
      is : IsRunner a k
      is = ok.0

      fresh_m : place_of m s ≡ Some Place.New
      fresh_m = ok.1.1.1.0

      t : Core
      t = set_place k (Place.Under m) (set_place m Place.Running s)

      q : Calling a b all_in s
      q = (stay_both c).1

      base_called : Called a b s
      base_called = calling_called base q

      here : place_of k s ≡ Some (beside f k is).0
      here = (stands (beside f k is).1 c).here

      apart_km : (k == m) ≡ false
      apart_km = by_number k m _ (λ e. absurd (let busy = (beside f k is).1.follows.busy in let new = fresh_m in grind (arith, e, here))) (λ other. other)

      own : place_of k t ≡ Some (Place.Under m)
      own = place_written k (Place.Under m) (beside f k is).0 (set_place m Place.Running s) (place_kept k m Place.Running s apart_km ∙ here)

      new : place_of m t ≡ Some Place.Running
      new = let other = apart_km in place_kept m k (Place.Under m) (set_place m Place.Running s) (grind (arith, nat_tests)) ∙ place_written m Place.Running Place.New s fresh_m

      kept : (j : ℕ) → (j == k) ≡ false → (j == m) ≡ false → place_of j t ≡ place_of j s
      kept j other apart = place_kept j k (Place.Under m) (set_place m Place.Running s) other ∙ place_kept j m Place.Running s apart

      others : (j : ℕ) → (j == k) ≡ false → (place_of j s ≡ Some Place.New) ⊎ (place_of j t ≡ place_of j s)
      others j other = by_number j m _ (λ e. inl (ap (λ (i : ℕ). place_of i s) e ∙ fresh_m)) (λ apart. inr (kept j other apart))

      was_behind : (j g : ℕ) → place_of j t ≡ Some (Place.Behind g) → place_of j s ≡ Some (Place.Behind g)
      was_behind j g at = by_number j k _ (λ e. absurd (grind (arith, e, own)))
          (λ other. by_number j m _ (λ e. absurd (grind (arith, e, new))) (λ apart. sym (kept j other apart) ∙ at))

      was_under : (j x : ℕ) → (j == k) ≡ false → place_of j t ≡ Some (Place.Under x) → place_of j s ≡ Some (Place.Under x)
      was_under j x other at = by_number j m _ (λ e. absurd (grind (arith, e, new))) (λ apart. sym (kept j other apart) ∙ at)

      none_at : (j : ℕ) → place_of j s ≡ Some (Place.Behind m) → ⊥
      none_at j at = let r = q.fresh j m at (ap is_fresh fresh_m) in let e = fresh_m in absurd (cc)

      late : (x : ℕ) → (place_of x s ≡ None) ⊎ (is_fresh (place_of x s) ≡ false) → (place_of x t ≡ None) ⊎ (is_fresh (place_of x t) ≡ false)
      late x h = by_number x k _ (λ e. inr (grind (arith, e, own)))
          (λ other. by_number x m _ (λ e. inr (grind (arith, e, new)))
          (λ apart. ⊎_elim (λ none. inl (kept x other apart ∙ none)) (λ live. inr (ap is_fresh (kept x other apart) ∙ live)) h))

  lands_called : (x : Placing) (s : Core) → MayLand a x s → Stay a b s → Halts a b (leaving x) s → Called a b (after_placing x s)
  unfolding put_high push_high put_low push_low
  lands_called (Put Mark.High k w) s ok c halts =
      let y = put_kind k w ok in
      goes_on_at k s _ (Place.Ready Mark.High w) y.0 c (λ j other. place_kept j k _ s other)
      (let h = beside f k y.0 in place_written k (Place.Ready Mark.High w) h.0 s (stands h.1 c).here) (inr (Mark.High, (w, (refl, y.1))))
  lands_called (Put Mark.Low k w) s ok c halts =
      let y = put_kind k w ok in
      goes_on_at k s _ (Place.Ready Mark.Low w) y.0 c (λ j other. place_kept j k _ s other)
      (let h = beside f k y.0 in place_written k (Place.Ready Mark.Low w) h.0 s (stands h.1 c).here) (inr (Mark.Low, (w, (refl, y.1))))
  lands_called (GoBehind g k) s ok c halts = goes_behind g k s ok.0 ok.1 c
  lands_called (Move k p) s ok c halts =
      moves_to k p s ok c halts (λ m is. runner_there f m s is c)
      (let is = move_runner k p s ok (λ j is. runner_there f j s is c) in let h = beside f k is in place_written k p h.0 s (stands h.1 c).here)
  lands_called (Enter k m) s ok c halts = enters_new k m s ok c
  lands_called x s ok c halts = absurd (grind arith)

  -- the thread is gone, and others stay
  left_places : (k : ℕ) (s t : Core) → Settles (after_primitive (RemoveThread k) s) t → (j : ℕ) → place_of j t ≡ (if j == k then None else place_of j s)
  unfolding remove_thread
  left_places k s t d j =
      along (λ (u : Core). place_of j u ≡ (if j == k then None else place_of j s))
      (λ w u ok e. ap (λ m. option_map (λ (r : Thread). r.place) (get m j)) (settle_threads w u ok) ∙ e) (grind (arith, nat_tests, get-remove)) d

  quits_called : (k : ℕ) (s t : Core) → Stay a b s → Leaves a k → Settles (after_primitive (RemoveThread k) s) t → Halted a b k s → Called a b t
  quits_called k s t c leave d h =
      leaves_at k s t leave.0 c h leave.1.0 (λ j other. let e = left_places k s t d j in grind (arith, other))
      (λ p at. absurd (let e = left_places k s t d k in grind (arith, nat_tests))) (inl (let e = left_places k s t d k in grind (arith, nat_tests)))

  -- a direct callee is gone, and the thread under it goes on
  goes_back_called : (k m : ℕ) (s t : Core) → Stay a b s → IsRunner a k → place_of m a.base ≡ Some (Place.Under k) → Settles (after_primitive (RemoveThread k) s) t →
      Called a b (set_place m Place.Running t)
  goes_back_called k m s t c is under d = record {
    goes = λ j g at. on j (q.goes j g (was_behind j g at)) (by_number j k _ (λ e. absurd (grind (arith, e, gone))) (λ other. other));
    feet = λ j i g at low. q.feet j i g (was_behind j g at) (was_under i g low);
    under = λ j x at. late x (base_called.under j x (was_under j x at));
    fresh = λ j x at fresh. by_number x m _ (λ e. absurd (grind (arith, e, new)))
        (λ other. by_number x k _ (λ e. absurd (q.feet j m k (was_behind j x at ∙ ap (λ (y : ℕ). Some (Place.Behind y)) e) low))
        (λ apart. kept x apart other ∙ q.fresh j x (was_behind j x at) (ap is_fresh (sym (kept x apart other)) ∙ fresh)));
    came = λ on j g at. q.came on j g (was_behind j g at);
    live = λ x live. late x (inr (q.lively x live));
  }
    where
      u : Core
      u = set_place m Place.Running t

      q : Calling a b all_in s
      q = (stay_both c).1

      base_called : Called a b s
      base_called = calling_called base q

      low : place_of m s ≡ Some (Place.Under k)
      low = covered_still a (stay_both c).0 m k under

      apart_mk : (m == k) ≡ false
      apart_mk = by_number m k _ (λ e. absurd (let no = own_place k s is c (Place.Under k) (ap (λ (i : ℕ). place_of i s) (sym e) ∙ low) in grind arith)) (λ other. other)

      there : place_of m t ≡ Some (Place.Under k)
      there = let e = left_places k s t d m in let other = apart_mk in let at = low in grind (arith, nat_tests)

      new : place_of m u ≡ Some Place.Running
      new = place_written m Place.Running (Place.Under k) t there

      gone : place_of k u ≡ None
      gone = let e = left_places k s t d k in let other = apart_mk in grind (arith, nat_tests, set_place_is k m Place.Running t)

      kept : (j : ℕ) → (j == k) ≡ false → (j == m) ≡ false → place_of j u ≡ place_of j s
      kept j apart other = place_kept j m Place.Running t other ∙ (let e = left_places k s t d j in grind (arith, nat_tests))

      was_behind : (j g : ℕ) → place_of j u ≡ Some (Place.Behind g) → place_of j s ≡ Some (Place.Behind g)
      was_behind j g at = by_number j m _ (λ e. absurd (grind (arith, e, new)))
          (λ other. by_number j k _ (λ e. absurd (grind (arith, e, gone))) (λ apart. sym (kept j apart other) ∙ at))

      was_under : (j x : ℕ) → place_of j u ≡ Some (Place.Under x) → place_of j s ≡ Some (Place.Under x)
      was_under j x at = by_number j m _ (λ e. absurd (grind (arith, e, new)))
          (λ other. by_number j k _ (λ e. absurd (grind (arith, e, gone))) (λ apart. sym (kept j apart other) ∙ at))

      late : (x : ℕ) → (place_of x s ≡ None) ⊎ (is_fresh (place_of x s) ≡ false) → (place_of x u ≡ None) ⊎ (is_fresh (place_of x u) ≡ false)
      late x h = by_number x m _ (λ e. inr (grind (arith, e, new)))
          (λ other. by_number x k _ (λ e. inl (ap (λ (i : ℕ). place_of i u) e ∙ gone))
          (λ apart. ⊎_elim (λ none. inl (kept x apart other ∙ none)) (λ live. inr (ap is_fresh (kept x apart other) ∙ live)) h))

      on : (j : ℕ) → Goes all_in s j → (j == k) ≡ false → Goes all_in u j
      on j (AtMark _ x w at o) apart = by_number j m _ (λ e. absurd (grind (arith, e, low))) (λ other. AtMark j x w (kept j apart other ∙ at) refl)
      on j (AtWork _ at o) apart = by_number j m _ (λ e. absurd (grind (arith, e, low))) (λ other. AtWork j (kept j apart other ∙ at) refl)
      on j (Up _ x at g) apart = by_number j m _ (λ e. subst (λ (i : ℕ). Goes all_in u i) (sym e) (AtWork m new refl))
          (λ other. Up j x (kept j apart other ∙ at) (on x g (by_number x k _
          (λ e. absurd (let one = base.alone j m k (q.unders j k (at ∙ ap (λ (y : ℕ). Some (Place.Under y)) e)) (q.unders m k low) in grind (arith, nat_tests))) (λ no. no))))
      on j (Back _ g at y) apart = by_number j m _ (λ e. absurd (grind (arith, e, low)))
          (λ other. Back j g (kept j apart other ∙ at) (on g y (by_number g k _
          (λ e. absurd (q.feet j m k (at ∙ ap (λ (y : ℕ). Some (Place.Behind y)) e) low)) (λ no. no))))

  far_same : (m : ℕ) (h : OpProgress) (s : Core) (j : ℕ) → place_of j (after_primitive (SetOpProgress m h) s) ≡ place_of j s
  unfolding set_op_progress on_thread
  far_same m h s j = grind (arith, nat_tests, get-change)

  primitive_same : (x : Placing) (s : Core) (j : ℕ) → place_of j (after_primitive (Places x) s) ≡ place_of j (after_placing x s)
  primitive_same x s j = ap (λ (t : Core). place_of j t) (placing_shifted x s).only

  pub trip_called : {t : Core} → Trip a b t → (a.next ≡ Turn.Over → ⊥) → Called a b t
  trip_called (Remains t c still on) live = calling_called base (stay_both c).1
  trip_called (Lands s x c ok fit halts) live = called_as (after_placing x s) _ (primitive_same x s) (lands_called x s ok c halts)
  trip_called (LandsAt s x m h c ok fit comes halts) live =
      called_as (after_placing x s) _ (λ j. far_same m h (after_primitive (Places x) s) j ∙ primitive_same x s j) (lands_called x s ok c halts)
  trip_called (Quits s t k c leave d h) live = quits_called k s t c leave d h
  trip_called (GoesBack s t k m v c is runs to under back d ok) live =
      called_as (set_place m Place.Running t) _ (λ j. far_same m (OpProgress.Answered v) (after_primitive (Places (Move m Place.Running)) t) j ∙ primitive_same (Move m Place.Running) t j)
      (goes_back_called k m s t c is under d)
  trip_called (Collapses t over c) live = absurd (live over)
