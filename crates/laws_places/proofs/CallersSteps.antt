-- Callers go on: each step keeps it.
use Rattle.laws_places.proofs.Laws.{ap, arith, AwaitsEvent, BehindFeet, Blocks, Bool, CallersGoOn, Collapses, Core, Enter, false, get, GoBehind, goes_on_at, goes_on_within, GoesBack, HasPlace, Holds, inl, InOrderFor, inr, is_fresh, is_some, is_take, is_there, IsRunner, Label, Lands, LandsAt, le_refl, MadeCounts, Mark, MayLand, MayMove, Move, nat_tests, next_entry, None, Op, Option, option_map, Place, place_of, Placing, Put, Quits, refl, Remains, runner_at, Runs, Scene, scene_as, Setting, Some, StartsFree, State, subst, suc, Suspends, sym, Thread, Trip, true, Turn, Uncovers, Waits, WaitsAgain, WalkedAs, Why, zero, ℕ, ⊎_elim, ◌∙◌, ◌≡◌, ◌≤◌, ◌⊎◌}
use Rattle.laws_places.proofs.{CallersLemmas.AtMark, CallersLemmas.AtWork, CallersLemmas.Back, CallersLemmas.Begins, CallersLemmas.Calling, CallersLemmas.Goes, CallersLemmas.Up, CallersTrips.Called, CallersTrips.all_in, CallersTrips.goes_as, CallersTrips.is_held_on, CallersTrips.trip_called, PlaceLaw.yield_leaves, PlaceSteps.Reads, PlaceSteps.Withdrawable, PlaceSteps.settled_run, PlaceSteps.step_by}

-- ---- By the number of threads on the way

within : (s : Core) (n : ℕ) → Goes all_in s n → (k : ℕ) × (goes_on_within k s n ≡ true)
within s n (AtMark _ m w at o) = (suc zero, grind (arith, at))
within s n (AtWork _ at o) = (suc zero, grind (arith, at))
within s n (Up _ m at g) = let r = within s m g in (suc r.0, let h = r.1 in grind (arith, at))
within s n (Back _ f at g) = let r = within s f g in (suc r.0, let h = r.1 in grind (arith, at))

goes_of : (s : Core) (k n : ℕ) → goes_on_within k s n ≡ true → Goes all_in s n
goes_of s zero n h = absurd (grind arith)
goes_of s (suc k) n h = by (λ m. goes_of s k m) (place_of n s) refl h
  where
    by : ((m : ℕ) → goes_on_within k s m ≡ true → Goes all_in s m) → (o : Option Place) → place_of n s ≡ o → goes_on_at (goes_on_within k s) o ≡ true → Goes all_in s n
    by rec (Some (Place.Ready m w)) at on = AtMark n m w at refl
    by rec (Some Place.Running) at on = AtWork n at refl
    by rec (Some (Place.Under m)) at on = Up n m at (rec m on)
    by rec (Some (Place.Behind f)) at on = Back n f at (rec f on)
    by rec o at on = absurd (grind arith)

-- ---- A step

move_runs : (a : Scene) (k : ℕ) (p : Place) (s : Core) → MayMove a k p s → (n : ℕ) × IsRunner a n
move_runs a k p s (Runs is to starts e) = (k, is)
move_runs a k p s (Holds w l was out e) = (k, l.0)
move_runs a k p s (WaitsAgain x l was none e) = (k, l.0)
move_runs a k p s (AwaitsEvent x l d g none e) = (k, l.0)
move_runs a k p s (Waits x l g none e) = (k, l.0)
move_runs a k p s (Blocks sub l g opens live e) = (k, l.0)
move_runs a k p s (Suspends l e) = (k, l.0)
move_runs a k p s (Uncovers m is to under none e) = (m, is)

land_runs : (a : Scene) (x : Placing) (s : Core) → MayLand a x s → (n : ℕ) × IsRunner a n
land_runs a (Put Mark.High k w) s ok = (k, (yield_leaves k w ok).0)
land_runs a (Put Mark.Low k w) s ok = (k, (yield_leaves k w ok).0)
land_runs a (GoBehind g k) s ok = (k, ok.0.0)
land_runs a (Move k p) s ok = move_runs a k p s ok
land_runs a (Enter k m) s ok = (k, ok.0)
land_runs a x s ok = absurd (grind arith)

next_runs : {a : Scene} {b t : Core} → Trip a b t → (m : ℕ) → a.next ≡ Turn.Run m → (a.turn ≡ Turn.Run m) ⊎ ((n : ℕ) × IsRunner a n)
next_runs (Remains t c still on) m to = inl (still m to)
next_runs (Lands s x c ok fit halts) m to = inr (land_runs _ x s ok)
next_runs (LandsAt s x k h c ok fit comes halts) m to = inr (land_runs _ x s ok)
next_runs (Quits s t k c leave d halts) m to = inr (k, leave.0)
next_runs (GoesBack s t k i v c is runs to under back d ok) m next = inr (k, is)
next_runs (Collapses t over c) m to = absurd (cc)

-- who is at switch is taken
taken_at_switch : (s : Core) (k : ℕ) (e : Bool) → HasPlace k s → place_of k s ≡ Some (Place.Ready Mark.Switch Why.Start) → runner_at (Turn.Take e) s ≡ Some k
unfolding next_entry
taken_at_switch s k e h at = let w = h.switch in grind (arith, nat_tests)

module _ {ops : ℕ → Op} (x : Setting) (s : State) (l : Label) (t : State) (w : WalkedAs ops x s l t) {g : Bool} (h : InOrderFor g ops x.component s)
    (may : Withdrawable (scene_as ops x s l w.next)) (live : w.next ≡ Turn.Over → ⊥)
    (callers : CallersGoOn s.core) (feet : BehindFeet s.core) (free : StartsFree s.turn s.core) where
  abbrev a : Scene
  a = scene_as ops x s l w.next

  read : (b : Core) → Reads s.core b → (k : ℕ) → place_of k b ≡ place_of k s.core
  read b r k = ap (λ m. option_map (λ (y : Thread). y.place) (get m k)) r.0

  abbrev Result : Scene → Core → Type 0
  Result c u = c.turn ≡ s.turn → (c.next ≡ Turn.Over → ⊥) →
      Called c s.core u × ((m : ℕ) → c.next ≡ Turn.Run m → (c.turn ≡ Turn.Run m) ⊎ ((n : ℕ) × IsRunner c n))

  called : Called a s.core t.core × ((m : ℕ) → a.next ≡ Turn.Run m → (a.turn ≡ Turn.Run m) ⊎ ((n : ℕ) × IsRunner a n))
  called = step_by x s l t w h.in_place may Result (λ c b n q u base first same f trip ends is on.
      let e = read b first in
      let start : Begins c b = record {
        home = f.home;
        covers = λ j m at. ⊎_elim (λ none. inl (e m ∙ none)) (λ old. inr (ap is_fresh (e m) ∙ old)) (free.under j m (sym (e j) ∙ at));
        early = λ m runs j k at. early c.base base m (sym is ∙ runs) j k at;
        made = ap (λ (y : MadeCounts). y.threads) (first.1.1 ∙ sym base.1.1);
        rising = λ j m at. h.strands.below j m (sym (e j) ∙ at);
        given = λ j m at. subst (λ (y : MadeCounts). m ≤ y.threads) (sym first.1.1) (h.strands.made j m (sym (e j) ∙ at));
        alone = λ j k m at too. h.strands.alone j k m (sym (e j) ∙ at) (sym (e k) ∙ too);
      } in
      let own : Calling c b all_in b = record {
        goes = λ j k at. let r = callers j k (sym (e j) ∙ at) in goes_as s.core b e j (goes_of s.core r.0 j r.1);
        feet = λ j k i at under. feet j k i (sym (e j) ∙ at) (sym (e k) ∙ under);
        unders = λ j m at. at;
        lively = λ m old. old;
        fresh = λ j k at fresh. e k ∙ (free.behind j k (sym (e j) ∙ at) (ap is_fresh (sym (e k)) ∙ fresh)).0;
        came = λ no j k at. at;
        made = le_refl _;
        new = λ m none there. absurd (grind arith);
      } in
      let r = trip_called f start (f.follows.start, own) trip on in (
        record {
          goes = r.goes;
          feet = r.feet;
          under = r.under;
          fresh = r.fresh;
          came = λ no j k at. sym (e j) ∙ r.came no j k at;
          live = λ m old. r.live m (ap is_fresh (e m) ∙ old);
        },
        next_runs trip,
      )) refl live
    where
      early : (b : Core) → Reads s.core b → (m : ℕ) → s.turn ≡ Turn.Run m → (j k : ℕ) → place_of j b ≡ Some (Place.Behind k) → is_fresh (place_of k b) ≡ false
      early b r m runs j k at = by (is_fresh (place_of k s.core)) refl
        where
          by : (v : Bool) → is_fresh (place_of k s.core) ≡ v → is_fresh (place_of k b) ≡ false
          by true is = absurd ((free.behind j k (sym (read b r j) ∙ at) is).1 m runs)
          by false is = ap is_fresh (read b r k) ∙ is

  pub callers_kept : CallersGoOn t.core
  callers_kept n f at = within t.core n (called.0.goes n f at)

  pub feet_kept : BehindFeet t.core
  feet_kept = called.0.feet

  -- one that was at switch was taken
  not_left : (k m : ℕ) → w.next ≡ Turn.Run m → ((i : ℕ) → s.turn ≡ Turn.Run i → ⊥) → place_of k s.core ≡ Some (Place.Ready Mark.Switch Why.Start) →
      place_of k t.core ≡ Some (Place.Ready Mark.Switch Why.Start) → ⊥
  not_left k m next idle was now = by s.turn refl (called.1 m next)
    where
      by : (u : Turn) → s.turn ≡ u → (a.turn ≡ Turn.Run m) ⊎ ((n : ℕ) × IsRunner a n) → ⊥
      by (Turn.Take e) is r =
          let taken : IsRunner a k = ap (λ u. runner_at u s.core) is ∙ taken_at_switch s.core k e (h.in_place.placed k) was in
          let place = w.ends.laid k taken (ap is_take is) in absurd (grind arith)
      by (Turn.Run i) is r = idle i is
      by u is (inl runs) = idle m runs
      by u is (inr n) = let at = n.1 in let same = ap (λ u. runner_at u s.core) is in absurd (grind arith)

  pub free_kept : StartsFree t.turn t.core
  free_kept = record {
    under = called.0.under;
    behind = λ n f at fresh. let now = called.0.fresh n f at fresh in (now, λ m is. runs n f m at now (settled_run t.core w.next m (sym w.turn ∙ is)));
  }
    where
      runs : (n f m : ℕ) → place_of n t.core ≡ Some (Place.Behind f) → place_of f t.core ≡ Some (Place.Ready Mark.Switch Why.Start) → w.next ≡ Turn.Run m → ⊥
      runs n f m at now next =
          let was = called.0.came (λ main. absurd (cc)) n f at in
          by (is_fresh (place_of f s.core)) refl was
        where
          by : (v : Bool) → is_fresh (place_of f s.core) ≡ v → place_of n s.core ≡ Some (Place.Behind f) → ⊥
          by true is was = let r = free.behind n f was is in not_left f m next r.1 r.0 now
          by false is was = ⊎_elim (λ none. absurd (cc)) (λ old. absurd (grind arith)) (called.0.live f is)

-- ---- Where threads stay where they are

-- From s to t threads stay where they are, and new ones are under and behind none.
pub record SamePlaces (s t : Core) : Type 0 where
  pub kept : (n : ℕ) → is_there n s ≡ true → place_of n t ≡ place_of n s
  pub back : (n : ℕ) (p : Place) → is_held_on p ≡ true → place_of n t ≡ Some p → place_of n s ≡ Some p
  pub none : (m : ℕ) → place_of m s ≡ None → m ≤ s.made.threads → place_of m t ≡ None

module _ {s t : Core} (q : SamePlaces s t) where
  goes_stay : (n : ℕ) → Goes all_in s n → Goes all_in t n
  goes_stay n (AtMark _ m w at o) = AtMark n m w (q.kept n (ap (λ (o : Option Place). is_some o) at) ∙ at) o
  goes_stay n (AtWork _ at o) = AtWork n (q.kept n (ap (λ (o : Option Place). is_some o) at) ∙ at) o
  goes_stay n (Up _ m at g) = Up n m (q.kept n (ap (λ (o : Option Place). is_some o) at) ∙ at) (goes_stay m g)
  goes_stay n (Back _ f at g) = Back n f (q.kept n (ap (λ (o : Option Place). is_some o) at) ∙ at) (goes_stay f g)

  pub callers_stay : CallersGoOn s → CallersGoOn t
  callers_stay h n f at = let r = h n f (q.back n (Place.Behind f) refl at) in within t n (goes_stay n (goes_of s r.0 n r.1))

  pub feet_stay : BehindFeet s → BehindFeet t
  feet_stay h n k f at under = h n k f (q.back n (Place.Behind f) refl at) (q.back k (Place.Under f) refl under)

  pub free_stays : {p : Turn} → ((n m : ℕ) → place_of n s ≡ Some (Place.Under m) → m ≤ s.made.threads) → StartsFree p s → StartsFree p t
  free_stays {p = p} made h = record {
    under = λ n m at.
        let was = q.back n (Place.Under m) refl at in
        ⊎_elim (λ none. inl (q.none m none (made n m was))) (λ live. inr (ap is_fresh (q.kept m (grind arith)) ∙ live)) (h.under n m was);
    behind = λ n f at fresh. by n f (q.back n (Place.Behind f) refl at) fresh (place_of f s) refl;
  }
    where
      by : (n f : ℕ) → place_of n s ≡ Some (Place.Behind f) → is_fresh (place_of f t) ≡ true → (o : Option Place) → place_of f s ≡ o →
          (place_of f t ≡ Some (Place.Ready Mark.Switch Why.Start)) × ((m : ℕ) → p ≡ Turn.Run m → ⊥)
      by n f was fresh None is = absurd (let r = (h.behind n f was (ap is_fresh is)).0 in cc)
      by n f was fresh (Some x) is =
          let same = q.kept f (ap (λ (o : Option Place). is_some o) is) in
          let r = h.behind n f was (ap is_fresh (sym same) ∙ fresh) in (same ∙ r.0, r.1)
