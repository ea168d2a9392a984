-- A thread inside a sync call of a host waits for its work, or that is done; and host works have their entries: along the
-- primitives of a step.
use Rattle.laws_places.proofs.Laws.{[], after_placing, after_primitive, Allowed, along, ap, arith, behind_one, blocked_place, by_number, Collapses, Core, Departs, EndsOver, Enter, unwind_allowed, false, get, GoBehind, GoesBack, HostsAwaited, op_progress_of, OpProgress, inl, InPlace, inr, is_stage_ended, IsBeside, IsFirst, IsGone, IsRunner, IsSame, Label, land_allowed, Lands, LandsAt, MadeCounts, made_works_primitive, Mark, MayCome, MayLand, MayRemoveWork, Move, Op, Option, option_map_or, Place, place_kept, place_of, Places, Placing, placing_shifted, push_high, push_low, Put, put_high, put_low, Quits, refl, Remains, RemoveThread, SameWorks, Scene, scene_as, set_callers, set_place, SetOpProgress, Setting, settle_stays, Settles, Some, Stage, stage_of, Stand, State, Stay, stays_allowed, subst, Subtask, sym, Thread, thread_came, ThreadAfter, Trip, true, WalkedAs, WasUnder, Primitive, Work, WorksQueued, ℕ, ⊎_elim, ◌==◌, ◌∙◌, ◌≡◌, ◌≤◌, ◌⊎◌}
use Rattle.laws_places.proofs.{PlaceLaw.Frame, PlaceLaw.beside, PlaceLaw.exits, PlaceLaw.move_runner, PlaceLaw.runner_there, PlaceLaw.stands, PlaceLaw.stay_primitive, PlaceLaw.stuck_primitive, PlaceLaw.watch, PlaceLaw.yield_leaves, PlaceSteps.Reads, PlaceSteps.Withdrawable, PlaceSteps.step_by, WorksQueued.ended_primitive, WorksQueued.others_move, WorksQueued.works_primitive}

-- a blocked thread stays, or the work is done, where the primitive is a change of places
abbrev Stuck : Primitive → Core → Type 0
Stuck w s = (m i : ℕ) → place_of m s ≡ Some (Place.Blocked (Subtask.Host i)) → (x : Placing) → w ≡ Places x →
    (place_of m (after_primitive w s) ≡ Some (Place.Blocked (Subtask.Host i))) ⊎ (is_stage_ended (stage_of i s) ≡ true)

-- the thread is blocked on the work, or that has ended
abbrev Awaited : ℕ → ℕ → Core → Type 0
Awaited n i s = (i ≤ s.made.works) × ((place_of n s ≡ Some (Place.Blocked (Subtask.Host i))) ⊎ (is_stage_ended (stage_of i s) ≡ true))

awaited_primitive : (a : Scene) (w : Primitive) (s : Core) → Allowed a w s → ((i : ℕ) → MayRemoveWork a i s → is_stage_ended (stage_of i s) ≡ true) →
    WorksQueued s → Stuck w s → HostsAwaited s → HostsAwaited (after_primitive w s)
awaited_primitive a w s ok ends q stuck h n i far = go (thread_came w s ok n)
  where
    goes : (r u : Thread) → get s.threads n ≡ Some r → get (after_primitive w s).threads n ≡ Some u →
        (u.place ≡ r.place) ⊎ ((x : Placing) × (w ≡ Places x)) →
        Awaited n i s → Awaited n i (after_primitive w s)
    goes r u e f (inl same) old =
        let l = ended_primitive a w s ok ends q i old.0 in let m = made_works_primitive a w s in let o = old.1 in grind arith
    goes r u e f (inr x) old = let l = ended_primitive a w s ok ends q i old.0 in let m = made_works_primitive a w s in let o = old.1 in
        let b = λ (at : place_of n s ≡ Some (Place.Blocked (Subtask.Host i))). stuck n i at x.0 x.1 in grind arith

    come : (r : Thread) → get s.threads n ≡ Some r → MayCome a n (OpProgress.Calls (Subtask.Host i)) s → Awaited n i s
    come r e ok = (grind arith, inl (blocked_place (Subtask.Host i) (place_of n s) (grind arith)))

    go : ThreadAfter a w s n → Awaited n i (after_primitive w s)
    go (IsSame r u e f c y (inl same) p z) = goes r u e f p (h n i (cc))
    go (IsSame r u e f c y (inr ok) p z) =
        goes r u e f p (come r e (let is : u.op_progress ≡ OpProgress.Calls (Subtask.Host i) = cc in subst (λ g. MayCome a n g s) is ok))
    go (IsGone e) = absurd (cc)
    go (IsBeside u is l same m e) = absurd (cc)
    go (IsFirst u is l there y z new m e x) = absurd (cc)

-- ---- A step

-- What is so along the primitives: works have their entries, and what had ended still has.
pub record Working (a : Scene) (s : Core) : Type 0 where
  pub works : WorksQueued s
  pub awaited : HostsAwaited s
  pub made : a.base.made.works ≤ s.made.works
  pub ended : (i : ℕ) → i ≤ a.base.made.works → is_stage_ended (stage_of i a.base) ≡ true → is_stage_ended (stage_of i s) ≡ true

-- the work that the runner called in sync, and which it was told of
abbrev pub Asked : Scene → Type 0
Asked a = (m i : ℕ) → IsRunner a m → op_progress_of m a.base ≡ OpProgress.Calls (Subtask.Host i) →
    (i ≤ a.base.made.works) × (is_stage_ended (stage_of i a.base) ≡ true)

goes_ended : (a : Scene) (i : ℕ) (s : Core) → Asked a → Working a s → MayRemoveWork a i s → is_stage_ended (stage_of i s) ≡ true
goes_ended a i s asked h ok =
    ⊎_elim (λ far. let e = asked ok.0 i ok.1.0 far.0 in h.ended i e.0 e.1) (λ e. e.1.1.0) ok.1.1.1

working_primitive : (a : Scene) → Asked a → (w : Primitive) (s : Core) → Allowed a w s → Stuck w s → Working a s → Working a (after_primitive w s)
working_primitive a asked w s ok stuck h = record {
  works = works_primitive a w s ok (λ i e. goes_ended a i s asked h e) h.works;
  awaited = awaited_primitive a w s ok (λ i e. goes_ended a i s asked h e) h.works stuck h.awaited;
  made = omega (arith, h.made, made_works_primitive a w s);
  ended = λ i below e. ended_primitive a w s ok (λ i e. goes_ended a i s asked h e) h.works i (omega (arith, below, h.made)) (h.ended i below e);
}

-- ---- Trips

module _ {a : Scene} {b : Core} {n : ℕ} {q : Option Place} (f : Frame a b n q) where
  -- who doesn't land and isn't new stays
  pub land_kept : (p : Placing) (s : Core) → MayLand a p s → Stay a b s → (m : ℕ) → ((k : ℕ) → IsRunner a k → (m == k) ≡ false) →
      (place_of m s ≡ Some Place.New → ⊥) → place_of m (after_placing p s) ≡ place_of m s
  unfolding put_high push_high put_low push_low behind_one set_callers
  land_kept (Put Mark.High k w) s ok c m other old = place_kept m k _ s (other k (yield_leaves k w ok).0)
  land_kept (Put Mark.Low k w) s ok c m other old = place_kept m k _ s (other k (yield_leaves k w ok).0)
  land_kept (GoBehind g k) s ok c m other old = place_kept m k _ s (other k ok.0.0)
  land_kept (Move k r) s ok c m other old = place_kept m k r s (other k (move_runner k r s ok (λ j is. runner_there f j s is c)))
  land_kept (Enter k j) s ok c m other old =
      let new = ok.1.1.1.0 in
      place_kept m k _ (set_place j Place.Running s) (other k ok.0) ∙
      place_kept m j Place.Running s (by_number m j _ (λ e. absurd (old (rw e new))) (λ e. e))
  land_kept x s ok c m other old = absurd ok

module _ {a : Scene} {b : Core} {n : ℕ} {q : Option Place} (f : Frame a b n q) (asked : Asked a) where
  -- who is blocked is neither the one that lands nor a new one
  apart : (k m : ℕ) (s : Core) → IsRunner a k → Stay a b s → (sub : Subtask) → place_of m s ≡ Some (Place.Blocked sub) → (m == k) ≡ false
  apart k m s is c sub at =
      let h = (beside f k is).1 in
      let busy = h.follows.busy in
      let here = (stands h c).here in by_number m k _ (λ e. absurd (grind arith)) (λ e. e)

  land_blocked : (p : Placing) (s : Core) → MayLand a p s → Stay a b s → (m : ℕ) (sub : Subtask) → place_of m s ≡ Some (Place.Blocked sub) →
      place_of m (after_placing p s) ≡ Some (Place.Blocked sub)
  land_blocked p s ok c m sub at = land_kept f p s ok c m (λ k is. apart k m s is c sub at) (λ new. absurd (cc)) ∙ at

  stays : {t : Core} → Working a b → Stay a b t → Working a t
  stays first c =
      (along (λ (t : Core). Stand (watch a) n q [] t × Working a t)
      (λ w s ok h. (
        stay_primitive f.follows w s ok h.0,
        working_primitive a asked w s (stays_allowed a w s ok) (λ m i at x e. stuck_primitive f.follows m (Subtask.Host i) w s ok h.0 at) h.1,
      ))
      (f.follows.start, first) c).1

  settles : {s t : Core} → Working a s → Settles s t → Working a t
  settles first d = along (Working a)
      (λ w s ok h. working_primitive a asked w s (stays_allowed a w s (settle_stays a w s ok)) (λ m i at x e. absurd (grind arith)) h) first d

  landed : (s : Core) (p : Placing) → Working a b → Stay a b s → MayLand a p s → Working a (after_primitive (Places p) s)
  landed s p first c ok =
      working_primitive a asked (Places p) s (land_allowed a p s ok)
      (λ m i at x e. inl (ap (λ (t : Core). place_of m t) (placing_shifted p s).only ∙ land_blocked p s ok c m (Subtask.Host i) at))
      (stays first c)

  pub trip_works : {t : Core} → Working a b → Trip a b t → Working a t
  trip_works first (Remains t c still on) = stays first c
  trip_works first (Lands s p c ok fit halts) = landed s p first c ok
  trip_works first (LandsAt s p m h c ok fit comes halts) =
      let t = after_primitive (Places p) s in
      working_primitive a asked (SetOpProgress m h) t comes (λ j i at x e. absurd (cc)) (landed s p first c ok)
  trip_works first (Quits s t k c leave d halts) =
      settles (working_primitive a asked (RemoveThread k) s (Departs leave) (λ j i at x e. absurd (cc)) (stays first c)) d
  trip_works first (GoesBack s t k m v c is runs to under returns d ok) =
      let g =
      settles (working_primitive a asked (RemoveThread k) s (EndsOver m is runs to under) (λ j i at x e. absurd (cc)) (stays first c)) d in
      let low : place_of m t ≡ Some (Place.Under k) = (exits f k s t is c d).1.1 m k under in
      let back = after_primitive (Places (Move m Place.Running)) t in
      let other =
      λ (j i : ℕ) (at : place_of j t ≡ Some (Place.Blocked (Subtask.Host i))). by_number j m _ (λ e. absurd (grind arith)) (λ e. e) in
      working_primitive a asked (SetOpProgress m (OpProgress.Answered v)) back ((k, (is, (to, (under, returns)))), WasUnder k v under refl)
      (λ j i at x e. absurd (cc))
      (working_primitive a asked (Places (Move m Place.Running)) t (inr ok)
      (λ j i at x y. inl (ap (λ (u : Core). place_of j u) (placing_shifted (Move m Place.Running) t).only ∙
      (place_kept j m Place.Running t (other j i at) ∙ at))) g)
  trip_works first (Collapses t over c) =
      along (Working a) (λ w s ok h. working_primitive a asked w s (unwind_allowed a w s ok) (λ m i at x e. absurd (grind arith)) h) first c

-- ---- Steps

read_awaited : (s b : Core) → Reads s b → HostsAwaited s → HostsAwaited b
read_awaited s b r h n i far = grind (arith, h n i)

module _ {ops : ℕ → Op} (x : Setting) (s : State) (l : Label) (t : State) (w : WalkedAs ops x s l t) (h : InPlace s) (may : Withdrawable (scene_as ops x s l w.next))
    (awaited : HostsAwaited s.core) where
  of_runner : (a : Scene) (b : Core) (n : ℕ) (q : Option Place) → Reads s.core a.base → Frame a b n q → Asked a
  of_runner a b n q base f m i is far =
      let e = read_awaited s.core a.base base awaited m i far in
      let r = (beside f m is).1 in
      let busy = r.follows.busy in
      let home = r.home in (e.0, ⊎_elim (λ blocked. absurd (grind arith)) (λ d. d) e.1)

  -- the runner's own sync call of a host has ended
  pub step_asked : Asked (scene_as ops x s l w.next)
  step_asked = step_by x s l t w h may (λ a u. Asked a) (λ a b n q u base first same f c ends. of_runner a b n q base f)

  pub step_works : WorksQueued s.core → WorksQueued t.core × HostsAwaited t.core
  step_works works = step_by x s l t w h may (λ a u. WorksQueued u × HostsAwaited u)
      (λ a b n q u base first same f c ends.
      let r = trip_works f (of_runner a b n q base f) (begins a b base first same) c in (r.works, r.awaited))
    where
      begins : (a : Scene) (b : Core) → Reads s.core a.base → Reads s.core b → SameWorks s.core b → Working a b
      begins a b base first same = record {
        works = others_move s.core b same first.1.0 (ap (λ (m : MadeCounts). m.works) first.1.1) works;
        awaited = read_awaited s.core b first awaited;
        made = let e = ap (λ (m : MadeCounts). m.works) (base.1.1 ∙ sym first.1.1) in omega (arith, e);
        ended = λ i below e.
            ap (λ m. is_stage_ended (option_map_or (λ (w : Work). w.stage) (get m i) Stage.Ended)) (first.1.0 ∙ sym base.1.0) ∙ e;
      }
