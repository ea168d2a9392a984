-- Nobody runs but the thread whose turn it is, along the primitives of a step.
use Rattle.laws_places.proofs.Laws.{after_placing, after_primitive, along, ap, arith, behind_one, by_number, Collapses, Core, Enter, false, get, get-change, get-remove, GoBehind, GoesBack, inl, InPlace, inr, is_none, IsBeside, IsFirst, IsGone, IsRunner, IsSame, Label, Lands, LandsAt, Mark, MayLand, MayMove, Move, Moved, nat_tests, on_thread, Op, Option, option_map, Place, place_of, Places, Placing, placing_shifted, Promote, promoted_shifted, push_high, push_low, Put, put_high, put_low, put_shifted, Quits, Remains, remove_thread, RemoveThread, runner_at, RunsAlone, Scene, scene_as, set_callers, set_op_progress, set_place, Setting, settle_threads, settled_turn, Settles, Some, State, Stay, Stays, stays_allowed, Stop, stopped_shifted, sym, Thread, thread_came, ThreadAfter, Trip, true, Turn, WalkedAs, Primitive, ℕ, ⊎_elim, ◌==◌, ◌∙◌, ◌≡◌, ◌⊎◌}
use Rattle.laws_places.proofs.{PlaceLaw.Frame, PlaceLaw.yield_leaves, PlaceSteps.Withdrawable, PlaceSteps.step_by}

abbrev Runs : ℕ → Core → Type 0
Runs k s = place_of k s ≡ Some Place.Running

moved_runs : (o p : Option Place) → Moved (λ w. Unit {0}) o p → p ≡ Some Place.Running → o ≡ Some Place.Running
moved_runs o p came is = grind arith

shift_runs : (a : Scene) (x : Placing) (s : Core) → Stays a (Places x) s → (k : ℕ) → Runs k (after_placing x s) → Runs k s
shift_runs a (Put m n w) s ok k is = moved_runs _ _ (put_shifted (λ j v. Unit {0}) (λ j. tt) m n w s tt k) is
shift_runs a (Promote n) s ok k is = moved_runs _ _ (promoted_shifted (λ j v. Unit {0}) (λ j. tt) n s k) is
shift_runs a (Stop f) s ok k is = moved_runs _ _ (stopped_shifted (λ j v. Unit {0}) (λ j. tt) f s k) is
shift_runs a x s (inl ok) k is = absurd ok
shift_runs a x s (inr ok) k is = absurd ok

primitive_runs : (a : Scene) (w : Primitive) (s : Core) → Stays a w s → (k : ℕ) → Runs k (after_primitive w s) → Runs k s
primitive_runs a w s ok k is = go (thread_came w s (stays_allowed a w s ok) k)
  where
    go : ThreadAfter a w s k → Runs k s
    go (IsSame r u e f c y far (inl same) z) = grind arith
    go (IsSame r u e f c y far (inr x) z) =
        shift_runs a x.0 s (rw x.1 at ok) k (sym (ap (λ (t : Core). place_of k t) (placing_shifted x.0 s).only) ∙ rw x.1 at is)
    go (IsGone e) = absurd (cc)
    go (IsBeside u new l same m e) = let place : Place.Running ≡ Place.New = cc in absurd (grind arith)
    go (IsFirst u first l there y z far new e x) = let place : Place.Running ≡ Place.New = cc in absurd (grind arith)

stay_runs : {a : Scene} {b t : Core} → Stay a b t → (k : ℕ) → Runs k t → Runs k b
stay_runs {a = a} {b = b} c k is = along (λ (u : Core). Runs k u → Runs k b) (λ w s ok h is. h (primitive_runs a w s ok k is)) (λ e. e) c is

removed_runs : (k j : ℕ) (s : Core) → Runs k (remove_thread j s) → ((k == j) ≡ false) × Runs k s
unfolding remove_thread
removed_runs k j s is = (by_number k j _ (λ e. absurd (grind (arith, nat_tests, get-remove))) (λ other. other), grind (arith, nat_tests, get-remove))

settled_runs : {s t : Core} → Settles s t → (k : ℕ) → Runs k t → Runs k s
settled_runs {s = s} d k is = along (λ (u : Core). Runs k u → Runs k s)
    (λ w u ok h is. h (ap (λ m. option_map (λ (r : Thread). r.place) (get m k)) (sym (settle_threads w u ok)) ∙ is)) (λ e. e) d is

-- the thread that comes to a place is the runner, or the one under it where that is gone
abbrev Comes : Scene → ℕ → Core → Type 0
Comes a j s = IsRunner a j ⊎ ((a.next ≡ Turn.Run j) × ((m : ℕ) × (IsRunner a m × (is_none (get s.threads m) ≡ true))))

-- who runs as a thread comes to a place: the one whose turn it is, or another one, who ran before
Landed : Scene → ℕ → Core → Type 0
Landed a k s = (a.next ≡ Turn.Run k) ⊎ (Runs k s × ((j : ℕ) × (Comes a j s × ((k == j) ≡ false))))

move_comes : (a : Scene) (j : ℕ) (p : Place) (s : Core) → MayMove a j p s → Comes a j s × (p ≡ Place.Running → a.next ≡ Turn.Run j)
move_comes a j p s ok = (grind arith, λ is. grind arith)

set_runs : (k j : ℕ) (p : Place) (s : Core) → Runs k (set_place j p s) → ((k ≡ j) × (p ≡ Place.Running)) ⊎ (Runs k s × ((k == j) ≡ false))
unfolding set_place on_thread
set_runs k j p s is = by_number k j _ (λ e. inl (e, grind (arith, nat_tests, get-change))) (λ other. inr (grind (arith, nat_tests, get-change), other))

land_runs : (a : Scene) (x : Placing) (s : Core) → MayLand a x s → (k : ℕ) → Runs k (after_placing x s) → Landed a k s
unfolding Landed put_high push_high put_low push_low behind_one set_callers
land_runs a (Put Mark.High j w) s ok k is =
    let runs = (yield_leaves j w ok).0 in ⊎_elim (λ e. absurd (grind arith)) (λ r. inr (r.0, (j, (inl runs, r.1)))) (set_runs k j _ s is)
land_runs a (Put Mark.Low j w) s ok k is =
    let runs = (yield_leaves j w ok).0 in ⊎_elim (λ e. absurd (grind arith)) (λ r. inr (r.0, (j, (inl runs, r.1)))) (set_runs k j _ s is)
land_runs a (GoBehind f j) s ok k is = ⊎_elim (λ e. absurd (grind arith)) (λ r. inr (r.0, (j, (inl ok.0.0, r.1)))) (set_runs k j _ s is)
land_runs a (Move j p) s ok k is =
    let m = move_comes a j p s ok in ⊎_elim (λ e. inl (rw e.0 (m.1 e.1))) (λ r. inr (r.0, (j, (m.0, r.1)))) (set_runs k j p s is)
land_runs a (Enter j m) s ok k is =
    ⊎_elim (λ e. absurd (grind arith)) (λ r. ⊎_elim (λ e. inl (rw e.0 ok.1.0)) (λ q. inr (q.0, (j, (inl ok.0, r.1)))) (set_runs k m _ s r.0)) (set_runs k j _ (set_place m Place.Running s) is)
land_runs a x s ok k is = absurd (grind arith)

module _ {a : Scene} {b : Core} {n : ℕ} {q : Option Place} (f : Frame a b n q) (runner : (k : ℕ) → Runs k b → IsRunner a k) where
  -- who ran before is the runner, and so comes to the place itself
  none_landed : (s : Core) (k : ℕ) → Stay a b s → Landed a k s → a.next ≡ Turn.Run k
  unfolding Landed
  none_landed s k c (inl to) = to
  none_landed s k c (inr (is, (j, (inl runs, other)))) =
      let one = f.one k (runner k (stay_runs c k is)) in let same = f.one j runs in absurd (grind (arith, nat_tests))
  none_landed s k c (inr (is, (j, (inr (to, (m, (runs, gone))), other)))) =
      let one = f.one k (runner k (stay_runs c k is)) in let same = f.one m runs in absurd (grind arith)

  landed : (s : Core) (x : Placing) → Stay a b s → MayLand a x s → (k : ℕ) → Runs k (after_primitive (Places x) s) → a.next ≡ Turn.Run k
  landed s x c ok k is = none_landed s k c (land_runs a x s ok k (sym (ap (λ (t : Core). place_of k t) (placing_shifted x s).only) ∙ is))

  -- who runs isn't the one that is gone
  none_left : (s t : Core) (j k : ℕ) {A : Type 0} → Stay a b s → IsRunner a j → Settles (after_primitive (RemoveThread j) s) t → Runs k t → A
  none_left s t j k c runs d is =
      let r = removed_runs k j s (settled_runs d k is) in
      let one = f.one k (runner k (stay_runs c k r.1)) in let same = f.one j runs in absurd (grind (arith, nat_tests))

  trip_alone : {t : Core} → Trip a b t → (a.next ≡ Turn.Over → ⊥) → (k : ℕ) → Runs k t → a.next ≡ Turn.Run k
  unfolding set_op_progress on_thread set_place
  trip_alone (Remains t c still on) open_at k is = on k (runner k (stay_runs c k is))
  trip_alone (Lands s x c ok fit halts) open_at k is = landed s x c ok k is
  trip_alone (LandsAt s x m h c ok fit comes halts) open_at k is = landed s x c ok k (grind (arith, nat_tests, get-change))
  trip_alone (Quits s t j c leave d halts) open_at k is = none_left s t j k c leave.0 d is
  trip_alone (GoesBack s t j m v c is runs to under back d ok) open_at k at =
      by_number k m _ (λ e. rw e to) (λ other. none_left s t j k c is d (grind (arith, nat_tests, get-change)))
  trip_alone (Collapses t over c) open_at k is = absurd (open_at over)

pub step_alone : {ops : ℕ → Op} (x : Setting) (s : State) (l : Label) (t : State) (w : WalkedAs ops x s l t) → InPlace s → Withdrawable (scene_as ops x s l w.next) →
    (t.turn ≡ Turn.Over → ⊥) → RunsAlone s.turn s.core → RunsAlone t.turn t.core
step_alone {ops = ops} x s l t w h may open_at alone k is = w.turn ∙ ap (λ u. settled_turn t.core u) next
  where
    runner : (j : ℕ) → Runs j s.core → IsRunner (scene_as ops x s l w.next) j
    runner j runs = ap (λ u. runner_at u s.core) (alone j runs)

    next : w.next ≡ Turn.Run k
    next = step_by x s l t w h may
        (λ c u. ((j : ℕ) → Runs j s.core → IsRunner c j) → (c.next ≡ Turn.Over → ⊥) → (j : ℕ) → Runs j u → c.next ≡ Turn.Run j)
        (λ a b n q u base first same f c ends runs on. trip_alone f
        (λ j r. runs j (ap (λ m. option_map (λ (y : Thread). y.place) (get m j)) (sym first.0) ∙ r)) c on)
        runner (λ over. open_at (w.turn ∙ ap (λ u. settled_turn t.core u) over)) k is
