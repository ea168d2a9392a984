-- Where threads are that are inside waits, along the primitives of a step.
use Rattle.laws_places.proofs.Laws.{[], admits, after_placing, after_primitive, Allowed, along, ap, arith, AwaitsEvent, behind_one, Blocks, by_number, Collapses, Component, Core, Enter, false, FitsAs, get, get-change, get-remove, GoBehind, GoesBack, Holds, op_progress_of, OpProgress, inl, InPlace, inr, is_at_wait, is_resumption, is_wait, IsUnwind, IsRunner, Label, Lands, lands_alone, LandsAt, Leaves, Mark, MayCome, MayLand, MayMove, MayPut, MayYield, Move, moved_passes, nat_tests, None, on_thread, Op, op_came, op_in, Option, option_map, option_map_or, Pauses, Place, place_of, Places, Placing, placing_shifted, push_high, push_low, Put, put_high, put_low, Quits, read_same, refl, Remains, remove_thread, RemoveThread, Runs, Scene, scene_as, set_callers, set_op_progress, set_of_op, set_place, set_trapped, SetOpProgress, Setting, settle_threads, Settles, SetTrapped, shifted_far, Some, Stand, State, Stay, stays_allowed, Suspends, sym, Thread, Trip, true, Turn, Uncovers, Waits, WaitsAgain, WaitsPlaced, WalkedAs, Why, Primitive, ℕ, ⊎_elim, ◌==◌, ◌∙◌, ◌≡◌, ◌⊎◌}
use Rattle.laws_places.proofs.{HostsAwaited.land_kept, PlaceLaw.Frame, PlaceLaw.move_runner, PlaceLaw.no_way, PlaceLaw.runner_there, PlaceLaw.stay_primitive, PlaceLaw.watch, PlaceLaw.watched_primitive, PlaceLaw.yield_leaves, PlaceSteps.Withdrawable, PlaceSteps.step_by}

-- ---- One primitive

-- the thread is where one inside a wait on the set is, or gone
abbrev At : ℕ → ℕ → Core → Type 0
At k x s = option_map_or (is_at_wait x) (place_of k s) true ≡ true

pub far_waits : (f : OpProgress) (x : ℕ) → set_of_op f ≡ Some x → f ≡ OpProgress.Waits x
far_waits f x h = grind arith

at_there : (x : ℕ) (o : Option Place) → option_map_or (is_at_wait x) o false ≡ true → option_map_or (is_at_wait x) o true ≡ true
at_there x o h = grind arith

there_at : (k x : ℕ) (s : Core) → op_progress_of k s ≡ OpProgress.Waits x → At k x s → option_map_or (is_at_wait x) (place_of k s) false ≡ true
there_at k x s far at = go (get s.threads k) far at
  where
    go : (o : Option Thread) → option_map_or (λ (t : Thread). t.op_progress) o OpProgress.Fresh ≡ OpProgress.Waits x →
        option_map_or (is_at_wait x) (option_map (λ (t : Thread). t.place) o) true ≡ true →
        option_map_or (is_at_wait x) (option_map (λ (t : Thread). t.place) o) false ≡ true
    go None far at = absurd (cc)
    go (Some t) far at = at

-- who is put from such a place resumes
put_waits : (m x : ℕ) (u : Why) (s : Core) → MayPut m u s → option_map_or (is_at_wait x) (place_of m s) false ≡ true → is_resumption u ≡ true
put_waits m x u s may at = grind (arith, nat_tests)

yield_waits : (a : Scene) (m : ℕ) (w : Why) → MayYield a m w → is_wait (op_in a m) ≡ true → is_resumption w ≡ true
yield_waits a m w ok wait = grind arith

same_waits : (s t : Core) → t.threads ≡ s.threads → WaitsPlaced s → WaitsPlaced t
same_waits s t same q k x far = grind (arith, q k x)

removed_waits : (k : ℕ) (s : Core) → WaitsPlaced s → WaitsPlaced (remove_thread k s)
unfolding remove_thread
removed_waits k s q n x far = grind (arith, nat_tests, get-remove, q n x)

unwinds_waits : (a : Scene) (w : Primitive) (s : Core) → IsUnwind a w s → WaitsPlaced s → WaitsPlaced (after_primitive w s)
unfolding set_trapped
unwinds_waits a (RemoveThread k) s ok h = removed_waits k s h
unwinds_waits a SetTrapped s ok h = same_waits s (set_trapped s) refl h
unwinds_waits a _ s ok h = absurd ok

-- a thread runs on, and its call is answered
back_waits : (m v : ℕ) (t : Core) → WaitsPlaced t → WaitsPlaced (after_primitive (SetOpProgress m (OpProgress.Answered v)) (after_primitive (Places (Move m Place.Running)) t))
unfolding set_op_progress set_place on_thread
back_waits m v t q k x far = grind (arith, nat_tests, get-change, q k x)

-- how far one op has come
far_place : (k m : ℕ) (h : OpProgress) (u : Core) → place_of k (set_op_progress m h u) ≡ place_of k u
unfolding set_op_progress
far_place k m h u = read_same m (λ t. record t { op_progress = h }) (λ t. refl) k u

far_own : (k m x : ℕ) (h : OpProgress) (u : Core) → k ≡ m → op_progress_of k (set_op_progress m h u) ≡ OpProgress.Waits x → h ≡ OpProgress.Waits x
unfolding set_op_progress on_thread
far_own k m x h u e far = grind (arith, nat_tests, get-change)

far_other : (k m : ℕ) (h : OpProgress) (u : Core) → (k == m) ≡ false → op_progress_of k (set_op_progress m h u) ≡ op_progress_of k u
unfolding set_op_progress on_thread
far_other k m h u other = grind (arith, nat_tests, get-change)

apart : {k m : ℕ} → (k == m) ≡ false → k ≡ m → ⊥
apart other e = absurd (grind (arith, nat_tests))

-- an op comes further of the runner, or of a thread that runs on
come_next : (a : Scene) (m : ℕ) (h : OpProgress) (s : Core) → MayCome a m h s → IsRunner a m ⊎ (a.next ≡ Turn.Main → ⊥)
come_next a m h s ok = grind arith

-- Where threads inside waits are, whose op is a wait, and was so before the step, or the running thread comes to it.
record Pausing (a : Scene) (s : Core) : Type 0 where
  at : WaitsPlaced s
  wait : (k x : ℕ) → op_progress_of k s ≡ OpProgress.Waits x → is_wait (op_in a k) ≡ true
  was : (k x : ℕ) → op_progress_of k s ≡ OpProgress.Waits x → (op_progress_of k a.base ≡ OpProgress.Waits x) ⊎ Leaves a k

module _ (a : Scene) (w : Primitive) (s : Core) (ok : Allowed a w s) where
  op_far : (k x : ℕ) → op_progress_of k (after_primitive w s) ≡ OpProgress.Waits x → (op_progress_of k s ≡ OpProgress.Waits x) ⊎ MayCome a k (OpProgress.Waits x) s
  op_far k x far = ⊎_elim (λ e. inl (far_waits (op_progress_of k s) x e)) (λ g. inr (rw (far_waits g.0 x g.1.1) at g.1.0))
      (op_came set_of_op x w s ok k refl (ap set_of_op far))

  pausing_primitive : Pausing a s → WaitsPlaced (after_primitive w s) → Pausing a (after_primitive w s)
  pausing_primitive q at = record {
    at = at;
    wait = λ k x far. ⊎_elim (q.wait k x) (λ come. come.1.1.0) (op_far k x far);
    was = λ k x far. ⊎_elim (q.was k x) (λ come. inr come.0) (op_far k x far);
  }

-- ---- Trips

-- a resumption is never held
held_resumes : (k : ℕ) (s : Core) (w : Why) → is_resumption w ≡ true → admits k s w ≡ false → ⊥
held_resumes k s Why.Resumption is out = absurd (cc)
held_resumes k s w is out = absurd (cc)

module _ {a : Scene} {b : Core} {n : ℕ} {q : Option Place} (f : Frame a b n q) (base : WaitsPlaced a.base) where
  -- the running thread runs as the step begins
  ran : (k : ℕ) → Leaves a k → place_of k a.base ≡ Some Place.Running
  ran k leave = let r = f.running k leave.1.1 in let home = f.home n in let here = f.follows.start.here in grind arith

  -- a thread that was taken inside a wait resumes
  resumes : (k x : ℕ) (s : Core) (w : Why) (m : Mark) → Pausing a s → op_progress_of k s ≡ OpProgress.Waits x → place_of k a.base ≡ Some (Place.Ready m w) →
      is_resumption w ≡ true
  resumes k x s w m p far ready = ⊎_elim (λ was. let at = base k x was in grind arith) (λ leave. let runs = ran k leave in absurd (grind arith)) (p.was k x far)

  move_waits : (k x : ℕ) (r : Place) (s : Core) → MayMove a k r s → Pausing a s → op_progress_of k s ≡ OpProgress.Waits x →
      (lands_alone (Move k r) ≡ true) ⊎ (a.next ≡ Turn.Main → ⊥) → is_at_wait x r ≡ true
  move_waits k x r s (Runs is to b e) p far fit = rw e refl
  move_waits k x r s (Uncovers m is to under gone e) p far fit = rw e refl
  move_waits k x r s (Holds w l was kept e) p far fit = absurd (held_resumes k s w (resumes k x s w was.0 p far was.1) kept)
  move_waits k x r s (WaitsAgain y l was none e) p far fit = absurd (let resumed = resumes k x s _ was.0 p far was.1 in grind arith)
  move_waits k x r s (AwaitsEvent y l ends has none e) p far fit = absurd (let wait = p.wait k x far in let code = ends.1 in grind arith)
  move_waits k x r s (Waits y l has none e) p far (inl alone) = no_way (rw e at alone)
  move_waits k x r s (Blocks sub l has opens live e) p far (inl alone) = no_way (rw e at alone)
  move_waits k x r s (Suspends l e) p far (inl alone) = no_way (rw e at alone)
  move_waits k x r s (Waits y l has none e) p far (inr on) = absurd (on l.1.0)
  move_waits k x r s (Blocks sub l has opens live e) p far (inr on) = absurd (on l.1.0)
  move_waits k x r s (Suspends l e) p far (inr on) = absurd (on l.1.0)

  stays : {t : Core} → Pausing a b → Stay a b t → Pausing a t
  stays first c =
      (along (λ (t : Core). Stand (watch a) n q [] t × Pausing a t)
      (λ w s ok h. (
        stay_primitive f.follows w s ok h.0,
        pausing_primitive a w s (stays_allowed a w s ok) h.1 (λ k x far.
            let at = ⊎_elim (h.1.at k x)
            (λ come. let r = f.there k come.0.0 in let one = f.one k come.0.0 in let here = h.0.here in let at = come.1.1.1 in grind arith)
            (op_far a w s (stays_allowed a w s ok) k x far) in
            watched_primitive f.follows (Pauses x) k w s ok h.0 (λ z u may. put_waits k x u s may at) refl at),
      ))
      (f.follows.start, first) c).1

  -- where the thread that comes to a place is inside a wait
  own : (p : Placing) (s : Core) → MayLand a p s → Pausing a s → (k x : ℕ) → k ≡ n → op_progress_of k s ≡ OpProgress.Waits x →
      (lands_alone p ≡ true) ⊎ (a.next ≡ Turn.Main → ⊥) → Stay a b s → At k x (after_placing p s)
  unfolding put_high push_high put_low push_low behind_one set_callers
  own (Put Mark.High j w) s ok h k x e far fit c =
      let l = yield_leaves j w ok in let same : k ≡ j = e ∙ sym (f.one j l.0) in
      rw same (moved_passes (is_at_wait x) (Place.Ready Mark.High w) (yield_waits a j w ok (h.wait j x (rw (← same) far))) j s)
  own (Put Mark.Low j w) s ok h k x e far fit c =
      let l = yield_leaves j w ok in let same : k ≡ j = e ∙ sym (f.one j l.0) in
      rw same (moved_passes (is_at_wait x) (Place.Ready Mark.Low w) (yield_waits a j w ok (h.wait j x (rw (← same) far))) j s)
  own (Move j r) s ok h k x e far fit c =
      let same : k ≡ j = e ∙ sym (f.one j (move_runner j r s ok (λ m is. runner_there f m s is c))) in
      rw same (moved_passes (is_at_wait x) r (move_waits j x r s ok h (rw (← same) far) fit) j s)
  own (GoBehind g j) s ok h k x e far (inl alone) c = absurd (grind arith)
  own (GoBehind g j) s ok h k x e far (inr on) c = absurd (on ok.0.1.0)
  own (Enter j m) s ok h k x e far fit c =
      let same : k ≡ j = e ∙ sym (f.one j ok.0) in let wait = h.wait k x far in let call = ok.1.1.1.1.1.1.1.1 in absurd (grind arith)
  own p s ok h k x e far fit c = absurd ok

  landed : (p : Placing) (s : Core) → MayLand a p s → Stay a b s → Pausing a s → (k x : ℕ) → op_progress_of k s ≡ OpProgress.Waits x →
      (k ≡ n → (lands_alone p ≡ true) ⊎ (a.next ≡ Turn.Main → ⊥)) → At k x (after_primitive (Places p) s)
  landed p s ok c h k x far fit =
      ap (λ (t : Core). option_map_or (is_at_wait x) (place_of k t) true) (placing_shifted p s).only ∙ by_number k n _
      (λ e. own p s ok h k x e far (fit e) c)
      (λ other. let at = h.at k x far in
      ap (λ (o : Option Place). option_map_or (is_at_wait x) o true)
      (land_kept f p s ok c k (λ j is. rw (f.one j is) other) (λ new. absurd (grind arith))) ∙ at_there x (place_of k s) at)

  -- the op comes no further than where its thread waits
  landed_at : (p : Placing) (s : Core) (m : ℕ) (h : OpProgress) → MayLand a p s → Stay a b s → Pausing a s → MayCome a m h (after_primitive (Places p) s) →
      WaitsPlaced (after_primitive (SetOpProgress m h) (after_primitive (Places p) s))
  landed_at p s m h ok c q come k x far =
      let u = after_primitive (Places p) s in
      there_at k x (after_primitive (SetOpProgress m h) u) far (ap (λ (o : Option Place). option_map_or (is_at_wait x) o true) (far_place k m h u) ∙ by_number k m _
      (λ e. rw e (rw (far_own k m x h u e far) at come).1.1.1)
      (λ other. landed p s ok c q k x (sym (shifted_far (placing_shifted p s) k) ∙ (sym (far_other k m h u other) ∙ far))
      (λ e. inr (⊎_elim (λ is. absurd (apart other (e ∙ sym (f.one m is)))) (λ on. on) (come_next a m h u come)))))

  settled : {s t : Core} → WaitsPlaced s → Settles s t → WaitsPlaced t
  settled first d = along WaitsPlaced (λ w s ok h. same_waits s (after_primitive w s) (settle_threads w s ok) h) first d

  trip_waits : {t : Core} → Pausing a b → Trip a b t → WaitsPlaced t
  trip_waits first (Remains t c still on) = (stays first c).at
  trip_waits first (Lands s p c ok fit halts) = λ k x far. let h = stays first c in
      there_at k x (after_primitive (Places p) s) far (landed p s ok c h k x (sym (shifted_far (placing_shifted p s) k) ∙ far) (λ e. inl fit))
  trip_waits first (LandsAt s p m h c ok fit comes halts) = landed_at p s m h ok c (stays first c) comes.0
  trip_waits first (Quits s t k c leave d halts) = settled (removed_waits k s (stays first c).at) d
  trip_waits first (GoesBack s t k m v c is runs to under back d ok) = back_waits m v t (settled (removed_waits k s (stays first c).at) d)
  trip_waits first (Collapses t over c) = along WaitsPlaced (unwinds_waits a) first.at c

-- ---- A step

-- who is inside a wait is at one
pub wait_op : (ops : ℕ → Op) (c : Component) (s : Core) → FitsAs ops c s → (k x : ℕ) → op_progress_of k s ≡ OpProgress.Waits x → is_wait (ops k) ≡ true
wait_op ops c s fits k x far = go (get s.threads k) refl far
  where
    go : (o : Option Thread) → get s.threads k ≡ o → option_map_or (λ (t : Thread). t.op_progress) o OpProgress.Fresh ≡ OpProgress.Waits x →
        is_wait (ops k) ≡ true
    go None is far = absurd (cc)
    go (Some t) is far = let op = (fits k t is).op in grind arith

-- the op of each thread inside a wait is one
abbrev pub AtWaits : Scene → Type 0
AtWaits a = (k x : ℕ) → op_progress_of k a.base ≡ OpProgress.Waits x → is_wait (op_in a k) ≡ true

pub step_waits : {ops : ℕ → Op} (x : Setting) (s : State) (l : Label) (t : State) (w : WalkedAs ops x s l t) → InPlace s → Withdrawable (scene_as ops x s l w.next) →
    AtWaits (scene_as ops x s l w.next) → WaitsPlaced s.core → WaitsPlaced t.core
step_waits x s l t w h may ops first = step_by x s l t w h may (λ a u. AtWaits a → WaitsPlaced u)
    (λ a b n q u base reads same f c ends ops. trip_waits f (same_waits s.core a.base base.0 first) (record {
      at = same_waits s.core b reads.0 first;
      wait = λ k y far. ops k y (ap (λ m. option_map_or (λ (r : Thread). r.op_progress) (get m k) OpProgress.Fresh) (base.0 ∙ sym reads.0) ∙ far);
      was = λ k y far. inl (ap (λ m. option_map_or (λ (r : Thread). r.op_progress) (get m k) OpProgress.Fresh) (base.0 ∙ sym reads.0) ∙ far);
    }) c) ops
