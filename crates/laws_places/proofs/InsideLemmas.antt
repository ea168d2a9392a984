-- Who waits or is blocked is inside the op that says so, along the primitives of a step.
use Rattle.laws_places.proofs.Laws.{[], after_placing, after_primitive, Allowed, along, ap, arith, behind_shifted, Bool, by_number, Collapses, Core, Enter, false, get, get-change, get-remove, GoBehind, GoesBack, op_progress_of, OpProgress, inl, InPlace, inr, InsideOps, is_inside, IsBeside, IsUnwind, IsFirst, IsGone, IsRunner, IsSame, Label, land_allowed, Lands, lands_alone, lands_inside, LandsAt, Mark, MayCome, MayLand, MayMove, Move, Moved, nat_tests, on_thread, Op, Option, Place, place_of, Places, Placing, placing_shifted, Pop, popped, Promote, promoted_shifted, Put, put_shifted, Quits, refl, Remains, remove_thread, RemoveThread, Scene, scene_as, set_high, set_op_progress, set_low, set_place, set_switch, set_trapped, SetOpProgress, Setting, settle_threads, Settles, SetTrapped, shifted_far, Some, Stand, State, Stay, Stays, stays_allowed, Stop, stopped_shifted, sym, Thread, thread_came, ThreadAfter, Trip, true, WalkedAs, Primitive, ℕ, ⊎_elim, ◌==◌, ◌∙◌, ◌≡◌, ◌⊎◌}
use Rattle.laws_places.proofs.{PlaceLaw.Frame, PlaceLaw.covered_still, PlaceLaw.stay_stand, PlaceLaw.stay_primitive, PlaceLaw.watch, PlaceSteps.Withdrawable, PlaceSteps.step_by}

-- a place that says nothing of the op there
abbrev is_loose : Place → Bool
is_loose p = is_inside p OpProgress.Fresh

loose_inside : (p : Place) (h : OpProgress) → is_loose p ≡ true → is_inside p h ≡ true
loose_inside p h loose = grind arith

alone_loose : (k : ℕ) (p : Place) → lands_alone (Move k p) ≡ true → is_loose p ≡ true
alone_loose k p alone = grind arith

moved_loose : (o : Option Place) (p : Place) → Moved (λ w. Unit {0}) o (Some p) → (is_loose p ≡ true) ⊎ (o ≡ Some p)
moved_loose o p came = grind arith

-- the place says nothing of the op, or was the thread's before, or the thread comes to it
abbrev Came : Placing → Core → ℕ → Place → Type 0
Came x s k p = (is_loose p ≡ true) ⊎ ((place_of k s ≡ Some p) ⊎ (x ≡ Move k p))

by_moved : (x : Placing) (s : Core) (k : ℕ) (p : Place) → Moved (λ w. Unit {0}) (place_of k s) (place_of k (after_placing x s)) →
    place_of k (after_placing x s) ≡ Some p → Came x s k p
by_moved x s k p came at = ⊎_elim inl (λ e. inr (inl e)) (moved_loose (place_of k s) p (rw at at came))

placing_came : (x : Placing) (s : Core) (k : ℕ) (p : Place) → place_of k (after_placing x s) ≡ Some p → Came x s k p
unfolding popped set_switch set_high set_low set_place on_thread
placing_came (Pop Mark.Switch) s k p at = inr (inl at)
placing_came (Pop Mark.High) s k p at = inr (inl at)
placing_came (Pop Mark.Low) s k p at = inr (inl at)
placing_came (Put m n w) s k p at = by_moved (Put m n w) s k p (put_shifted (λ j v. Unit {0}) (λ j. tt) m n w s tt k) at
placing_came (Promote n) s k p at = by_moved (Promote n) s k p (promoted_shifted (λ j v. Unit {0}) (λ j. tt) n s k) at
placing_came (Stop f) s k p at = by_moved (Stop f) s k p (stopped_shifted (λ j v. Unit {0}) (λ j. tt) f s k) at
placing_came (GoBehind f n) s k p at = by_moved (GoBehind f n) s k p (behind_shifted (λ j v. Unit {0}) f n s k) at
placing_came (Move n q) s k p at = by_number k n _ (λ e. grind (arith, nat_tests, get-change)) (λ other. inr (inl (grind (arith, nat_tests, get-change))))
placing_came (Enter n m) s k p at =
    by_number k n _ (λ e. grind (arith, nat_tests, get-change))
    (λ other. by_number k m _ (λ e. grind (arith, nat_tests, get-change)) (λ apart. inr (inl (grind (arith, nat_tests, get-change)))))

-- ---- One primitive

abbrev Inside : ℕ → Core → Type 0
Inside k s = (p : Place) → place_of k s ≡ Some p → is_inside p (op_progress_of k s) ≡ true

-- an op comes further of the runner, or of one that the runner was on top of
pub come_who : (a : Scene) (k : ℕ) (h : OpProgress) (s : Core) → MayCome a k h s → IsRunner a k ⊎ ((m : ℕ) × (place_of k a.base ≡ Some (Place.Under m)))
come_who a k h s ok = grind arith

come_far : (a : Scene) (k : ℕ) (h : OpProgress) (s : Core) → MayCome a k h s → IsRunner a k ⊎ ((v : ℕ) × (h ≡ OpProgress.Answered v))
come_far a k h s ok = grind arith

move_who : (a : Scene) (k : ℕ) (p : Place) (s : Core) → MayMove a k p s → IsRunner a k ⊎ (is_loose p ≡ true)
move_who a k p s ok = grind arith

-- where an op comes further, its thread is at such a place
abbrev Loose : Scene → ℕ → Core → Type 0
Loose a k s = IsRunner a k ⊎ ((m : ℕ) × (place_of k a.base ≡ Some (Place.Under m))) → (p : Place) → place_of k s ≡ Some p → is_loose p ≡ true

inside_primitive : (a : Scene) (w : Primitive) (s : Core) → Allowed a w s → (k : ℕ) → Loose a k s →
    ((x : Placing) → w ≡ Places x → (p : Place) → place_of k (after_primitive w s) ≡ Some p → (is_loose p ≡ true) ⊎ (place_of k s ≡ Some p)) →
    Inside k s → Inside k (after_primitive w s)
inside_primitive a w s ok k loose moves q p at = go (thread_came w s ok k)
  where
    stays : (r u : Thread) → get s.threads k ≡ Some r → get (after_primitive w s).threads k ≡ Some u → place_of k s ≡ Some p →
        (u.op_progress ≡ r.op_progress) ⊎ MayCome a k u.op_progress s → is_inside p (op_progress_of k (after_primitive w s)) ≡ true
    stays r u e f here (inl same) = let i = q p here in grind arith
    stays r u e f here (inr come) = loose_inside p _ (loose (come_who a k u.op_progress s come) p here)

    go : ThreadAfter a w s k → is_inside p (op_progress_of k (after_primitive w s)) ≡ true
    go (IsSame r u e f c y far (inl same) z) = stays r u e f (grind arith) far
    go (IsSame r u e f c y far (inr x) z) = ⊎_elim (λ l. loose_inside p _ l) (λ here. stays r u e f here far) (moves x.0 x.1 p at)
    go (IsGone e) = absurd (cc)
    go (IsBeside u is l same m e) = let new : p ≡ Place.New = cc in rw new refl
    go (IsFirst u is l there y z far new e x) = let new : p ≡ Place.New = cc in rw new refl

same_threads : (s t : Core) → t.threads ≡ s.threads → InsideOps s → InsideOps t
same_threads s t same q n p at = grind (arith, q n p)

removed_inside : (k : ℕ) (s : Core) → InsideOps s → InsideOps (remove_thread k s)
unfolding remove_thread
removed_inside k s q n p at = grind (arith, nat_tests, get-remove, q n p)

unwinds_inside : (a : Scene) (w : Primitive) (s : Core) → IsUnwind a w s → InsideOps s → InsideOps (after_primitive w s)
unfolding set_trapped
unwinds_inside a (RemoveThread k) s ok h = removed_inside k s h
unwinds_inside a SetTrapped s ok h = same_threads s (set_trapped s) refl h
unwinds_inside a _ s ok h = absurd ok

-- the thread runs on, and its call is answered
goes_back : (m v : ℕ) (t : Core) → InsideOps t → InsideOps (after_primitive (SetOpProgress m (OpProgress.Answered v)) (after_primitive (Places (Move m Place.Running)) t))
unfolding set_op_progress set_place on_thread
goes_back m v t q k p at = by_number k m _ (λ e. grind (arith, nat_tests, get-change)) (λ other. grind (arith, nat_tests, get-change, q k p))

-- ---- Trips

module _ {a : Scene} {b : Core} {n : ℕ} {q : Option Place} (f : Frame a b n q) where
  loose : (s : Core) → Stand (watch a) n q [] s → (k : ℕ) → Loose a k s
  loose s st k (inl is) p at = let busy = f.follows.busy in let one = f.one k is in let here = st.here in grind arith
  loose s st k (inr under) p at = let still = covered_still a st k under.0 under.1 in grind arith

  shifts : (w : Primitive) (s : Core) → Stays a w s → (k : ℕ) (x : Placing) → w ≡ Places x → (p : Place) → place_of k (after_primitive w s) ≡ Some p → (is_loose p ≡ true) ⊎ (place_of k s ≡ Some p)
  shifts w s ok k x is p at = ⊎_elim inl (⊎_elim inr (λ e. absurd (no_move x (rw is at ok) e))) (placing_came x s k p (sym (ap (λ t. place_of k t) (placing_shifted x s).only) ∙ rw is at at))
    where
      no_move : (y : Placing) → Stays a (Places y) s → y ≡ Move k p → ⊥
      no_move y ok e = grind arith

  stays : {t : Core} → InsideOps b → Stay a b t → InsideOps t
  stays first c =
      (along (λ (t : Core). Stand (watch a) n q [] t × InsideOps t)
      (λ w s ok h. (stay_primitive f.follows w s ok h.0, λ k. inside_primitive a w s (stays_allowed a w s ok) k (loose s h.0 k) (shifts w s ok k) (h.1 k)))
      (f.follows.start, first) c).1

  settled : {s t : Core} → InsideOps s → Settles s t → InsideOps t
  settled first d = along InsideOps (λ w s ok h. same_threads s (after_primitive w s) (settle_threads w s ok) h) first d

  landed : (s : Core) (x : Placing) → Stay a b s → (k : ℕ) (p : Place) → place_of k (after_primitive (Places x) s) ≡ Some p → Came x s k p
  landed s x c k p at = placing_came x s k p (sym (ap (λ t. place_of k t) (placing_shifted x s).only) ∙ at)

  landed_at : (s : Core) (x : Placing) (m : ℕ) (h : OpProgress) → Stay a b s → InsideOps s → MayLand a x s → lands_inside x h ≡ true →
      MayCome a m h (after_primitive (Places x) s) → InsideOps (after_primitive (SetOpProgress m h) (after_primitive (Places x) s))
  unfolding set_op_progress on_thread
  landed_at s x m h c q ok fit come k p at =
      let here : place_of k u ≡ Some p = grind (arith, nat_tests, get-change) in
      by_number k m _ (λ e. let i = own e (landed s x c k p here) in grind (arith, nat_tests, get-change))
      (λ other. let i = rest other (landed s x c k p here) in let far = shifted_far (placing_shifted x s) k in grind (arith, nat_tests, get-change))
    where
      u : Core
      u = after_primitive (Places x) s

      own : k ≡ m → Came x s k p → is_inside p h ≡ true
      own e came = ⊎_elim (loose_inside p h) (⊎_elim
          (λ was. loose_inside p h (loose s (stay_stand f.follows c) k (rw e (come_who a m h u come)) p was)) (λ moves. rw moves at fit)) came

      moved : (k == m) ≡ false → x ≡ Move k p → is_loose p ≡ true
      moved other moves =
          let fits : is_inside p h ≡ true = rw moves at fit in
          let to : MayMove a k p s = rw moves at ok in
          ⊎_elim (λ runs. ⊎_elim (λ is. let one = f.one k runs in let same = f.one m is in absurd (grind (arith, nat_tests)))
          (λ v. grind arith) (come_far a m h u come)) (λ l. l) (move_who a k p s to)

      rest : (k == m) ≡ false → Came x s k p → is_inside p (op_progress_of k s) ≡ true
      rest other came = ⊎_elim (loose_inside p _) (⊎_elim (q k p) (λ moves. loose_inside p _ (moved other moves))) came

  trip_inside : {t : Core} → InsideOps b → Trip a b t → InsideOps t
  trip_inside first (Remains t c still on) = stays first c
  trip_inside first (Lands s x c ok fit halts) = λ k.
      inside_primitive a (Places x) s (land_allowed a x s ok) k (loose s (stay_stand f.follows c) k)
      (λ y is p at. ⊎_elim inl (⊎_elim inr (λ moves. inl (alone_loose k p (rw moves at fit)))) (landed s x c k p at)) (stays first c k)
  trip_inside first (LandsAt s x m h c ok fit comes halts) = landed_at s x m h c (stays first c) ok fit comes.0
  trip_inside first (Quits s t k c leave d halts) = settled (removed_inside k s (stays first c)) d
  trip_inside first (GoesBack s t k m v c is runs to under back d ok) = goes_back m v t (settled (removed_inside k s (stays first c)) d)
  trip_inside first (Collapses t over c) = along InsideOps (unwinds_inside a) first c

-- ---- A step

pub step_inside : {ops : ℕ → Op} (x : Setting) (s : State) (l : Label) (t : State) (w : WalkedAs ops x s l t) → InPlace s → Withdrawable (scene_as ops x s l w.next) →
    InsideOps s.core → InsideOps t.core
step_inside x s l t w h may first = step_by x s l t w h may (λ a u. InsideOps u)
    (λ a b n q u base reads same f c ends. trip_inside f (same_threads s.core b reads.0 first) c)
