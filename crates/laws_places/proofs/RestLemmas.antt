-- Who waits or is blocked was so before, or comes to it: along the primitives of a step.
use Rattle.laws_places.proofs.Laws.{after_placing, after_primitive, Allowed, along, ap, arith, Bool, by_number, Came, came_primitive, Collapses, Comes, Core, false, get, get-change, get-remove, GoesBack, OpProgress, inl, inr, IsBeside, IsFirst, IsGone, IsRunner, IsSame, land_allowed, Lands, LandsAt, MayMove, MayStand, Moved, nat_tests, on_thread, Option, option_map, Place, place_of, Places, Placing, placing_shifted, Promote, promoted_shifted, Put, put_shifted, Quits, refl, Remains, remove_thread, RemoveThread, Scene, set_op_progress, set_place, SetOpProgress, settle_threads, Settles, Shifts, Some, Stay, Stays, stays_allowed, Stop, stopped_shifted, sym, Thread, thread_came, ThreadAfter, Trip, true, Turn, Turned, Turns, Walk, Why, Primitive, ℕ, ⊎_elim, ◌∙◌, ◌≡◌, ◌⊎◌}
use Rattle.laws_places.proofs.PlaceLaw.{beside, Frame}

abbrev pub is_rest : Place → Bool
is_rest (Place.Waiting x by_callback) = true
is_rest (Place.Blocked sub) = true
is_rest _ = false

-- the thread is at the place
abbrev pub Rests : Place → ℕ → Core → Type 0
Rests q n s = place_of n s ≡ Some q

-- ---- Primitives

moved_rests : (may : Why → Type 0) (o p : Option Place) (q : Place) → is_rest q ≡ true → Moved may o p → p ≡ Some q → o ≡ Some q
moved_rests may o p (Place.Waiting x c) kind came is = grind arith
moved_rests may o p (Place.Blocked sub) kind came is = grind arith
moved_rests may o p q kind came is = absurd (grind arith)

turned_rests : (a : Scene) (s t : Core) (n : ℕ) (o p : Option Place) (q : Place) → is_rest q ≡ true → Turned a s t n o p → p ≡ Some q → ⊥
turned_rests a s t n o p q kind came is = grind arith

rests_came : (a : Scene) (s t : Core) (n : ℕ) (q : Place) (p : Option Place) → is_rest q ≡ true → Came a s t n (place_of n s) p → p ≡ Some q →
    Rests q n s ⊎ MayMove a n q s
rests_came a s t n q p kind (Shifts c) is = inl (moved_rests (MayStand a s n) (place_of n s) p q kind c is)
rests_came a s t n q p kind (Comes r ok e there) is = let same : r ≡ q = cc in inr (rw same at ok)
rests_came a s t n q p kind (Turns c) is = absurd (turned_rests a s t n (place_of n s) p q kind c is)

rests_primitive : (a : Scene) (w : Primitive) (s : Core) → Allowed a w s → (n : ℕ) (q : Place) → is_rest q ≡ true → Rests q n (after_primitive w s) →
    Rests q n s ⊎ MayMove a n q s
rests_primitive a w s ok n q kind at = rests_came a s (after_primitive w s) n q _ kind (came_primitive w s ok n) at

move_runs : (a : Scene) (n : ℕ) (q : Place) (s : Core) → is_rest q ≡ true → MayMove a n q s → IsRunner a n
move_runs a n q s kind ok = grind arith

-- who doesn't run doesn't come to it
pub rests_walk : {a : Scene} {b t : Core} → Walk a b t → (n : ℕ) (q : Place) → is_rest q ≡ true → (IsRunner a n → ⊥) → Rests q n t → Rests q n b
rests_walk {a = a} {b = b} c n q kind other at = along (λ (u : Core). Rests q n u → Rests q n b)
    (λ w s ok r h. r (⊎_elim (λ e. e) (λ m. absurd (other (move_runs a n q s kind m))) (rests_primitive a w s ok n q kind h))) (λ h. h) c at

-- no thread comes to it while the running thread stays
shift_rests : (a : Scene) (x : Placing) (s : Core) → Stays a (Places x) s → (n : ℕ) (q : Place) → is_rest q ≡ true → Rests q n (after_placing x s) → Rests q n s
shift_rests a (Put m k w) s ok n q kind is = moved_rests _ _ _ q kind (put_shifted (λ j v. Unit {0}) (λ j. tt) m k w s tt n) is
shift_rests a (Promote k) s ok n q kind is = moved_rests _ _ _ q kind (promoted_shifted (λ j v. Unit {0}) (λ j. tt) k s n) is
shift_rests a (Stop f) s ok n q kind is = moved_rests _ _ _ q kind (stopped_shifted (λ j v. Unit {0}) (λ j. tt) f s n) is
shift_rests a x s (inl ok) n q kind is = absurd ok
shift_rests a x s (inr ok) n q kind is = absurd ok

stay_primitive_rests : (a : Scene) (w : Primitive) (s : Core) → Stays a w s → (n : ℕ) (q : Place) → is_rest q ≡ true → Rests q n (after_primitive w s) → Rests q n s
stay_primitive_rests a w s ok n q kind is = go (thread_came w s (stays_allowed a w s ok) n)
  where
    go : ThreadAfter a w s n → Rests q n s
    go (IsSame r u e f c y far (inl same) z) = grind arith
    go (IsSame r u e f c y far (inr x) z) =
        shift_rests a x.0 s (rw x.1 at ok) n q kind (sym (ap (λ (t : Core). place_of n t) (placing_shifted x.0 s).only) ∙ rw x.1 at is)
    go (IsGone e) = absurd (cc)
    go (IsBeside u new l same m e) = let place : q ≡ Place.New = cc in absurd (grind arith)
    go (IsFirst u first l there y z far new e x) = let place : q ≡ Place.New = cc in absurd (grind arith)

pub rests_stay : {a : Scene} {b t : Core} → Stay a b t → (n : ℕ) (q : Place) → is_rest q ≡ true → Rests q n t → Rests q n b
rests_stay {a = a} {b = b} c n q kind at =
    along (λ (u : Core). Rests q n u → Rests q n b) (λ w s ok r h. r (stay_primitive_rests a w s ok n q kind h)) (λ h. h) c at

-- ---- Trips

-- it comes to the place where the calls and works are those of t
abbrev pub ComesTo : Scene → ℕ → Place → Core → Type 0
ComesTo a n q t = (s : Core) × (MayMove a n q s × ((t.calls ≡ s.calls) × (t.works ≡ s.works)))

land_rests : (a : Scene) (x : Placing) (s : Core) (n : ℕ) (q : Place) → is_rest q ≡ true → Allowed a (Places x) s → Rests q n (after_primitive (Places x) s) →
    Rests q n s ⊎ ComesTo a n q (after_primitive (Places x) s)
land_rests a x s n q kind ok at = ⊎_elim inl (λ m. inr (s, (m, (refl, refl)))) (rests_primitive a (Places x) s ok n q kind at)

far_place : (m n : ℕ) (h : OpProgress) (q : Place) (s : Core) → Rests q n (after_primitive (SetOpProgress m h) s) → Rests q n s
unfolding set_op_progress on_thread
far_place m n h q s at = grind (arith, nat_tests, get-change)

module _ {a : Scene} {b : Core} {k : ℕ} {o : Option Place} (f : Frame a b k o) where
  -- the running thread neither waits nor is blocked
  pub runs_free : (m : ℕ) (q : Place) → is_rest q ≡ true → IsRunner a m → Rests q m b → ⊥
  runs_free m q kind is at = let h = (beside f m is).1 in let busy = h.follows.busy in let here = h.follows.start.here in absurd (grind arith)

  gone_rests : {s t : Core} (j n : ℕ) (q : Place) → is_rest q ≡ true → Stay a b s → IsRunner a j → Settles (after_primitive (RemoveThread j) s) t → Rests q n t → Rests q n b
  unfolding remove_thread
  gone_rests {s = s} j n q kind c is d at =
      let u : Rests q n (after_primitive (RemoveThread j) s) =
      along (λ (u : Core). Rests q n u → Rests q n (after_primitive (RemoveThread j) s))
      (λ w v ok r h. r (ap (λ m. option_map (λ (r : Thread). r.place) (get m n)) (sym (settle_threads w v ok)) ∙ h)) (λ h. h) d at in
      rests_stay c n q kind (grind (arith, nat_tests, get-remove))

  pub trip_rests : {t : Core} → Trip a b t → (a.next ≡ Turn.Over → ⊥) → (n : ℕ) (q : Place) → is_rest q ≡ true → Rests q n t → Rests q n b ⊎ ComesTo a n q t
  unfolding set_op_progress set_place on_thread
  trip_rests (Remains t c still on) live n q kind at = inl (rests_stay c n q kind at)
  trip_rests (Lands s x c ok fit halts) live n q kind at = ⊎_elim (λ e. inl (rests_stay c n q kind e)) inr (land_rests a x s n q kind (land_allowed a x s ok) at)
  trip_rests (LandsAt s x m h c ok fit comes halts) live n q kind at =
      ⊎_elim (λ e. inl (rests_stay c n q kind e)) (λ r. inr (r.0, (r.1.0, (r.1.1.0, r.1.1.1))))
      (land_rests a x s n q kind (land_allowed a x s ok) (far_place m n h q (after_primitive (Places x) s) at))
  trip_rests (Quits s t j c leave d halts) live n q kind at = inl (gone_rests j n q kind c leave.0 d at)
  trip_rests (GoesBack s t j m v c is runs to under back d ok) live n q kind at =
      let was : Rests q n t = by_number n m _ (λ e. absurd (grind (arith, nat_tests, get-change))) (λ other. grind (arith, nat_tests, get-change)) in
      inl (gone_rests j n q kind c is d was)
  trip_rests (Collapses t over c) live n q kind at = absurd (live over)
