-- What one primitive does to the place of a thread.
use Rattle.laws_states.proofs.Rules.{[], after_primitive, Allowed, allowed_put, ap, arith, AtOp, behind, behind_one, callers_of, change-field, Core, displaced, Enter, foot_of, GoBehind, inl, inr, insert, is_some, is_sync_call, IsRunner, List, Mark, MayMove, MayPut, MayYield, Move, nat_tests, newest, next_thread, None, older, on_thread, op_in, Option, option_map, passed_on, Place, place_of, Places, Placing, Pop, Promote, promoted, push_high, push_high_first, push_low, Put, put_at, put_high, put_low, put_switch, refl, resumed_all, Scene, set_callers, set_high, set_low, set_place, set_place_is, set_place_there, set_switch, Some, stand, Stop, stopped, sym, Thread, true, Turn, unqueued, Why, why_of, Primitive, ℕ, ◌∙◌, ◌∷◌, ◌≡◌, ◌≤◌, ◌⊎◌}
use Rattle.laws_states.proofs.{CallsCame.IsBeside, CallsCame.IsFirst, CallsCame.IsGone, CallsCame.IsSame, CallsCame.ThreadAfter, CallsCame.thread_came, EachLemmas.after_change, SceneLemmas.popped_threads}

-- ---- Moves of other threads

abbrev pub why_in : Option Place → Option Why
why_in (Some (Place.Ready m w)) = Some w
why_in _ = None

-- From o to p: an entry represents such a reason, or for the one that it represented, or the thread is behind another, or its place
-- stays.
abbrev pub Moved : (Why → Type 0) → Option Place → Option Place → Type 0
Moved may o (Some (Place.Ready m w)) = ((is_some o ≡ true) × may w) ⊎ (why_in o ≡ Some w)
Moved may o (Some (Place.Behind f)) = is_some o ≡ true
Moved may o p = p ≡ o

unqueued_same : (k n : ℕ) (s : Core) → place_of k (unqueued n s) ≡ place_of k s
unfolding unqueued set_high set_low
unqueued_same k n s = grind arith

pub read_same : (n : ℕ) (f : Thread → Thread) → ((t : Thread) → (f t).place ≡ t.place) → (k : ℕ) (s : Core) →
    place_of k (on_thread n f s) ≡ place_of k s
unfolding on_thread
read_same n f same k s = change-field (λ (t : Thread). t.place) n f same s.threads k

module _ (may : ℕ → Why → Type 0) where
  -- nobody comes or goes
  pub moved_there : (k : ℕ) (o p : Option Place) → Moved (may k) o p → is_some p ≡ is_some o
  moved_there k o p h = grind arith

  pub moved_same : (k : ℕ) (o : Option Place) → Moved (may k) o o
  moved_same k o = grind arith

  moved_after : (k : ℕ) (o p q : Option Place) → Moved (may k) o p → Moved (may k) p q → Moved (may k) o q
  moved_after k o p q c d = grind (arith, moved_there)

  abbrev Shifted : Core → Core → Type 0
  Shifted s t = (k : ℕ) → Moved (may k) (place_of k s) (place_of k t)

  moved_by : (j : ℕ) (r : Place) (s : Core) → ((o : Option Place) → place_of j s ≡ o → Moved (may j) o (option_map (λ (q : Place). r) o)) →
      Shifted s (set_place j r s)
  moved_by j r s own k = let moves = own (place_of j s) refl in grind (arith, nat_tests, set_place_is, moved_same)

  shifted_after : (s m t : Core) → Shifted s m → Shifted m t → Shifted s t
  shifted_after s m t f g k = moved_after k _ _ _ (f k) (g k)

  stand_shifted : (n : ℕ) (m : Mark) (w : Why) (s : Core) → may n w → Shifted s (stand n m w s)
  stand_shifted n m w s ok = moved_by n (Place.Ready m w) s (λ o is. grind arith)

  pub behind_shifted : (f n : ℕ) (s : Core) → Shifted s (behind_one f n s)
  unfolding behind_one set_callers
  behind_shifted f n s = moved_by n (Place.Behind f) s (λ o is. grind arith)

  all_behind_shifted : (f : ℕ) (ns : List ℕ) (s : Core) → Shifted s (behind f ns s)
  all_behind_shifted f [] s = λ k. moved_same k _
  all_behind_shifted f (n ∷ ns) s = let m = behind_one f n s in
      shifted_after s m (behind f ns m) (behind_shifted f n s) (all_behind_shifted f ns m)

  module _ (resumes : (k : ℕ) → may k Why.Resumption) where
    -- an entry moves to another mark
    again_shifted : (n : ℕ) (m : Mark) (s : Core) → Shifted s (stand n m (why_of n s) s)
    again_shifted n m s = moved_by n (Place.Ready m (why_of n s)) s (λ o is. grind (arith, resumes n))

    displaced_shifted : (o : Option ℕ) (s : Core) → Shifted s (displaced o s)
    unfolding push_high_first
    displaced_shifted None s k = moved_same k _
    displaced_shifted (Some n) s k = again_shifted n Mark.High s k

    pub put_shifted : (m : Mark) (n : ℕ) (w : Why) (s : Core) → may n w → Shifted s (put_at m n w s)
    unfolding put_switch set_switch put_high push_high put_low push_low
    put_shifted Mark.Switch n w s ok = let m = displaced s.queues.switch s in
        shifted_after s m (stand n Mark.Switch w m) (displaced_shifted s.queues.switch s) (stand_shifted n Mark.Switch w m ok)
    put_shifted Mark.High n w s ok = stand_shifted n Mark.High w s ok
    put_shifted Mark.Low n w s ok = stand_shifted n Mark.Low w s ok

    pub promoted_shifted : (n : ℕ) (s : Core) → Shifted s (promoted n s)
    unfolding promoted set_switch
    promoted_shifted n s k = let moves = again_shifted n Mark.Switch (unqueued n s) k in
        rw (← (unqueued_same k n s)) (rw (unqueued_same n n s) at moves)

    resumed_shifted : (ns : List ℕ) (s : Core) → Shifted s (resumed_all ns s)
    resumed_shifted [] s = λ k. moved_same k _
    resumed_shifted (n ∷ ns) s = let m = put_high n Why.Resumption s in
        shifted_after s m (resumed_all ns m) (put_shifted Mark.High n Why.Resumption s (resumes n)) (resumed_shifted ns m)

    passed_shifted : (o : Option ℕ) (ns : List ℕ) (s : Core) → Shifted s (passed_on o ns s)
    passed_shifted (Some m) ns s = all_behind_shifted (foot_of m s) ns s
    passed_shifted None [] s = λ k. moved_same k _
    passed_shifted None (n ∷ ns) s = let i = newest n ns in let m = put_switch i Why.Resumption s in let ms = older n ns in
        shifted_after s m (resumed_all ms m) (put_shifted Mark.Switch i Why.Resumption s (resumes i)) (resumed_shifted ms m)

    pub stopped_shifted : (f : ℕ) (s : Core) → Shifted s (stopped f s)
    unfolding stopped set_callers
    stopped_shifted f s = passed_shifted s.queues.switch (callers_of f s) (record s { callers = insert s.callers f [] })

-- ---- Primitives

-- Why a primitive leaves an entry of the thread.
abbrev pub MayStand : Scene → Core → ℕ → Why → Type 0
MayStand a s n w = (w ≡ Why.Resumption) ⊎ (MayPut n w s ⊎ MayYield a n w)

-- A thread calls directly, or is called so; it is gone; or it is made.
pub data Turned (a : Scene) (s t : Core) (k : ℕ) (o p : Option Place) : Type 0 where
  Enters : (m : ℕ) → IsRunner a k → m ≡ next_thread a.base → place_of m s ≡ Some Place.New → p ≡ Some (Place.Under m) → is_some o ≡ true →
      (a.next ≡ Turn.Run m) × (AtOp a k s × (is_sync_call (op_in a k) ≡ true)) → Turned a s t k o p
  Entered : p ≡ Some Place.Running → is_some o ≡ true → Turned a s t k o p
  Leaves : p ≡ None → Turned a s t k o p
  IsMade : k ≡ next_thread s → k ≤ t.made.threads → p ≡ Some Place.New → Turned a s t k o p

-- What a primitive from s to t does to the place of the thread k, from o to p.
pub data Came (a : Scene) (s t : Core) (k : ℕ) (o p : Option Place) : Type 0 where
  Shifts : Moved (MayStand a s k) o p → Came a s t k o p
  Comes : (q : Place) → MayMove a k q s → p ≡ Some q → is_some o ≡ true → Came a s t k o p
  Turns : Turned a s t k o p → Came a s t k o p

abbrev pub PlaceAfter : Scene → Primitive → Core → ℕ → Type 0
PlaceAfter a w s k = Came a s (after_primitive w s) k (place_of k s) (place_of k (after_primitive w s))

abbrev place_in : Option Thread → Option Place
place_in o = option_map (λ (t : Thread). t.place) o

after_set : (k n : ℕ) (r : Place) (s : Core) (P : Option Place → Type 0) → P (place_of k s) →
    (k ≡ n → is_some (place_of k s) ≡ true → P (Some r)) → P (place_of k (set_place n r s))
unfolding set_place on_thread
after_set k n r s P stays comes = after_change (λ o p. P (place_in o) → P (place_in p)) s.threads n k (λ o h. h) _
    (λ t is e h. comes e (ap (λ o. is_some (place_in o)) is)) stays

module _ {a : Scene} where
  stays : {s t : Core} {k : ℕ} (o : Option Place) → Came a s t k o o
  stays {s = s} {k = k} o = Shifts (moved_same (MayStand a s) k o)

  came_by : (x : Placing) (s : Core) → Allowed a (Places x) s → (k : ℕ) → PlaceAfter a (Places x) s k
  came_by (Pop m) s ok k = rw (popped_threads m s) (stays (place_of k s))
  came_by (Put m n w) s ok k = Shifts (put_shifted (MayStand a s) (λ j. inl refl) m n w s (inr (allowed_put a m n w s ok)) k)
  came_by (Promote n) s ok k = Shifts (promoted_shifted (MayStand a s) (λ j. inl refl) n s k)
  came_by (Stop f) s ok k = Shifts (stopped_shifted (MayStand a s) (λ j. inl refl) f s k)
  came_by (GoBehind f n) s ok k = Shifts (behind_shifted (MayStand a s) f n s k)
  came_by (Move n p) s (inl ok) k = absurd ok
  came_by (Move n p) s (inr ok) k = after_set k n p s (Came a s _ k (place_of k s)) (stays _) (λ e t. Comes p (rw e ok) refl t)
  came_by (Enter n m) s (inl ok) k = absurd ok
  came_by (Enter n m) s (inr ok) k = let Q = Came a s (after_primitive (Places (Enter n m)) s) k (place_of k s) in
      after_set k n (Place.Under m) (set_place m Place.Running s) Q
      (after_set k m Place.Running s Q (stays _) (λ e t. Turns (Entered refl t)))
      (λ e t. Turns (Enters m (rw e ok.0) ok.1.1.0 ok.1.1.1.0 refl (sym (set_place_there k m Place.Running s) ∙ t) (ok.1.0, rw e ok.1.1.1.1.1.1.1)))

  placed_came : (x : Placing) (w : Primitive) (s : Core) → w ≡ Places x → Allowed a w s → (k : ℕ) → PlaceAfter a w s k
  placed_came x w s is ok k = rw is (came_by x s (rw is at ok) k)

  pub came_primitive : (w : Primitive) (s : Core) → Allowed a w s → (k : ℕ) → PlaceAfter a w s k
  came_primitive w s ok k = go (thread_came w s ok k)
    where
      go : ThreadAfter a w s k → PlaceAfter a w s k
      go (IsSame r u e f c x h (inl same) z) = rw (e, f, same) (stays (Some r.place))
      go (IsSame r u e f c x h (inr y) z) = placed_came y.0 w s y.1 ok k
      go (IsGone e) = rw e (Turns (Leaves refl))
      go (IsBeside u is l same m e) = rw e (Turns (IsMade is l (ap (λ (r : Thread). Some r.place) m.1.1.1.1.1.0)))
      go (IsFirst u is l there x y h new e z) = rw e (Turns (IsMade is l (ap (λ (p : Place). Some p) new)))
