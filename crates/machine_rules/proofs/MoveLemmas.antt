-- Moves beside a thread that runs or is taken: they leave each other thread its place.
use Rattle.machine_rules.proofs.Machine.{[], ap, arith, Bool, cond, Core, Delivery, displaced, false, get-remove, get-remove_other, get-remove_same, HasPlace, held_why, held_why_of, is_callback_waiter, is_free, List, Mark, may_wake, nat_tests, None, on_thread, one_if, Option, option_and_then, option_map, option_map_or, Place, place_of, Placed, push_high_first, put_at, put_high, put_switch, refl, released, released_one, ReleaseKeepsPlaces, RemovalKeepsPlaces, remove_thread, set_place, set_switch, Some, StopKeepsPlaces, stopped, subst, switch_entries, sym, Thread, times, true, wake, WakeKeepsPlaces, waken_by, Why, why_of, ℕ, ◌+◌, ◌==◌, ◌∙◌, ◌∷◌, ◌≡◌, ◌≤◌}
use Rattle.machine_rules.proofs.{StandLemmas.Adds, StandLemmas.Loose, StandLemmas.Stand, StandLemmas.Watch, StandLemmas.adds_all, StandLemmas.by_count, StandLemmas.eq_refl, StandLemmas.free_drops, StandLemmas.is_so, StandLemmas.is_watched, StandLemmas.moves_stand, StandLemmas.nobody, StandLemmas.not_eq, StandLemmas.place_kept, StandLemmas.put_high_adds, StandLemmas.put_low_adds, StandLemmas.set_place_adds, StandLemmas.zero_one, StopLemmas.displaced_stand, StopLemmas.stopped_stand, StopLemmas.switch_adds}
pub use Rattle.machine_data.proofs.CommuteLemmas.{get-change}

-- ---- Where other threads are

-- there is no such thread, or it runs, is under another, or its entry is being taken
abbrev pub is_busy : Option Place → Bool
is_busy None = true
is_busy (Some Place.Running) = true
is_busy (Some (Place.Ready m w)) = true
is_busy (Some (Place.Under m)) = true
is_busy _ = false

-- the thread neither runs nor is under another, nor has an entry, nor is behind another
abbrev pub is_parked : Place → Bool
is_parked Place.Running = false
is_parked (Place.Ready m w) = false
is_parked (Place.Under m) = false
is_parked (Place.Behind f) = false
is_parked _ = true

-- what passes is there
pub at_place : {X : Type 0} (test : X → Bool) (o : Option X) → option_map_or test o false ≡ true →
    (x : X) × ((o ≡ Some x) × (test x ≡ true))
at_place test None h = absurd (grind arith)
at_place test (Some x) h = (x, (refl, h))

-- ---- A thread is gone

pub removed_is : (k n : ℕ) (s : Core) → place_of k (remove_thread n s) ≡ cond (k == n) None (place_of k s)
unfolding remove_thread
removed_is k n s = grind (arith, nat_tests, get-remove)

pub gone_place : (n : ℕ) (s : Core) → place_of n (remove_thread n s) ≡ None
unfolding remove_thread
gone_place n s = ap (option_map (λ (t : Thread). t.place)) (get-remove_same s.threads n)

pub other_place : (k n : ℕ) (s : Core) → (k == n) ≡ false → place_of k (remove_thread n s) ≡ place_of k s
unfolding remove_thread
other_place k n s e = ap (option_map (λ (t : Thread). t.place)) (get-remove_other s.threads n k (not_eq k n e))

pub removed_loose : (k n : ℕ) (s : Core) → Loose k s → Loose k (remove_thread n s)
unfolding remove_thread
removed_loose k n s l = grind (arith, nat_tests, get-remove)

pub removed_gone : (n : ℕ) (s : Core) → Loose n s → HasPlace n (remove_thread n s)
removed_gone n s l = let is = gone_place n s in let r = removed_loose n n s l in grind arith

pub removed_placed : (k n : ℕ) (s : Core) → (k == n) ≡ false → HasPlace k s → HasPlace k (remove_thread n s)
unfolding remove_thread
removed_placed k n s e h = record {
  number = grind (arith, other_place k n s e, h.number);
  behind = λ f g. grind (arith, other_place k n s e, h.behind f);
  switch = grind (arith, other_place k n s e);
  high = grind (arith, other_place k n s e);
  low = grind (arith, other_place k n s e);
  callers = λ f. grind (arith, nat_tests, get-remove, h.callers f);
}

-- ---- Moves beside a busy thread

-- who has no entry at switch stays where one gives way
displaced_other : (m : ℕ) (o : Option ℕ) (s : Core) → switch_entries m o ≡ 0 → place_of m (displaced o s) ≡ place_of m s
unfolding push_high_first
displaced_other m None s off = refl
displaced_other m (Some j) s off = place_kept m j (Place.Ready Mark.High (why_of j s)) s (grind arith)

-- a parked thread is put
put_free : {P : ℕ → Watch} (n : ℕ) (q : Option Place) → is_busy q ≡ true → (m : ℕ) (p r : Place) (s t : Core) → place_of m s ≡ Some p →
    is_parked p ≡ true → (is_watched (P m) ≡ true → is_so (P m) (Some r) ≡ true) → Adds m r s t → Stand P n q [] s → Stand P n q [] t
put_free n q busy m p r s t is parked fits adds st =
    let here = st.here in
    moves_stand n q [] m p r s s t (free_drops m p s (grind arith)) adds is (grind (arith, nat_tests)) (λ so w. fits w) st

pub put_stand : {P : ℕ → Watch} (n : ℕ) (q : Option Place) → is_busy q ≡ true → (x : Mark) (m : ℕ) (w : Why) (p : Place) (s : Core) →
    place_of m s ≡ Some p → is_parked p ≡ true → (is_watched (P m) ≡ true → is_so (P m) (Some (Place.Ready x w)) ≡ true) →
    Stand P n q [] s → Stand P n q [] (put_at x m w s)
unfolding put_switch set_switch set_place on_thread
put_stand n q busy Mark.High m w p s is parked fits st = put_free n q busy m p _ s _ is parked fits (put_high_adds m w p s is) st
put_stand n q busy Mark.Low m w p s is parked fits st = put_free n q busy m p _ s _ is parked fits (put_low_adds m w p s is) st
put_stand n q busy Mark.Switch m w p s is parked fits st =
    let off : switch_entries m s.queues.switch ≡ 0 = let here = st.here in grind (arith, nat_tests, st.placed m) in
    let v = set_switch None (displaced s.queues.switch s) in
    let still : place_of m v ≡ Some p = displaced_other m s.queues.switch s off ∙ is in
    put_free n q busy m p _ v _ still parked fits (switch_adds m w p v still refl) (displaced_stand n q [] s s.queues.switch refl st)

-- ---- The thread itself

-- a thread's place says nothing, or it is gone
abbrev pub is_idle : Option Place → Bool
is_idle o = option_map_or is_free o true

pub idle_loose : (n : ℕ) (o : Option Place) (s : Core) → place_of n s ≡ o → is_idle o ≡ true → HasPlace n s → Loose n s
idle_loose n o s is idle h = grind arith

pub loose_idle : (n : ℕ) (o : Option Place) (s : Core) → place_of n s ≡ o → is_idle o ≡ true → Loose n s → HasPlace n s
loose_idle n o s is idle l = grind arith

pub one_time : (n : ℕ) → times n (n ∷ []) ≡ 1
one_time n = ap (λ b. one_if b + 0) (eq_refl n)

pub no_time : (k n : ℕ) → (k == n) ≡ false → times k (n ∷ []) ≡ 0
no_time k n e = ap (λ b. one_if b + 0) e

-- where each thread has its place, each that is at no entry may be taken as n
pub stand_of : {P : ℕ → Watch} (n : ℕ) (q : Option Place) (s : Core) → place_of n s ≡ q → is_idle q ≡ true →
    ((k : ℕ) → is_watched (P k) ≡ true → is_so (P k) (place_of k s) ≡ true) → Placed s → Stand P n q [] s
stand_of n q s is idle so all = record {
  here = is;
  once = λ k. at_most_one (k == n);
  loose =
      λ k h. by_count k n _ (λ e x. subst (λ (j : ℕ). Loose j s) (sym e) (idle_loose n q s is idle (all n))) (λ e x. absurd (omega arith));
  there = λ k h. zero_one refl h;
  placed = λ k h. all k;
  kept = λ k h. (refl, so k h);
}
  where
    at_most_one : (b : Bool) → one_if b + 0 ≤ 1
    at_most_one b = grind arith

pub all_of : {P : ℕ → Watch} (n : ℕ) (q : Option Place) (s : Core) → is_idle q ≡ true → Stand P n q [] s → Placed s
all_of n q s idle st k =
    by_count k n _ (λ e x. loose_idle k q s (ap (λ (j : ℕ). place_of j s) e ∙ st.here) idle (st.loose k (omega arith)))
    (λ e x. st.placed k (omega arith))

pub removed_all : {P : ℕ → Watch} (n : ℕ) (q : Option Place) (s : Core) → Stand P n q [] s → Placed (remove_thread n s)
removed_all n q s st k =
    by_count k n _
    (λ e x. subst (λ (j : ℕ). Loose j s → HasPlace j (remove_thread n s)) (sym e) (removed_gone n s) (st.loose k (omega arith)))
    (λ e x. removed_placed k n s e (st.placed k (omega arith)))

-- ---- The moves, where all threads have their places

-- beside n, which runs, each has its place
abbrev Runs : ℕ → Core → Type 0
Runs n s = Stand nobody n (Some Place.Running) [] s

runs : (n : ℕ) (s : Core) → place_of n s ≡ Some Place.Running → Placed s → Runs n s
runs n s is all = stand_of n (Some Place.Running) s is refl (λ k h. absurd (grind arith)) all

put_keeps : (n m : ℕ) (w : Why) (s : Core) → option_map_or is_parked (place_of m s) false ≡ true → Runs n s → Runs n (put_high m w s)
put_keeps n m w s parked st =
    let p = at_place is_parked (place_of m s) parked in
    put_stand n (Some Place.Running) refl Mark.High m w p.0 s p.1.0 p.1.1 (λ h. absurd (grind arith)) st

release_one : (n m : ℕ) (o : Option Place) (s : Core) → place_of m s ≡ o → Runs n s → Runs n (released_one m (option_and_then held_why o) s)
release_one n m (Some (Place.Held w)) s is st = put_keeps n m w s (grind arith) st
release_one n m _ s is st = st

release_stand : (n : ℕ) (ns : List ℕ) (s : Core) → Runs n s → Runs n (released ns s)
unfolding released
release_stand n [] s st = st
release_stand n (m ∷ ns) s st = release_stand n ns (released_one m (held_why_of m s) s) (release_one n m (place_of m s) s refl st)

wake_stand : (n x : ℕ) (w : Option ℕ) (s : Core) → may_wake x w s ≡ true → Runs n s → Runs n (wake x w s)
unfolding wake may_wake
wake_stand n x None s h st = st
wake_stand n x (Some m) s h st = by_callback (is_callback_waiter m s)
  where
    waits : option_map_or is_parked (place_of m s) false ≡ true
    waits = grind arith

    by_callback : (b : Bool) → Runs n (waken_by b x m s)
    by_callback true = put_keeps n m (Why.Delivery (Delivery.Set x)) s waits st
    by_callback false = put_keeps n m Why.Resumption s waits st

pub stop_keeps_places : StopKeepsPlaces
unfolding StopKeepsPlaces
stop_keeps_places n f p s free is all =
    let st = stopped_stand n (Some Place.Running) f s (runs n s is all) in
    let adds = set_place_adds n p Place.Running (stopped f s) free st.here in
    adds_all n (Some Place.Running) p (stopped f s) (set_place n p (stopped f s)) adds st

pub release_keeps_places : ReleaseKeepsPlaces
unfolding ReleaseKeepsPlaces
release_keeps_places n ns s is all = all_of n (Some Place.Running) (released ns s) refl (release_stand n ns s (runs n s is all))

pub wake_keeps_places : WakeKeepsPlaces
unfolding WakeKeepsPlaces
wake_keeps_places n x w s may_be is all =
    all_of n (Some Place.Running) (wake x w s) refl (wake_stand n x w s may_be (runs n s is all))

pub removal_keeps_places : RemovalKeepsPlaces
unfolding RemovalKeepsPlaces
removal_keeps_places n s is all = removed_all n (Some Place.Running) s (runs n s is all)
