-- What the moves that put threads, and a stop, do to places and entries.
use Rattle.machine_rules.proofs.Machine.{[], ap, arith, behind, behind_one, Bool, callers_of, Core, displaced, entries, find, foot_from, foot_of, get-change, get-insert, HasPlace, is_at, is_behind_of, is_fresh, is_there, is_under, List, Mark, nat_tests, newest, None, numbers, older, on_thread, one_if, Option, passed_on, Place, place_of, push_high_first, put_high, put_switch, refl, resumed_all, says, set_callers, set_place, set_switch, size, Some, stopped, suc, switch_entries, sym, times, true, under_of, Why, why_of, zero, ℕ, ◌∙◌, ◌∷◌, ◌≡◌, ◌≤◌}
use Rattle.machine_rules.proofs.StandLemmas.{Adds, adds_given, adds_stand, by_count, callers_say, eq_refl, Given, is_so, is_watched, Left, left_loose, left_placed, Loose, moves_stand, once_or_not, put_high_adds, Stand, times-append, times-newest, Watch, zero_one}

-- ---- What leaves every place and every entry of a thread alone

pub record Untouched (s t : Core) : Type 0 where
  pub places : (k : ℕ) → place_of k t ≡ place_of k s
  pub switch : (k : ℕ) → switch_entries k t.queues.switch ≡ switch_entries k s.queues.switch
  pub high : (k : ℕ) → entries k t.queues.high ≡ entries k s.queues.high
  pub low : (k : ℕ) → entries k t.queues.low ≡ entries k s.queues.low
  pub callers : t.callers ≡ s.callers
  pub made : s.made.threads ≤ t.made.threads

untouched_left : (k : ℕ) (s t : Core) → Untouched s t → Left k s t
untouched_left k s t q = grind (arith, q.places)

pub quiet_placed : (k : ℕ) (s t : Core) → Untouched s t → HasPlace k s → HasPlace k t
quiet_placed k s t q h = left_placed k s t (untouched_left k s t q) (q.places k) h

-- ---- A loose thread comes to a place

own_times : (m : ℕ) (xs : List ℕ) → times m (m ∷ xs) ≤ 1 → times m (m ∷ xs) ≡ 1
own_times m xs h = omega (arith, h, ap one_if (eq_refl m))

pub behind_adds : (g m : ℕ) (r : Place) (s : Core) → Given g s → place_of m s ≡ Some r → Adds m (Place.Behind g) s (behind_one g m s)
unfolding behind_one set_callers set_place on_thread
behind_adds g m r s given is = grind (arith, nat_tests, get-change, get-insert, times-append)

pub switch_adds : (m : ℕ) (w : Why) (r : Place) (s : Core) → place_of m s ≡ Some r → s.queues.switch ≡ None →
    Adds m (Place.Ready Mark.Switch w) s (set_switch (Some m) (set_place m (Place.Ready Mark.Switch w) s))
unfolding set_switch set_place on_thread
switch_adds m w r s is none = grind (arith, nat_tests, get-change)

-- an entry's mark is not watched
pub so_again : (v : Watch) (x y : Mark) (w : Why) → is_so v (Some (Place.Ready x w)) ≡ is_so v (Some (Place.Ready y w))
so_again v x y w = grind arith

-- ---- Down a strand

pub find_passes : (test : ℕ → Bool) (ns : List ℕ) (m : ℕ) → find test ns ≡ Some m → test m ≡ true
find_passes test [] m h = grind arith
find_passes test (n ∷ ns) m h = grind (arith, find_passes test ns m)

-- down a strand all are there
under_there : (n m : ℕ) (s : Core) → under_of n s ≡ Some m → is_there m s ≡ true
unfolding under_of
under_there n m s h = grind (arith, find_passes (λ k. is_at k s (is_under n)) (numbers s.threads) m)

foot_from_there : (k : ℕ) (s : Core) (n : ℕ) → is_there n s ≡ true → is_there (foot_from k s n) s ≡ true
foot_from_there zero s n h = h
foot_from_there (suc k) s n h = grind (arith, under_there n, foot_from_there k s)

pub foot_there : (n : ℕ) (s : Core) → is_there n s ≡ true → is_there (foot_of n s) s ≡ true
unfolding foot_of
foot_there n s h = foot_from_there (size s.threads) s n h

-- ---- Who is watched

pub fresh_apart : (o : Option Place) → is_fresh o ≡ true → (f : ℕ) → says (is_behind_of f) o ≡ 0
fresh_apart o h f = grind arith

so_apart : (v : Watch) (o : Option Place) → is_watched v ≡ true → is_so v o ≡ true → (f : ℕ) → says (is_behind_of f) o ≡ 0
so_apart v o w h f = grind arith

-- ---- Beside a thread

module _ {P : ℕ → Watch} (n : ℕ) (q : Option Place) where
  pub quiet_stand : (xs : List ℕ) (s t : Core) → Untouched s t → Stand P n q xs s → Stand P n q xs t
  quiet_stand xs s t u st = record {
    here = u.places n ∙ st.here;
    once = st.once;
    loose = λ k h. left_loose k s t (untouched_left k s t u) (st.loose k h);
    there = λ k h. let p = st.there k h in (p.0, (u.places k ∙ p.1));
    placed = λ k h. quiet_placed k s t u (st.placed k h);
    kept = λ k h. let f = st.kept k h in (f.0, ap (is_so (P k)) (u.places k) ∙ f.1);
  }

  -- the loose one that is listed first comes to a place
  comes_stand : (m : ℕ) (xs : List ℕ) (p : Place) (s t : Core) → ((r : Place) → place_of m s ≡ Some r → Adds m p s t) →
      Stand P n q (m ∷ xs) s → Stand P n q xs t
  comes_stand m xs p s t adds st =
      let r = st.there m (own_times m xs (omega (arith, st.once m))) in adds_stand m p s t (adds r.0 r.1) n q xs st

  -- where a thread is at switch, it is put at the front of high
  pub displaced_stand : (xs : List ℕ) (s : Core) (o : Option ℕ) → s.queues.switch ≡ o → Stand P n q xs s →
      Stand P n q xs (set_switch None (displaced o s))
  unfolding set_switch push_high_first set_place on_thread
  displaced_stand xs s None is st = quiet_stand xs s _ (grind arith) st
  displaced_stand xs s (Some j) is st =
      moves_stand n q xs j (Place.Ready Mark.Switch (why_of j s)) (Place.Ready Mark.High (why_of j s)) s (set_switch None s) _
      (grind (arith, nat_tests)) (grind (arith, nat_tests, get-change)) ready j_none
      (λ so watched. grind (arith, so_again (P j) Mark.High)) st
    where
      stands : switch_entries j s.queues.switch ≡ 1
      stands = ap (switch_entries j) is ∙ ap one_if (eq_refl j)

      j_none : times j (n ∷ xs) ≡ 0
      j_none = omega (arith, st.once j, λ (e : times j (n ∷ xs) ≡ 1). zero_one {A = ⊥} (st.loose j e).switch stands)

      -- what was at switch is ready there
      ready : place_of j s ≡ Some (Place.Ready Mark.Switch (why_of j s))
      ready = let h = (st.placed j j_none).switch in grind (arith, stands)

  put_switch_stand : (m : ℕ) (xs : List ℕ) (w : Why) (s : Core) → Stand P n q (m ∷ xs) s → Stand P n q xs (put_switch m w s)
  unfolding put_switch set_switch set_place on_thread
  put_switch_stand m xs w s st =
      comes_stand m xs (Place.Ready Mark.Switch w) _ _ (λ r is. switch_adds m w r (set_switch None (displaced s.queues.switch s)) is refl)
      (displaced_stand (m ∷ xs) s s.queues.switch refl st)

  -- ---- A stop

  -- the loose ones may be listed otherwise
  stand_as : (xs ys : List ℕ) (s : Core) → ((k : ℕ) → times k xs ≡ times k ys) → Stand P n q xs s → Stand P n q ys s
  stand_as xs ys s same st = record {
    here = st.here;
    once = λ k. omega (arith, same k, st.once k);
    loose = λ k h. st.loose k (omega (arith, same k, h));
    there = λ k h. st.there k (same k ∙ h);
    placed = λ k h. st.placed k (omega (arith, same k, h));
    kept = λ k h. let f = st.kept k h in (sym (same k) ∙ f.0, f.1);
  }

  resumed_all_stand : (xs : List ℕ) (s : Core) → Stand P n q xs s → Stand P n q [] (resumed_all xs s)
  resumed_all_stand [] s st = st
  resumed_all_stand (m ∷ xs) s st =
      resumed_all_stand xs (put_high m Why.Resumption s)
      (comes_stand m xs (Place.Ready Mark.High Why.Resumption) s _ (λ r is. put_high_adds m Why.Resumption r s is) st)

  behind_all_stand : (g : ℕ) (xs : List ℕ) (s : Core) → Given g s → Stand P n q xs s → Stand P n q [] (behind g xs s)
  behind_all_stand g [] s given st = st
  behind_all_stand g (m ∷ xs) s given st =
      let r = st.there m (own_times m xs (omega (arith, st.once m))) in
      let adds = behind_adds g m r.0 s given r.1 in
      behind_all_stand g xs (behind_one g m s) (adds_given m (Place.Behind g) s (behind_one g m s) adds g given)
      (adds_stand m (Place.Behind g) s (behind_one g m s) adds n q xs st)

  -- a thread is loose or has its place, so its number was given
  pub given_unchecked : (xs : List ℕ) (s : Core) → Stand P n q xs s → (k : ℕ) → is_there k s ≡ true → Given k s
  given_unchecked xs s st k h = (h, grind (arith, once_or_not (times k (n ∷ xs)) (st.once k), st.placed k, st.loose k))

  -- what is at switch is there
  pub switch_there : (xs : List ℕ) (s : Core) → Stand P n q xs s → (m : ℕ) → s.queues.switch ≡ Some m → is_there m s ≡ true
  switch_there xs s st m e = grind (arith, nat_tests, once_or_not (times m (n ∷ xs)) (st.once m), st.placed m, st.loose m)

  passed_on_stand : (o : Option ℕ) (xs : List ℕ) (s : Core) → s.queues.switch ≡ o → Stand P n q xs s → Stand P n q [] (passed_on o xs s)
  passed_on_stand (Some m) xs s e st =
      behind_all_stand (foot_of m s) xs s (given_unchecked xs s st (foot_of m s) (foot_there m s (switch_there xs s st m e))) st
  passed_on_stand None [] s e st = st
  passed_on_stand None (m ∷ xs) s e st =
      let u = stand_as (m ∷ xs) (newest m xs ∷ older m xs) s (λ k. omega (arith, times-newest k m xs)) st in
      resumed_all_stand (older m xs) _ (put_switch_stand (newest m xs) (older m xs) Why.Resumption s u)

  -- the callers of f are taken out, and are loose
  detached : (f : ℕ) (s : Core) → Stand P n q [] s → Stand P n q (callers_of f s) (set_callers f [] s)
  unfolding set_callers
  detached f s st = record {
    here = st.here;
    once = λ k. by_count k n _ (λ e x. omega (arith, (st.loose k (omega arith)).callers f))
        (λ e x. omega (arith, callers_say k f s (st.placed k (omega arith)), says_one (is_behind_of f) (place_of k s)));
    loose = λ k h. by_count k n _ (λ e x. left_loose k s t (stays k (omega arith)) (st.loose k (omega arith)))
        (λ e x. comes_loose k (omega arith) (st.placed k (omega arith)));
    there = λ k h. by_count k n _ (λ e x. zero_one ((st.loose k (omega arith)).callers f) h)
        (λ e x. (Place.Behind f, behind_f k h (st.placed k (omega arith))));
    placed = λ k h. left_placed k s t (stays k (omega arith)) refl (st.placed k (omega arith));
    -- who is watched is behind none
    kept = λ k h. (
      by_count k n _ (λ e x. (st.loose k (omega arith)).callers f)
          (λ e x. omega (arith, callers_say k f s (st.placed k (omega arith)), so_apart (P k) (place_of k s) h (st.kept k h).1 f)),
      (st.kept k h).1,
    );
  }
    where
      t : Core
      t = set_callers f [] s

      says_one : (test : Place → Bool) (o : Option Place) → says test o ≤ 1
      says_one test o = grind arith

      -- who isn't among them stays
      stays : (k : ℕ) → times k (callers_of f s) ≡ 0 → Left k s t
      stays k none = grind (arith, nat_tests, get-insert)

      behind_is : (o : Option Place) → 1 ≤ says (is_behind_of f) o → o ≡ Some (Place.Behind f)
      behind_is o y = grind (arith, nat_tests)

      behind_f : (k : ℕ) → times k (callers_of f s) ≡ 1 → HasPlace k s → place_of k s ≡ Some (Place.Behind f)
      behind_f k h p = behind_is (place_of k s) (omega (arith, h, callers_say k f s p))

      comes_loose : (k : ℕ) → times k (callers_of f s) ≡ 1 → HasPlace k s → Loose k t
      comes_loose k h p = let is = behind_f k h p in grind (arith, nat_tests, get-insert)

  pub stopped_stand : (f : ℕ) (s : Core) → Stand P n q [] s → Stand P n q [] (stopped f s)
  unfolding stopped set_callers
  stopped_stand f s st = passed_on_stand s.queues.switch (callers_of f s) (set_callers f [] s) refl (detached f s st)
