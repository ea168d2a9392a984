-- The stop of a strand keeps that no wake is lost.
use Rattle.laws_states.proofs.{WakeCounts.woken_at, WakeCounts.woken_place}
use Rattle.laws_places.proofs.StayMoves.{behind_place, resumed_place}
use Rattle.laws_places.proofs.Balance.{Quiet}
use Rattle.laws_places.proofs.Laws.{[], admits, ap, arith, behind, behind_one, Bool, by_number, callers_of, Core, false, foot_from, foot_of, get-insert, op_progress_of, OpProgress, if◌then◌else◌, inl, inr, insert, is_at, is_at_switch, is_behind_of, is_some, is_there, is_woken_at, List, Mark, nat_tests, newest, None, older, on_thread, Option, option_map_or, passed_on, Place, place_of, push_high, put_high, put_switch, refl, resumed_all, resumed_callers, says, set_callers, set_place, set_place_is, set_switch, shifted_calls, shifted_far, shifted_works, Some, Stop, stopped, subst, suc, sym, times, times-newest, true, under_of, under_place, unwrap_or, Why, zero, ℕ, ⊎_elim, ◌+◌, ◌==◌, ◌∙◌, ◌∷◌, ◌≡◌, ◌≤◌, ◌⊎◌}
use Rattle.laws_places.proofs.BlockedLemmas.{ended_as}
use Rattle.laws_order.proofs.EaseLemmas.{callers_kept, EaseGoesOn, is_still, Moves, moves_keep, nobody, none_leaves}
use Rattle.laws_order.proofs.MoveLemmas.{event_as, member_as}
use Rattle.laws_order.specs.WakesKept.{CallersBehind, NoWakeLost, StopKeeps, SwitchReady}
use Rattle.machine_rules.proofs.StopLemmas.{foot_there}
use Rattle.machine_rules.proofs.PlacingLemmas.{placing_shifted, Shifted, shifted_explicit, shifted_task}
use Rattle.machine_rules.proofs.StandLemmas.{times-append}

-- ---- Lists of callers

behind_lists : (g : ℕ) (ns : List ℕ) (s : Core) (j f : ℕ) → times j (callers_of f (behind g ns s)) ≡ times j (callers_of f s) + (if f == g then times j ns else 0)
unfolding behind_one set_callers set_place on_thread
behind_lists g [] s j f = grind arith
behind_lists g (n ∷ ns) s j f = let rest = behind_lists g ns (behind_one g n s) j f in let more = times-append j (callers_of g s) n in grind (arith, nat_tests, get-insert, rest, more)

behind_switch : (g : ℕ) (ns : List ℕ) (s : Core) → (behind g ns s).queues ≡ s.queues
unfolding behind_one set_callers set_place on_thread
behind_switch g [] s = refl
behind_switch g (n ∷ ns) s = behind_switch g ns (behind_one g n s)

resumed_rest : (ns : List ℕ) (s : Core) → ((resumed_all ns s).callers ≡ s.callers) × ((resumed_all ns s).queues.switch ≡ s.queues.switch)
unfolding put_high push_high set_place on_thread
resumed_rest [] s = (refl, refl)
resumed_rest (n ∷ ns) s = resumed_rest ns (put_high n Why.Resumption s)

-- ---- A stop

module _ (f : ℕ) (s : Core) (h : NoWakeLost s) where
  abbrev t : Core
  t = stopped f s

  abbrev cs : List ℕ
  cs = callers_of f s

  abbrev u : Core
  u = record s { callers = insert s.callers f [] }

  -- who is listed is behind f, which is there
  is_listed : (j : ℕ) → 1 ≤ times j cs → (place_of j s ≡ Some (Place.Behind f)) × (is_there f s ≡ true)
  is_listed j one = let at = h.behind j f in (grind (arith, nat_tests, at, one), grind (arith, nat_tests, at, one))

  -- who was behind g, by the list of it
  was_listed : (j g : ℕ) → times j (callers_of g s) ≡ (if is_there g s then says (is_behind_of g) (place_of j s) else 0)
  was_listed j g = h.behind j g

  one_listed : (j : ℕ) → 1 ≤ times j cs → times j cs ≡ 1
  one_listed j one = let at = was_listed j f in grind (arith, nat_tests, at, one)

  -- what a thread results in, by what is at switch
  abbrev Comes : Option ℕ → ℕ → Core → Type 0
  Comes o j v = ((place_of j v ≡ place_of j s) × (times j cs ≡ 0)) ⊎ ((1 ≤ times j cs) ×
      (((o ≡ None) × ((y : Mark) × (place_of j v ≡ Some (Place.Ready y Why.Resumption)))) ⊎ ((m : ℕ) × ((o ≡ Some m) × (place_of j v ≡ Some (Place.Behind (foot_of m u)))))))

  comes_by : (o : Option ℕ) → s.queues.switch ≡ o → (j : ℕ) → is_there j s ≡ true → Comes o j (passed_on o cs u)
  unfolding put_switch set_switch
  comes_by (Some m) is j there = ⊎_elim (λ e. inl e) (λ r. inr (r.1, inr (m, (refl, r.0)))) (behind_place (foot_of m u) cs u j there)
  comes_by None is j there = ⊎_elim (λ e. inl e) (λ r. inr (r.0, inl (refl, r.1))) (resumes cs)
    where
      resumes : (ns : List ℕ) → ((place_of j (resumed_callers ns u) ≡ place_of j s) × (times j ns ≡ 0)) ⊎ ((1 ≤ times j ns) ×
          (((y : Mark) × (place_of j (resumed_callers ns u) ≡ Some (Place.Ready y Why.Resumption)))))
      resumes [] = inl (refl, refl)
      resumes (n ∷ ns) =
          let rest = resumed_place (older n ns) (put_switch (newest n ns) Why.Resumption u) j in
          let placed = set_place_is j (newest n ns) (Place.Ready Mark.Switch Why.Resumption) u in
          let all = times-newest j n ns in grind (arith, nat_tests, is)

  comes : (j : ℕ) → is_there j s ≡ true → Comes s.queues.switch j t
  unfolding stopped set_callers
  comes j there = comes_by s.queues.switch refl j there

  -- who isn't there stays away
  absent : (j : ℕ) → place_of j s ≡ None → place_of j t ≡ None
  absent j none = let same = (placing_shifted (Stop f) s).threads j in grind (arith, same, none)

  shifted : Shifted s t
  shifted = placing_shifted (Stop f) s

  -- who isn't behind f stays
  stays : (j : ℕ) → (place_of j s ≡ Some (Place.Behind f) → ⊥) → place_of j t ≡ place_of j s
  stays j other = by (place_of j s) refl
    where
      by : (o : Option Place) → place_of j s ≡ o → place_of j t ≡ place_of j s
      by None is = absent j is ∙ sym is
      by (Some p) is = ⊎_elim (λ e. e.0) (λ r. absurd (other (is_listed j r.0).0)) (comes j (ap (λ (o : Option Place). is_some o) is))

  at_switch : (m : ℕ) → s.queues.switch ≡ Some m → (w : Why) × (place_of m s ≡ Some (Place.Ready Mark.Switch w))
  at_switch m is = let ready = h.switch m is in by (place_of m s) refl ready
    where
      by : (o : Option Place) → place_of m s ≡ o → option_map_or (λ p. is_at_switch p) o false ≡ true → (w : Why) × (place_of m s ≡ Some (Place.Ready Mark.Switch w))
      by (Some (Place.Ready Mark.Switch w)) is on = (w, is)
      by o is on = absurd (grind arith)

  passed_switch : (k : ℕ) → s.queues.switch ≡ Some k → t.queues.switch ≡ s.queues.switch
  unfolding stopped set_callers
  passed_switch k at = ap (λ (o : Option ℕ). (passed_on o cs u).queues.switch) at ∙ ap (λ q. q.switch) (behind_switch (foot_of k u) cs u)

  -- the newest caller is at switch
  newest_stands : (ns : List ℕ) (m : ℕ) → s.queues.switch ≡ None → ((k : ℕ) → 1 ≤ times k ns → (is_there k s ≡ true) × (times k ns ≡ 1)) → (resumed_callers ns u).queues.switch ≡ Some m →
      is_at m (resumed_callers ns u) is_at_switch ≡ true
  unfolding put_switch set_switch
  newest_stands [] m none listed is = absurd (grind (arith, is, none))
  newest_stands (n ∷ ns) m none listed is =
      let v = put_switch (newest n ns) Why.Resumption u in
      let same : m ≡ newest n ns = ap (λ (o : Option ℕ). unwrap_or o 0) (sym is ∙ (resumed_rest (older n ns) v).1) in
      let all = times-newest (newest n ns) n ns in
      let one = listed (newest n ns) (grind (arith, nat_tests, all)) in
      let placed = set_place_is (newest n ns) (newest n ns) (Place.Ready Mark.Switch Why.Resumption) u in
      let here : place_of (newest n ns) v ≡ Some (Place.Ready Mark.Switch Why.Resumption) = grind (arith, nat_tests, placed, none, one.0) in
      let rest = resumed_place (older n ns) v (newest n ns) (ap (λ (o : Option Place). is_some o) here) in
      ⊎_elim (λ e. let now = e.0 ∙ here in grind (arith, same, now)) (λ r. absurd (let more = r.1.1 in let once = one.1 in grind (arith, nat_tests, all, more, once))) rest

  first_resumed : s.queues.switch ≡ None → (m : ℕ) → t.queues.switch ≡ Some m → is_at m t is_at_switch ≡ true
  unfolding stopped set_callers
  first_resumed none m is =
      let e : t ≡ resumed_callers cs u = ap (λ (o : Option ℕ). passed_on o cs u) none in
      subst (λ (v : Core). is_at m v is_at_switch ≡ true) (sym e)
      (newest_stands cs m none (λ k one. let r = is_listed k one in (ap (λ (o : Option Place). is_some o) r.0, one_listed k one)) (sym (ap (λ (v : Core). v.queues.switch) e) ∙ is))

  -- up from a thread that goes on
  up_goes : (k i : ℕ) → EaseGoesOn t i → EaseGoesOn t (foot_from k u i)
  up_goes zero i g = g
  up_goes (suc k) i g = by (λ v. up_goes k v) (under_of i u) refl
    where
      by : ((v : ℕ) → EaseGoesOn t v → EaseGoesOn t (foot_from k u v)) → (o : Option ℕ) → under_of i u ≡ o → EaseGoesOn t (option_map_or (foot_from k u) (under_of i u) i)
      by rec None is = subst (λ (o : Option ℕ). EaseGoesOn t (option_map_or (foot_from k u) o i)) (sym is) g
      by rec (Some v) is =
          let at : place_of v s ≡ Some (Place.Under i) = under_place i v u is in
          let now = stays v (λ b. absurd (grind (arith, at, b))) ∙ at in
          subst (λ (o : Option ℕ). EaseGoesOn t (option_map_or (foot_from k u) o i)) (sym is) (rec v (suc g.0, let on = g.1 in grind (arith, now, on)))

  foot_goes : (m : ℕ) → s.queues.switch ≡ Some m → EaseGoesOn t (foot_of m u)
  unfolding foot_of
  foot_goes m is =
      let at = at_switch m is in let now = stays m (λ b. absurd (let here = at.1 in grind (arith, here, b))) ∙ at.1 in
      up_goes _ m (suc zero, grind (arith, now))

  goes : (j : ℕ) → (place_of j t ≡ place_of j s) ⊎ (EaseGoesOn t j ⊎ nobody j)
  goes j = by (place_of j s) refl
    where
      by : (o : Option Place) → place_of j s ≡ o → (place_of j t ≡ place_of j s) ⊎ (EaseGoesOn t j ⊎ nobody j)
      by None is = inl (absent j is ∙ sym is)
      by (Some p) is = ⊎_elim (λ e. inl e.0) (λ r. inr (inl (⊎_elim (λ y. (suc zero, let at = y.1.1 in grind (arith, at)))
          (λ m. let g = foot_goes m.0 m.1.0 in (suc g.0, let at = m.1.1 in let on = g.1 in grind (arith, at, on))) r.1))) (comes j (ap (λ (o : Option Place). is_some o) is))

  still : (j : ℕ) (p : Place) → is_still p ≡ true → place_of j t ≡ Some p → (place_of j s ≡ Some p) × (op_progress_of j t ≡ op_progress_of j s)
  still j p kind at = (by (place_of j s) refl, shifted_far shifted j)
    where
      by : (o : Option Place) → place_of j s ≡ o → place_of j s ≡ Some p
      by None is = absurd (let gone = absent j is in grind (arith, gone, at))
      by (Some q) is = ⊎_elim (λ e. sym e.0 ∙ at) (λ r. absurd (⊎_elim (λ y. let now = y.1.1 in grind (arith, now, at, kind)) (λ m. let now = m.1.1 in grind (arith, now, at, kind)) r.1))
          (comes j (ap (λ (o : Option Place). is_some o) is))

  instances : t.instances ≡ s.instances
  instances = sym (ap (λ (c : Core). c.instances) shifted.only)

  admitted : (n : ℕ) (w : Why) → admits n t w ≡ admits n s w
  admitted n Why.Start = let a = shifted_task shifted n in let b = shifted_explicit shifted n in let c = shifted_calls shifted in let d = instances in grind (arith, a, b, c, d)
  admitted n (Why.Delivery d) = let a = shifted_task shifted n in let c = shifted_calls shifted in let e = instances in grind (arith, a, c, e)
  admitted n Why.Resumption = refl

  woken : (y n : ℕ) → is_woken_at y n s ≡ true → is_woken_at y n t ≡ true
  woken y n on =
      let was = sym (woken_at y n s) ∙ on in
      let same = stays n (λ b. absurd (grind (arith, was, b))) in
      woken_at y n t ∙ (ap (λ (o : Option Place). woken_place y o (op_progress_of n t)) same ∙ (ap (λ (g : OpProgress). woken_place y (place_of n s) g) (shifted_far shifted n) ∙ was))

  there_same : (j : ℕ) → is_there j t ≡ is_there j s
  there_same j = let same = shifted.threads j in grind (arith, same)

  -- the lists of callers, by what is at switch
  lists : (o : Option ℕ) → s.queues.switch ≡ o → (j g : ℕ) → times j (callers_of g (passed_on o cs u)) ≡ (if g == f then 0 else times j (callers_of g s)) + option_map_or (λ (m : ℕ). if g == foot_of m u then times j cs else 0) o 0
  unfolding put_switch set_switch set_place on_thread
  lists (Some m) is j g = let all = behind_lists (foot_of m u) cs u j g in grind (arith, nat_tests, get-insert, all)
  lists None is j g = by cs
    where
      by : (ns : List ℕ) → times j (callers_of g (resumed_callers ns u)) ≡ (if g == f then 0 else times j (callers_of g s)) + 0
      by [] = grind (arith, nat_tests, get-insert)
      by (n ∷ ns) = let rest = (resumed_rest (older n ns) (put_switch (newest n ns) Why.Resumption u)).0 in grind (arith, nat_tests, get-insert, rest, is)

  listed : (j g : ℕ) → times j (callers_of g t) ≡ (if g == f then 0 else times j (callers_of g s)) + option_map_or (λ (m : ℕ). if g == foot_of m u then times j cs else 0) s.queues.switch 0
  unfolding stopped set_callers
  listed j g = lists s.queues.switch refl j g

  stays_listed : (j g : ℕ) → place_of j t ≡ place_of j s → times j cs ≡ 0 → times j (callers_of g t) ≡ (if is_there g t then says (is_behind_of g) (place_of j t) else 0)
  stays_listed j g same none = listed j g ∙ (by_switch s.queues.switch ∙ by_number g f _ own other)
    where
      by_switch : (o : Option ℕ) → (if g == f then 0 else times j (callers_of g s)) + option_map_or (λ (m : ℕ). if g == foot_of m u then times j cs else 0) o 0 ≡ (if g == f then 0 else times j (callers_of g s))
      by_switch None = omega arith
      by_switch (Some m) = grind (arith, none)

      here : (if is_there g t then says (is_behind_of g) (place_of j t) else 0) ≡ times j (callers_of g s)
      here = let at = was_listed j g in let there = there_same g in grind (arith, at, there, same)

      own : g ≡ f → (if g == f then 0 else times j (callers_of g s)) ≡ (if is_there g t then says (is_behind_of g) (place_of j t) else 0)
      own is = let eq = ap (λ (i : ℕ). times j (callers_of i s)) is in grind (arith, nat_tests, here, none, is, eq)

      other : (g == f) ≡ false → (if g == f then 0 else times j (callers_of g s)) ≡ (if is_there g t then says (is_behind_of g) (place_of j t) else 0)
      other apart = grind (arith, here, apart)

  -- who was behind f isn't listed elsewhere
  left_lists : (j g : ℕ) → place_of j s ≡ Some (Place.Behind f) → (if g == f then 0 else times j (callers_of g s)) ≡ 0
  left_lists j g at = by (g == f) refl
    where
      by : (b : Bool) → (g == f) ≡ b → (if b then 0 else times j (callers_of g s)) ≡ 0
      by true is = refl
      by false is = let e = was_listed j g in grind (arith, e, at, is)

  behind_kept : CallersBehind t
  behind_kept j g = by (place_of j s) refl
    where
      by : (o : Option Place) → place_of j s ≡ o → times j (callers_of g t) ≡ (if is_there g t then says (is_behind_of g) (place_of j t) else 0)
      by None is = stays_listed j g (absent j is ∙ sym is) (let at = was_listed j f in grind (arith, at, is))
      by (Some p) is = ⊎_elim (λ e. stays_listed j g e.0 e.1) (λ r. ⊎_elim (λ y. resumed r.0 y.0 y.1.0 y.1.1) (λ m. passed r.0 m.0 m.1.0 m.1.1) r.1) (comes j (ap (λ (o : Option Place). is_some o) is))
        where
          resumed : 1 ≤ times j cs → s.queues.switch ≡ None → (y : Mark) → place_of j t ≡ Some (Place.Ready y Why.Resumption) → times j (callers_of g t) ≡ (if is_there g t then says (is_behind_of g) (place_of j t) else 0)
          resumed one none y at = let e = listed j g in let left = left_lists j g (is_listed j one).0 in grind (arith, e, left, none, at)

          passed : 1 ≤ times j cs → (m : ℕ) → s.queues.switch ≡ Some m → place_of j t ≡ Some (Place.Behind (foot_of m u)) → times j (callers_of g t) ≡ (if is_there g t then says (is_behind_of g) (place_of j t) else 0)
          passed one m is at =
              let e = listed j g in let left = left_lists j g (is_listed j one).0 in let once = one_listed j one in
              let stands = at_switch m is in
              let foot : is_there (foot_of m u) t ≡ true = there_same (foot_of m u) ∙ foot_there m u (ap (λ (o : Option Place). is_some o) stands.1) in
              by_number g (foot_of m u) _ (λ own. let there = ap (λ (i : ℕ). is_there i t) own ∙ foot in grind (arith, nat_tests, e, left, once, is, at, own, there))
              (λ apart. grind (arith, nat_tests, e, left, once, is, at, apart))

  switch_kept : SwitchReady t
  switch_kept m is = by s.queues.switch refl
    where
      by : (o : Option ℕ) → s.queues.switch ≡ o → is_at m t is_at_switch ≡ true
      by (Some k) at =
          let same : m ≡ k = some_same (sym is ∙ (queues_same k at ∙ at)) in
          let stands = at_switch k at in
          let now = stays k (λ b. absurd (let here = stands.1 in grind (arith, here, b))) ∙ stands.1 in grind (arith, same, now)
        where
          some_same : {a b : ℕ} → Some a ≡ Some b → a ≡ b
          some_same e = ap (λ (o : Option ℕ). unwrap_or o 0) e

          queues_same : (k : ℕ) → s.queues.switch ≡ Some k → t.queues.switch ≡ s.queues.switch
          queues_same k at = passed_switch k at
      by None at = first_resumed at m is

  stop_moves : Moves s t
  stop_moves = record {
    callers = callers_kept nobody s t (none_leaves s t) goes;
    still = still;
    admits = λ n w at. admitted n w;
    events = λ n sub at. inl (event_as sub s t (shifted_calls shifted, shifted_works shifted)).0;
    works = λ sub. ended_as sub s t (shifted_works shifted);
    counts = λ y j now was. Quiet (λ d on. let r = event_as d s t (shifted_calls shifted, shifted_works shifted) in member_as y d s t r.0 r.1 on) (woken y);
    behind = λ b. behind_kept;
    switch = λ b. switch_kept;
  }

pub stop_keeps : StopKeeps
unfolding StopKeeps
stop_keeps f s h = moves_keep (stop_moves f s h) h
