-- Another thread runs, and a thread ends: order stays.
use Rattle.laws_order.proofs.PieceLemmas.{lead_keeps, silent, setting_for}
use Rattle.laws_order.proofs.StayLemmas.{IsIdle, PlacesFit, change_same, idle_turned, places_in_order}
use Rattle.laws_order.specs.KeptOrder.{EndInOrder, TurnInOrder, running_in}
use Rattle.laws_order.specs.Pieces.{KeepsOrder, InOrderForAnyMain, SameInstances, state_in}
use Rattle.std.proofs.Common.{ap, arith, inl, inr, refl, subst, sym, ⊎_elim, ◌∙◌}
use Rattle.std.proofs.lemmas.Bool.Decides.{nat_tests}
use Rattle.std.specs.Option.{option_map_or}
use Rattle.std.specs.Prelude.{Bool, List, None, Option, Some, [], false, if◌then◌else◌, is_some, option_and_then, suc, true, unwrap_or, zero, ℕ, ◌==◌, ◌≡◌, ◌⊎◌}
use Rattle.laws_states.proofs.WakeCounts.{woken_at, woken_place}
use Rattle.laws_states.specs.Order.{Awake, InOrder, is_delivered, is_open, set_of_place}
use Rattle.laws_states.specs.WakeLaw.{WakesCounted}
use Rattle.machine_data.proofs.CommuteLemmas.{get-change}
use Rattle.machine_data.specs.Core.{Core, Main, Unscripted}
use Rattle.machine_data.specs.Maps.{get, get-insert, get-remove, insert, remove, same_map, size}
use Rattle.machine_data.specs.Moves.{call_settled, ended, exited_if, freed_thread_handle, interest_settled, passed_on, stopped}
use Rattle.machine_data.specs.Read.{callers_of, foot_from, foot_of, op_progress_of, instance_of, is_explicit, is_inside_wait, place_of, task_of, thread_handle_of, under_of}
use Rattle.machine_data.specs.Write.{free_thread_handle, on_call, on_thread, remove_thread, set_callers, set_exited, set_place}
use Rattle.machine_data.specs.declared.component.Component.{Component}
use Rattle.machine_data.specs.declared.records.Call.{Call}
use Rattle.machine_data.specs.declared.records.OpProgress.{OpProgress}
use Rattle.machine_data.specs.declared.records.Place.{Place}
use Rattle.machine_data.specs.declared.records.Thread.{Thread}
use Rattle.machine_data.specs.declared.records.Turn.{Turn}
use Rattle.machine_data.specs.declared.records.Why.{Why}
use Rattle.machine_data.specs.declared.statuses.Mark.{Mark}
use Rattle.machine_rules.proofs.CallThreads.{last_of, last_shifted}
use Rattle.machine_rules.proofs.ChainLemmas.{Keep}
use Rattle.machine_rules.proofs.MuteLemmas.{mute_primitives, none_said}
use Rattle.machine_rules.proofs.PlacingLemmas.{placing_shifted, unplaced}
use Rattle.machine_rules.proofs.StandLemmas.{by_number}
use Rattle.machine_rules.proofs.WalkMoves.{ended_halts, exits_trip, halted_from, stopped_on}
use Rattle.machine_rules.proofs.WalkTask.{seen}
use Rattle.machine_rules.specs.Allowed.{Leaves}
use Rattle.machine_rules.specs.Chains.{LastPrimitives, NoPrimitive}
use Rattle.machine_rules.specs.Scenes.{Scene}
use Rattle.machine_rules.specs.Places.{Placed, is_at_high, is_at_low, is_at_switch, is_at_wait, is_behind_of, is_fresh, is_inside, is_there, one_if, says}
use Rattle.machine_rules.specs.Scripts.{ops_of}
use Rattle.machine_rules.specs.Threads.{resume_why}
use Rattle.machine_rules.specs.Primitives.{Stop}
use Rattle.laws_order.proofs.{GroundLemmas.order_loses_no_wake, ThreadLemmas.end_keeps, ThreadLemmas.run_keeps, ThreadLemmas.suspend_keeps}
use Rattle.laws_order.specs.WakesKept.{EndKeeps, MayComeToRun, NoWakeLost, OrderLosesNoWake, RunKeeps, SuspendKeeps}

-- New, running or suspended
abbrev is_plain : Place → Bool
is_plain Place.New = true
is_plain Place.Running = true
is_plain Place.Suspended = true
is_plain p = false

module _ (n : ℕ) (p q : Place) (s : Core) (from : place_of n s ≡ Some p) (plain_from : is_plain p ≡ true) (plain : is_plain q ≡ true) where
  t : Core
  t = set_place n q s

  now : place_of n t ≡ Some q
  unfolding t set_place on_thread
  now = grind (arith, nat_tests, get-change, from)

  others : (j : ℕ) → (j == n) ≡ false → place_of j t ≡ place_of j s
  unfolding t set_place on_thread
  others j apart = grind (arith, nat_tests, get-change, apart)

  -- where a thread is otherwise, it was, and is
  was_at : (j : ℕ) (r : Place) → is_plain r ≡ false → place_of j t ≡ Some r → place_of j s ≡ Some r
  was_at j r odd at = by_number j n _ (λ is. absurd (let e = now in grind (arith, e, at, odd, plain, is))) (λ apart. sym (others j apart) ∙ at)

  stays_at : (j : ℕ) (r : Place) → is_plain r ≡ false → place_of j s ≡ Some r → place_of j t ≡ Some r
  stays_at j r odd at = by_number j n _ (λ is. absurd (grind (arith, from, at, odd, plain_from, is))) (λ apart. others j apart ∙ at)

  -- a test that passes no such place
  same_says : (test : Place → Bool) → ((r : Place) → is_plain r ≡ true → test r ≡ false) → (j : ℕ) → says test (place_of j t) ≡ says test (place_of j s)
  same_says test none j = by_number j n _
      (λ is. ap (λ (k : ℕ). says test (place_of k t)) is ∙ (ap (says test) now ∙ (ap one_if (none q plain) ∙ (sym (ap one_if (none p plain_from)) ∙ (sym (ap (says test) from) ∙ ap (λ (k : ℕ). says test (place_of k s)) (sym is))))))
      (λ apart. ap (says test) (others j apart))

  same_there : (j : ℕ) → is_there j t ≡ is_there j s
  same_there j = by_number j n _ (λ is. let e = now in grind (arith, e, from, is)) (λ apart. ap (λ (o : Option Place). is_some o) (others j apart))

  stay_placed : Placed s → Placed t
  unfolding t set_place on_thread
  stay_placed placed j =
      let h = placed j in
      record {
        number = λ on. h.number (sym (same_there j) ∙ on);
        behind = λ f at. h.behind f (sym (same_says (is_behind_of f) (λ r is. grind (arith, is)) j) ∙ at);
        switch = h.switch ∙ sym (same_says is_at_switch (λ r is. grind (arith, is)) j);
        high = h.high ∙ sym (same_says is_at_high (λ r is. grind (arith, is)) j);
        low = h.low ∙ sym (same_says is_at_low (λ r is. grind (arith, is)) j);
        callers = λ f. h.callers f ∙ (ap (λ (b : Bool). if b then says (is_behind_of f) (place_of j s) else 0) (sym (same_there f))
            ∙ ap (λ (m : ℕ). if is_there f t then m else 0) (sym (same_says (is_behind_of f) (λ r is. grind (arith, is)) j)));
      }

  -- what hangs on the place by a test that fails of plain ones
  was_test : (test : Place → Bool) → ((r : Place) → is_plain r ≡ true → test r ≡ false) → (j : ℕ) → option_map_or test (place_of j t) false ≡ true → option_map_or test (place_of j s) false ≡ true
  was_test test none j on = by_number j n _ (λ is. absurd (let e = now in let f = none q plain in grind (arith, e, f, on, is))) (λ apart. ap (λ (o : Option Place). option_map_or test o false) (sym (others j apart)) ∙ on)

  set_fits : (c : Component) (x : Turn) (y : Turn) → InOrder c (state_in Unscripted x s) → ((m : ℕ) → y ≡ Turn.Run m → place_of m t ≡ Some Place.Running) →
      (is_fresh (Some q) ≡ true → is_fresh (Some p) ≡ true) →
      ((k : Call) → get s.calls n ≡ Some k → k.started ≡ false → is_fresh (Some q) ≡ true) →
      ((z : ℕ) → op_progress_of n s ≡ OpProgress.Waits z → is_at_wait z q ≡ true) → PlacesFit y s t
  unfolding t set_place on_thread
  set_fits c x y o runs fresh starts waits = record {
    in_place = record { placed = stay_placed o.in_place.placed; runs = runs };
    entries = λ test none. (refl, refl);
    under = λ j m at. stays_at j (Place.Under m) refl at;
    was_under = λ j m at. was_at j (Place.Under m) refl at;
    blocked = λ j sub at. stays_at j (Place.Blocked sub) refl at;
    held = λ j w at. was_at j (Place.Held w) refl at;
    sets = λ j z at. by_number j n _ (λ is. absurd (let e = now in grind (arith, e, at, plain, is))) (λ apart. ap (λ (o : Option Place). option_and_then set_of_place o) (sym (others j apart)) ∙ at);
    delivered = λ j on. was_test is_delivered (λ r is. grind (arith, is)) j on;
    fresh = λ j on. by_number j n _ (λ is. ap (λ (k : ℕ). is_fresh (place_of k s)) is ∙ (ap is_fresh from ∙ fresh (sym (ap is_fresh now) ∙ (ap (λ (k : ℕ). is_fresh (place_of k t)) (sym is) ∙ on)))) (λ apart. ap is_fresh (sym (others j apart)) ∙ on);
    starts = λ j k at unstarted. by_number j n _ (λ is. ap (λ (k : ℕ). is_fresh (place_of k t)) is ∙ (ap is_fresh now ∙ starts k (subst (λ (i : ℕ). get s.calls i ≡ Some k) is at) unstarted)) (λ apart. ap is_fresh (others j apart) ∙ o.starts j k at unstarted);
    waits_placed = λ j z at. by_number j n _
        (λ is. ap (λ (k : ℕ). option_map_or (is_at_wait z) (place_of k t) false) is ∙ (ap (λ (o : Option Place). option_map_or (is_at_wait z) o false) now ∙ waits z (sym (far n) ∙ subst (λ (k : ℕ). op_progress_of k t ≡ OpProgress.Waits z) is at)))
        (λ apart. ap (λ (o : Option Place). option_map_or (is_at_wait z) o false) (others j apart) ∙ o.waits_placed j z (sym (far j) ∙ at));
    inside = λ j r at. by_number j n _ (λ is. let e = now in let f : q ≡ r = grind (arith, e, at, is) in subst (λ (r : Place). is_inside r (op_progress_of j t) ≡ true) f (plain_inside q plain (op_progress_of j t)))
        (λ apart. ap (is_inside r) (far j) ∙ o.inside j r (sym (others j apart) ∙ at));
  }
    where
      far : (j : ℕ) → op_progress_of j t ≡ op_progress_of j s
      far j = grind (arith, nat_tests, get-change)

      plain_inside : (r : Place) → is_plain r ≡ true → (h : OpProgress) → is_inside r h ≡ true
      plain_inside Place.New is h = refl
      plain_inside Place.Running is h = refl
      plain_inside Place.Suspended is h = refl
      plain_inside r is h = absurd (cc)

  set_keeps : (c : Component) (x y : Turn) (s_open : is_open y ≡ true) → InOrderForAnyMain c x s → PlacesFit y s t → Awake y t → InOrderForAnyMain c y t × SameInstances s t
  unfolding t set_place on_thread
  set_keeps c x y going h fit awake = (
    λ m. places_in_order c (state_in m x s) (is_open x) (h m) (set_place n q s) (change_same unplaced n (λ (z : Thread). record z { place = q }) s.threads (λ z. refl)) y fit m (is_open y) (λ e. awake),
    record { instances = λ i. refl; handles = λ i. refl },
  )

  -- who is under or behind another was so, and those stay
  set_awake : (c : Component) (x y : Turn) → Awake x s → NoWakeLost t → ((j : ℕ) → place_of j t ≡ Some Place.Running → y ≡ Turn.Run j) →
      (is_fresh (Some q) ≡ false) → ((j f : ℕ) → place_of j s ≡ Some (Place.Behind f) → is_fresh (place_of f s) ≡ true → (place_of f s ≡ Some (Place.Ready Mark.Switch Why.Start)) × ((m : ℕ) → y ≡ Turn.Run m → ⊥)) → Awake y t
  unfolding t set_place on_thread
  set_awake c x y a lost alone stale behind = record {
    alone = alone;
    starts_there = λ k now. same_there k ∙ a.starts_there k now;
    blocked = lost.blocked;
    callers = lost.callers;
    feet = λ j k f at under. a.feet j k f (was_at j (Place.Behind f) refl at) (was_at k (Place.Under f) refl under);
    free = record {
      under = λ j m at. by_number m n _
          (λ is. inr (ap (λ (k : ℕ). is_fresh (place_of k t)) is ∙ (ap is_fresh now ∙ stale)))
          (λ apart. ⊎_elim (λ none. inl (others m apart ∙ none)) (λ live. inr (ap is_fresh (others m apart) ∙ live)) (a.free.under j m (was_at j (Place.Under m) refl at)));
      behind = λ j f at fresh. by_number f n _
          (λ is. absurd (let e = now in grind (arith, e, fresh, stale, is)))
          (λ apart. let r = behind j f (was_at j (Place.Behind f) refl at) (ap is_fresh (sym (others f apart)) ∙ fresh) in (others f apart ∙ r.0, r.1));
    };
    counted = lost.counted;
  }

-- ---- A thread is suspended

idle_of : (q : Turn) → running_in q ≡ None → IsIdle q
idle_of q none n is = grind (arith, none, is)

leave_keeps : (c : Component) (n : ℕ) (q : Turn) (s : Core) → is_open q ≡ true → running_in q ≡ None → ((x : ℕ) → is_inside_wait x (op_progress_of n s) ≡ false) → callers_of (foot_of n s) s ≡ [] →
    KeepsOrder c (Turn.Run n) s q (set_place n Place.Suspended s)
unfolding OrderLosesNoWake SuspendKeeps t
leave_keeps c n q s going none outside callers h =
    let o = h Unscripted in
    let a = o.awake refl in
    let from : place_of n s ≡ Some Place.Running = o.in_place.runs n refl in
    let lost = suspend_keeps n s (record { runs = from; outside = outside; callers = callers; strands = o.strands; feet = a.feet }) (order_loses_no_wake c (state_in Unscripted (Turn.Run n) s) o refl) in
    let fit = set_fits n Place.Running Place.Suspended s from refl refl c (Turn.Run n) q o (λ m is. absurd (idle_of q none m is)) (λ e. absurd (cc))
    (λ k at unstarted. absurd (let e = o.starts n k at unstarted in grind (arith, e, from))) (λ z far. absurd (let e = outside z in grind (arith, nat_tests, e, far))) in
    set_keeps n Place.Running Place.Suspended s from refl refl c (Turn.Run n) q going h fit
    (set_awake n Place.Running Place.Suspended s from refl refl c (Turn.Run n) q a lost
    (λ j at. absurd (nobody j at from)) refl
    (λ j f at fresh. absurd ((a.free.behind j f at fresh).1 n refl)))
  where
    nobody : (j : ℕ) → place_of j (set_place n Place.Suspended s) ≡ Some Place.Running → place_of n s ≡ Some Place.Running → ⊥
    nobody j at from = by_number j n _
        (λ is. let e = now n Place.Running Place.Suspended s from refl refl in grind (arith, e, at, is))
        (λ apart. let same = ((h Unscripted).awake refl).alone j (sym (others n Place.Running Place.Suspended s from refl refl j apart) ∙ at) in grind (arith, nat_tests, same, apart))

-- ---- A thread runs

-- who may be resumed is New, and not the first of its call, or suspended
resumed_from : (m : ℕ) (s : Core) → is_some (resume_why m s) ≡ true → ((place_of m s ≡ Some Place.New) × (is_explicit m s ≡ true)) ⊎ (place_of m s ≡ Some Place.Suspended)
resumed_from m s may = by (place_of m s) refl (is_explicit m s) refl
  where
    by : (o : Option Place) → place_of m s ≡ o → (b : Bool) → is_explicit m s ≡ b → ((place_of m s ≡ Some Place.New) × (is_explicit m s ≡ true)) ⊎ (place_of m s ≡ Some Place.Suspended)
    by (Some Place.New) at true is = inl (at, is)
    by (Some Place.New) at false is = absurd (grind (arith, at, is, may))
    by (Some Place.Suspended) at b is = inr at
    by o at b is = absurd (grind (arith, at, is, may))

enter_from : (c : Component) (m : ℕ) (r : Place) (p : Turn) (s : Core) → is_open p ≡ true → IsIdle p → place_of m s ≡ Some r → is_plain r ≡ true →
    ((k : Call) → get s.calls m ≡ Some k → k.started ≡ false → ⊥) → ((x : ℕ) (far : OpProgress) → woken_place x (Some r) far ≡ false) →
    ((j f : ℕ) → place_of j s ≡ Some (Place.Behind f) → is_fresh (place_of f s) ≡ false) → KeepsOrder c p s (Turn.Run m) (set_place m Place.Running s)
unfolding OrderLosesNoWake RunKeeps t
enter_from c m r p s going idle from plain starts unwoken nobody h =
    let o = h Unscripted in
    let a = o.awake going in
    let placed = o.in_place.placed m in
    let may : MayComeToRun m s = record {
      there = ap (λ (o : Option Place). is_some o) from;
      switch = λ k at. let e = placed.switch in grind (arith, nat_tests, e, at, from, plain);
      behind = λ f at. absurd (grind (arith, from, at, plain));
      inside = λ x on. absurd (let e = unwoken x (op_progress_of m s) in let f = woken_at x m s in grind (arith, from, on, e, f));
    } in
    let lost = run_keeps m s may (order_loses_no_wake c (state_in Unscripted p s) o going) in
    let fit = set_fits m r Place.Running s from plain refl c p (Turn.Run m) o (λ k is. let e = now m r Place.Running s from plain refl in grind (arith, nat_tests, e, is)) (λ e. absurd (cc))
    (λ k at unstarted. absurd (starts k at unstarted)) (λ z far. refl) in
    set_keeps m r Place.Running s from plain refl c p (Turn.Run m) refl h fit
    (set_awake m r Place.Running s from plain refl c p (Turn.Run m) a lost
    (λ j at. by_number j m _ (λ is. ap (λ (k : ℕ). Turn.Run k) (sym is)) (λ apart. absurd (idle j (a.alone j (sym (others m r Place.Running s from plain refl j apart) ∙ at))))) refl
    (λ j f at fresh. absurd (let e = nobody j f at in grind (arith, e, fresh))))

enter_keeps : (c : Component) (m : ℕ) (p : Turn) (s : Core) → is_open p ≡ true → IsIdle p → is_some (resume_why m s) ≡ true →
    ((j f : ℕ) → place_of j s ≡ Some (Place.Behind f) → is_fresh (place_of f s) ≡ false) → KeepsOrder c p s (Turn.Run m) (set_place m Place.Running s)
enter_keeps c m p s going idle may nobody h =
    let o = h Unscripted in
    ⊎_elim
    (λ new. enter_from c m Place.New p s going idle new.0 refl (λ k at unstarted. nameless new.1 k at (get s.threads m) refl new.0) (λ x far. refl) nobody h)
    (λ at. enter_from c m Place.Suspended p s going idle at refl (λ k was unstarted. let e = o.starts m k was unstarted in grind (arith, e, at)) (λ x far. refl) nobody h)
    (resumed_from m s may)
  where
    nameless : is_explicit m s ≡ true → (k : Call) → get s.calls m ≡ Some k → (q : Option Thread) → get s.threads m ≡ q → place_of m s ≡ Some Place.New → ⊥
    nameless own k at None is there = grind (arith, is, there)
    nameless own k at (Some r) is there = let e = ((h Unscripted).numbered.threads m r is).nameless in grind (arith, e, own, is, at)

-- ---- From turn to turn

pub turn_of : (q : Turn) (m : ℕ) → running_in q ≡ Some m → q ≡ Turn.Run m
turn_of (Turn.Run k) m is = ap (λ (o : Option ℕ). Turn.Run (unwrap_or o 0)) is
turn_of Turn.Main m is = absurd (cc)
turn_of (Turn.Take b) m is = absurd (cc)
turn_of (Turn.Futures i) m is = absurd (cc)
turn_of Turn.Over m is = absurd (cc)

-- nobody is behind a start once the running thread is suspended
nobody_then : (c : Component) (n : ℕ) (s : Core) → InOrderForAnyMain c (Turn.Run n) s → (j f : ℕ) → place_of j (set_place n Place.Suspended s) ≡ Some (Place.Behind f) → is_fresh (place_of f (set_place n Place.Suspended s)) ≡ false
unfolding t set_place
nobody_then c n s h j f at =
    let o = h Unscripted in
    let from : place_of n s ≡ Some Place.Running = o.in_place.runs n refl in
    let was = was_at n Place.Running Place.Suspended s from refl refl j (Place.Behind f) refl at in
    by_number f n _
    (λ is. let e = now n Place.Running Place.Suspended s from refl refl in grind (arith, e, is))
    (λ apart. ap is_fresh (others n Place.Running Place.Suspended s from refl refl f apart) ∙ go (is_fresh (place_of f s)) refl was)
  where
    go : (b : Bool) → is_fresh (place_of f s) ≡ b → place_of j s ≡ Some (Place.Behind f) → is_fresh (place_of f s) ≡ false
    go false is was = is
    go true is was = absurd ((((h Unscripted).awake refl).free.behind j f was is).1 n refl)

resumed_then : (n m : ℕ) (s : Core) → (m ≡ n → ⊥) → is_some (resume_why m s) ≡ true → is_some (resume_why m (set_place n Place.Suspended s)) ≡ true
unfolding set_place on_thread
resumed_then n m s other may = by_number m n _ (λ is. absurd (other is)) (λ apart. grind (arith, nat_tests, get-change, apart, may))

after : {c : Component} {s u t : Core} {p q r : Turn} → KeepsOrder c p s q u → KeepsOrder c q u r t → KeepsOrder c p s r t
after f g h =
    let a = f h in
    let b = g a.0 in
    (b.0, record { instances = λ i. b.1.instances i ∙ a.1.instances i; handles = λ i. b.1.handles i ∙ a.1.handles i })

pub turn_in_order : TurnInOrder
unfolding TurnInOrder
turn_in_order (Some n) None s c p q from to may =
    rw (turn_of p n from.1) (leave_keeps c n q s to.0 to.1 (λ x. may.outside n x refl) (may.callers n refl))
turn_in_order (Some n) (Some m) s c p q from to may =
    let first : KeepsOrder c (Turn.Run n) s Turn.Main (set_place n Place.Suspended s) = leave_keeps c n Turn.Main s refl refl (λ x. may.outside n x refl) (may.callers n refl) in
    let last : InOrderForAnyMain c (Turn.Run n) s → KeepsOrder c Turn.Main (set_place n Place.Suspended s) (Turn.Run m) (set_place m Place.Running (set_place n Place.Suspended s)) =
    λ h. enter_keeps c m Turn.Main (set_place n Place.Suspended s) refl (λ k e. absurd (cc)) (resumed_then n m s (λ e. may.apart n refl (ap (λ (k : ℕ). Some k) e)) (may.resumed m refl)) (nobody_then c n s h) in
    rw (turn_of p n from.1, turn_of q m to.1) (λ h. after {q = Turn.Main} first (last h) h)
turn_in_order None None s c p q from to may =
    λ h. (λ m. idle_turned c s m p q from.0 (idle_of p from.1) to.0 (idle_of q to.1) (h m), record { instances = λ i. refl; handles = λ i. refl })
turn_in_order None (Some m) s c p q from to may =
    rw (turn_of q m to.1) (enter_keeps c m p s from.0 (idle_of p from.1) (may.resumed m refl) (λ j f at. may.starts refl m j f refl at))

-- ---- The end of the running thread

module _ (n : ℕ) (s : Core) (none : callers_of n s ≡ []) (alone : under_of n s ≡ None) where
  foot_alone : (k : ℕ) → foot_from k s n ≡ n
  foot_alone zero = refl
  foot_alone (suc k) = ap (λ (o : Option ℕ). option_map_or (foot_from k s) o n) alone

  foot_is : foot_of n s ≡ n
  unfolding foot_of
  foot_is = foot_alone (size s.threads)

  stops_alone : stopped n s ≡ set_callers n [] s
  unfolding stopped
  stops_alone = ap (λ (ns : List ℕ). passed_on s.queues.switch ns (set_callers n [] s)) none ∙ go s.queues.switch
    where
      go : (o : Option ℕ) → passed_on o [] (set_callers n [] s) ≡ set_callers n [] s
      go None = refl
      go (Some m) = refl

  callers_gone : remove (insert s.callers n []) n ≡ remove s.callers n
  callers_gone = same_map _ _ (λ q. grind (arith, nat_tests, get-insert, get-remove))

  departs_same : (e : Bool) (i k : ℕ) (o : Option ℕ) → remove_thread n (freed_thread_handle i o (exited_if e k (set_callers n [] s))) ≡ remove_thread n (freed_thread_handle i o (exited_if e k s))
  unfolding remove_thread set_callers free_thread_handle set_exited on_call
  departs_same true i k None = rw callers_gone refl
  departs_same false i k None = rw callers_gone refl
  departs_same true i k (Some h) = rw callers_gone refl
  departs_same false i k (Some h) = rw callers_gone refl

  ends_same : ended n (stopped (foot_of n s) s) ≡ ended n s
  unfolding ended set_callers
  ends_same = ap (λ (f : ℕ). ended n (stopped f s)) foot_is ∙ (ap (λ (u : Core). ended n u) stops_alone
      ∙ ap (λ (u : Core). call_settled (task_of n s) (interest_settled (task_of n s) u)) (departs_same (is_explicit n s) (instance_of n s) (task_of n s) (thread_handle_of n s)))

-- the scene of that end, whose label says nothing
abbrev end_scene : Component → ℕ → Core → Main → Scene
end_scene c n s m = seen (ops_of c s) (setting_for c) m (Turn.Run n) s n (silent n) Turn.Main

pub end_in_order : EndInOrder
unfolding EndInOrder OrderLosesNoWake EndKeeps
end_in_order n s lasts c may =
    subst (λ (t : Core). KeepsOrder c (Turn.Run n) s Turn.Main t) (ends_same n s may.callers may.under)
    (λ h. lead_keeps c n (silent n) Turn.Main s (ended n (stopped (foot_of n s) s))
    (λ m.
    let leave : Leaves (end_scene c n s m) n = (refl, (refl, refl)) in
    let c0 : Keep (end_scene c n s m) s s = NoPrimitive in
    (exits_trip n leave (ended_halts n (last_shifted n (placing_shifted (Stop (foot_of n s)) s) (last_of n s lasts)) (stopped_on (foot_of n s) refl c0) (halted_from n c0 c0)), end_primitives m))
    refl
    (subst (λ (t : Core). WakesCounted t) (sym (ends_same n s may.callers may.under)) (end_keeps n s may (order_loses_no_wake c (state_in Unscripted (Turn.Run n) s) (h Unscripted) refl)).counted) h)
  where
    end_primitives : (m : Main) → LastPrimitives (end_scene c n s m) (ended n (stopped (foot_of n s) s))
    end_primitives m = record {
      laid = λ j is take. absurd (cc);
      runs = λ j to. absurd (cc);
      outcome = λ o out. none_said refl out;
      gone = λ j is exit. absurd (cc);
      says = mute_primitives (end_scene c n s m) (ended n (stopped (foot_of n s) s)) refl refl;
      shut = λ i begun. none_said refl begun;
    }
