-- A thread that is behind the thread of a call that it has made is inside of that call from then on, and order is kept.
use Rattle.laws_order.proofs.StayLemmas.{OpsFit, RestStays, awake_stays, change_same, changed_in_order, fixed, own_marks, same_places}
use Rattle.laws_order.specs.Pieces.{state_in}
use Rattle.laws_states.proofs.WakeCounts.{woken_at, woken_place}
use Rattle.laws_states.specs.Order.{WaitsPlaced, CancelsNamed, InOrderFor, is_uncancelled, IsOf, OnlyCalled}
use Rattle.machine_data.specs.declared.op.Op.{Op}
use Rattle.machine_data.specs.declared.records.Caller.{Caller}
use Rattle.laws_places.proofs.CountedSteps.{counted_stay}
use Rattle.laws_places.proofs.Laws.{ap, arith, Bool, by_number, Call, can_come, cancelled_by, cancelled_call, CancelsWatched, Component, Core, false, get, get-change, op_progress_of, OpProgress, inl, inr, instance_of, is_at_wait, is_awaited, is_explicit, is_inside, is_some, is_waiting_on, Main, member_same, nat_tests, None, NoneBlockedOnEnd, on_thread, Option, option_map_or, Place, place_of, refl, set_op_progress, set_of_op, Some, subst, Subtask, subtask_under_way, sym, Thread, true, Turn, unwrap_or, WakesCounted, WasCall, ℕ, ⊎_elim, ◌∙◌, ◌≡◌, ◌⊎◌}
use Rattle.machine_rules.specs.OpParts.{callee_of_op, is_sync_call}
use Rattle.machine_data.specs.Read.{event_of, undelivered_end}
use Rattle.laws_places.proofs.BlockedLemmas.{blocked_stay, ended_as}
use Rattle.laws_places.proofs.CallersSteps.{SamePlaces}

cancels_it : (f : OpProgress) (k : ℕ) → cancelled_call f ≡ Some k → cancelled_by f ≡ Some (Subtask.Guest k)
cancels_it f k e = grind arith

module _ {g : Bool} {c : Component} {ops now_ops : ℕ → Op} (z : Main) (p : Turn) (n m : ℕ) (u : Core) (o : InOrderFor g ops c (state_in z p u)) (at : place_of n u ≡ Some (Place.Behind m))
    (same_op : (i : ℕ) → now_ops i ≡ ops i) (can : is_some (callee_of_op (ops n)) ≡ true)
    (call : Call) (here : get u.calls m ≡ Some call) (caller : call.caller ≡ Caller.Thread n) (nameless : call.handle ≡ None) (uncancelled : is_uncancelled call ≡ true)
    (awaited : is_awaited call ≡ true) (first : is_explicit m u ≡ false) where
  abbrev far_now : OpProgress
  far_now = OpProgress.Calls (Subtask.Guest m)

  abbrev t : Core
  t = set_op_progress n far_now u

  place : (i : ℕ) → place_of i t ≡ place_of i u
  unfolding set_op_progress on_thread
  place i = grind (arith, nat_tests, get-change)

  explicit : (i : ℕ) → is_explicit i t ≡ is_explicit i u
  unfolding set_op_progress on_thread
  explicit i = grind (arith, nat_tests, get-change)

  home : (i : ℕ) → instance_of i t ≡ instance_of i u
  unfolding set_op_progress on_thread
  home i = grind (arith, nat_tests, get-change)

  abbrev IsOwn : ℕ → OpProgress → Type 0
  IsOwn i f = (i ≡ n) × (f ≡ far_now)

  far : (i : ℕ) → (op_progress_of i t ≡ op_progress_of i u) ⊎ IsOwn i (op_progress_of i t)
  unfolding set_op_progress on_thread
  far i = by_number i n _ (λ is. inr (is, let there = at in grind (arith, nat_tests, get-change, is, there))) (λ apart. inl (grind (arith, nat_tests, get-change, apart)))

  -- ---- What is said of that call

  only : (i k : ℕ) → IsOwn i (op_progress_of i t) → op_progress_of i t ≡ OpProgress.Calls (Subtask.Guest k) → m ≡ k
  only i k new e = let f = new.1 in grind (arith, f, e)

  was_call : WasCall t m
  unfolding set_op_progress on_thread
  was_call = record { number = (o.numbered.calls m call here).1; first = explicit m ∙ first }

  under_way : (i k : ℕ) → IsOwn i (op_progress_of i t) → subtask_under_way (op_progress_of i t) ≡ Some (Subtask.Guest k) → m ≡ k
  under_way i k new e = let f = new.1 in grind (arith, f, e)

  no_host : {A : Type 0} (i k : ℕ) → IsOwn i (op_progress_of i t) → subtask_under_way (op_progress_of i t) ≡ Some (Subtask.Host k) → A
  no_host i k new e = absurd (let f = new.1 in grind (arith, f, e))

  no_cancel : {A : Type 0} (i : ℕ) (sub : Subtask) → IsOwn i (op_progress_of i t) → cancelled_by (op_progress_of i t) ≡ Some sub → A
  no_cancel i sub new e = absurd (let f = new.1 in grind (arith, f, e))

  no_wait : {A : Type 0} (i y : ℕ) → IsOwn i (op_progress_of i t) → op_progress_of i t ≡ OpProgress.Waits y → A
  no_wait i y new e = absurd (let f = new.1 in grind (arith, f, e))

  no_set : {A : Type 0} (i y : ℕ) → IsOwn i (op_progress_of i t) → set_of_op (op_progress_of i t) ≡ Some y → A
  no_set i y new e = absurd (let f = new.1 in grind (arith, f, e))

  only_called : (i k : ℕ) → IsOwn i (op_progress_of i t) → m ≡ k → OnlyCalled i k u
  only_called i k new is d there =
      let same : call ≡ d = ap (λ (e : Option Call). unwrap_or e call) (sym here ∙ (ap (get u.calls) is ∙ there)) in
      subst (λ (e : Call). (e.caller ≡ Caller.Thread i) × ((e.handle ≡ None) × (is_uncancelled e ≡ true))) same
      (caller ∙ ap (λ (j : ℕ). Caller.Thread j) (sym new.0), (nameless, uncancelled))

  -- no op cancels it, since no handle names it
  uncancelled_by : {A : Type 0} (i : ℕ) → cancelled_call (op_progress_of i u) ≡ Some m → A
  uncancelled_by i e = absurd (
      let named = o.cancelled i (Subtask.Guest m) (cancels_it (op_progress_of i u) m e) in
      grind (arith, named, here, nameless))

  awaited_now : (k : ℕ) → m ≡ k → option_map_or is_awaited (get u.calls k) false ≡ true
  awaited_now k is = subst (λ (j : ℕ). option_map_or is_awaited (get u.calls j) false ≡ true) is (ap (λ (e : Option Call). option_map_or is_awaited e false) here ∙ awaited)

  abbrev far_in : Option Thread → OpProgress
  far_in e = option_map_or (λ (r : Thread). r.op_progress) e OpProgress.Fresh

  op_now : (i : ℕ) (q r : Thread) → get u.threads i ≡ Some q → get t.threads i ≡ Some r → can_come (ops i) q.op_progress ≡ true → can_come (now_ops i) r.op_progress ≡ true
  op_now i q r was is on = ap (λ (k : Op). can_come k r.op_progress) (same_op i) ∙ ⊎_elim
      (λ same. ap (can_come (ops i)) (sym (ap far_in is) ∙ (same ∙ ap far_in was)) ∙ on)
      (λ new. ap (can_come (ops i)) (sym (ap far_in is) ∙ new.1) ∙ (ap (λ (j : ℕ). is_some (callee_of_op (ops j))) new.0 ∙ can)) (far i)

  inside_now : (i : ℕ) (q : Place) → place_of i t ≡ Some q → is_inside q (op_progress_of i t) ≡ true
  inside_now i q e = ⊎_elim (λ same. ap (is_inside q) same ∙ o.inside i q (sym (place i) ∙ e))
      (λ new. let now = sym (place i) ∙ e in let is = new.0 in let there = at in grind (arith, now, is, there)) (far i)

  counted_now : WakesCounted u → WakesCounted t
  unfolding set_op_progress on_thread
  counted_now counted = counted_stay
      (λ y i on. ap (λ (e : Option Place). option_map_or (is_waiting_on y) e false) (sym (place i)) ∙ on)
      (λ y sub on. sym (member_same y u t refl refl sub) ∙ on)
      (λ y i on. let was = sym (woken_at y i u) ∙ on in ⊎_elim
      (λ same. woken_at y i t ∙ (ap (λ (e : Option Place). woken_place y e (op_progress_of i t)) (place i) ∙ (ap (woken_place y (place_of i u)) same ∙ was)))
      (λ new. absurd (let is = new.0 in let there = at in grind (arith, was, is, there))) (far i)) counted

  ops_now : OpsFit ops now_ops u t
  unfolding set_op_progress on_thread
  ops_now = record {
    op = λ i q r was is same. (op_now i q r was is, λ on. ap is_sync_call (same_op i) ∙ on);
    awaited = λ i k e. ⊎_elim (λ same. let r = o.awaited i k (sym same ∙ e) in (r.0, ⊎_elim (λ b. inl (place i ∙ b)) inr r.1)) (λ new. no_host i k new (ap subtask_under_way e)) (far i);
    calls_named = λ i k e. ⊎_elim (λ same. let w = o.calls_named.by_op i k (ap subtask_under_way (sym same) ∙ e) in record { number = w.number; first = explicit k ∙ w.first })
        (λ new. subst (WasCall t) (under_way i k new e) was_call) (far i);
    works_named = λ i k e. ⊎_elim (λ same. o.works_named.by_op i k (ap subtask_under_way (sym same) ∙ e)) (λ new. no_host i k new e) (far i);
    called = λ i k e. ⊎_elim (λ same. o.names.called i k (sym same ∙ e)) (λ new. only_called i k new (only i k new e)) (far i);
    calls = record {
      inside = λ i k e. ⊎_elim (λ same. ⊎_elim (λ b. inl (place i ∙ b)) inr (o.calls.inside i k (sym same ∙ e))) (λ new. inr (awaited_now k (only i k new e))) (far i);
      apart = λ i l k e f. ⊎_elim
          (λ stays. ⊎_elim (λ same. o.calls.apart i l k (sym same ∙ e) (ap cancelled_call (sym stays) ∙ f))
          (λ new. uncancelled_by l ((ap cancelled_call (sym stays) ∙ f) ∙ ap (λ (j : ℕ). Some j) (sym (only i k new e)))) (far i))
          (λ new. no_cancel l (Subtask.Guest k) new (cancels_it (op_progress_of l t) k f)) (far l);
    };
    works_called = λ i k e. ⊎_elim (λ same. o.works_known.called i k (sym same ∙ e)) (λ new. no_host i k new (ap subtask_under_way e)) (far i);
    waits = λ i y e. ⊎_elim (λ same. subst (λ (q : ℕ). IsOf q y u) (sym (home i)) (o.waits.by_op i y (ap set_of_op (sym same) ∙ e))) (λ new. no_set i y new e) (far i);
    watched = watched_now;
    cancelled = cancelled_now;
  }
    where
      watched_now : CancelsWatched t
      watched_now i (Subtask.Guest k) e = ⊎_elim (λ same. o.watched i (Subtask.Guest k) (ap cancelled_by (sym same) ∙ e)) (λ new. no_cancel i (Subtask.Guest k) new e) (far i)
      watched_now i (Subtask.Host k) e = ⊎_elim (λ same. o.watched i (Subtask.Host k) (ap cancelled_by (sym same) ∙ e)) (λ new. no_cancel i (Subtask.Host k) new e) (far i)

      cancelled_now : CancelsNamed t
      cancelled_now i (Subtask.Guest k) e = ⊎_elim (λ same. o.cancelled i (Subtask.Guest k) (ap cancelled_by (sym same) ∙ e)) (λ new. no_cancel i (Subtask.Guest k) new e) (far i)
      cancelled_now i (Subtask.Host k) e = ⊎_elim (λ same. o.cancelled i (Subtask.Host k) (ap cancelled_by (sym same) ∙ e)) (λ new. no_cancel i (Subtask.Host k) new e) (far i)

  waits_now : WaitsPlaced t
  waits_now i y e = ⊎_elim (λ same. ap (λ (q : Option Place). option_map_or (is_at_wait y) q false) (place i) ∙ o.waits_placed i y (sym same ∙ e)) (λ new. no_wait i y new e) (far i)

  pub inside_keeps : InOrderFor g now_ops c (state_in z p t)
  unfolding set_op_progress on_thread
  inside_keeps =
      let rest : RestStays u t = record {
        threads = change_same fixed n (λ (r : Thread). record r { op_progress = far_now }) u.threads (λ r. refl);
        calls = λ k. refl;
        works = λ i. refl;
        named = λ i h. refl;
        tables = λ kept. kept;
        enters = λ i. refl;
        presses = λ i. refl;
      } in
      changed_in_order c (state_in z p u) g o t rest p (same_places o t.threads t place waits_now inside_now p o.in_place.runs) (own_marks c (state_in z p u) g o t (λ i h. refl)) ops_now z g
      (λ live. awake_stays p same o.strands (λ i e. sym (place i) ∙ e) (λ h k e. ap (λ (q : Option Place). is_some q) (place k) ∙ h k e) blocked_now counted_now (o.awake live))
    where
      same : SamePlaces u t
      same = record { kept = λ i on. place i; back = λ i q held e. sym (place i) ∙ e; none = λ k none low. place k ∙ none }

      untold : (sub : Subtask) → undelivered_end (event_of sub u) ≡ None → undelivered_end (event_of sub t) ≡ None
      untold (Subtask.Guest k) none = none
      untold (Subtask.Host k) none = none

      blocked_now : NoneBlockedOnEnd u → NoneBlockedOnEnd t
      blocked_now = blocked_stay (λ i sub e. sym (place i) ∙ e) untold (λ sub live. ended_as sub u t refl ∙ live)
