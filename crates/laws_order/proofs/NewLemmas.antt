-- A call whose thread is New keeps order, whoever it is made for: nothing names it, and nobody waits for it.
use Rattle.laws_order.proofs.StayLemmas.{awake_stays}
use Rattle.laws_order.specs.Pieces.{PrepareKeeps, state_in}
use Rattle.std.proofs.Common.{ap, ap₂, arith, inl, inr, refl, subst, sym, ⊎_elim, ◌∙◌}
use Rattle.std.proofs.lemmas.Bool.Decides.{nat_tests}
use Rattle.std.specs.Option.{option_map_or}
use Rattle.std.specs.Prelude.{Bool, List, None, Option, Some, [], false, if◌then◌else◌, is_none, is_some, length, not, option_and_then, option_map, true, unwrap_or, ℕ, ◌&&◌, ◌==◌, ◌||◌, ◌≡◌, ◌≤◌}
use Rattle.laws_states.specs.Order.{CallKind, CallKinds, CallsAwaited, CallsNamed, CallsThere, CallsTold, CancelsNamed, CancelsWatched, DeliveredByCallback, DirectsOnTop, Fits, HasNotRun, HostsAwaited, InOrderIf, InsideOps, IsOf, JoinNamed, NamesKnown, Numbered, OnlyCalled, StartsAwaited, StartsFirst, StartsThere, Strands, ThreadFits, ThreadNumbered, WaitsAtHome, WaitsPlaced, WasCall, WorksKnown, WorksNamed, cancelled_by, cancelled_call, has_one_on_top, is_awaited, is_delivered, is_open, names_script, set_of_op, set_of_place}
use Rattle.laws_states.specs.WakeLaw.{NoneAdmitted, NoneBlockedOnEnd, WakesCounted}
use Rattle.machine_data.proofs.MapLemmas.{get-insert_same}
use Rattle.machine_data.specs.Core.{Core, State}
use Rattle.machine_data.specs.Maps.{get, get-insert, insert}
use Rattle.machine_data.specs.Read.{admits, backpressure_of, callee_of, callers_of, end_of, event_of, op_progress_of, instance_of, is_callback, is_direct, is_explicit, is_in_set, is_ready_member, is_sync, is_waiting_on, is_woken_for, join_of, kind_of, may_not_enter, no_callee, place_of, subtask_handle, task_of, undelivered_end}
use Rattle.machine_data.specs.Write.{add_call, add_thread, with_threads_made}
use Rattle.machine_data.specs.declared.component.Callee.{Callee}
use Rattle.machine_data.specs.declared.component.Component.{Component}
use Rattle.machine_data.specs.declared.component.ExportKind.{ExportKind}
use Rattle.machine_data.specs.declared.records.Call.{Call}
use Rattle.machine_data.specs.declared.records.CallEnd.{CallEnd}
use Rattle.machine_data.specs.declared.records.Caller.{Caller}
use Rattle.machine_data.specs.declared.records.Goal.{Goal}
use Rattle.machine_data.specs.declared.records.OpProgress.{OpProgress}
use Rattle.machine_data.specs.declared.records.Join.{Join}
use Rattle.machine_data.specs.declared.records.Place.{Place}
use Rattle.machine_data.specs.declared.records.Script.{Script}
use Rattle.machine_data.specs.declared.records.Subtask.{Subtask}
use Rattle.machine_data.specs.declared.records.Thread.{Thread}
use Rattle.machine_data.specs.declared.records.Why.{Why}
use Rattle.machine_data.specs.declared.statuses.Status.{Status}
use Rattle.laws_places.proofs.BlockedLemmas.{blocked_stay, ended_as}
use Rattle.laws_places.proofs.CallersSteps.{SamePlaces}
use Rattle.laws_places.proofs.CallersTrips.{is_held_on}
use Rattle.laws_places.proofs.CountedSteps.{counted_stay}
use Rattle.machine_rules.proofs.StandLemmas.{by_number}
use Rattle.machine_rules.specs.Allowed.{is_watched_by, subtask_under_way}
use Rattle.machine_rules.specs.Calls.{call_made, new_call, new_thread, next_thread}
use Rattle.machine_rules.specs.OpParts.{can_come, is_sync_call}
use Rattle.machine_rules.specs.Places.{Placed, is_at_high, is_at_low, is_at_switch, is_at_wait, is_behind_of, is_fresh, is_inside, is_there, one_if, says, times}
use Rattle.laws_states.proofs.FitLemmas.{op_there}
use Rattle.machine_data.specs.declared.op.Op.{Op}
use Rattle.machine_rules.specs.Scripts.{export_kind, op_at_place, op_of, registers_for, script_in}

-- any place but New
abbrev is_placed : Place → Bool
is_placed Place.New = false
is_placed p = true

module _ (c : Component) (x : State) (b : Bool) (o : InOrderIf b c x) (f : Caller) (e : Callee) (g : Goal) (group : ℕ) (words : List ℕ)
    (plain : is_direct g ≡ false) where
  abbrev s : Core
  s = x.core

  -- the number of the new call, and of its thread
  abbrev m : ℕ
  m = next_thread s

  abbrev thread : Thread
  thread = new_thread m false Script.Start (registers_for words) None

  abbrev call : Call
  call = new_call f e (export_kind c e) g group

  abbrev t : Core
  t = record s {
    threads = insert s.threads m thread;
    calls = insert s.calls m call;
    callers = insert s.callers m [];
    made = with_threads_made m s.made;
  }

  -- ---- What is read of it

  low_number : (n : ℕ) → n ≤ s.made.threads → (n == m) ≡ false
  low_number n low = grind (arith, nat_tests, low)

  no_thread : get s.threads m ≡ None
  no_thread = go (get s.threads m) refl
    where
      go : (q : Option Thread) → get s.threads m ≡ q → q ≡ None
      go None at = refl
      go (Some r) at = absurd (let low = (o.numbered.threads m r at).number in omega (arith, low))

  no_call : get s.calls m ≡ None
  no_call = go (get s.calls m) refl
    where
      go : (q : Option Call) → get s.calls m ≡ q → q ≡ None
      go None at = refl
      go (Some r) at = absurd (let low = (o.numbered.calls m r at).1 in omega (arith, low))

  other_thread : (n : ℕ) → (n == m) ≡ false → get t.threads n ≡ get s.threads n
  other_thread n apart = get-insert s.threads m thread n ∙ ap (λ (k : Bool). if k then Some thread else get s.threads n) apart

  other_call : (k : ℕ) → (k == m) ≡ false → get t.calls k ≡ get s.calls k
  other_call k apart = get-insert s.calls m call k ∙ ap (λ (q : Bool). if q then Some call else get s.calls k) apart

  new_is : get t.threads m ≡ Some thread
  new_is = get-insert_same s.threads m thread

  call_is : get t.calls m ≡ Some call
  call_is = get-insert_same s.calls m call

  -- a reading that takes the new thread for none is the same of each thread
  threads_same : {X : Type 0} (r : Option Thread → X) → r (Some thread) ≡ r None → (n : ℕ) → r (get t.threads n) ≡ r (get s.threads n)
  threads_same r same n = by_number n m _
      (λ is. ap (λ (k : ℕ). r (get t.threads k)) is ∙ (ap r new_is ∙ (same ∙ (ap r (sym no_thread) ∙ ap (λ (k : ℕ). r (get s.threads k)) (sym is)))))
      (λ apart. ap r (other_thread n apart))

  calls_same : {X : Type 0} (r : Option Call → X) → r (Some call) ≡ r None → (k : ℕ) → r (get t.calls k) ≡ r (get s.calls k)
  calls_same r same k = by_number k m _
      (λ is. ap (λ (k : ℕ). r (get t.calls k)) is ∙ (ap r call_is ∙ (same ∙ (ap r (sym no_call) ∙ ap (λ (k : ℕ). r (get s.calls k)) (sym is)))))
      (λ apart. ap r (other_call k apart))

  -- a thread is the new one, or was there before
  thread_was : (P : ℕ → Thread → Type 0) → P m thread → ((n : ℕ) (r : Thread) → get s.threads n ≡ Some r → (n == m) ≡ false → P n r) →
      (n : ℕ) (r : Thread) → get t.threads n ≡ Some r → P n r
  thread_was P own old n r at = by_number n m _
      (λ is. subst (λ (k : ℕ). P k r) (sym is) (subst (P m)
      (ap (λ (q : Option Thread). unwrap_or q r) (sym new_is ∙ (ap (λ (k : ℕ). get t.threads k) (sym is) ∙ at))) own))
      (λ apart. old n r (sym (other_thread n apart) ∙ at) apart)

  call_was : (P : ℕ → Call → Type 0) → P m call → ((k : ℕ) (r : Call) → get s.calls k ≡ Some r → (k == m) ≡ false → P k r) →
      (k : ℕ) (r : Call) → get t.calls k ≡ Some r → P k r
  call_was P own old k r at = by_number k m _
      (λ is. subst (λ (k : ℕ). P k r) (sym is) (subst (P m)
      (ap (λ (q : Option Call). unwrap_or q r) (sym call_is ∙ (ap (λ (k : ℕ). get t.calls k) (sym is) ∙ at))) own))
      (λ apart. old k r (sym (other_call k apart) ∙ at) apart)

  far : (n : ℕ) → op_progress_of n t ≡ op_progress_of n s
  far n = threads_same (λ (q : Option Thread). option_map_or (λ (r : Thread). r.op_progress) q OpProgress.Fresh) refl n

  explicit : (n : ℕ) → is_explicit n t ≡ is_explicit n s
  explicit n = threads_same (λ (q : Option Thread). option_map_or (λ (r : Thread). r.explicit) q false) refl n

  -- where a thread is, but New, it was
  was_at : (n : ℕ) (p : Place) → is_placed p ≡ true → place_of n t ≡ Some p → place_of n s ≡ Some p
  was_at n p placed at = by_number n m _
      (λ is. absurd (let new = new_is in grind (arith, new, at, is, placed)))
      (λ apart. sym (ap (option_map (λ (r : Thread). r.place)) (other_thread n apart)) ∙ at)

  low_place : (n : ℕ) (p : Place) → place_of n s ≡ Some p → (n == m) ≡ false
  low_place n p at = let low = (o.in_place.placed n).number (ap (λ (q : Option Place). is_some q) at) in grind (arith, nat_tests, low)

  stays_at : (n : ℕ) (p : Place) → place_of n s ≡ Some p → place_of n t ≡ Some p
  stays_at n p at = ap (option_map (λ (r : Thread). r.place)) (other_thread n (low_place n p at)) ∙ at

  says_same : (test : Place → Bool) → test Place.New ≡ false → (n : ℕ) → says test (place_of n t) ≡ says test (place_of n s)
  says_same test new n = threads_same (λ (q : Option Thread). says test (option_map (λ (r : Thread). r.place) q)) (ap (λ (q : Bool). one_if q) new) n

  fresh_same : (n : ℕ) → is_fresh (place_of n t) ≡ is_fresh (place_of n s)
  fresh_same n = threads_same (λ (q : Option Thread). is_fresh (option_map (λ (r : Thread). r.place) q)) refl n

  tasks : (n : ℕ) → (n == m) ≡ false → task_of n t ≡ task_of n s
  tasks n apart = ap (λ (q : Option Thread). option_map_or (λ (r : Thread). r.call) q 0) (other_thread n apart)

  low_task : (n : ℕ) → (task_of n s == m) ≡ false
  low_task n = go (get s.threads n) refl
    where
      go : (q : Option Thread) → get s.threads n ≡ q → (option_map_or (λ (r : Thread). r.call) q 0 == m) ≡ false
      go None at = grind (arith, nat_tests)
      go (Some r) at = low_number r.call (o.numbered.threads n r at).call

  -- what is read of the call of another thread
  of_task : {X : Type 0} (r : Option Call → X) (n : ℕ) → (n == m) ≡ false → r (get t.calls (task_of n t)) ≡ r (get s.calls (task_of n s))
  of_task r n apart = ap (λ (k : ℕ). r (get t.calls k)) (tasks n apart) ∙ ap r (other_call (task_of n s) (low_task n))

  kinds_of : (n : ℕ) → (n == m) ≡ false → kind_of (task_of n t) t ≡ kind_of (task_of n s) s
  kinds_of n apart = of_task (λ (q : Option Call). option_map_or (λ (r : Call). r.kind) q ExportKind.Callback) n apart

  instances : (n : ℕ) → (n == m) ≡ false → instance_of n t ≡ instance_of n s
  instances n apart = of_task (λ (q : Option Call). (option_map_or (λ (r : Call). r.callee) q no_callee).instance) n apart

  handles : (k : ℕ) → subtask_handle (Subtask.Guest k) t ≡ subtask_handle (Subtask.Guest k) s
  handles k = calls_same (λ (q : Option Call). option_and_then (λ (r : Call). r.handle) q) refl k

  joins : (k : ℕ) → join_of (Subtask.Guest k) t ≡ join_of (Subtask.Guest k) s
  joins k = calls_same (λ (q : Option Call). option_map_or (λ (r : Call). r.join) q Join.Nowhere) refl k

  events : (k : ℕ) → event_of (Subtask.Guest k) t ≡ event_of (Subtask.Guest k) s
  events k = calls_same (λ (q : Option Call). option_and_then (λ (r : Call). r.event) q) refl k

  ends : (k : ℕ) → end_of k t ≡ end_of k s
  ends k = calls_same (λ (q : Option Call). option_and_then (λ (r : Call). r.«end») q) refl k

  -- ---- Threads

  placed : Placed t
  placed n =
      let h = o.in_place.placed n in
      record {
        number = λ there. by_number n m _ (λ is. omega (arith, is))
            (λ apart. let low = h.number (sym (ap (λ (q : Option Thread). is_some (option_map (λ (r : Thread). r.place) q)) (other_thread n apart)) ∙ there) in omega (arith, low));
        behind = λ k at. let low = h.behind k (sym (says_same (is_behind_of k) refl n) ∙ at) in omega (arith, low);
        switch = h.switch ∙ sym (says_same is_at_switch refl n);
        high = h.high ∙ sym (says_same is_at_high refl n);
        low = h.low ∙ sym (says_same is_at_low refl n);
        callers = callers;
      }
    where
      none_behind : says (is_behind_of m) (place_of n t) ≡ 0
      none_behind = go (place_of n s) refl
        where
          go : (q : Option Place) → place_of n s ≡ q → says (is_behind_of m) (place_of n t) ≡ 0
          go (Some (Place.Behind k)) at = by_number m k _
              (λ is. absurd (let low = (o.in_place.placed n).behind m (let one = at in grind (arith, nat_tests, one, is)) in omega (arith, low)))
              (λ apart. says_same (is_behind_of m) refl n ∙ (ap (says (is_behind_of m)) at ∙ ap (λ (q : Bool). one_if q) apart))
          go q at = says_same (is_behind_of m) refl n ∙ (ap (says (is_behind_of m)) at ∙ grind arith)

      callers : (k : ℕ) → times n (callers_of k t) ≡ (if is_there k t then says (is_behind_of k) (place_of n t) else 0)
      callers k = by_number k m _
          (λ is. subst (λ (k : ℕ). times n (callers_of k t) ≡ (if is_there k t then says (is_behind_of k) (place_of n t) else 0)) (sym is)
          (ap (λ (q : Option (List ℕ)). times n (unwrap_or q [])) (get-insert_same s.callers m [])
          ∙ (sym none_behind ∙ sym (ap (λ (q : Option Thread). if is_some (option_map (λ (r : Thread). r.place) q) then says (is_behind_of m) (place_of n t) else 0) new_is))))
          (λ apart. let h = (o.in_place.placed n).callers k in let same = says_same (is_behind_of k) refl n in
          let there = other_thread k apart in grind (arith, nat_tests, get-insert, h, same, apart))

  strands : Strands t
  strands = record {
    below = λ n k at. o.strands.below n k (was_at n (Place.Under k) refl at);
    made = λ n k at. let low = o.strands.made n k (was_at n (Place.Under k) refl at) in omega (arith, low);
    alone = λ n k j at on. o.strands.alone n k j (was_at n (Place.Under j) refl at) (was_at k (Place.Under j) refl on);
  }

  -- the new call isn't direct, and under the first threads of those that are there are the same threads
  directs : DirectsOnTop t
  directs n on own direct = by_number n m _
      (λ is. absurd (let new = new_is in let it = call_is in let apart = plain in grind (arith, new, it, apart, direct, is)))
      (λ apart.
      let h = o.directs n (sym (ap (λ (q : Option Thread). is_some (option_map (λ (r : Thread). r.place) q)) (other_thread n apart)) ∙ on) (sym (explicit n) ∙ own)
      (sym (of_task (λ (q : Option Call). is_direct (option_map_or (λ (r : Call). r.goal) q Goal.Nowhere)) n apart) ∙ direct) in
      (h.0, stays_at h.0 (Place.Under n) h.1))

  awaited : HostsAwaited t
  awaited n i at = let h = o.awaited n i (sym (far n) ∙ at) in (h.0, ⊎_elim (λ there. inl (stays_at n (Place.Blocked (Subtask.Host i)) there)) (λ over. inr over) h.1)

  numbered : Numbered t
  numbered = record {
    threads = thread_was (λ (n : ℕ) (r : Thread). ThreadNumbered t n r)
        (record { number = omega arith; call = omega arith; own = λ e. refl; nameless = λ e. absurd (cc) })
        (λ n r at apart. let h = o.numbered.threads n r at in
        let number = h.number in let call = h.call in
        record {
          number = omega (arith, number);
          call = omega (arith, call);
          own = h.own;
          nameless = λ e. ap (λ (q : Option Call). is_none q) (other_call n apart) ∙ h.nameless e;
        });
    calls = call_was (λ (k : ℕ) (r : Call). (1 ≤ k) × (k ≤ m)) (omega arith, omega arith)
        (λ k r at apart. let h = o.numbered.calls k r at in let low = h.1 in (h.0, omega (arith, low)));
  }

  there : (k : ℕ) → is_some (get s.calls k) ≡ true → is_some (get t.calls k) ≡ true
  there k on = by_number k m _ (λ is. ap (λ (k : ℕ). is_some (get t.calls k)) is ∙ ap (λ (q : Option Call). is_some q) call_is)
      (λ apart. ap (λ (q : Option Call). is_some q) (other_call k apart) ∙ on)

  calls_there : CallsThere t
  calls_there n k e = by_number n m _
      (λ is.
      let own : m ≡ k = ap (λ (q : Option ℕ). unwrap_or q m)
      (sym (ap (option_map (λ (r : Thread). r.call)) (ap (λ (n : ℕ). get t.threads n) is ∙ new_is)) ∙ e) in
      subst (λ (k : ℕ). is_some (get t.calls k) ≡ true) own (ap (λ (q : Option Call). is_some q) call_is))
      (λ apart. there k (o.calls_there n k (sym (ap (option_map (λ (r : Thread). r.call)) (other_thread n apart)) ∙ e)))

  -- ---- Names

  was_call : (k : ℕ) → WasCall s k → WasCall t k
  was_call k w = let low = w.number in record { number = omega (arith, low); first = explicit k ∙ w.first }

  -- the call that an op is about isn't the new one
  about : (n k : ℕ) → subtask_under_way (op_progress_of n s) ≡ Some (Subtask.Guest k) → (k == m) ≡ false
  about n k e = low_number k (o.calls_named.by_op n k e).number

  inside_of : (n k : ℕ) → op_progress_of n s ≡ OpProgress.Calls (Subtask.Guest k) → (k == m) ≡ false
  inside_of n k e = about n k (ap subtask_under_way e)

  cancelled_under : (h : OpProgress) (sub : Subtask) → cancelled_by h ≡ Some sub → subtask_under_way h ≡ Some sub
  cancelled_under (OpProgress.Cancels q) sub e = e
  cancelled_under (OpProgress.AwaitsEnd q) sub e = e
  cancelled_under h sub e = absurd (grind (arith, e))

  calls_named : CallsNamed t
  calls_named = record {
    by_handle = λ i h k e. was_call k (o.calls_named.by_handle i h k e);
    by_op = λ n k e. was_call k (o.calls_named.by_op n k (sym (ap subtask_under_way (far n)) ∙ e));
  }

  works_named : WorksNamed t
  works_named = record { by_handle = o.works_named.by_handle; by_op = λ n j e. o.works_named.by_op n j (sym (ap subtask_under_way (far n)) ∙ e) }

  called : (n k : ℕ) → op_progress_of n t ≡ OpProgress.Calls (Subtask.Guest k) → OnlyCalled n k t
  called n k e r at = let was = sym (far n) ∙ e in o.names.called n k was r (sym (other_call k (inside_of n k was)) ∙ at)

  names : NamesKnown t
  names = record { there = λ i h k e. handles k ∙ o.names.there i h k e; once = o.names.once; called = called }

  calls : CallsAwaited t
  calls = record {
    inside = λ n k e. let was = sym (far n) ∙ e in
        ⊎_elim (λ under. inl (stays_at n (Place.Under k) under))
        (λ waits. inr (ap (λ (q : Option Call). option_map_or is_awaited q false) (other_call k (inside_of n k was)) ∙ waits))
        (o.calls.inside n k was);
    apart = λ n j k e on. o.calls.apart n j k (sym (far n) ∙ e) (sym (ap cancelled_call (far j)) ∙ on);
  }

  works_known : WorksKnown t
  works_known = record {
    there = λ i h j e. o.works_known.there i h j e;
    once = o.works_known.once;
    async = λ h j e. o.works_known.async h j e;
    called = λ n j e. o.works_known.called n j (sym (far n) ∙ e);
  }

  joined : (sub : Subtask) (y : ℕ) → join_of sub t ≡ Join.Set y → JoinNamed sub y t
  joined (Subtask.Guest k) y e =
      let q = o.joins_named.joins (Subtask.Guest k) y (sym (joins k) ∙ e) in record { instance = q.instance; handle = q.handle; home = q.home; named = q.named }
  joined (Subtask.Host i) y e = let q = o.joins_named.joins (Subtask.Host i) y e in record { instance = q.instance; handle = q.handle; home = q.home; named = q.named }

  -- ---- Waits

  waits : WaitsAtHome t
  waits = record {
    by_place = λ n y e. let was = sym (threads_same (λ (q : Option Thread). option_and_then set_of_place (option_map (λ (r : Thread). r.place) q)) refl n) ∙ e in
        by_number n m _ (λ is. absurd (let none = no_thread in grind (arith, none, was, is)))
        (λ apart. subst (λ (i : ℕ). IsOf i y s) (sym (instances n apart)) (o.waits.by_place n y was));
    by_op = λ n y e. let was = sym (ap set_of_op (far n)) ∙ e in
        by_number n m _ (λ is. absurd (let none = no_thread in grind (arith, none, was, is)))
        (λ apart. subst (λ (i : ℕ). IsOf i y s) (sym (instances n apart)) (o.waits.by_op n y was));
  }

  waits_placed : WaitsPlaced t
  waits_placed n y e = threads_same (λ (q : Option Thread). option_map_or (is_at_wait y) (option_map (λ (r : Thread). r.place) q) false) refl n ∙ o.waits_placed n y (sym (far n) ∙ e)

  kinds : CallKinds c t
  kinds = call_was (λ (k : ℕ) (r : Call). CallKind c t k r)
      (record { kind = refl; direct = λ direct. absurd (let apart = plain in cc); uncancelled = λ e. refl; gone = λ e over. absurd (cc) })
      (λ k r at apart. let h = o.kinds k r at in
      record {
        kind = h.kind;
        direct = h.direct;
        uncancelled = h.uncancelled;
        gone = λ e over. ap (λ (q : Option Thread). is_none q) (other_thread k apart) ∙ h.gone e over;
      })

  -- the call of a thread that was there is as before
  callees : (n : ℕ) (r : Thread) → get s.threads n ≡ Some r → get t.calls r.call ≡ get s.calls r.call
  callees n r at = other_call r.call (low_number r.call (o.numbered.threads n r at).call)

  deliveries : DeliveredByCallback t
  deliveries = thread_was (λ (n : ℕ) (r : Thread). is_delivered r.place ≡ true → is_callback (kind_of r.call t) ≡ true) (λ e. absurd (cc))
      (λ n r at apart e. ap (λ (q : Option Call). is_callback (option_map_or (λ (r : Call). r.kind) q ExportKind.Callback)) (callees n r at) ∙ o.deliveries n r at e)

  fits : Fits c t
  fits = thread_was (λ (n : ℕ) (r : Thread). ThreadFits c t (op_of c n t) r)
      (record { script = refl; position = omega arith; op = refl; under = λ top. absurd (cc); first = λ top. absurd (cc) })
      (λ n r at apart.
      let h = o.fits n r at in
      let is : callee_of r.call s ≡ callee_of r.call t = ap (λ (q : Option Call). option_map_or (λ (r : Call). r.callee) q no_callee) (sym (callees n r at)) in
      let same : op_of c n s ≡ op_of c n t = op_there c s n r at ∙ (ap (λ (y : Callee). op_at_place (script_in c y r.script) r.position) is ∙ sym (op_there c t n r (other_thread n apart ∙ at))) in
      record {
        script = subst (λ (y : Callee). names_script c y.instance r.explicit r.script ≡ true) is h.script;
        position = subst (λ (y : Callee). r.position ≤ length (script_in c y r.script)) is h.position;
        op = subst (λ (o : Op). can_come o r.op_progress ≡ true) same h.op;
        under = subst (λ (o : Op). has_one_on_top r.place ≡ true → is_sync_call o ≡ true) same h.under;
        first = h.first;
      })

  starts : StartsAwaited t
  starts = call_was (λ (k : ℕ) (r : Call). r.started ≡ false → is_fresh (place_of k t) ≡ true)
      (λ e. ap (λ (q : Option Thread). is_fresh (option_map (λ (r : Thread). r.place) q)) new_is)
      (λ k r at apart e. fresh_same k ∙ o.starts k r at e)

  first : StartsFirst t
  first = thread_was (λ (k : ℕ) (r : Thread). r.explicit ≡ false → is_fresh (Some r.place) ≡ true → HasNotRun t k)
      (λ own fresh. record {
        unended = ap (λ (q : Option Call). option_and_then (λ (r : Call). r.«end») q) call_is;
        alone = thread_was (λ (n : ℕ) (r : Thread). r.call ≡ m → n ≡ m) (λ e. refl)
            (λ n r at apart e. absurd (let low = (o.numbered.threads n r at).call in omega (arith, low, e)));
      })
      (λ k r at apart own fresh.
      let h = o.unbegun k r at own fresh in
      record {
        unended = ends k ∙ h.unended;
        alone = thread_was (λ (n : ℕ) (r : Thread). r.call ≡ k → n ≡ k) (λ e. e) (λ n r at apart e. h.alone n r at e);
      })

  watched : CancelsWatched t
  watched n (Subtask.Guest k) e =
      let was = sym (ap cancelled_by (far n)) ∙ e in
      ap (λ (q : Option Call). option_map_or (λ (r : Call). is_watched_by n r.join) q true) (other_call k (about n k (cancelled_under (op_progress_of n s) (Subtask.Guest k) was)))
      ∙ o.watched n (Subtask.Guest k) was
  watched n (Subtask.Host i) e = o.watched n (Subtask.Host i) (sym (ap cancelled_by (far n)) ∙ e)

  cancelled : CancelsNamed t
  cancelled n (Subtask.Guest k) e = ap (λ (h : Option ℕ). is_some h) (handles k) ∙ o.cancelled n (Subtask.Guest k) (sym (ap cancelled_by (far n)) ∙ e)
  cancelled n (Subtask.Host i) e = o.cancelled n (Subtask.Host i) (sym (ap cancelled_by (far n)) ∙ e)

  inside : InsideOps t
  inside n Place.New at = refl
  inside n p at = by_number n m _
      (λ is. let new : Some Place.New ≡ Some p = sym (ap (option_map (λ (r : Thread). r.place)) (ap (λ (k : ℕ). get t.threads k) is ∙ new_is)) ∙ at in
      subst (λ (q : Option Place). option_map_or (λ (p : Place). is_inside p (op_progress_of n t)) q false ≡ true) new refl)
      (λ apart. ap (is_inside p) (far n) ∙ o.inside n p (sym (ap (option_map (λ (r : Thread). r.place)) (other_thread n apart)) ∙ at))

  admitted : (n : ℕ) (w : Why) → (n == m) ≡ false → admits n t w ≡ admits n s w
  admitted n Why.Start apart =
      ap₂ (λ (y : Bool) (z : Bool). y || z) (explicit n)
      (ap₂ (λ (k : ExportKind) (i : ℕ). is_sync k || (not (may_not_enter i s) && (backpressure_of i s == 0))) (kinds_of n apart) (instances n apart))
  admitted n (Why.Delivery d) apart = ap (λ (i : ℕ). not (may_not_enter i s)) (instances n apart)
  admitted n Why.Resumption apart = refl

  held : NoneAdmitted t
  held n w at = let was = was_at n (Place.Held w) refl at in admitted n w (low_place n (Place.Held w) was) ∙ o.held n w was

  told : CallsTold t
  told k z h = ap (λ (q : Option CallEnd). is_some q) (ends k) ∙ o.calls_told k z (sym (ap undelivered_end (events k)) ∙ h)

  -- ---- While the turns go on

  untold : (sub : Subtask) → undelivered_end (event_of sub s) ≡ None → undelivered_end (event_of sub t) ≡ None
  untold (Subtask.Guest k) none = ap undelivered_end (events k) ∙ none
  untold (Subtask.Host i) none = none

  blocked : NoneBlockedOnEnd s → NoneBlockedOnEnd t
  blocked = blocked_stay (λ n sub at. was_at n (Place.Blocked sub) refl at) untold (λ sub live. ended_as sub s t refl ∙ live)

  starts_there : StartsThere s → StartsThere t
  starts_there h k u = by_number k m _
      (λ is. ap (λ (k : ℕ). is_some (place_of k t)) is ∙ ap (λ (q : Option Thread). is_some (option_map (λ (r : Thread). r.place) q)) new_is)
      (λ apart. ap (λ (q : Option Thread). is_some (option_map (λ (r : Thread). r.place) q)) (other_thread k apart)
      ∙ h k (sym (ap (λ (q : Option Call). option_map_or (λ (r : Call). not r.started && is_none r.«end») q false) (other_call k apart)) ∙ u))

  held_placed : (p : Place) → is_held_on p ≡ true → is_placed p ≡ true
  held_placed p h = grind arith

  same : SamePlaces s t
  same = record {
    kept = λ n on. ap (option_map (λ (r : Thread). r.place)) (other_thread n (low_number n ((o.in_place.placed n).number on)));
    back = λ n p held at. was_at n p (held_placed p held) at;
    none = λ k none low. ap (option_map (λ (r : Thread). r.place)) (other_thread k (low_number k low)) ∙ none;
  }

  ready : (y : ℕ) (sub : Subtask) → is_ready_member y sub t ≡ true → is_ready_member y sub s ≡ true
  ready y (Subtask.Guest k) on = sym (ap₂ (λ (j : Join) (h : Option Status). is_in_set y j && is_some h) (joins k) (events k)) ∙ on
  ready y (Subtask.Host i) on = on

  counted : WakesCounted s → WakesCounted t
  counted = counted_stay
      (λ y n on. sym (threads_same (λ (q : Option Thread). option_map_or (is_waiting_on y) (option_map (λ (r : Thread). r.place) q) false) refl n) ∙ on)
      ready
      (λ y n on. threads_same (λ (q : Option Thread). option_map_or (λ (r : Thread). is_woken_for y r r.place) q false) refl n ∙ on)

  -- ---- All of it

  pub made_in_order : InOrderIf b c (record x { core = t })
  made_in_order = record {
    codes = o.codes;
    in_place = record { placed = placed; runs = λ n e. stays_at n Place.Running (o.in_place.runs n e) };
    strands = strands;
    directs = directs;
    works = record {
      each = λ i w e. let h = o.works.each i w e in record { push = h.push; host = h.host };
      low = o.works.low;
      made = o.works.made;
      gone = o.works.gone;
    };
    awaited = awaited;
    numbered = numbered;
    calls_there = calls_there;
    calls_named = calls_named;
    works_named = works_named;
    names = names;
    calls = calls;
    works_known = works_known;
    sets_named = record { number = o.sets_named.number; home = o.sets_named.home; once = o.sets_named.once };
    joins_named = record { tables = o.joins_named.tables; sets = o.joins_named.sets; joins = joined };
    waits = waits;
    waits_placed = waits_placed;
    kinds = kinds;
    deliveries = deliveries;
    fits = fits;
    starts = starts;
    unbegun = first;
    watched = watched;
    cancelled = cancelled;
    inside = inside;
    held = held;
    works_told = λ i w e. let h = o.works_told i w e in record { late = h.late; told = h.told; finishing = h.finishing };
    calls_told = told;
    awake = λ on. awake_stays x.turn same o.strands (λ n at. was_at n Place.Running refl at) starts_there blocked counted (o.awake on);
  }

pub prepare_keeps : PrepareKeeps
unfolding PrepareKeeps call_made add_thread add_call
prepare_keeps c p f e g group words s plain h = (
  λ m. made_in_order c (state_in m p s) (is_open p) (h m) f e g group words plain,
  record { instances = λ i. refl; handles = λ i. refl },
)
