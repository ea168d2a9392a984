-- What keeps that no wake is lost, and moves by which threads that wait or are blocked go on.
use Rattle.laws_states.proofs.{WakeCounts.woken_at, WakeCounts.woken_place}
use Rattle.laws_places.proofs.{Balance.Balance, Balance.balanced, RestLemmas.is_rest}
use Rattle.laws_places.proofs.CountedSteps.{waiter_any}
use Rattle.machine_rules.specs.Works.{is_ended_work}
use Rattle.laws_places.proofs.Laws.{[], admits, any_at, ap, arith, Bool, by_number, callers_of, CallersGoOn, Core, event_of, false, get, get-change, goes_on_at, goes_on_within, has_waiter, op_progress_of, OpProgress, if◌then◌else◌, inl, inr, InsideOps, is_behind_of, is_inside, is_some, is_there, is_woken_at, Mark, nat_tests, None, NoneAdmitted, NoneBlockedOnEnd, on_thread, Option, option_map, option_map_or, Place, place_of, push_high, put_high, Records, refl, says, set_place, Some, Subtask, suc, sym, Thread, times, true, undelivered_end, unwrap_or, WakesCounted, Why, zero, ℕ, ⊎_elim, ◌∙◌, ◌≡◌, ◌⊎◌}
use Rattle.std.proofs.Common.{ap₂}
use Rattle.laws_states.proofs.WakeTableLemmas.{waiting_of}
use Rattle.machine_data.specs.Read.{is_waiter, is_waiting_on}
use Rattle.laws_order.specs.WakesKept.{CallersBehind, NoWakeLost, OneBlocked, SwitchReady}

-- ---- From core to core

abbrev pub EaseGoesOn : Core → ℕ → Type 0
EaseGoesOn s n = (k : ℕ) × (goes_on_within k s n ≡ true)

-- Who is left out: nobody is behind such a thread, who is under one is one too, and none is behind another at the end.
pub record Leaves (out : ℕ → Type 0) (s t : Core) : Type 0 where
  pub behind : (j n : ℕ) → place_of j s ≡ Some (Place.Behind n) → out n → ⊥
  pub under : (j n : ℕ) → place_of j s ≡ Some (Place.Under n) → out n → out j
  pub ends : (n f : ℕ) → place_of n t ≡ Some (Place.Behind f) → out n → ⊥

-- each thread stays where it is, or goes on, or is left out
abbrev pub Goes : (ℕ → Type 0) → Core → Core → Type 0
Goes out s t = (n : ℕ) → (place_of n t ≡ place_of n s) ⊎ (EaseGoesOn t n ⊎ out n)

module _ (out : ℕ → Type 0) (s t : Core) (leaves : Leaves out s t) (goes : Goes out s t) where
  keeps_on : (k n : ℕ) → goes_on_within k s n ≡ true → (out n → ⊥) → EaseGoesOn t n
  keeps_on zero n h here = absurd (grind arith)
  keeps_on (suc k) n h here = ⊎_elim (λ same. by (λ m. keeps_on k m) same (place_of n s) refl h) (λ r. ⊎_elim (λ g. g) (λ o. absurd (here o)) r) (goes n)
    where
      by : ((m : ℕ) → goes_on_within k s m ≡ true → (out m → ⊥) → EaseGoesOn t m) → place_of n t ≡ place_of n s → (o : Option Place) → place_of n s ≡ o →
          goes_on_at (goes_on_within k s) o ≡ true → EaseGoesOn t n
      by rec same (Some (Place.Ready m w)) at h = (suc zero, grind (arith, same, at))
      by rec same (Some Place.Running) at h = (suc zero, grind (arith, same, at))
      by rec same (Some (Place.Under m)) at h = let r = rec m h (λ o. here (leaves.under n m at o)) in (suc r.0, let on = r.1 in grind (arith, same, at, on))
      by rec same (Some (Place.Behind f)) at h = let r = rec f h (λ o. leaves.behind n f at o) in (suc r.0, let on = r.1 in grind (arith, same, at, on))
      by rec same o at h = absurd (grind arith)

  pub callers_kept : CallersGoOn s → CallersGoOn t
  callers_kept h n f at = ⊎_elim (λ same. let r = h n f (sym same ∙ at) in keeps_on r.0 n r.1 (λ o. leaves.ends n f at o)) (λ r. ⊎_elim (λ g. g) (λ o. absurd (leaves.ends n f at o)) r) (goes n)

abbrev pub nobody : ℕ → Type 0
nobody n = ⊥

pub none_leaves : (s t : Core) → Leaves nobody s t
none_leaves s t = record { behind = λ j n at o. absurd o; under = λ j n at o. absurd o; ends = λ n f at o. absurd o }

-- it waits, is blocked or is held
abbrev pub is_still : Place → Bool
is_still (Place.Held w) = true
is_still p = is_rest p

-- What is asked of two cores, so that no wake is lost in the second where none is in the first.
pub record Moves (s t : Core) : Type 0 where
  pub callers : CallersGoOn s → CallersGoOn t
  pub still : (n : ℕ) (p : Place) → is_still p ≡ true → place_of n t ≡ Some p → (place_of n s ≡ Some p) × (op_progress_of n t ≡ op_progress_of n s)
  pub admits : (n : ℕ) (w : Why) → place_of n t ≡ Some (Place.Held w) → admits n t w ≡ admits n s w
  pub events : (n : ℕ) (sub : Subtask) → place_of n t ≡ Some (Place.Blocked sub) → (event_of sub t ≡ event_of sub s) ⊎ (undelivered_end (event_of sub t) ≡ None)
  pub works : (sub : Subtask) → is_ended_work sub t ≡ is_ended_work sub s
  pub counts : (y j : ℕ) → is_waiter y j t ≡ true → is_waiter y j s ≡ true → Balance y s t
  pub behind : CallersBehind s → CallersBehind t
  pub switch : SwitchReady s → SwitchReady t

outside : (p : Place) (f : OpProgress) → is_still p ≡ false → is_inside p f ≡ true
outside p f h = grind arith

module _ {s t : Core} (m : Moves s t) where
  held_kept : NoneAdmitted s → NoneAdmitted t
  held_kept h n w at = m.admits n w at ∙ h n w (m.still n (Place.Held w) refl at).0

  inside_kept : InsideOps s → InsideOps t
  inside_kept h n p at = by (is_still p) refl
    where
      by : (b : Bool) → is_still p ≡ b → is_inside p (op_progress_of n t) ≡ true
      by true is = let r = m.still n p is at in ap (is_inside p) r.1 ∙ h n p r.0
      by false is = outside p (op_progress_of n t) is

  alone_kept : OneBlocked s → OneBlocked t
  alone_kept h n k sub at too = h n k sub (m.still n (Place.Blocked sub) refl at).0 (m.still k (Place.Blocked sub) refl too).0

  blocked_kept : NoneBlockedOnEnd s → NoneBlockedOnEnd t
  blocked_kept h = record {
    events = λ n sub at. ⊎_elim (λ same. ap undelivered_end same ∙ h.events n sub (m.still n (Place.Blocked sub) refl at).0) (λ none. none) (m.events n sub at);
    works = λ n sub at. m.works sub ∙ h.works n sub (m.still n (Place.Blocked sub) refl at).0;
  }

  waiter_was : (y j : ℕ) → is_waiter y j t ≡ true → is_waiter y j s ≡ true
  waiter_was y j h = let r = waiting_of y (place_of j t) h in
      ap (λ (o : Option Place). option_map_or (is_waiting_on y) o false) ((m.still j (Place.Waiting y r.0) refl r.1).0 ∙ sym r.1) ∙ h

  counted_kept : WakesCounted s → WakesCounted t
  unfolding has_waiter
  counted_kept h y has =
      let r = any_at (λ (u : Thread). is_waiting_on y u.place) t.threads has in
      let now : is_waiter y r.0 t ≡ true = let on = r.1 in grind (arith, on) in
      let was = waiter_was y r.0 now in
      balanced y s t (m.counts y r.0 now was) (h y (waiter_any y r.0 s was))

  pub moves_keep : NoWakeLost s → NoWakeLost t
  moves_keep h = record {
    counted = counted_kept h.counted;
    callers = m.callers h.callers;
    held = held_kept h.held;
    blocked = blocked_kept h.blocked;
    inside = inside_kept h.inside;
    alone = alone_kept h.alone;
    behind = m.behind h.behind;
    switch = m.switch h.switch;
  }

-- ---- Threads that wait or are blocked go on

-- Who waits or is blocked may become ready; else all threads stay where they are.
pub record Eases (s t : Core) : Type 0 where
  pub place : (n : ℕ) → (place_of n t ≡ place_of n s) ⊎ ((p : Place) × ((place_of n s ≡ Some p) × ((is_rest p ≡ true) × ((w : Why) × (place_of n t ≡ Some (Place.Ready Mark.High w))))))
  pub far : (n : ℕ) → op_progress_of n t ≡ op_progress_of n s
  pub admits : (n : ℕ) (w : Why) → admits n t w ≡ admits n s w
  pub callers : t.callers ≡ s.callers
  pub switch : t.queues.switch ≡ s.queues.switch

pub eases_after : {s t u : Core} → Eases s t → Eases t u → Eases s u
eases_after {s = s} {t = t} {u = u} a b = record {
  place = λ n. ⊎_elim (λ same. ⊎_elim (λ first. inl (same ∙ first)) (λ r. inr (r.0, (r.1.0, (r.1.1.0, (r.1.1.1.0, same ∙ r.1.1.1.1))))) (a.place n))
      (λ r. ⊎_elim (λ first. inr (r.0, (sym first ∙ r.1.0, (r.1.1.0, r.1.1.1)))) (λ q. absurd (let at = q.1.1.1.1 in let rest = r.1.0 in let kind = r.1.1.0 in grind arith)) (a.place n)) (b.place n);
  far = λ n. b.far n ∙ a.far n;
  admits = λ n w. b.admits n w ∙ a.admits n w;
  callers = b.callers ∙ a.callers;
  switch = b.switch ∙ a.switch;
}

pub eases_same : (s t : Core) → t.threads ≡ s.threads → t.callers ≡ s.callers → t.queues.switch ≡ s.queues.switch → ((n : ℕ) (w : Why) → admits n t w ≡ admits n s w) → Eases s t
eases_same s t threads callers switch same = record {
  place = λ n. inl (ap (λ (r : Records Thread). option_map (λ (u : Thread). u.place) (get r n)) threads);
  far = λ n. ap (λ (r : Records Thread). option_map_or (λ (u : Thread). u.op_progress) (get r n) OpProgress.Fresh) threads;
  admits = same;
  callers = callers;
  switch = switch;
}

put_admits : (k n : ℕ) (w v : Why) (s : Core) → admits n (put_high k w s) v ≡ admits n s v
unfolding put_high push_high set_place on_thread
put_admits k n w Why.Start s = grind (arith, nat_tests, get-change)
put_admits k n w (Why.Delivery d) s = grind (arith, nat_tests, get-change)
put_admits k n w Why.Resumption s = refl

pub eases_put : (k : ℕ) (p : Place) (w : Why) (s : Core) → place_of k s ≡ Some p → is_rest p ≡ true → Eases s (put_high k w s)
unfolding put_high push_high set_place on_thread
eases_put k p w s at rest = record {
  place = λ n. by_number n k _ (λ e. inr (p, (ap (λ (i : ℕ). place_of i s) e ∙ at, (rest, (w, grind (arith, nat_tests, get-change, e, at)))))) (λ apart. inl (grind (arith, nat_tests, get-change, apart)));
  far = λ n. grind (arith, nat_tests, get-change);
  admits = λ n v. put_admits k n w v s;
  callers = refl;
  switch = refl;
}

-- so what is asked of places is so
module _ {s t : Core} (e : Eases s t) where
  eased_goes : Goes nobody s t
  eased_goes n = ⊎_elim inl (λ r. inr (inl (suc zero, let at = r.1.1.1.1 in grind (arith, at)))) (e.place n)

  eased_still : (n : ℕ) (p : Place) → is_still p ≡ true → place_of n t ≡ Some p → (place_of n s ≡ Some p) × (op_progress_of n t ≡ op_progress_of n s)
  eased_still n p still at = (⊎_elim (λ same. sym same ∙ at) (λ r. absurd (let now = r.1.1.1.1 in grind arith)) (e.place n), e.far n)

  eased_behind : CallersBehind s → CallersBehind t
  eased_behind h n f = listed ∙ (h n f ∙ sym (ap₂ (λ (b : Bool) (i : ℕ). if b then i else 0) there says_same))
    where
      there : is_there f t ≡ is_there f s
      there = ⊎_elim (λ same. ap (λ (o : Option Place). is_some o) same) (λ r. ap (λ (o : Option Place). is_some o) (r.1.1.1.1) ∙ sym (ap (λ (o : Option Place). is_some o) r.1.0)) (e.place f)

      listed : times n (callers_of f t) ≡ times n (callers_of f s)
      listed = ap (λ c. times n (unwrap_or (get c f) [])) e.callers

      says_same : says (is_behind_of f) (place_of n t) ≡ says (is_behind_of f) (place_of n s)
      says_same = ⊎_elim (λ same. ap (says (is_behind_of f)) same) (λ r. let at = r.1.0 in let rest = r.1.1.0 in let now = r.1.1.1.1 in grind (arith, at, rest, now)) (e.place n)

  eased_switch : SwitchReady s → SwitchReady t
  eased_switch h m is = let was = h m (sym e.switch ∙ is) in
      ⊎_elim (λ same. grind (arith, was, same)) (λ r. absurd (let at = r.1.0 in let rest = r.1.1.0 in grind (arith, was, at, rest))) (e.place m)

  -- who is woken stays so
  pub eased_woken : (y n : ℕ) → is_woken_at y n s ≡ true → is_woken_at y n t ≡ true
  eased_woken y n on = let was = sym (woken_at y n s) ∙ on in let far = e.far n in woken_at y n t ∙
      ⊎_elim (λ same. ap (λ (o : Option Place). woken_place y o (op_progress_of n t)) same ∙ (ap (λ (f : OpProgress). woken_place y (place_of n s) f) far ∙ was))
      (λ r. absurd (let at = r.1.0 in let rest = r.1.1.0 in grind (arith, was, at, rest))) (e.place n)

  pub eased_moves : ((n : ℕ) (sub : Subtask) → place_of n t ≡ Some (Place.Blocked sub) → (event_of sub t ≡ event_of sub s) ⊎ (undelivered_end (event_of sub t) ≡ None)) →
      ((sub : Subtask) → is_ended_work sub t ≡ is_ended_work sub s) →
      ((y j : ℕ) → is_waiter y j t ≡ true → is_waiter y j s ≡ true → Balance y s t) → Moves s t
  eased_moves events works counts = record {
    callers = callers_kept nobody s t (none_leaves s t) eased_goes;
    still = eased_still;
    admits = λ n w at. e.admits n w;
    events = events;
    works = works;
    counts = counts;
    behind = eased_behind;
    switch = eased_switch;
  }
