-- A state in order has what the facts of wakes rest on.
use Rattle.machine_data.specs.declared.op.Op.{Op}
use Rattle.laws_places.proofs.BlockedLemmas.{inside_of}
use Rattle.laws_states.proofs.Primitives.{subtask_handle}
use Rattle.laws_places.proofs.Laws.{ap, arith, Bool, cancelled_by, cancelled_call, Component, Core, get, op_progress_of, OpProgress, inl, InOrderFor, inr, is_some, nat_tests, None, Option, Place, place_of, refl, Some, State, Subtask, true, ℕ, ⊎_elim, ◌≡◌, ◌⊎◌}
use Rattle.laws_order.specs.WakesKept.{CallersBehind, OneBlocked, OrderLosesNoWake, OrderLosesNoWakeAs, SwitchReady}
use Rattle.machine_data.specs.declared.records.Call.{Call}
use Rattle.machine_rules.specs.Places.{Placed}

module _ {g : Bool} {ops : ℕ → Op} {c : Component} {s : State} (h : InOrderFor g ops c s) where
  -- inside a call: its caller alone
  both_call : (n m k : ℕ) → place_of n s.core ≡ Some (Place.Blocked (Subtask.Guest k)) → op_progress_of n s.core ≡ OpProgress.Calls (Subtask.Guest k) →
      op_progress_of m s.core ≡ OpProgress.Calls (Subtask.Guest k) → n ≡ m
  both_call n m k at far too = ⊎_elim (λ under. absurd (grind arith)) (λ awaited. by (get s.core.calls k) refl) (h.calls.inside n k far)
    where
      by : (o : Option Call) → get s.core.calls k ≡ o → n ≡ m
      by None is = absurd (⊎_elim (λ under. absurd (grind arith)) (λ awaited. absurd (grind arith)) (h.calls.inside n k far))
      by (Some r) is = let mine = (h.names.called n k far r is).0 in let other = (h.names.called m k too r is).0 in grind arith

  both_host : (n m i : ℕ) → op_progress_of n s.core ≡ OpProgress.Calls (Subtask.Host i) → op_progress_of m s.core ≡ OpProgress.Calls (Subtask.Host i) → n ≡ m
  both_host n m i far too = let mine = (h.works_known.called n i far).1 in let other = (h.works_known.called m i too).1 in grind arith

  both_await : (n m : ℕ) (sub : Subtask) → op_progress_of n s.core ≡ OpProgress.AwaitsEnd sub → op_progress_of m s.core ≡ OpProgress.AwaitsEnd sub → n ≡ m
  both_await n m (Subtask.Guest k) far too =
      let named = h.cancelled n (Subtask.Guest k) (ap cancelled_by far) in
      let mine = h.watched n (Subtask.Guest k) (ap cancelled_by far) in let other = h.watched m (Subtask.Guest k) (ap cancelled_by too) in grind (arith, nat_tests)
  both_await n m (Subtask.Host i) far too =
      let named = h.cancelled n (Subtask.Host i) (ap cancelled_by far) in
      let mine = h.watched n (Subtask.Host i) (ap cancelled_by far) in let other = h.watched m (Subtask.Host i) (ap cancelled_by too) in grind (arith, nat_tests)

  host_apart : {A : Type 0} (n m i : ℕ) → op_progress_of n s.core ≡ OpProgress.Calls (Subtask.Host i) → op_progress_of m s.core ≡ OpProgress.AwaitsEnd (Subtask.Host i) → A
  host_apart n m i far too =
      let own = (h.works_known.called n i far).1 in
      let named = h.cancelled m (Subtask.Host i) (ap cancelled_by too) in
      let r = handle_some (subtask_handle (Subtask.Host i) s.core) named in
      let async = h.works_known.async r.0 i r.1 in absurd (grind arith)
    where
      handle_some : (o : Option ℕ) → is_some o ≡ true → (x : ℕ) × (o ≡ Some x)
      handle_some (Some x) e = (x, refl)
      handle_some None e = absurd (grind arith)

  one_blocked : OneBlocked s.core
  one_blocked n m sub at too = by sub at too (inside_of sub (op_progress_of n s.core) (h.inside n (Place.Blocked sub) at)) (inside_of sub (op_progress_of m s.core) (h.inside m (Place.Blocked sub) too))
    where
      by : (sub : Subtask) → place_of n s.core ≡ Some (Place.Blocked sub) → place_of m s.core ≡ Some (Place.Blocked sub) →
          (op_progress_of n s.core ≡ OpProgress.Calls sub) ⊎ (op_progress_of n s.core ≡ OpProgress.AwaitsEnd sub) → (op_progress_of m s.core ≡ OpProgress.Calls sub) ⊎ (op_progress_of m s.core ≡ OpProgress.AwaitsEnd sub) → n ≡ m
      by sub at too (inr far) (inr other) = both_await n m sub far other
      by (Subtask.Guest k) at too (inl far) (inl other) = both_call n m k at far other
      by (Subtask.Guest k) at too (inl far) (inr other) = absurd (h.calls.apart n m k far (ap cancelled_call other))
      by (Subtask.Guest k) at too (inr far) (inl other) = absurd (h.calls.apart m n k other (ap cancelled_call far))
      by (Subtask.Host i) at too (inl far) (inl other) = both_host n m i far other
      by (Subtask.Host i) at too (inl far) (inr other) = host_apart n m i far other
      by (Subtask.Host i) at too (inr far) (inl other) = host_apart m n i other far

pub placed_behind : (s : Core) → Placed s → CallersBehind s
placed_behind s placed n f = (placed n).callers f

pub placed_switch : (s : Core) → Placed s → SwitchReady s
placed_switch s placed m is = let at = (placed m).switch in grind (arith, nat_tests, at, is)

pub order_loses_no_wake_as : OrderLosesNoWakeAs
unfolding OrderLosesNoWakeAs
order_loses_no_wake_as ops c s h on = let a = h.awake on in record {
  counted = a.counted;
  callers = a.callers;
  held = h.held;
  blocked = a.blocked;
  inside = h.inside;
  alone = one_blocked h;
  behind = placed_behind s.core h.in_place.placed;
  switch = placed_switch s.core h.in_place.placed;
}

pub order_loses_no_wake : OrderLosesNoWake
unfolding OrderLosesNoWake OrderLosesNoWakeAs
order_loses_no_wake c s h on = order_loses_no_wake_as _ c s h on
