-- A spawn by the host, and the abort of one, keep order, whosever turn it is.
use Rattle.laws_order.proofs.HostCallLemmas.{of_hosts}
use Rattle.laws_order.proofs.StayLemmas.{awake_stays}
use Rattle.std.proofs.Common.{arith, refl}
use Rattle.std.proofs.lemmas.Bool.Decides.{nat_tests}
use Rattle.std.specs.Prelude.{false, List, None, [], ◌∷◌, true, ℕ, ◌≡◌}
use Rattle.laws_states.specs.WakeLaw.{WakesCounted}
use Rattle.machine_data.specs.Core.{Core, Unscripted}
use Rattle.machine_data.proofs.CommuteLemmas.{get-change}
use Rattle.machine_data.specs.Maps.{get-insert}
use Rattle.machine_data.specs.Read.{event_of, is_ready_member, phase_of, undelivered_end}
use Rattle.machine_data.specs.Write.{add_work, count_work, on_work, push_high, set_phase}
use Rattle.machine_data.specs.declared.component.Component.{Component}
use Rattle.machine_data.specs.declared.component.HostDef.{HostDef}
use Rattle.machine_data.specs.declared.label.MainLabel.TheVariants as main_label
use Rattle.machine_data.specs.declared.records.Subtask.{Subtask}
use Rattle.machine_data.specs.declared.records.Subtask.TheVariants as subtask
use Rattle.machine_data.specs.declared.records.Turn.{Turn}
use Rattle.machine_data.specs.declared.records.WorkCaller.TheVariants as work_caller
use Rattle.laws_places.proofs.BlockedLemmas.{blocked_stay}
use Rattle.machine_rules.specs.Works.{is_ended_work}
use Rattle.laws_places.proofs.CallersSteps.{SamePlaces}
use Rattle.laws_places.proofs.CountedSteps.{counted_stay}
use Rattle.machine_rules.specs.Calls.{next_work, work_queued}
use Rattle.machine_rules.specs.MainOps.{Abort, Spawn, main_aborted, main_spawned}
use Rattle.ops_turns.proofs.KeptLemmas.{acted}
use Rattle.machine_rules.specs.Scripts.{op_of, script_of}
use Rattle.ops_turns.specs.KeptTurns.{AbortInOrder, SpawnInOrder}
use Rattle.ops_turns.specs.Turn.{CoreInOrder, state_at}

-- the component with these hosts
abbrev with_hosts : List HostDef → Component → Component
with_hosts hs c = record c { hosts = hs }

in_turn_with : (c : Component) (hs : List HostDef) (p : Turn) (s : Core) → CoreInOrder c p s → CoreInOrder (with_hosts hs c) p s
unfolding op_of script_of
in_turn_with c hs p s h = record { order = λ m. of_hosts hs c (state_at s m p) (h.order m); there = h.there; handles = h.handles }

module _ (host : HostDef) (s : Core) where
  t : Core
  t = work_queued work_caller.Spawn host None s

  same : SamePlaces s t
  unfolding t work_queued push_high add_work count_work
  same = record { kept = λ n there. refl; back = λ n p held at. at; none = λ m none low. none }

  -- a new work has no event, and is in no set
  event_stays : (sub : Subtask) → undelivered_end (event_of sub s) ≡ None → undelivered_end (event_of sub t) ≡ None
  unfolding t work_queued push_high add_work count_work
  event_stays (subtask.Guest k) none = none
  event_stays (subtask.Host i) none = grind (arith, nat_tests, get-insert)

  live_stays : (sub : Subtask) → is_ended_work sub s ≡ false → is_ended_work sub t ≡ false
  unfolding t work_queued push_high add_work count_work
  live_stays (subtask.Guest k) live = refl
  live_stays (subtask.Host i) live = grind (arith, nat_tests, get-insert)

  ready_stays : (y : ℕ) (sub : Subtask) → is_ready_member y sub t ≡ true → is_ready_member y sub s ≡ true
  unfolding t work_queued push_high add_work count_work
  ready_stays y (subtask.Guest k) on = on
  ready_stays y (subtask.Host i) on = grind (arith, nat_tests, get-insert)

  counted : WakesCounted s → WakesCounted t
  unfolding t work_queued push_high add_work count_work
  counted = counted_stay (λ y j on. on) ready_stays (λ y j on. on)

pub spawn_in_order : SpawnInOrder
unfolding t main_spawned work_queued push_high add_work count_work
spawn_in_order c p host s in_turn =
    let d = with_hosts (host ∷ []) c in
    in_turn_with d c.hosts p (work_queued work_caller.Spawn host None s)
    (acted d p (Spawn 0) (main_label.Spawn 1 (next_work s)) s (work_queued work_caller.Spawn host None s) refl refl (λ n at. at)
    (awake_stays p (same host s) (in_turn.order Unscripted).strands (λ n at. at) (λ there. there) (blocked_stay (λ n sub at. at) (event_stays host s) (live_stays host s)) (counted host s))
    (in_turn_with c (host ∷ []) p s in_turn))

module _ (i : ℕ) (s : Core) where
  u : Core
  u = main_aborted i s

  same_places : SamePlaces s u
  unfolding u main_aborted set_phase on_work
  same_places = record { kept = λ n there. refl; back = λ n p held at. at; none = λ m none low. none }

  events_kept : (sub : Subtask) → undelivered_end (event_of sub s) ≡ None → undelivered_end (event_of sub u) ≡ None
  unfolding u main_aborted set_phase on_work
  events_kept (subtask.Guest k) none = none
  events_kept (subtask.Host j) none = grind (arith, nat_tests, get-change)

  live_kept : (sub : Subtask) → is_ended_work sub s ≡ false → is_ended_work sub u ≡ false
  unfolding u main_aborted set_phase on_work
  live_kept (subtask.Guest k) live = refl
  live_kept (subtask.Host j) live = grind (arith, nat_tests, get-change)

  members_kept : (y : ℕ) (sub : Subtask) → is_ready_member y sub u ≡ true → is_ready_member y sub s ≡ true
  unfolding u main_aborted set_phase on_work
  members_kept y (subtask.Guest k) on = on
  members_kept y (subtask.Host j) on = grind (arith, nat_tests, get-change)

  wakes_kept : WakesCounted s → WakesCounted u
  unfolding u main_aborted set_phase on_work
  wakes_kept = counted_stay (λ y j on. on) members_kept (λ y j on. on)

pub abort_in_order : AbortInOrder
unfolding u main_aborted set_phase on_work
abort_in_order c p i s is in_turn =
    acted c p (Abort i) (main_label.Abort (phase_of i s) 1) s (main_aborted i s) is refl (λ n at. at)
    (awake_stays p (same_places i s) (in_turn.order Unscripted).strands (λ n at. at) (λ there. there) (blocked_stay (λ n sub at. at) (events_kept i s) (live_kept i s)) (wakes_kept i s)) in_turn
