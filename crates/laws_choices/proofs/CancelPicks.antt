-- What the rules of ops on subtasks choose among: a cancel may take one of several threads.
use Rattle.laws_choices.proofs.Forms.{Picks, found, one_taken, silent, trapped}
use Rattle.laws_choices.proofs.SilentRules.{after_silent, call_silent, cancel_shows_none, drop_silent, ended_silent, first_silent, host_silent, silent_or_trap, silent_trap_if, sync_host_silent, sync_silent}
use Rattle.laws_choices.specs.Offers.{call_offer, cancel_found_offer, cancel_offer, cancel_offer_by}
use Rattle.std.proofs.Common.{refl}
use Rattle.laws_states.proofs.SettledLemmas.{known_open}
use Rattle.std.specs.Prelude.{Bool, false, if◌then◌else◌, not, true, ℕ, ◌≡◌}
use Rattle.machine_data.specs.Core.{Core}
use Rattle.machine_data.specs.Read.{event_of, instance_of, is_joined, is_nil, join_of, op_progress_of, registers_of, subtask_at, undelivered_end, was_cancelled}
use Rattle.machine_data.specs.Write.{set_join}
use Rattle.machine_data.specs.declared.component.Component.{Component}
use Rattle.machine_data.specs.declared.op.CallOp.TheVariants as call_op
use Rattle.machine_data.specs.declared.op.CallOp.{CallOp}
use Rattle.machine_data.specs.declared.records.Join.TheVariants as join
use Rattle.machine_data.specs.declared.records.OpProgress.TheVariants as op_progress
use Rattle.machine_data.specs.declared.records.OpProgress.{OpProgress}
use Rattle.machine_data.specs.declared.records.Subtask.TheVariants as subtask
use Rattle.machine_data.specs.declared.records.Subtask.{Subtask}
use Rattle.machine_rules.specs.Calls.{call_host_polled}
use Rattle.machine_rules.specs.Cancels.{AlreadyEnded, AskedBefore, Async, CallbackYields, CancelCase, Mode, OtherwiseRuns, StartNotRun, Sync, ThreadWaits, cancel_aborts_host, cancel_asks, cancel_case, cancel_found, cancel_guest, cancel_resumed, cancel_wakes, cancellable, pauses, scripted_cancel_rule, scripted_subtask_rule}
use Rattle.machine_rules.specs.Progress.{Stops}
use Rattle.machine_rules.specs.Scripts.{HasOpen, host_at, value_of, values_in}

-- the case of a waiting thread is that some may be taken
thread_waits : (ended started asked none yields : Bool) →
    (if ended then AlreadyEnded else
    if not started then StartNotRun else
    if asked then AskedBefore else
    if not none then ThreadWaits else
    if yields then CallbackYields else OtherwiseRuns) ≡ ThreadWaits → none ≡ false
thread_waits true b c d e is = absurd (cc)
thread_waits false false c d e is = absurd (cc)
thread_waits false true true d e is = absurd (cc)
thread_waits false true false false e is = refl
thread_waits false true false true true is = absurd (cc)
thread_waits false true false true false is = absurd (cc)

module _ (mode : Mode) (n r : ℕ) where
  guest_picks : (k : ℕ) (s : Core) (x : CancelCase) → cancel_case k s ≡ x → Picks (cancel_offer_by k s x) (λ w m. cancel_guest mode n r k s x)
  guest_picks k s AlreadyEnded is = silent _ (ended_silent mode n r (subtask.Guest k) s (undelivered_end (event_of (subtask.Guest k) s)))
  guest_picks k s StartNotRun is = silent _ (cancel_shows_none mode n 3)
  guest_picks k s AskedBefore is = silent _ tt
  guest_picks k s ThreadWaits is = one_taken (cancellable k s) (λ m. Stops (pauses n) (cancel_wakes n k m s)) (thread_waits _ _ _ (is_nil (cancellable k s)) _ is) (λ m. refl)
  guest_picks k s CallbackYields is = silent _ refl
  guest_picks k s OtherwiseRuns is = silent _ (after_silent mode n r (subtask.Guest k) (cancel_asks k s))

  found_picks : (s : Core) (sub : Subtask) → Picks (cancel_found_offer s sub) (λ w m. cancel_found mode n r s sub)
  found_picks s (subtask.Guest k) = trapped (is_joined (join_of (subtask.Guest k) s)) _ (guest_picks k s (cancel_case k s) refl)
  found_picks s (subtask.Host i) = silent _
      (silent_trap_if (is_joined (join_of (subtask.Host i) s)) _ _
      (silent_trap_if (was_cancelled i s) _ _ (after_silent mode n r (subtask.Host i) (cancel_aborts_host i s))))

  cancel_picks : (h : ℕ) (s : Core) (far : OpProgress) → Picks (cancel_offer n h s far) (λ w m. scripted_cancel_rule mode n r h s far)
  cancel_picks h s (op_progress.Cancels sub) = silent _ (after_silent mode n r sub (cancel_resumed n sub s))
  cancel_picks h s (op_progress.AwaitsEnd sub) =
      let t = set_join sub join.Nowhere s in silent _ (ended_silent mode n r sub t (undelivered_end (event_of sub t)))
  cancel_picks h s _ = found (subtask_at (instance_of n s) h s) _ (λ sub. found_picks s sub)

pub call_picks : (c : Component) (n : ℕ) (s : Core) (o : CallOp) → (HasOpen c → ⊥) → Picks (call_offer n s o) (λ w m. scripted_subtask_rule c n s o)
call_picks c n s (call_op.Call r q e xs) settled = silent _ (call_silent n s c r q e (values_in (registers_of n s) xs) (op_progress_of n s))
call_picks c n s (call_op.CallSync r e xs) settled = silent _ (sync_silent n s c r e (values_in (registers_of n s) xs) (op_progress_of n s))
call_picks c n s (call_op.CallHost r q h) settled = silent _ (first_silent n s (host_at c h) (call_host_polled n r q s) (known_open c settled h) (λ x. host_silent n s r q x))
call_picks c n s (call_op.CallSyncHost r h) settled = silent _ (sync_host_silent n s c r h (op_progress_of n s) (known_open c settled h))
call_picks c n s (call_op.Cancel r x) settled = cancel_picks Async n r (value_of n s x) s (op_progress_of n s)
call_picks c n s (call_op.CancelSync r x) settled = cancel_picks Sync n r (value_of n s x) s (op_progress_of n s)
call_picks c n s (call_op.Drop x) settled = silent _
    (silent_or_trap (subtask_at (instance_of n s) (value_of n s x) s) _ _ (λ sub. drop_silent n (value_of n s x) s sub))
