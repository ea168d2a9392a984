-- What the rules of ops on subtasks show.
use Rattle.machine_rules.specs.Scripts.{value_of}
use Rattle.std.proofs.Common.{refl}
use Rattle.std.specs.Prelude.{List, None, Option, Some, is_some, not, ℕ, ◌≡◌}
use Rattle.ops_dispatch.proofs.RuleLemmas.{ShowsAs, ShowsFor, drop_set_shows, here, if_found, if_lawful, if_traps, new_set_shows, poll_shows, two_traps, waiting_shows}
use Rattle.machine_data.specs.Core.{Core}
use Rattle.machine_data.specs.Labels.{Choice, join_label}
use Rattle.machine_data.specs.Moves.{passes_check}
use Rattle.machine_data.specs.Read.{at_handle_limit, event_of, fits, instance_of, is_watched, join_of, new_handle, set_at, subtask_at, subtask_ended}
use Rattle.machine_data.specs.Statuses.{packed}
use Rattle.machine_data.specs.declared.component.Callee.{Callee}
use Rattle.machine_data.specs.declared.component.ExportKind.{ExportKind}
use Rattle.machine_data.specs.declared.label.CallLabel.TheVariants as call_label
use Rattle.machine_data.specs.declared.label.Label.TheVariants as label
use Rattle.machine_data.specs.declared.label.ThreadLabel.TheVariants as thread_label
use Rattle.machine_data.specs.declared.op.SetOp.{SetOp}
use Rattle.machine_data.specs.declared.op.SetOp.TheVariants as set_op
use Rattle.machine_data.specs.declared.records.Subtask.{Subtask}
use Rattle.machine_data.specs.declared.trap.Trap.TheVariants as trap
use Rattle.machine_data.specs.declared.statuses.Status.{Status}
use Rattle.machine_data.specs.declared.statuses.Status.TheVariants as status
use Rattle.machine_rules.specs.Calls.{AtOnce, Failing, FirstPoll, Later, answered_by, call_host_by, call_resumes, call_status_by, call_sync_host_by, call_sync_host_stops, call_sync_status_by, call_sync_stops, call_with_handle, enter_rule, enter_runs, host_with_handle, next_thread, next_work}
use Rattle.machine_rules.specs.Cancels.{drop_by, drop_rule}
use Rattle.machine_rules.specs.Finish.{Doer, NoAnswer, OneNumber, finish}
use Rattle.machine_rules.specs.Outcome.{outcome_of_label}
use Rattle.machine_rules.specs.Progress.{Continues, Progress, Stops, may, trap_if}
use Rattle.machine_rules.specs.Sets.{join_done_by, join_rule, join_to_by, may_wake_new, moved_over, set_rule}

-- whoever goes on, what is shown gives no outcome
abbrev pub anybody : ℕ → Type 0
anybody m = Unit {0}

abbrev pub IsQuiet : Progress → Type 0
IsQuiet p = ShowsFor anybody p

-- ---- Joins and drops

join_quiet : (n : ℕ) (w : Option ℕ) → outcome_of_label (join_label n w) ≡ None
join_quiet n None = refl
join_quiet n (Some k) = refl

module _ (n : ℕ) (s : Core) where
  joins_shows : (d : Doer) (sub : Subtask) (w x : Option ℕ) → ShowsAs n (join_done_by d n sub w s x)
  joins_shows d sub w x =
      let b = may_wake_new (event_of sub s) x w s in
      let done = Continues (join_label n w) (finish d n NoAnswer (moved_over sub x w s)) n in
      if_traps (here n) (is_watched (join_of sub s)) trap.WaitableSyncAndAsync (may b done) (if_lawful (here n) b done (refl, join_quiet n w))

  to_shows : (d : Doer) (y : ℕ) (w : Option ℕ) (sub : Subtask) → ShowsAs n (join_to_by d n y w s sub)
  to_shows d ℕ.zero w sub = joins_shows d sub w None
  to_shows d (ℕ.suc h) w sub = if_found (here n) (set_at (instance_of n s) (ℕ.suc h) s) trap.BadHandle (λ x. join_done_by d n sub w s (Some x)) (λ x. joins_shows d sub w (Some x))

  pub join_shows : (d : Doer) (h y : ℕ) (w : Option ℕ) → ShowsAs n (join_rule d n h y w s)
  join_shows d h y w = if_found (here n) (subtask_at (instance_of n s) h s) trap.BadHandle (join_to_by d n y w s) (to_shows d y w)

  pub set_shows : (d : Doer) (ch : Choice) (o : SetOp) → ShowsAs n (set_rule d n s ch o)
  set_shows d ch (set_op.New r) = new_set_shows d n ch s
  set_shows d ch (set_op.Drop x) = drop_set_shows d n ch s (value_of n s x)
  set_shows d ch (set_op.Wait r x) = waiting_shows d n ch s (value_of n s x)
  set_shows d ch (set_op.Poll r x) = poll_shows d n ch s (value_of n s x)
  set_shows d ch (set_op.Join x y) = join_shows d (value_of n s x) (value_of n s y) ch.woken

  pub drop_shows : (d : Doer) (h : ℕ) → ShowsAs n (drop_rule d n h s)
  drop_shows d h = if_found (here n) (subtask_at (instance_of n s) h s) trap.BadHandle (drop_by d n h s)
      (λ sub. if_traps (here n) (is_watched (join_of sub s)) _ _ (if_traps (here n) (not (subtask_ended sub s)) _ _ (if_traps (here n) (is_some (event_of sub s)) _ _ (refl, refl))))

  -- ---- Calls of exports

  pending_shows : (r : Doer) (k : ℕ) (e : Status) → ShowsAs n (trap_if (at_handle_limit s) trap.HandleLimit (Continues (label.Call (call_label.Call (packed (new_handle (instance_of n s) s) e) n)) (answered_by r n (packed (new_handle (instance_of n s) s) e) (call_with_handle n k s)) n))
  pending_shows r k e = if_traps (here n) (at_handle_limit s) trap.HandleLimit (Continues (label.Call (call_label.Call (packed (new_handle (instance_of n s) s) e) n)) (answered_by r n (packed (new_handle (instance_of n s) s) e) (call_with_handle n k s)) n) (refl, refl)

  pub status_shows : (r : Doer) (k : ℕ) (e : Status) → ShowsAs n (call_status_by r n k s e)
  status_shows r k status.Returned = (refl, refl)
  status_shows r k status.Starting = pending_shows r k status.Starting
  status_shows r k status.Started = pending_shows r k status.Started
  status_shows r k status.StartCancelled = pending_shows r k status.StartCancelled
  status_shows r k status.ReturnCancelled = pending_shows r k status.ReturnCancelled

  stopping_shows : (k : ℕ) → ShowsAs n (trap_if (not (passes_check (instance_of n s) (call_resumes n k s))) trap.CannotBlockSyncTask (Stops (label.Thread (thread_label.Pauses n)) (call_sync_stops n k s)))
  stopping_shows k = if_traps (here n) (not (passes_check (instance_of n s) (call_resumes n k s))) trap.CannotBlockSyncTask (Stops (label.Thread (thread_label.Pauses n)) (call_sync_stops n k s)) refl

  pub sync_status_shows : (r : Doer) (k : ℕ) (e : Status) → ShowsAs n (call_sync_status_by r n k s e)
  sync_status_shows r k status.Returned = (refl, refl)
  sync_status_shows r k status.Starting = stopping_shows k
  sync_status_shows r k status.Started = stopping_shows k
  sync_status_shows r k status.StartCancelled = stopping_shows k
  sync_status_shows r k status.ReturnCancelled = stopping_shows k

  pub enter_quiet : (e : Callee) (x : ExportKind) (words : List ℕ) → IsQuiet (enter_rule n e x words s)
  enter_quiet e x words = two_traps anybody (not (fits 3 s)) (at_handle_limit s) trap.TableFull trap.HandleLimit (Continues (label.Call (call_label.Enters n (next_thread s))) (enter_runs n e x words s) (next_thread s)) (tt, refl)

  -- ---- Calls of hosts

  pub host_shows : (r : Doer) (q : ℕ) (p : FirstPoll) → ShowsAs n (call_host_by r n q s p)
  host_shows r q (AtOnce v) = (refl, refl)
  host_shows r q Failing = tt
  host_shows r q (Later host) =
      let v = packed (new_handle (instance_of n s) s) status.Started in
      two_traps (here n) (not (fits 1 s)) (at_handle_limit s) trap.TableFull trap.HandleLimit (Continues (label.Call (call_label.CallPolls v n (next_work s))) (finish r n (OneNumber v) (host_with_handle n q host s)) n) (refl, refl)

  pub sync_host_shows : (r : Doer) (p : FirstPoll) → ShowsAs n (call_sync_host_by r n s p)
  sync_host_shows r (AtOnce v) = (refl, refl)
  sync_host_shows r Failing = tt
  sync_host_shows r (Later host) =
      two_traps (here n) (not (fits 1 s)) (not (passes_check (instance_of n s) s)) trap.TableFull trap.CannotBlockSyncTask (Stops (label.Call (call_label.PausesPolls n (next_work s))) (call_sync_host_stops n host s)) refl
