-- What the rule of a cancel is by how far the op has come, and what it shows.
use Rattle.ops_dispatch.proofs.Shows.{ShowsAs, here, if_found, if_traps}
use Rattle.ops_dispatch.specs.Runner.{awaits_end, waits_behind}
use Rattle.std.proofs.Common.{refl}
use Rattle.std.specs.Prelude.{Bool, None, Option, Some, false, not, true, ℕ, ◌≡◌}
use Rattle.machine_data.specs.Core.{Core}
use Rattle.machine_data.specs.Moves.{passes_check}
use Rattle.machine_data.specs.Read.{event_of, instance_of, is_joined, join_of, subtask_at, subtask_ended, undelivered_end, was_cancelled}
use Rattle.machine_data.specs.Write.{set_join}
use Rattle.machine_data.specs.declared.records.OpProgress.{OpProgress}
use Rattle.machine_data.specs.declared.records.OpProgress.TheVariants as op_progress
use Rattle.machine_data.specs.declared.records.Join.TheVariants as join
use Rattle.machine_data.specs.declared.records.Subtask.{Subtask}
use Rattle.machine_data.specs.declared.records.Subtask.TheVariants as subtask
use Rattle.machine_data.specs.declared.trap.Trap.TheVariants as trap
use Rattle.machine_data.specs.declared.statuses.Status.{Status}
use Rattle.machine_rules.specs.Cancels as cancels
use Rattle.machine_rules.specs.Finish.{Doer}
use Rattle.machine_rules.specs.Cancels.{CancelCase, Mode, after_cancel_by, cancel_aborts_host, cancel_asks, cancel_by, cancel_case, cancel_ended_by, cancel_found_by, cancel_guest_by, cancel_resumed, cancel_rule, cancel_stops, cancel_subtask_by, cancel_unended_by, pauses}
use Rattle.machine_rules.specs.Progress.{Stops}

-- ---- By how far the op has come

pub behind_at : (h : OpProgress) (sub : Subtask) → waits_behind h ≡ Some sub → h ≡ op_progress.Cancels sub
behind_at (op_progress.Cancels other) sub e = cc
behind_at h sub e = absurd (cc)

pub awaits_at : (h : OpProgress) (sub : Subtask) → awaits_end h ≡ Some sub → h ≡ op_progress.AwaitsEnd sub
awaits_at (op_progress.AwaitsEnd other) sub e = cc
awaits_at h sub e = absurd (cc)

pub cancel_fresh : (mode : Mode) (n : ℕ) (r : Doer) (h : ℕ) (s : Core) (f : OpProgress) → waits_behind f ≡ None → awaits_end f ≡ None → cancel_rule r mode n h s f ≡ cancel_rule r mode n h s op_progress.Fresh
cancel_fresh mode n r h s (op_progress.Cancels sub) a b = absurd (cc)
cancel_fresh mode n r h s (op_progress.AwaitsEnd sub) a b = absurd (cc)
cancel_fresh mode n r h s op_progress.Fresh a b = refl
cancel_fresh mode n r h s (op_progress.Waits x) a b = refl
cancel_fresh mode n r h s (op_progress.Calls sub) a b = refl
cancel_fresh mode n r h s (op_progress.Answered v) a b = refl
cancel_fresh mode n r h s op_progress.Suspends a b = refl
cancel_fresh mode n r h s op_progress.Yields a b = refl

-- ---- What it shows

ended_shows : (mode : Mode) (n : ℕ) (r : Doer) (sub : Subtask) (s : Core) (o : Option Status) → ShowsAs n (cancel_ended_by r mode n sub s o)
ended_shows mode n r sub s None = tt
ended_shows cancels.Async n r sub s (Some e) = (refl, refl)
ended_shows cancels.Sync n r sub s (Some e) = (refl, refl)

unended_shows : (mode : Mode) (n : ℕ) (r : Doer) (sub : Subtask) (s : Core) → ShowsAs n (cancel_unended_by r mode n sub s)
unended_shows cancels.Async n r sub s = (refl, refl)
unended_shows cancels.Sync n r sub s = if_traps (here n) (not (passes_check (instance_of n s) s)) trap.CannotBlockSyncTask (Stops (pauses n) (cancel_stops n sub s)) refl

by_end_shows : (mode : Mode) (n : ℕ) (r : Doer) (sub : Subtask) (s : Core) (b : Bool) → ShowsAs n (cancel_by r mode n sub s b)
by_end_shows mode n r sub s true = ended_shows mode n r sub s (undelivered_end (event_of sub s))
by_end_shows mode n r sub s false = unended_shows mode n r sub s

guest_shows : (mode : Mode) (n : ℕ) (r : Doer) (k : ℕ) (s : Core) (x : CancelCase) → ShowsAs n (cancel_guest_by r mode n k s x)
guest_shows mode n r k s cancels.AlreadyEnded = ended_shows mode n r (subtask.Guest k) s (undelivered_end (event_of (subtask.Guest k) s))
guest_shows cancels.Async n r k s cancels.StartNotRun = (refl, refl)
guest_shows cancels.Sync n r k s cancels.StartNotRun = (refl, refl)
guest_shows mode n r k s cancels.AskedBefore = tt
guest_shows mode n r k s cancels.ThreadWaits = λ m. refl
guest_shows mode n r k s cancels.CallbackYields = refl
guest_shows mode n r k s cancels.OtherwiseRuns = by_end_shows mode n r (subtask.Guest k) (cancel_asks k s) (subtask_ended (subtask.Guest k) (cancel_asks k s))

subtask_shows : (mode : Mode) (n : ℕ) (r : Doer) (s : Core) (sub : Subtask) → ShowsAs n (cancel_subtask_by r mode n s sub)
subtask_shows mode n r s (subtask.Guest k) = guest_shows mode n r k s (cancel_case k s)
subtask_shows mode n r s (subtask.Host i) =
    if_traps (here n) (was_cancelled i s) trap.SubtaskCancelAfterTerminal (after_cancel_by r mode n (subtask.Host i) (cancel_aborts_host i s))
    (by_end_shows mode n r (subtask.Host i) (cancel_aborts_host i s) (subtask_ended (subtask.Host i) (cancel_aborts_host i s)))

module _ (mode : Mode) (n : ℕ) (r : Doer) (h : ℕ) (s : Core) where
  fresh_cancels : ShowsAs n (cancel_rule r mode n h s op_progress.Fresh)
  fresh_cancels = if_found (here n) (subtask_at (instance_of n s) h s) trap.BadHandle (cancel_found_by r mode n s)
      (λ sub. if_traps (here n) (is_joined (join_of sub s)) trap.WaitableSyncAndAsync (cancel_subtask_by r mode n s sub) (subtask_shows mode n r s sub))

  pub cancel_shows : (f : OpProgress) → ShowsAs n (cancel_rule r mode n h s f)
  cancel_shows (op_progress.Cancels sub) = by_end_shows mode n r sub (cancel_resumed n sub s) (subtask_ended sub (cancel_resumed n sub s))
  cancel_shows (op_progress.AwaitsEnd sub) =
      let t = set_join sub join.Nowhere s in
      ended_shows mode n r sub t (undelivered_end (event_of sub t))
  cancel_shows op_progress.Fresh = fresh_cancels
  cancel_shows (op_progress.Waits x) = fresh_cancels
  cancel_shows (op_progress.Calls sub) = fresh_cancels
  cancel_shows (op_progress.Answered v) = fresh_cancels
  cancel_shows op_progress.Suspends = fresh_cancels
  cancel_shows op_progress.Yields = fresh_cancels
