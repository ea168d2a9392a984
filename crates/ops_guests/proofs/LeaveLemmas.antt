-- A sync export's exit, step by step.
use Rattle.std.proofs.Common.{ap, refl, subst, sym, ◌∙◌}
use Rattle.std.specs.Prelude.{Bool, Some, Option, [], false, option_map, unwrap_or, ℕ, ◌<◌, ◌≡◌}
use Rattle.task_table.specs.declared.id.TableId.{TableId}
use Rattle.task_wait.specs.declared.keys.GuestTaskKey.{GuestTaskKey}
use Rattle.task_wait.specs.declared.keys.ThreadKey.{ThreadKey}
use Rattle.machine_data.specs.Core.{Core}
use Rattle.machine_data.specs.Moves.{checked, ended, stopped}
use Rattle.machine_data.specs.Read.{foot_of, instance_of, is_explicit, join_of, place_of, register_of, saved_own_of, task_of, under_of}
use Rattle.machine_data.specs.Write.{on_call, on_instance, set_do_not_suspend, set_end}
use Rattle.machine_data.specs.declared.records.CallEnd.{CallEnd}
use Rattle.machine_data.specs.declared.records.Place.TheVariants as place
use Rattle.ops_moves.proofs.UntouchedLemmas.{on_instance_untouched, set_end_untouched}
use Rattle.ops_guests.proofs.BesideLemmas.{quiet_stand, stopped_stand, under_place, waits_quiet}
use Rattle.machine_data.specs.declared.records.Subtask.{Subtask}
use Rattle.machine_data.specs.declared.records.Subtask.TheVariants as subtask
use Rattle.ops_moves.proofs.TellLemmas.{Quiet, can_still}
use Rattle.ops_moves.specs.Idle.{CanPublish}
use Rattle.ops_moves.specs.Stops.{MayStop}
use Rattle.ops_guests.proofs.FootLemmas.{checked_under, foot_may_still, quiet_under, under_after}
use Rattle.ops_guests.proofs.RunLemmas.{KeepsUnder, own_apart, stands_on}
use Rattle.ops_guests.proofs.TellingLemmas.{all_wait, returned_stands, returned_under}
use Rattle.ops_guests.specs.Running.{IsRunning}
use Rattle.machine_rules.proofs.PlacingLemmas.{shifted_explicit, shifted_task, shifts_shifted}
use Rattle.machine_rules.proofs.WalkMoves.{checked_shifts}
use Rattle.machine_rules.specs.Ends.{exit_restores, returned, sync_exits}
use Rattle.core_primitives.specs.Apart.{IsApart}
use Rattle.core_primitives.specs.StateView.{StateView, call_of, on_core, thread_of}

restored_quiet : (n : ℕ) (s : Core) → Quiet s (exit_restores n s)
unfolding exit_restores set_do_not_suspend on_instance
restored_quiet n s = record { untouched = on_instance_untouched (instance_of n s) (λ r. record r { do_not_suspend = unwrap_or (saved_own_of n s) false }) s; joins = λ sub. go sub; sets = refl }
  where
    go : (sub : Subtask) → join_of sub (exit_restores n s) ≡ join_of sub s
    go (subtask.Guest q) = refl
    go (subtask.Host i) = refl

abbrev pub left : ℕ → ℕ → ℕ → Option ℕ → Core → Core
left n k v w s = returned k v w (exit_restores n s)

module _ (n : TableId ThreadKey) (k : TableId GuestTaskKey) (waiter : Option (TableId ThreadKey)) where
  pub can_after_restore : (j : ℕ) (s t : StateView) → call_of s k ≡ j → CanPublish (subtask.Guest j) waiter s → t ≡ on_core (exit_restores (thread_of s n)) s → CanPublish (subtask.Guest (call_of t k)) waiter t
  can_after_restore j s t at can e = can_still (λ v. subtask.Guest (call_of v k)) waiter (exit_restores (thread_of s n)) s t refl e (restored_quiet (thread_of s n) s.core) (subst (λ (q : ℕ). CanPublish (subtask.Guest q) waiter s) (sym at) can)

  -- the restoration and the return, as one
  pub left_is : (v : ℕ) (s t u : StateView) → t ≡ on_core (exit_restores (thread_of s n)) s → u ≡ on_core (returned (call_of t k) v (option_map (λ id. thread_of t id) waiter)) t → u ≡ on_core (left (thread_of s n) (call_of s k) v (option_map (λ id. thread_of s id) waiter)) s
  left_is v s t u e d = rw (d, e) refl

  left_stand : (j v : ℕ) (s : StateView) → IsRunning (thread_of s n) s.core → CanPublish (subtask.Guest j) waiter s → IsRunning (thread_of s n) (left (thread_of s n) (call_of s k) v (option_map (λ id. thread_of s id) waiter) s.core)
  left_stand j v s st can =
      let N = thread_of s n in
      let u = (restored_quiet N s.core).untouched in
      returned_stands N place.Running refl (call_of s k) v _ (exit_restores N s.core) (waits_quiet _ s.core (exit_restores N s.core) u (all_wait waiter s can.waits)) (quiet_stand N place.Running [] s.core (exit_restores N s.core) u st)

  pub left_may_stop : (f : TableId ThreadKey) (j v : ℕ) (s u : StateView) → IsRunning (thread_of s n) s.core → CanPublish (subtask.Guest j) waiter s → thread_of s f ≡ foot_of (thread_of s n) s.core → u ≡ on_core (left (thread_of s n) (call_of s k) v (option_map (λ id. thread_of s id) waiter)) s → MayStop (thread_of u f) u.core
  left_may_stop f j v s u st can foot e =
      let N = thread_of s n in
      let w = option_map (λ id. thread_of s id) waiter in
      let q = (restored_quiet N s.core).untouched in
      foot_may_still n f place.Running (left N (call_of s k) v w) s u refl foot e
      (under_after s.core (exit_restores N s.core) (left N (call_of s k) v w s.core) (quiet_under s.core (exit_restores N s.core) q) (returned_under (call_of s k) v w (exit_restores N s.core) (waits_quiet w s.core (exit_restores N s.core) q (all_wait waiter s can.waits))))
      (left_stand j v s st can)

  pub left_apart : (f j v : ℕ) (s u x : StateView) → IsRunning (thread_of s n) s.core → CanPublish (subtask.Guest j) waiter s → u ≡ on_core (left (thread_of s n) (call_of s k) v (option_map (λ id. thread_of s id) waiter)) s → x ≡ on_core (stopped f) u → IsApart (thread_of x n) x.core
  left_apart f j v s u x st can e d =
      own_apart (thread_of x n) place.Running x.core (stands_on n place.Running (stopped f) u x d (stopped_stand (thread_of u n) place.Running f u.core (stands_on n place.Running (left (thread_of s n) (call_of s k) v (option_map (λ id. thread_of s id) waiter)) s u e (left_stand j v s st can))))

  pub leaves_core : (f : TableId ThreadKey) (v : ℕ) (s u x : StateView) (c : Core) → call_of s k ≡ task_of (thread_of s n) s.core → v ≡ register_of (thread_of s n) 0 s.core → thread_of s f ≡ foot_of (thread_of s n) s.core → u ≡ on_core (left (thread_of s n) (call_of s k) v (option_map (λ id. thread_of s id) waiter)) s → x ≡ on_core (stopped (thread_of u f)) u → c ≡ ended (thread_of x n) x.core → c ≡ sync_exits (thread_of s n) (option_map (λ id. thread_of s id) waiter) s.core
  unfolding sync_exits
  leaves_core f v s u x c task value foot e d out =
      let N = thread_of s n in
      let w = option_map (λ id. thread_of s id) waiter in
      out ∙ (ap (λ (y : StateView). ended (thread_of y n) y.core) d ∙ (ap (λ (y : StateView). ended (thread_of y n) (stopped (thread_of y f) y.core)) e
      ∙ (ap (λ (g : ℕ). ended N (stopped g (left N (call_of s k) v w s.core))) foot ∙ (ap (λ (j : ℕ). ended N (stopped (foot_of N s.core) (left N j v w s.core))) task ∙ ap (λ (a : ℕ). ended N (stopped (foot_of N s.core) (left N (task_of N s.core) a w s.core))) value))))

-- ---- A direct call

pub ended_apart : (n : TableId ThreadKey) (k : ℕ) (e : CallEnd) (s t : StateView) → IsRunning (thread_of s n) s.core → t ≡ on_core (set_end k e) s → IsApart (thread_of t n) t.core
ended_apart n k e s t st d = own_apart (thread_of t n) place.Running t.core (stands_on n place.Running (set_end k e) s t d (quiet_stand (thread_of s n) place.Running [] s.core _ (set_end_untouched k e s.core) st))

pub restored_runs : (n : TableId ThreadKey) (s t : StateView) → IsRunning (thread_of s n) s.core → t ≡ on_core (exit_restores (thread_of s n)) s → IsRunning (thread_of t n) t.core
restored_runs n s t st e = stands_on n place.Running (exit_restores (thread_of s n)) s t e (quiet_stand (thread_of s n) place.Running [] s.core _ (restored_quiet (thread_of s n) s.core).untouched st)

still_under : (n m : TableId ThreadKey) (f : Core → Core) (s t : StateView) → KeepsUnder s.core (f s.core) → t ≡ on_core f s → Some (thread_of s m) ≡ under_of (thread_of s n) s.core → place_of (thread_of t m) t.core ≡ Some (place.Under (thread_of t n))
still_under n m f s t keeps e at = subst (λ (v : StateView). place_of (thread_of v m) v.core ≡ Some (place.Under (thread_of v n))) (sym e) (keeps (thread_of s m) (thread_of s n) (under_place (thread_of s n) (thread_of s m) s.core (sym at)))

pub restored_under : (n m : TableId ThreadKey) (s t : StateView) → t ≡ on_core (exit_restores (thread_of s n)) s → Some (thread_of s m) ≡ under_of (thread_of s n) s.core → place_of (thread_of t m) t.core ≡ Some (place.Under (thread_of t n))
restored_under n m s t e at = still_under n m (exit_restores (thread_of s n)) s t (quiet_under s.core _ (restored_quiet (thread_of s n) s.core).untouched) e at

pub check_under : (n m : TableId ThreadKey) (i : ℕ) (s t : StateView) → IsRunning (thread_of s n) s.core → t ≡ on_core (checked i) s → Some (thread_of s m) ≡ under_of (thread_of s n) s.core → place_of (thread_of t m) t.core ≡ Some (place.Under (thread_of t n))
check_under n m i s t st e at = still_under n m (checked i) s t (checked_under (thread_of s n) place.Running i s.core refl st) e at

-- ---- The call of a thread that is about to leave

module _ (n : TableId ThreadKey) (k : TableId GuestTaskKey) (s t : StateView) (is : call_of s k ≡ task_of (thread_of s n) s.core) where
  still_its : (f : Core → Core) → t ≡ on_core f s → task_of (thread_of s n) (f s.core) ≡ task_of (thread_of s n) s.core → call_of t k ≡ task_of (thread_of t n) t.core
  still_its f e same = subst (λ (v : StateView). call_of v k ≡ task_of (thread_of v n) v.core) (sym e) (is ∙ sym same)

  pub ended_its : (j : ℕ) (r : CallEnd) → t ≡ on_core (set_end j r) s → call_of t k ≡ task_of (thread_of t n) t.core
  unfolding set_end on_call
  ended_its j r e = still_its (set_end j r) e refl

  -- and whether it is the first of its call
  pub ended_known : (j : ℕ) (r : CallEnd) → t ≡ on_core (set_end j r) s → is_explicit (thread_of s n) s.core ≡ is_explicit (thread_of t n) t.core
  unfolding set_end on_call
  ended_known j r e = ap (λ (v : StateView). is_explicit (thread_of v n) v.core) (sym e)

  pub restored_its : t ≡ on_core (exit_restores (thread_of s n)) s → call_of t k ≡ task_of (thread_of t n) t.core
  unfolding exit_restores set_do_not_suspend on_instance
  restored_its e = still_its (exit_restores (thread_of s n)) e refl

  pub checked_its : (i : ℕ) → t ≡ on_core (checked i) s → call_of t k ≡ task_of (thread_of t n) t.core
  checked_its i e = still_its (checked i) e (shifted_task (shifts_shifted (checked_shifts i s.core)) (thread_of s n))

-- whether it is the first one of its call
module _ (n : TableId ThreadKey) (b : Bool) (s t : StateView) (is : b ≡ is_explicit (thread_of s n) s.core) where
  still_explicit : (f : Core → Core) → t ≡ on_core f s → is_explicit (thread_of s n) (f s.core) ≡ is_explicit (thread_of s n) s.core → b ≡ is_explicit (thread_of t n) t.core
  still_explicit f e same = subst (λ (v : StateView). b ≡ is_explicit (thread_of v n) v.core) (sym e) (is ∙ sym same)

  pub restored_explicit : t ≡ on_core (exit_restores (thread_of s n)) s → b ≡ is_explicit (thread_of t n) t.core
  unfolding exit_restores set_do_not_suspend on_instance
  restored_explicit e = still_explicit (exit_restores (thread_of s n)) e refl

  pub checked_explicit : (i : ℕ) → t ≡ on_core (checked i) s → b ≡ is_explicit (thread_of t n) t.core
  checked_explicit i e = still_explicit (checked i) e (shifted_explicit (shifts_shifted (checked_shifts i s.core)) (thread_of s n))

pub still_live : (k : TableId GuestTaskKey) (f : Core → Core) (s t : StateView) → t ≡ on_core f s → 0 < call_of s k → 0 < call_of t k
still_live k f s t e live = subst (λ (v : StateView). 0 < call_of v k) (sym e) live
