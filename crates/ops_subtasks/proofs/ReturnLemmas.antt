-- A calling thread that is resumed, and what it finds.
use Rattle.std.proofs.Common.{ap, ap₂, arith, le_refl, refl, subst, sym, ◌∙◌}
use Rattle.std.specs.Option.{option_map_or}
use Rattle.std.specs.Prelude.{Bool, None, Option, Some, [], false, if◌then◌else◌, option_and_then, ℕ, ◌+◌, ◌<◌, ◌≡◌}
use Rattle.task_table.specs.declared.id.TableId.{TableId}
use Rattle.task_wait.specs.declared.keys.GuestTaskKey.{GuestTaskKey}
use Rattle.task_wait.specs.declared.keys.ThreadKey.{ThreadKey}
use Rattle.machine_data.proofs.CommuteLemmas.{change-change_same, insert-present}
use Rattle.machine_data.proofs.MapLemmas.{change-absent, change-field, insert_is_change}
use Rattle.machine_data.specs.Core.{Core}
use Rattle.machine_data.specs.Maps.{Records, change, get, insert}
use Rattle.machine_data.specs.Moves.{call_settled, checked}
use Rattle.machine_data.specs.Read.{call_instance, event_of, instance_of, may_not_suspend, new_handle, no_callee, saved_callee_of}
use Rattle.machine_data.specs.Write.{give_handle, on_call, on_instance, set_do_not_suspend, set_event, set_result, set_saved_callee, set_subtask_handle}
use Rattle.machine_data.specs.declared.records.Call.{Call}
use Rattle.machine_data.specs.declared.records.Instance.{Instance}
use Rattle.machine_data.specs.declared.records.Place.TheVariants as place
use Rattle.machine_data.specs.declared.records.Subtask.TheVariants as subtask
use Rattle.machine_data.specs.declared.statuses.Status.{Status}
use Rattle.ops_moves.proofs.TellLemmas.{map_or_is}
use Rattle.ops_guests.proofs.BesideLemmas.{checked_stand, quiet_stand}
use Rattle.ops_guests.proofs.RunLemmas.{stands_on}
use Rattle.ops_guests.specs.Running.{IsRunning}
use Rattle.machine_rules.proofs.StopLemmas.{Untouched}
use Rattle.ops_subtasks.specs.Rules.{call_pends, result_taken, return_taken}
use Rattle.machine_rules.specs.Calls.{call_let_go, call_resumes, call_taken, call_with_handle, put_back, with_handle}
use Rattle.core_primitives.specs.StateView.{KeepsBut, StateView, Tags, call_of, lost_call, on_core, thread_number, thread_of, with_core}

-- ---- A handle, and then the resumption

handle_back : (b : Option Bool) (j i k : ℕ) (s : Core) → set_event (subtask.Guest k) None (put_back b j (with_handle i (subtask.Guest k) s)) ≡ with_handle i (subtask.Guest k) (set_event (subtask.Guest k) None (put_back b j s))
unfolding with_handle set_event set_subtask_handle give_handle on_call set_do_not_suspend on_instance new_handle
handle_back b j i k s = go b
  where
    go : (b : Option Bool) → set_event (subtask.Guest k) None (put_back b j (with_handle i (subtask.Guest k) s)) ≡ with_handle i (subtask.Guest k) (set_event (subtask.Guest k) None (put_back b j s))
    go None = ap (λ (m : Records Call). record (with_handle i (subtask.Guest k) (set_event (subtask.Guest k) None s)) { calls = m }) (change-change_same s.calls k _ _ ∙ sym (change-change_same s.calls k _ _))
    go (Some c) = ap (λ (m : Records Call). record (with_handle i (subtask.Guest k) (set_event (subtask.Guest k) None (set_do_not_suspend j c s))) { calls = m }) (change-change_same s.calls k _ _ ∙ sym (change-change_same s.calls k _ _))

named_instance : (i k : ℕ) (s : Core) → call_instance k (with_handle i (subtask.Guest k) s) ≡ call_instance k s
unfolding with_handle set_subtask_handle give_handle on_call
named_instance i k s = ap (λ c. c.instance) (map_or_is (λ (c : Call). c.callee) no_callee _ _ (change-field (λ (c : Call). c.callee) k _ (λ c. refl) s.calls k))

handle_resumed : (n i k : ℕ) (s : Core) → call_resumes n k (with_handle i (subtask.Guest k) s) ≡ with_handle i (subtask.Guest k) (call_resumes n k s)
unfolding call_resumes with_handle set_subtask_handle give_handle on_call
handle_resumed n i k s =
    ap₂ (λ (b : Option Bool) (j : ℕ). set_event (subtask.Guest k) None (put_back b j (with_handle i (subtask.Guest k) s))) (saved_same n i k s) (named_instance i k s)
    ∙ handle_back (saved_callee_of n s) (call_instance k s) i k s
  where
    saved_same : (n i k : ℕ) (s : Core) → saved_callee_of n (with_handle i (subtask.Guest k) s) ≡ saved_callee_of n s
    saved_same n i k s = refl

-- ---- A resumption undone

module _ {X : Type 0} where
  changed_same : (m : Records X) (n : ℕ) (f : X → X) (o : Option X) → get m n ≡ o → ((x : X) → o ≡ Some x → f x ≡ x) → change n f m ≡ m
  changed_same m n f None is same = change-absent m n f is
  changed_same m n f (Some x) is same = sym (insert_is_change m n f x is) ∙ (ap (insert m n) (same x refl) ∙ insert-present m n x is)

event_back : (k : ℕ) (e : Option Status) (s : Core) → e ≡ event_of (subtask.Guest k) s → set_event (subtask.Guest k) e (set_event (subtask.Guest k) None s) ≡ s
unfolding set_event on_call
event_back k e s is = ap (λ (m : Records Call). record s { calls = m }) (change-change_same s.calls k _ _ ∙ changed_same s.calls k _ (get s.calls k) refl (λ c at. ap (λ (v : Option Status). record c { event = v }) (is ∙ ap (option_and_then (λ (c : Call). c.event)) at)))

flag_back : (j : ℕ) (b : Bool) (o : Option Bool) (s : Core) → b ≡ may_not_suspend j s → set_do_not_suspend j b (put_back o j s) ≡ s
unfolding set_do_not_suspend on_instance
flag_back j b None s is = ap (λ (m : Records Instance). record s { instances = m }) (changed_same s.instances j _ (get s.instances j) refl (λ r at. ap (λ (c : Bool). record r { do_not_suspend = c }) (is ∙ ap (λ (o : Option Instance). option_map_or (λ r. r.do_not_suspend) o false) at)))
flag_back j b (Some d) s is = ap (λ (m : Records Instance). record s { instances = m }) (change-change_same s.instances j _ _ ∙ changed_same s.instances j _ (get s.instances j) refl (λ r at. ap (λ (c : Bool). record r { do_not_suspend = c }) (is ∙ ap (λ (o : Option Instance). option_map_or (λ r. r.do_not_suspend) o false) at)))

back_event : (k j : ℕ) (o : Option Bool) (s : Core) → event_of (subtask.Guest k) (put_back o j s) ≡ event_of (subtask.Guest k) s
unfolding set_do_not_suspend on_instance
back_event k j None s = refl
back_event k j (Some b) s = refl

resumed_back : (n k : ℕ) (e : Option Status) (b : Bool) (s : Core) → e ≡ event_of (subtask.Guest k) s → b ≡ may_not_suspend (call_instance k s) s → set_do_not_suspend (call_instance k s) b (set_event (subtask.Guest k) e (call_resumes n k s)) ≡ s
unfolding call_resumes
resumed_back n k e b s event flag =
    let j = call_instance k s in
    let o = saved_callee_of n s in
    ap (set_do_not_suspend j b) (event_back k e (put_back o j s) (event ∙ sym (back_event k j o s))) ∙ flag_back j b o s flag

-- ---- The thread runs

resumed_untouched : (n k : ℕ) (s : Core) → Untouched s (call_resumes n k s)
unfolding call_resumes set_event on_call set_do_not_suspend on_instance
resumed_untouched n k s = go (saved_callee_of n s)
  where
    go : (o : Option Bool) → Untouched s (set_event (subtask.Guest k) None (put_back o (call_instance k s) s))
    go None = record { places = λ m. refl; switch = λ m. refl; high = λ m. refl; low = λ m. refl; callers = refl; made = le_refl _ }
    go (Some b) = record { places = λ m. refl; switch = λ m. refl; high = λ m. refl; low = λ m. refl; callers = refl; made = le_refl _ }

-- ---- As contracts see it

module _ (n : TableId ThreadKey) where
  pub thread_kept : (q : ℕ) (s t : StateView) → 0 < thread_of s n → KeepsBut (lost_call q) s.tags t.tags → thread_of t n ≡ thread_of s n
  thread_kept q s t live keeps = keeps.threads n (λ e. absurd (none (subst (λ m. 0 < m) e live)))
    where
      none : ◌<◌ 0 0 → ⊥
      none h = omega (arith, h)

  pub live_after : (s t : StateView) → t.tags ≡ s.tags → 0 < thread_of s n → 0 < thread_of t n
  live_after s t e live = subst (λ (m : Tags). 0 < thread_number m n) (sym e) live

module _ (n : TableId ThreadKey) (k : TableId GuestTaskKey) where
  pub resumed_runs : (s t : StateView) → IsRunning (thread_of s n) s.core → t ≡ on_core (call_resumes (thread_of s n) (call_of s k)) s → IsRunning (thread_of t n) t.core
  resumed_runs s t st e = stands_on n place.Running (call_resumes (thread_of s n) (call_of s k)) s t e (quiet_stand (thread_of s n) place.Running [] s.core _ (resumed_untouched (thread_of s n) (call_of s k) s.core) st)

  pub resumed_check_runs : (i : ℕ) (s t u : StateView) → IsRunning (thread_of s n) s.core → t ≡ on_core (call_resumes (thread_of s n) (call_of s k)) s → u ≡ on_core (checked i) t → IsRunning (thread_of u n) u.core
  resumed_check_runs i s t u st e d = stands_on n place.Running (checked i) t u d (checked_stand (thread_of t n) place.Running i t.core (resumed_runs s t st e))

  pub resumption_undone : (e : Option Status) (b : Bool) (s t u v : StateView) (j : ℕ) → e ≡ event_of (subtask.Guest (call_of s k)) s.core → j ≡ call_instance (call_of s k) s.core → b ≡ may_not_suspend j s.core → t ≡ on_core (call_resumes (thread_of s n) (call_of s k)) s → u ≡ on_core (set_event (subtask.Guest (call_of t k)) e) t → v ≡ on_core (set_do_not_suspend j b) u → v ≡ s
  resumption_undone e b s t u v j event at flag a d f =
      let K = call_of s k in
      f ∙ (ap (on_core (set_do_not_suspend j b)) d
      ∙ (ap (λ (y : StateView). on_core (λ c. set_do_not_suspend j b (set_event (subtask.Guest (call_of y k)) e c)) y) a
      ∙ (ap (λ (i : ℕ). with_core (set_do_not_suspend i b (set_event (subtask.Guest K) e (call_resumes (thread_of s n) K s.core))) s) at
      ∙ ap (λ (c : Core). with_core c s) (resumed_back (thread_of s n) K e b s.core event (flag ∙ ap (λ (i : ℕ). may_not_suspend i s.core) at)))))

  pub returned_is : (q : ℕ) (s t u v : StateView) → 0 < thread_of t n → t ≡ on_core (call_resumes (thread_of s n) (call_of s k)) s → KeepsBut (lost_call q) t.tags u.tags → u.core ≡ call_settled (call_of t k) t.core → v ≡ on_core (set_saved_callee (thread_of u n) None) u → v.core ≡ return_taken (thread_of s n) (call_of s k) s.core
  unfolding call_let_go
  returned_is q s t u v live e keeps d f =
      let named = thread_kept n q t u live keeps in
      ap (λ (y : StateView). y.core) f ∙ (ap₂ (λ (m : ℕ) (c : Core). set_saved_callee m None c) named d ∙ ap (λ (y : StateView). set_saved_callee (thread_of y n) None (call_settled (call_of y k) y.core)) e)

  pub answered_is : (q : ℕ) (s t a u v : StateView) → 0 < thread_of a n → t ≡ on_core (call_resumes (thread_of s n) (call_of s k)) s → a ≡ on_core (set_result (call_of t k) None) t → KeepsBut (lost_call q) a.tags u.tags → u.core ≡ call_settled (call_of a k) a.core → v ≡ on_core (set_saved_callee (thread_of u n) None) u → v.core ≡ result_taken (thread_of s n) (call_of s k) s.core
  unfolding call_taken
  answered_is q s t a u v live e h keeps d f =
      let named = thread_kept n q a u live keeps in
      ap (λ (y : StateView). y.core) f
      ∙ (ap₂ (λ (m : ℕ) (c : Core). set_saved_callee m None c) named d
      ∙ (ap (λ (y : StateView). set_saved_callee (thread_of y n) None (call_settled (call_of y k) y.core)) h
      ∙ ap (λ (y : StateView). set_saved_callee (thread_of y n) None (call_settled (call_of y k) (set_result (call_of y k) None y.core))) e))

  pub pending_is : (i : ℕ) (s t u v : StateView) → i ≡ instance_of (thread_of s n) s.core → t ≡ on_core (with_handle i (subtask.Guest (call_of s k))) s → u ≡ on_core (call_resumes (thread_of t n) (call_of t k)) t → v ≡ on_core (set_saved_callee (thread_of u n) None) u → v ≡ on_core (call_pends (thread_of s n) (call_of s k)) s
  unfolding call_with_handle
  pending_is i s t u v at e d f =
      let N = thread_of s n in
      let K = call_of s k in
      f
      ∙ (ap (λ (y : StateView). on_core (set_saved_callee (thread_of y n) None) y) d
      ∙ (ap (λ (y : StateView). on_core (λ c. set_saved_callee (thread_of y n) None (call_resumes (thread_of y n) (call_of y k) c)) y) e
      ∙ (ap (λ (c : Core). with_core (set_saved_callee N None c) s) (handle_resumed N i K s.core)
      ∙ ap (λ (j : ℕ). with_core (set_saved_callee N None (with_handle j (subtask.Guest K) (call_resumes N K s.core))) s) at)))
