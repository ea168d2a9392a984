-- Cancels that go on.
use Rattle.std.proofs.Common.{ap, refl, subst, sym, ◌∙◌}
use Rattle.std.specs.Option.{option_map_or}
use Rattle.std.specs.Prelude.{Bool, None, Option, Some, [], false, ℕ, ◌+◌, ◌<◌, ◌≡◌}
use Rattle.task_table.specs.declared.id.TableId.{TableId}
use Rattle.task_wait.specs.declared.keys.ThreadKey.{ThreadKey}
use Rattle.machine_data.proofs.CommuteLemmas.{change-change_same, insert-present}
use Rattle.machine_data.proofs.MapLemmas.{change-absent, insert_is_change}
use Rattle.machine_data.specs.Core.{Core}
use Rattle.machine_data.specs.Maps.{Records, change, get, insert}
use Rattle.machine_data.specs.Read.{event_of, may_not_suspend, saved_callee_of, undelivered_end}
use Rattle.machine_data.specs.Write.{on_instance, set_do_not_suspend, set_join, set_saved_callee}
use Rattle.machine_data.specs.declared.records.Instance.{Instance}
use Rattle.machine_data.specs.declared.records.Join.TheVariants as join
use Rattle.machine_data.specs.declared.records.Place.TheVariants as place
use Rattle.machine_data.specs.declared.records.Subtask.{Subtask}
use Rattle.machine_data.specs.Statuses.{status_code}
use Rattle.machine_data.specs.declared.trap.Trap.TheVariants as trap
use Rattle.machine_data.specs.declared.statuses.Status.{Status}
use Rattle.ops_moves.proofs.UntouchedLemmas.{on_instance_untouched, same_untouched}
use Rattle.ops_guests.proofs.BesideLemmas.{quiet_stand}
use Rattle.ops_guests.proofs.RunLemmas.{stands_on}
use Rattle.ops_subtasks.specs.Rules.{end_answered}
use Rattle.ops_guests.specs.Ended.{ended}
use Rattle.ops_guests.specs.OpResult.{Implements}
use Rattle.ops_guests.specs.Running.{IsRunning}
use Rattle.ops_guests.specs.declared.op_result.OpResult.{OpResult}
use Rattle.ops_guests.specs.declared.op_result.OpResult.TheVariants as op_result
use Rattle.machine_rules.proofs.StopLemmas.{Untouched}
use Rattle.machine_rules.specs.Finish.{Doer, OneNumber, finish}
use Rattle.machine_rules.specs.Calls.{put_back}
use Rattle.machine_rules.specs.Cancels.{Async, Mode, Sync, cancel_ended_by, cancel_label, cancel_resumed, subtask_instance}
use Rattle.core_primitives.specs.Names.{subtask_in}
use Rattle.core_primitives.specs.StateView.{StateView, on_core, thread_of, with_core}
use Rattle.core_primitives.specs.declared.names.SubtaskId.{SubtaskId}
use Rattle.ops_subtasks.proofs.EndLemmas.{refused_same}
use Rattle.ops_subtasks.proofs.SteadyLemmas.{Steady, join_steady, saved_steady, steady_after}
use Rattle.ops_subtasks.specs.Refused.{refused}
use Rattle.ops_guests.specs.Shown.{goes_as}

changed_same : {X : Type 0} (m : Records X) (n : ℕ) (f : X → X) (o : Option X) → get m n ≡ o → ((x : X) → o ≡ Some x → f x ≡ x) → change n f m ≡ m
changed_same m n f None at same = change-absent m n f at
changed_same m n f (Some x) at same = sym (insert_is_change m n f x at) ∙ (ap (insert m n) (same x refl) ∙ insert-present m n x at)

own_flag : (i : ℕ) (b : Bool) (s : Core) → b ≡ may_not_suspend i s → set_do_not_suspend i b s ≡ s
unfolding set_do_not_suspend on_instance
own_flag i b s is = ap (λ (m : Records Instance). record s { instances = m }) (changed_same s.instances i _ (get s.instances i) refl (λ r at. ap (λ (c : Bool). record r { do_not_suspend = c }) (is ∙ ap (λ (o : Option Instance). option_map_or (λ r. r.do_not_suspend) o false) at)))

twice : (i : ℕ) (b c : Bool) (s : Core) → set_do_not_suspend i b (set_do_not_suspend i c s) ≡ set_do_not_suspend i b s
unfolding set_do_not_suspend on_instance
twice i b c s = ap (λ (m : Records Instance). record s { instances = m }) (change-change_same s.instances i _ _)

back : (i : ℕ) (b : Bool) (o : Option Bool) (s : Core) → b ≡ may_not_suspend i s → set_do_not_suspend i b (put_back o i s) ≡ s
back i b None s is = own_flag i b s is
back i b (Some c) s is = twice i b c s ∙ own_flag i b s is

-- the flag is as before
pub flag_restored : (i : ℕ) (b : Bool) (o : Option Bool) (s t u : StateView) → b ≡ may_not_suspend i s.core → t ≡ on_core (put_back o i) s → u ≡ on_core (set_do_not_suspend i b) t → u ≡ s
flag_restored i b o s t u is e d = d ∙ (ap (on_core (set_do_not_suspend i b)) e ∙ ap (λ (c : Core). with_core c s) (back i b o s.core is))

-- ---- The canceller is resumed

put_untouched : (o : Option Bool) (i : ℕ) (s : Core) → Untouched s (put_back o i s)
unfolding set_do_not_suspend
put_untouched None i s = same_untouched s
put_untouched (Some b) i s = on_instance_untouched i (λ r. record r { do_not_suspend = b }) s

-- with the flag written back
abbrev pub flagged : ℕ → Subtask → Core → Core
flagged n q s = put_back (saved_callee_of n s) (subtask_instance q s) s

resumed_steady : (n : ℕ) (q : Subtask) (s : Core) → Steady (flagged n q s) (cancel_resumed n q s)
unfolding cancel_resumed
resumed_steady n q s =
    let a = flagged n q s in
    steady_after a (set_saved_callee n None a) (set_join q join.Nowhere (set_saved_callee n None a)) (saved_steady n None a) (join_steady q join.Nowhere (set_saved_callee n None a))

pub resumed_refused : (mode : Mode) (n : ℕ) (q : Subtask) (s : Core) → refused mode n q (cancel_resumed n q s) ≡ refused mode n q (flagged n q s)
resumed_refused mode n q s = refused_same mode n q (flagged n q s) (cancel_resumed n q s) (resumed_steady n q s)

module _ (n : TableId ThreadKey) (q : Subtask) (s t : StateView) (e : t ≡ on_core (cancel_resumed (thread_of s n) q) s) where
  pub resumed_runs : IsRunning (thread_of s n) s.core → IsRunning (thread_of t n) t.core
  resumed_runs st =
      let N = thread_of s n in
      let a = flagged N q s.core in
      stands_on n place.Running (cancel_resumed N q) s t e
      (quiet_stand N place.Running [] a (cancel_resumed N q s.core) (resumed_steady N q s.core).untouched
      (quiet_stand N place.Running [] s.core a (put_untouched (saved_callee_of N s.core) (subtask_instance q s.core) s.core) st))

-- ---- Once the end was told

pub awaits_trap : (mode : Mode) (n : ℕ) (r : Doer) (q : Subtask) (s : Core) → None ≡ undelivered_end (event_of q s) → Implements (cancel_ended_by r mode n q (set_join q join.Nowhere s) (undelivered_end (event_of q (set_join q join.Nowhere s)))) s (op_result.Traps trap.SubtaskCancelAfterTerminal) s
awaits_trap mode n r q s none =
    subst (λ (o : Option Status). Implements (cancel_ended_by r mode n q (set_join q join.Nowhere s) o) s (op_result.Traps trap.SubtaskCancelAfterTerminal) s)
    (none ∙ ap (λ (e : Option Status). undelivered_end e) (sym ((join_steady q join.Nowhere s).events q))) (refl, refl)

-- an end that is taken is answered, by which op it is
pub end_implements : (mode : Mode) (n : ℕ) (r : Doer) (q : Subtask) (e : Status) (s m u : Core) → u ≡ end_answered n q m → Implements (cancel_ended_by r mode n q m (Some e)) s (goes_as (cancel_label mode n (status_code e)) n) (ended r n (goes_as (cancel_label mode n (status_code e)) n) u)
end_implements Async n r q e s m u core = (refl, ap (λ (c : Core). finish r n (OneNumber (status_code e)) c) core)
end_implements Sync n r q e s m u core = (refl, ap (λ (c : Core). finish r n (OneNumber (status_code e)) c) core)

pub awaits_implements : (mode : Mode) (n : TableId ThreadKey) (r : Doer) (sub : SubtaskId) (e : Status) (s t u : StateView) (c : OpResult) → Some e ≡ undelivered_end (event_of (subtask_in s.tags sub) s.core) → t ≡ on_core (set_join (subtask_in s.tags sub) join.Nowhere) s → c ≡ goes_as (cancel_label mode (thread_of t n) (status_code e)) (thread_of t n) → u ≡ on_core (end_answered (thread_of t n) (subtask_in t.tags sub)) t → Implements (cancel_ended_by r mode (thread_of s n) (subtask_in s.tags sub) (set_join (subtask_in s.tags sub) join.Nowhere s.core) (undelivered_end (event_of (subtask_in s.tags sub) (set_join (subtask_in s.tags sub) join.Nowhere s.core)))) s.core c (ended r (thread_of s n) c u.core)
awaits_implements mode n r sub e s t u c told left shown taken =
    let N = thread_of s n in
    let q = subtask_in s.tags sub in
    let m = set_join q join.Nowhere s.core in
    let came_is = shown ∙ ap (λ (v : StateView). goes_as (cancel_label mode (thread_of v n) (status_code e)) (thread_of v n)) left in
    let core = ap (λ (v : StateView). v.core) taken ∙ ap (λ (v : StateView). end_answered (thread_of v n) (subtask_in v.tags sub) v.core) left in
    subst (λ (o : Option Status). Implements (cancel_ended_by r mode N q m o) s.core c (ended r N c u.core)) (told ∙ ap (λ (o : Option Status). undelivered_end o) (sym ((join_steady q join.Nowhere s.core).events q)))
    (subst (λ (y : OpResult). Implements (cancel_ended_by r mode N q m (Some e)) s.core y (ended r N y u.core)) (sym came_is) (end_implements mode N r q e s.core m u.core core))

pub resumed_as : (n : TableId ThreadKey) (sub : SubtaskId) (s p t : StateView) → p ≡ s → t ≡ on_core (cancel_resumed (thread_of p n) (subtask_in p.tags sub)) p → t ≡ on_core (cancel_resumed (thread_of s n) (subtask_in s.tags sub)) s
resumed_as n sub s p t same e = e ∙ ap (λ (v : StateView). on_core (cancel_resumed (thread_of v n) (subtask_in v.tags sub)) v) same
