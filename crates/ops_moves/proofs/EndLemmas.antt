-- The end of a thread, step by step.
use Rattle.std.proofs.Common.{ap, ap₂, arith, refl, subst, sym, ⊎_elim, ◌∙◌}
use Rattle.std.specs.Prelude.{Bool, Option, false, true, ℕ, ◌<◌, ◌≡◌, ◌≢◌}
use Rattle.task_table.specs.declared.id.TableId.{TableId}
use Rattle.task_wait.specs.declared.keys.GuestTaskKey.{GuestTaskKey}
use Rattle.task_wait.specs.declared.keys.ThreadKey.{ThreadKey}
use Rattle.machine_data.proofs.MapLemmas.{change-field}
use Rattle.machine_data.specs.Core.{Core}
use Rattle.machine_data.specs.Moves.{call_settled, ended, exited_if, freed_thread_handle, interest_settled}
use Rattle.machine_data.specs.Read.{instance_of, is_explicit, no_callee, task_of, thread_handle_of}
use Rattle.machine_data.specs.Write.{on_call, remove_thread, set_exited}
use Rattle.machine_data.specs.declared.component.Callee.{Callee}
use Rattle.machine_data.specs.declared.records.Call.{Call}
use Rattle.ops_moves.proofs.TellLemmas.{map_or_is}
use Rattle.core_primitives.specs.Apart.{IsApart}
use Rattle.ops_moves.specs.Gone.{HasEnded, KeepsLive, lost_both}
use Rattle.core_primitives.specs.BecomesRecord.{BecomesBut}
use Rattle.core_primitives.specs.StateView.{KeepsBut, StateView, call_of, lost_call, lost_thread, on_core, set_number, thread_number, thread_of, work_number}

exited_instance : (b : Bool) (k n : ℕ) (s : Core) → instance_of n (exited_if b k s) ≡ instance_of n s
unfolding set_exited on_call
exited_instance true k n s = refl
exited_instance false k n s = ap (λ (c : Callee). c.instance) (map_or_is (λ (c : Call). c.callee) no_callee _ _ (change-field (λ (c : Call). c.callee) k (λ c. record c { exited = true }) (λ c. refl) s.calls (task_of n s)))

exited_handle : (b : Bool) (k n : ℕ) (s : Core) → thread_handle_of n (exited_if b k s) ≡ thread_handle_of n s
unfolding set_exited on_call
exited_handle true k n s = refl
exited_handle false k n s = refl

exited_apart : (b : Bool) (k n : ℕ) (s : Core) → IsApart n s → IsApart n (exited_if b k s)
unfolding set_exited on_call
exited_apart true k n s a = a
exited_apart false k n s a = record { unqueued = record { high = a.unqueued.high; low = a.unqueued.low }; switch = a.switch; behind = a.behind }

pub apart_after_exit : (n : TableId ThreadKey) (b : Bool) (k : ℕ) (s t : StateView) → t ≡ on_core (exited_if b k) s → IsApart (thread_of s n) s.core → IsApart (thread_of t n) t.core
apart_after_exit n b k s t e a = subst (λ (v : StateView). IsApart (thread_of v n) v.core) (sym e) (exited_apart b k (thread_of s n) s.core a)

positive : (n : ℕ) → 0 < n → n ≢ 0
positive n live e = absurd (none (subst (λ k. 0 < k) e live))
  where
    none : ◌<◌ 0 0 → ⊥
    none h = omega (arith, h)

-- the call keeps its id where the thread is gone
call_kept : (n : ℕ) (k : TableId GuestTaskKey) (t u : StateView) → 0 < call_of t k → KeepsBut (lost_thread n) t.tags u.tags → call_of u k ≡ call_of t k
call_kept n k t u live keeps = keeps.calls k (positive (call_of t k) live)

ended_is : (n : TableId ThreadKey) (k : TableId GuestTaskKey) (s t u v x : StateView) → call_of s k ≡ task_of (thread_of s n) s.core → t ≡ on_core (exited_if (is_explicit (thread_of s n) s.core) (call_of s k)) s → u.core ≡ remove_thread (thread_of t n) (freed_thread_handle (instance_of (thread_of t n) t.core) (thread_handle_of (thread_of t n) t.core) t.core) → call_of u k ≡ call_of t k → v ≡ on_core (interest_settled (call_of u k)) u → x.core ≡ call_settled (call_of v k) v.core → x.core ≡ ended (thread_of s n) s.core
unfolding ended
ended_is n k s t u v x task a b kept d e =
    let N = thread_of s n in
    let K = task_of N s.core in
    let over = exited_if (is_explicit N s.core) K s.core in
    let named : call_of t k ≡ K = ap (λ (y : StateView). call_of y k) a ∙ task in
    let core_t : t.core ≡ over = ap (λ (y : StateView). y.core) a ∙ ap (λ j. exited_if (is_explicit N s.core) j s.core) task in
    let gone = b ∙ (ap₂ (λ (j : ℕ) (c : Core). remove_thread j (freed_thread_handle (instance_of j c) (thread_handle_of j c) c)) (ap (λ (y : StateView). thread_of y n) a) core_t
    ∙ ap₂ (λ (i : ℕ) (h : Option ℕ). remove_thread N (freed_thread_handle i h over)) (exited_instance (is_explicit N s.core) K N s.core) (exited_handle (is_explicit N s.core) K N s.core)) in
    e ∙ (ap (λ (y : StateView). call_settled (call_of y k) y.core) d ∙ ap₂ (λ (j : ℕ) (c : Core). call_settled j (interest_settled j c)) (kept ∙ named) gone)

-- what is lost is the thread's name and the call's
ended_names : (n : TableId ThreadKey) (k : TableId GuestTaskKey) (call : ℕ) (s u x : StateView) → 0 < thread_of s n → KeepsBut (lost_thread (thread_of s n)) s.tags u.tags → KeepsBut (lost_call (call_of u k)) u.tags x.tags → call_of u k ≡ call → KeepsLive (lost_both (thread_of s n) call) s.tags x.tags
ended_names n k call s u x there one two named = record {
  threads = λ id live other. two.threads id (still (thread_number u.tags id) _ (one.threads id other) live) ∙ one.threads id other;
  calls = λ id live other.
      let same = one.calls id (positive _ live) in
      two.calls id (λ e. other (sym same ∙ (e ∙ named))) ∙ same;
  sets = λ id live.
      let same = one.sets id (positive _ live) in
      two.sets id (still (set_number u.tags id) _ same live) ∙ same;
  works = λ id live.
      let same = one.works id (positive _ live) in
      two.works id (still (work_number u.tags id) _ same live) ∙ same;
  gone = λ id none. two.gone id (⊎_elim (λ e. one.threads id (λ d. positive _ there (sym d ∙ e)) ∙ e) (one.gone id) none);
  same = two.same ∙ one.same;
  wanted = two.wanted ∙ one.wanted;
  seats = record {
    threads = λ m live other. two.seats.threads m live (positive m live) ∙ one.seats.threads m live other;
    calls = λ m live other. two.seats.calls m live (λ e. other (e ∙ named)) ∙ one.seats.calls m live (positive m live);
    works = λ m live other. two.seats.works m live (positive m live) ∙ one.seats.works m live (positive m live);
  };
}
  where
    still : (i j : ℕ) → i ≡ j → 0 < j → i ≢ 0
    still i j e live = positive i (subst (λ k. 0 < k) (sym e) live)

pub has_ended : (n : TableId ThreadKey) (k : TableId GuestTaskKey) (s t u v x : StateView) → 0 < thread_of s n → call_of s k ≡ task_of (thread_of s n) s.core → 0 < call_of s k → t ≡ on_core (exited_if (is_explicit (thread_of s n) s.core) (call_of s k)) s → BecomesBut (lost_thread (thread_of t n)) (remove_thread (thread_of t n) (freed_thread_handle (instance_of (thread_of t n) t.core) (thread_handle_of (thread_of t n) t.core) t.core)) t u → v ≡ on_core (interest_settled (call_of u k)) u → BecomesBut (lost_call (call_of v k)) (call_settled (call_of v k) v.core) v x → HasEnded (thread_of s n) s x
has_ended n k s t u v x there task live a gone d settled =
    let kept = call_kept _ k t u (subst (λ (y : StateView). 0 < call_of y k) (sym a) live) gone.tags in
    record {
      core = ended_is n k s t u v x task a gone.core kept d settled.core;
      current = settled.current ∙ (ap (λ (y : StateView). y.current) d ∙ (gone.current ∙ ap (λ (y : StateView). y.current) a));
      tags = ended_names n k (task_of (thread_of s n) s.core) s u x there
          (subst (λ (y : StateView). KeepsBut (lost_thread (thread_of y n)) y.tags u.tags) a gone.tags)
          (subst (λ (y : StateView). KeepsBut (lost_call (call_of y k)) y.tags x.tags) d settled.tags)
          (kept ∙ (ap (λ (y : StateView). call_of y k) a ∙ task));
    }
