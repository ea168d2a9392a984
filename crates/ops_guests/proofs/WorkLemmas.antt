-- A write of a work says nothing of threads and entries.
use Rattle.std.proofs.Common.{ap, refl, subst, sym, ◌∙◌}
use Rattle.std.specs.Prelude.{ℕ, ◌≡◌}
use Rattle.task_table.specs.declared.id.TableId.{TableId}
use Rattle.task_wait.specs.declared.keys.HostTaskKey.{HostTaskKey}
use Rattle.machine_data.specs.Core.{Core}
use Rattle.machine_data.specs.Moves.{unblocked}
use Rattle.machine_data.specs.Read.{blocked_on}
use Rattle.machine_data.specs.Write.{on_work, set_course, set_phase, set_stage}
use Rattle.machine_data.specs.declared.records.Course.{Course}
use Rattle.machine_data.specs.declared.records.Stage.{Stage}
use Rattle.machine_data.specs.declared.records.Subtask.{Subtask}
use Rattle.machine_data.specs.declared.records.Subtask.TheVariants as subtask
use Rattle.machine_data.specs.declared.records.Work.{Work}
use Rattle.machine_data.specs.declared.statuses.Phase.{Phase}
use Rattle.core_primitives.specs.Apart.{IsBlockedUnqueued, IsUnqueued, work_entries}
use Rattle.core_primitives.specs.StateView.{StateView, on_core, with_core, work_of}

written_blocked : (i : ℕ) (f : Work → Work) (sub : Subtask) (s : Core) → IsBlockedUnqueued sub s → IsBlockedUnqueued sub (on_work i f s)
unfolding on_work blocked_on
written_blocked i f sub s out n at = let u : IsUnqueued n s = out n at in record { high = u.high; low = u.low }

-- the work has no entry, and who is blocked on it has none
record Unqueued (i : ℕ) (s : Core) : Type 0 where
  pub entries : work_entries i s.queues.high ≡ 0
  pub blocked : IsBlockedUnqueued (subtask.Host i) s

written_unqueued : (i : ℕ) (f : Work → Work) (s : Core) → Unqueued i s → Unqueued i (on_work i f s)
unfolding on_work
written_unqueued i f s u = record { entries = u.entries; blocked = written_blocked i f (subtask.Host i) s u.blocked }

module _ (id : TableId HostTaskKey) where
  staged : (x : Stage) (s t : StateView) → t ≡ on_core (set_stage (work_of s id) x) s → Unqueued (work_of s id) s.core → Unqueued (work_of t id) t.core
  unfolding set_stage
  staged x s t e u = subst (λ (v : StateView). Unqueued (work_of v id) v.core) (sym e) (written_unqueued (work_of s id) (λ w. record w { stage = x }) s.core u)

  pub staged_entries : (x : Stage) (s t : StateView) → t ≡ on_core (set_stage (work_of s id) x) s → work_entries (work_of s id) s.core.queues.high ≡ 0 → IsBlockedUnqueued (subtask.Host (work_of s id)) s.core → work_entries (work_of t id) t.core.queues.high ≡ 0
  staged_entries x s t e none out = (staged x s t e (record { entries = none; blocked = out })).entries

  pub staged_blocked : (x : Stage) (s t : StateView) → t ≡ on_core (set_stage (work_of s id) x) s → work_entries (work_of s id) s.core.queues.high ≡ 0 → IsBlockedUnqueued (subtask.Host (work_of s id)) s.core → IsBlockedUnqueued (subtask.Host (work_of t id)) t.core
  staged_blocked x s t e none out = (staged x s t e (record { entries = none; blocked = out })).blocked

  blocked_staged : (x : Stage) (s : Core) (i : ℕ) → blocked_on (subtask.Host i) (set_stage i x s) ≡ blocked_on (subtask.Host i) s
  unfolding blocked_on set_stage on_work
  blocked_staged x s i = refl

  pub unblocked_is : (x : Stage) (s t u : StateView) → t ≡ on_core (set_stage (work_of s id) x) s → u ≡ on_core (unblocked (blocked_on (subtask.Host (work_of t id)) t.core)) t → u ≡ on_core (λ c. unblocked (blocked_on (subtask.Host (work_of s id)) c) (set_stage (work_of s id) x c)) s
  unblocked_is x s t u e d =
      d ∙ (ap (λ (v : StateView). on_core (unblocked (blocked_on (subtask.Host (work_of v id)) v.core)) v) e
      ∙ ap (λ o. with_core (unblocked o (set_stage (work_of s id) x s.core)) s) (blocked_staged x s.core (work_of s id)))

  ended : (c : Course) (p : Phase) (s t u : StateView) → t ≡ on_core (set_course (work_of s id) c) s → u ≡ on_core (set_phase (work_of t id) p) t → Unqueued (work_of s id) s.core → Unqueued (work_of u id) u.core
  unfolding set_course set_phase
  ended c p s t u e d h =
      let a = subst (λ (v : StateView). Unqueued (work_of v id) v.core) (sym e) (written_unqueued (work_of s id) (λ w. record w { course = c }) s.core h) in
      subst (λ (v : StateView). Unqueued (work_of v id) v.core) (sym d) (written_unqueued (work_of t id) (λ w. record w { phase = p }) t.core a)

  pub ended_entries : (c : Course) (p : Phase) (s t u : StateView) → t ≡ on_core (set_course (work_of s id) c) s → u ≡ on_core (set_phase (work_of t id) p) t → work_entries (work_of s id) s.core.queues.high ≡ 0 → IsBlockedUnqueued (subtask.Host (work_of s id)) s.core → work_entries (work_of u id) u.core.queues.high ≡ 0
  ended_entries c p s t u e d none out = (ended c p s t u e d (record { entries = none; blocked = out })).entries

  pub ended_blocked : (c : Course) (p : Phase) (s t u : StateView) → t ≡ on_core (set_course (work_of s id) c) s → u ≡ on_core (set_phase (work_of t id) p) t → work_entries (work_of s id) s.core.queues.high ≡ 0 → IsBlockedUnqueued (subtask.Host (work_of s id)) s.core → IsBlockedUnqueued (subtask.Host (work_of u id)) u.core
  ended_blocked c p s t u e d none out = (ended c p s t u e d (record { entries = none; blocked = out })).blocked
