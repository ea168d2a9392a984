-- A direct call that has begun, written.
use Rattle.std.proofs.Common.{arith, refl, subst, sym}
use Rattle.std.specs.Prelude.{List, ℕ, ◌<◌, ◌≡◌}
use Rattle.task_table.specs.declared.id.TableId.{TableId}
use Rattle.task_wait.specs.declared.keys.GuestTaskKey.{GuestTaskKey}
use Rattle.task_wait.specs.declared.keys.ThreadKey.{ThreadKey}
use Rattle.machine_data.specs.Core.{Core}
use Rattle.machine_data.specs.Read.{thread_group}
use Rattle.machine_data.specs.Write.{set_op_progress, set_place, set_started}
use Rattle.machine_data.specs.declared.component.Callee.{Callee}
use Rattle.machine_data.specs.declared.component.ExportKind.{ExportKind}
use Rattle.machine_data.specs.declared.records.Caller.TheVariants as caller
use Rattle.machine_data.specs.declared.records.Goal.TheVariants as goal
use Rattle.machine_data.specs.declared.records.OpProgress.TheVariants as op_progress
use Rattle.machine_data.specs.declared.records.Place.TheVariants as place
use Rattle.machine_data.specs.declared.records.Subtask.TheVariants as subtask
use Rattle.machine_rules.specs.Calls.{call_made, enter_runs, next_thread, sync_sets_flag, with_thread_handle}
use Rattle.core_primitives.specs.StateView.{StateView, call_of, on_core, thread_of}

pub entered_is : (n m : TableId ThreadKey) (k : TableId GuestTaskKey) (N : ℕ) (e : Callee) (x : ExportKind) (words : List ℕ) (s : Core) (t u v y a : StateView) → thread_of t n ≡ N → thread_of t m ≡ next_thread s → call_of t k ≡ next_thread s → t.core ≡ with_thread_handle e.instance (next_thread s) (call_made (caller.Thread N) e x goal.Direct (thread_group N s) words s) → u ≡ on_core (set_started (call_of t k)) t → v ≡ on_core (sync_sets_flag (thread_of u m) e.instance x) u → y ≡ on_core (set_place (thread_of v m) place.Running) v → a ≡ on_core (λ c. set_op_progress (thread_of y n) (op_progress.Calls (subtask.Guest (call_of y k))) (set_place (thread_of y n) (place.Under (thread_of y m)) c)) y → a.core ≡ enter_runs N e x words s
unfolding enter_runs
entered_is n m k N e x words s t u v y a pn pm pk pt pu pv py pa = rw (pa, py, pv, pu, pn, pm, pk, pt) refl

-- what has the number that is given next is there
pub made_live : (n : ℕ) (s : Core) → n ≡ next_thread s → 0 < n
made_live n s is = subst (λ (k : ℕ). 0 < k) (sym is) (omega arith)
