-- An end that is refused as the task still holds borrows, and one that isn't.
use Rattle.ops_state.specs.declared.error.TaskError.{TaskError}
use Rattle.ops_state.specs.declared.error.TaskError.TheVariants as task_error
use Rattle.std.proofs.Common.{ap, refl, subst, sym, ◌∙◌}
use Rattle.std.specs.Prelude.{Bool, Err, IfSome, None, Option, Result, Some, false, option_map, true, ℕ, ◌≡◌}
use Rattle.ops_calls.specs.HostOps.{IsRunningIn, turn_for, turn_in}
use Rattle.task_store.specs.HeldBorrows.{Comes, UnlessBorrowed}
use Rattle.machine_data.specs.declared.component.Component.{Component}
use Rattle.machine_data.specs.declared.trap.Trap.TheVariants as trap
use Rattle.task_table.specs.declared.id.TableId.{TableId}
use Rattle.ops_turns.specs.Turn.{CoreInOrder, running_of}
use Rattle.task_wait.specs.declared.keys.ThreadKey.{ThreadKey}
use Rattle.core_primitives.specs.StateView.{StateView, thread_of}

module _ (s : StateView) (id : TableId ThreadKey) (o : Option (TableId ThreadKey)) (asked : o ≡ s.current) (found : o ≡ Some id) where
  -- the thread that is asked for runs
  pub asked_runs : running_of s ≡ Some (thread_of s id)
  asked_runs = ap (option_map (λ (i : TableId ThreadKey). thread_of s i)) (sym asked ∙ found)

  module _ (lends : ℕ → Bool) (comes : ℕ → Comes) where
    pub refused_borrowed : lends (thread_of s id) ≡ true → IfSome (running_of s) (λ n. UnlessBorrowed (lends n) (comes n) s (Err (task_error.Trap trap.ScopeExit)) s)
    refused_borrowed is =
        subst (λ (k : Option ℕ). IfSome k (λ n. UnlessBorrowed (lends n) (comes n) s (Err (task_error.Trap trap.ScopeExit)) s)) (sym asked_runs)
        (subst (λ (b : Bool). UnlessBorrowed b (comes (thread_of s id)) s (Err (task_error.Trap trap.ScopeExit)) s) (sym is) (refl, refl))

    pub ended_unborrowed : (r : Result (Unit {0}) TaskError) (t : StateView) → lends (thread_of s id) ≡ false → comes (thread_of s id) s r t → IfSome (running_of s) (λ n. UnlessBorrowed (lends n) (comes n) s r t)
    ended_unborrowed r t is op_result =
        subst (λ (k : Option ℕ). IfSome k (λ n. UnlessBorrowed (lends n) (comes n) s r t)) (sym asked_runs)
        (subst (λ (b : Bool). UnlessBorrowed b (comes (thread_of s id)) s r t) (sym is) op_result)

-- nothing is changed, so it is in order still
pub in_turn_still : (c : Component) (s : StateView) → IsRunningIn c s → CoreInOrder c (turn_in s) s.core
in_turn_still c s q = subst (λ (o : Option ℕ). CoreInOrder c (turn_for o) s.core) (sym q.runs) q.order

-- what is so of the thread that runs is so whatever else is asked
pub runs_on : (o : Option ℕ) (P Q : ℕ → Type 0) → ((n : ℕ) → P n → Q n) → IfSome o P → IfSome o Q
runs_on None P Q leads h = tt
runs_on (Some n) P Q leads h = leads n h
