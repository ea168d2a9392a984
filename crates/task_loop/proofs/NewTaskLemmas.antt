-- What the making of a call comes to whose thread is New, and what is so of it then.
use Rattle.ops_state.specs.declared.error.TaskError.{TaskError}
use Rattle.ops_state.specs.declared.error.TaskError.TheVariants as task_error
use Rattle.ops_state.specs.declared.name_calls.QualifiedThreadId.{QualifiedThreadId}
use Rattle.std.proofs.Common.{inl, refl}
use Rattle.std.specs.Prelude.{Bool, Err, None, Ok, Option, Result, Some, false, is_some, true, ℕ, ◌≡◌}
use Rattle.ops_calls.specs.Tasks.{Begins, task_begun}
use Rattle.task_group.specs.Listeners.{AnsweredErr, Listeners, ToldWithHookOk}
use Rattle.store_notices.proofs.MoveLemmas.{none_told}
use Rattle.task_loop.proofs.CallStartLemmas.{reason_heard}
use Rattle.task_loop.proofs.HookStartLemmas.{unhooked_always}
use Rattle.task_loop.specs.Begun.{LeavesTask}
use Rattle.task_loop.specs.CallStarts.{IsReason}
use Rattle.task_loop.specs.GuestCalls.{has_room, table_refusal}
use Rattle.task_loop.specs.NewTasks.{MakesCall}
use Rattle.task_loop.specs.Told.{begun_notices}
use Rattle.machine_data.specs.declared.component.ExportKind.{ExportKind}
use Rattle.machine_data.specs.declared.trap.Trap.{Trap}
use Rattle.machine_data.specs.declared.trap.Trap.TheVariants as trap
use Rattle.task_store.specs.declared.store.Store.{Store}
use Rattle.core_primitives.specs.StateView.{StateView}

-- what was answered as an error
pub err_is : {A : Type 0} (e f : TaskError) → ◌≡◌ {A = Result A TaskError} (Err e) (Err f) → e ≡ f
err_is e f is = cc

module _ (x : ExportKind) (i : ℕ) (f : Option QualifiedThreadId) (s t : StateView) where
  -- ---- Of what the state's call resulted in

  pub begins_reason : (listens : Bool) (room : Bool) (why : TaskError) (a b : Listeners) → Begins x i f s room (Err why) t → IsReason listens (table_refusal room) why a b
  begins_reason listens false why a b begins = err_is why (task_error.Trap trap.TableFull) begins.0
  begins_reason listens true why a b begins = inl begins.0

  pub begins_other : (room : Bool) (why : TaskError) → Begins x i f s room (Err why) t → why ≡ task_error.Trap trap.HookFailed → ⊥
  begins_other false why begins hook = let is = err_is why (task_error.Trap trap.TableFull) begins.0 in absurd (cc)
  begins_other true why begins hook = let is = begins.0 in absurd (cc)

  pub begins_still : (room : Bool) (why : TaskError) → Begins x i f s room (Err why) t → t ≡ s
  begins_still false why begins = begins.1
  begins_still true why begins = begins.1

  -- ---- What is so then

  pub begins_core : (room : Bool) (id : QualifiedThreadId) → Begins x i f s room (Ok id) t → t.core ≡ task_begun x i f s
  begins_core false id begins = absurd (let refused = begins.0 in cc)
  begins_core true id begins = begins.becomes.core

-- a task with a caller makes no group
pub called_makes : {T H G : Type 0} (listens : Bool) (x : ExportKind) (i : ℕ) (f : Option QualifiedThreadId) (s : Store T H G) (u : StateView)
    (r : Result QualifiedThreadId TaskError) → is_some f ≡ true → Begins x i f s.state (has_room f s.state) r u →
    MakesCall listens x i f s r (record s { state = u })
called_makes listens x i f s u (Ok id) some begins = record { begins = begins; begun = nothing_begun f some }
  where
    nothing_begun : (f : Option QualifiedThreadId) → is_some f ≡ true → ToldWithHookOk (begun_notices f s.state.core) s.listeners s.listeners
    nothing_begun None some = absurd (cc)
    nothing_begun (Some from) some = none_told s.listeners
called_makes listens x i f s u (Err why) some begins = record {
  reason = begins_reason x i f s.state u listens (has_room f s.state) why s.listeners s.listeners begins;
  state = begins_still x i f s.state u (has_room f s.state) why begins;
  told = untold f some;
  unhooked = unhooked_always listens s.listeners (s.listeners ≡ s.listeners) refl;
}
  where
    untold : (f : Option QualifiedThreadId) → is_some f ≡ true → LeavesTask f why s.state.core s.listeners s.listeners
    untold None some = absurd (cc)
    untold (Some from) some = refl

-- refusal 22 is the hook's, that listens, and answered an error
pub unmade_heard : (listens : Bool) (room : Bool) (why : TaskError) (a b : Listeners) → IsReason listens (table_refusal room) why a b →
    why ≡ task_error.Trap trap.HookFailed → (listens ≡ true) × AnsweredErr a b
unmade_heard listens room why a b = reason_heard listens (table_refusal room) why a b (other room)
  where
    other : (room : Bool) (w : Trap) → table_refusal room ≡ Some w → w ≡ trap.HookFailed → ⊥
    other true w is hook = absurd (cc)
    other false w is hook = absurd (cc)
