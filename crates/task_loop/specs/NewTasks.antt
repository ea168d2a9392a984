-- What a call whose thread is New results in before the groups that have ended are told of.
use Rattle.ops_state.specs.declared.name_calls.QualifiedThreadId.{QualifiedThreadId}
use Rattle.std.specs.Prelude.{Bool, Err, Ok, Option, ℕ}
use Rattle.ops_calls.specs.Tasks.{Begins}
use Rattle.task_group.specs.Listeners.{ToldWithHookOk}
use Rattle.task_loop.specs.CallStarts.{LeavesUnmade}
use Rattle.task_loop.specs.GuestCalls.{has_room, table_refusal}
use Rattle.task_loop.specs.InstanceCalls.{DoesOn}
use Rattle.task_loop.specs.Told.{begun_notices}
use Rattle.machine_data.specs.declared.component.ExportKind.{ExportKind}
use Rattle.task_store.specs.declared.store.Store.{Store}

-- The call was made, and a group was begun if it has no caller.
pub record HasMade {T H G : Type 0} (x : ExportKind) (i : ℕ) (f : Option QualifiedThreadId) (s : Store T H G) (id : QualifiedThreadId)
    (t : Store T H G) : Type 0 where
  pub begins : Begins x i f s.state (has_room f s.state) (Ok id) t.state
  pub begun : ToldWithHookOk (begun_notices f s.state.core) s.listeners t.listeners

abbrev pub MakesCall : {T H G : Type 0} → (listens : Bool) → ExportKind → ℕ → Option QualifiedThreadId → DoesOn QualifiedThreadId T H G
MakesCall listens x i f s (Ok id) t = HasMade x i f s id t
MakesCall listens x i f s (Err why) t = LeavesUnmade listens (table_refusal (has_room f s.state)) f s why t
