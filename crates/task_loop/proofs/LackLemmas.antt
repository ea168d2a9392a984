-- What was told where it is out of memory.
use Rattle.ops_state.specs.declared.error.TaskError.{TaskError}
use Rattle.ops_state.specs.declared.error.TaskError.TheVariants as task_error
use Rattle.std.proofs.Common.{inl, inr, refl, subst, sym}
use Rattle.std.specs.Prelude.{Bool, List, None, [], ℕ, ◌++◌, ◌∷◌, ◌≡◌, ◌⊎◌}
use Rattle.store_notices.specs.Moves.{StopsAt, finishes}
use Rattle.task_group.proofs.GroupLemmas.{told-append, told-none}
use Rattle.task_group.specs.Listeners.{Listeners, ToldListeners, ToldWithHookOk}
use Rattle.task_loop.specs.Begun.{TellsUnmade, start_and_finish}
use Rattle.task_loop.specs.CallStarts.{HasStarted, StopsUnmade}
use Rattle.task_loop.specs.Told.{StartFails, TellsSome, begun_notices}
use Rattle.task_loop.specs.declared.call.FuncCallConcurrent.{FuncCallConcurrent}
use Rattle.machine_data.specs.Core.{Core}
use Rattle.machine_data.specs.declared.component.Callee.{Callee}
use Rattle.machine_data.specs.declared.component.Component.{Component}
use Rattle.machine_data.specs.declared.records.Notice.{Notice}
use Rattle.machine_data.specs.declared.trap.Trap.TheVariants as trap
use Rattle.task_store.specs.declared.store.Store.{Store}

pub tells_none : (old new : Listeners) → new ≡ old → TellsSome old new
tells_none old new same = ([], subst (λ (l : Listeners). ToldListeners [] old l) (sym same) (told-none old))

-- one after another
pub tells_then : (old mid new : Listeners) → TellsSome old mid → TellsSome mid new → TellsSome old new
tells_then old mid new first last = (first.0 ++ last.0, told-append first.0 last.0 old mid new first.1 last.1)

-- up to an error of the hook
pub stops_tells : (ns : List Notice) (old new : Listeners) → StopsAt ns old new → TellsSome old new
stops_tells ns old new stops = tells_then old stops.between new (stops.before, stops.hook_is_ok.told) (stops.failed ∷ [], stops.last)

-- a group that isn't made started and finished, or as far as the hook answered no error, or it wasn't told of
pub unmade_tells : (why : TaskError) (s : Core) (old new : Listeners) → TellsUnmade why s old new → TellsSome old new
unmade_tells task_error.NoMemory s old new told = by (told.out_of_memory refl)
  where
    by : (new ≡ old) ⊎ ToldWithHookOk (start_and_finish s) old new → TellsSome old new
    by (inl same) = tells_none old new same
    by (inr begun) = (start_and_finish s, begun.told)
unmade_tells (task_error.Trap trap.HookFailed) s old new told = stops_tells (start_and_finish s) old new (told.hooked refl)
unmade_tells why s old new told = tells_none old new (told.refused (λ hook. cc) (λ memory. cc))

-- then all groups finished
pub stopped_tells : {T H G : Type 0} (listens : Bool) (s : Store T H G) (why : TaskError) (t : Store T H G) → StopsUnmade listens s why t → TellsSome s.listeners t.listeners
stopped_tells listens s why t stops =
    let told = stops.told in
    tells_then s.listeners told.between t.listeners (unmade_tells why s.state.core s.listeners told.between told.told) (finishes s.state.tags.tracked, told.finished)

-- so it is of a start of main to which the hook answered an error
pub failed_tells : (s : Core) (old new : Listeners) → StartFails s old new → TellsSome old new
failed_tells s old new fails = tells_then old fails.between new (stops_tells (start_and_finish s) old fails.between fails.stops) (finishes s.groups, fails.finished)

-- the group of a call that was made started
pub started_tells : {T H G : Type 0} (c : Component) (e : Callee) (words : List ℕ) (s : Store T H G) (call : FuncCallConcurrent) (t : Store T H G) → HasStarted c e words s call t → TellsSome s.listeners t.listeners
started_tells c e words s call t has = (begun_notices None s.state.core, has.begun.told)
