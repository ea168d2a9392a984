-- Calls with typed parameters and results.
use Rattle.futures.specs.declared.task.Poll.{Poll}
use Rattle.futures.specs.declared.task.Poll.TheVariants.{Pending, Ready}
use Rattle.ops_state.specs.declared.error.TaskError.{TaskError}
use Rattle.std.specs.Prelude.{Bool, Err, List, Ok, Option, Result, option_map, ℕ, ◌≡◌}
use Rattle.ops_calls.specs.MainCalls.{Finishes}
use Rattle.task_loop.specs.CallStarts.{StartsOrLeaves}
use Rattle.task_loop.specs.LoopCalls.{callee_of}
use Rattle.task_loop.specs.InstanceCalls.{DoesOn}
use Rattle.task_loop.specs.PolledRuns.{PollsCall}
use Rattle.task_loop.specs.declared.call.FuncCallConcurrent.{FuncCallConcurrent}
use Rattle.task_loop.specs.declared.typed.TypedCallConcurrent.{TypedCallConcurrent}
use Rattle.task_loop.specs.declared.typed.TypedFuncCallConcurrent.{TypedFuncCallConcurrent}
use Rattle.machine_data.specs.declared.component.Callee.{Callee}
use Rattle.machine_data.specs.declared.component.Component.{Component}
use Rattle.task_store.specs.declared.store.Store.{Store}
use Rattle.core_primitives.specs.StateView.{StateView}

-- the call without its types, that was started or not
abbrev pub untyped : {P R : Type 0} → Result (TypedFuncCallConcurrent P R) TaskError → Result FuncCallConcurrent TaskError
untyped (Ok call) = Ok call.call
untyped (Err why) = Err why

-- this of the one that a poll keeps
abbrev pub untyped_in : {P R : Type 0} → TypedCallConcurrent P R → Option FuncCallConcurrent
untyped_in m = option_map (λ call. call.call) m.call

-- a start with these words
abbrev pub StartsTyped : {P R T H G : Type 0} → (listens : Bool) → Component → Callee → List ℕ → DoesOn (TypedFuncCallConcurrent P R) T H G
StartsTyped listens c e words s r t = StartsOrLeaves listens c e words s (untyped r) t

-- the result is made from the word that was answered, if one was
abbrev pub IsResult : {R : Type 0} → (ℕ → R) → Poll ℕ → Poll R → Type 0
IsResult from (Ready w) r = r ≡ Ready (from w)
IsResult from Pending r = r ≡ Pending

-- the call of this number is finished, if it has a result
abbrev pub FinishesTyped : {R : Type 0} → (ℕ → R) → ℕ → StateView → Poll R → StateView → Type 0
FinishesTyped from k s r t = (answer : Poll ℕ) × (IsResult from answer r × Finishes k s answer t)

-- a poll of a call with these parameters, of which nothing but the call that it keeps is changed
abbrev pub PollsTyped : {P R T H G : Type 0} → (words : P → List ℕ) → (from : ℕ → R) → (listens : Bool) → Component →
    TypedCallConcurrent P R → Store T H G → Poll (Result R TaskError) → TypedCallConcurrent P R → Store T H G → Type 0
PollsTyped words from listens c m s r n t =
    (n ≡ record m { call = n.call })
    × PollsCall from (λ u a v. StartsOrLeaves listens c (callee_of m.func.func) (words m.params) u a v) (untyped_in m) s r (untyped_in n) t
