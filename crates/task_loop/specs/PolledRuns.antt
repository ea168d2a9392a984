-- Calls that are polled: started first, and then waited for.
use Rattle.futures.specs.declared.task.Poll.{Poll}
use Rattle.futures.specs.declared.task.Poll.TheVariants.{Pending, Ready}
use Rattle.ops_state.specs.declared.error.TaskError.{TaskError}
use Rattle.std.specs.Prelude.{Bool, Err, None, Ok, Option, Result, Some, ℕ, ◌≡◌, ◌⊎◌}
use Rattle.ops_calls.specs.MainCalls.{Finishes}
use Rattle.task_loop.specs.CallStarts.{StartsOrStops}
use Rattle.task_loop.specs.LoopCalls.{callee_of}
use Rattle.task_loop.specs.InstanceCalls.{DoesOn}
use Rattle.task_loop.specs.declared.call.FuncCallConcurrent.{FuncCallConcurrent}
use Rattle.task_loop.specs.declared.call_concurrent.CallConcurrent.{CallConcurrent}
use Rattle.machine_data.specs.declared.component.Component.{Component}
use Rattle.task_store.specs.declared.store.Store.{Store}

-- what is made of the word that a call returned, if it has
abbrev pub shown_as : {A : Type 0} → (ℕ → A) → Poll ℕ → Poll (Result A TaskError)
shown_as from (Ready w) = Ready (Ok (from w))
shown_as from Pending = Pending

-- The call of this number is finished, if it has a result. Nothing but the state is changed.
pub record FinishesAs {A T H G : Type 0} (from : ℕ → A) (k : ℕ) (s : Store T H G) (r : Poll (Result A TaskError)) (t : Store T H G) :
    Type 0 where
  pub answer : Poll ℕ
  pub shown : r ≡ shown_as from answer
  pub finishes : Finishes k s.state answer t.state
  pub rest : t ≡ record s { state = t.state }

-- The call was started, is kept, and is finished if it has a result at once.
pub record StartsFirst {A T H G : Type 0} (from : ℕ → A) (starts : DoesOn FuncCallConcurrent T H G) (s : Store T H G)
    (r : Poll (Result A TaskError)) (kept : Option FuncCallConcurrent) (t : Store T H G) : Type 0 where
  pub call : FuncCallConcurrent
  pub is_kept : kept ≡ Some call
  pub began : Store T H G
  pub start : starts s (Ok call) began
  pub finishes : FinishesAs from call.thread began r t

-- It wasn't started, which is answered, and none is kept.
pub record StartsNone {A T H G : Type 0} (starts : DoesOn FuncCallConcurrent T H G) (s : Store T H G) (r : Poll (Result A TaskError))
    (kept : Option FuncCallConcurrent) (t : Store T H G) : Type 0 where
  pub why : TaskError
  pub shown : r ≡ Ready (Err why)
  pub none : kept ≡ None
  pub start : starts s (Err why) t

-- A poll that has no call starts one, and a poll that has one finishes it.
abbrev pub PollsCall : {A T H G : Type 0} → (from : ℕ → A) → (starts : DoesOn FuncCallConcurrent T H G) →
    (had : Option FuncCallConcurrent) → Store T H G → Poll (Result A TaskError) → (kept : Option FuncCallConcurrent) → Store T H G → Type 0
PollsCall from starts None s r kept t = StartsFirst from starts s r kept t ⊎ StartsNone starts s r kept t
PollsCall from starts (Some call) s r kept t = (kept ≡ Some call) × FinishesAs from call.thread s r t

-- a poll of a call with these words, of which nothing but the call that it keeps is changed
abbrev pub Polls : {T H G : Type 0} → (listens : Bool) → Component → CallConcurrent → Store T H G → Poll (Result ℕ TaskError) →
    CallConcurrent → Store T H G → Type 0
Polls listens c m s r n t =
    (n ≡ record m { call = n.call })
    × PollsCall (λ w. w) (λ u a v. StartsOrStops listens c (callee_of m.func) m.params.items u a v) m.call s r n.call t
