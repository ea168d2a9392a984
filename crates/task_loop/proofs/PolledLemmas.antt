-- A poll starts a call, or finishes the one that it has.
use Rattle.futures.specs.declared.task.Poll.{Poll}
use Rattle.ops_state.specs.declared.error.TaskError.{TaskError}
use Rattle.std.proofs.Common.{subst, sym}
use Rattle.std.specs.Prelude.{None, Option, Result, Some, ℕ, ◌≡◌, ◌⊎◌}
use Rattle.task_loop.specs.InstanceCalls.{DoesOn}
use Rattle.task_loop.specs.PolledRuns.{FinishesAs, PollsCall, StartsFirst, StartsNone}
use Rattle.task_loop.specs.declared.call.FuncCallConcurrent.{FuncCallConcurrent}
use Rattle.task_store.specs.declared.store.Store.{Store}

module _ {A T H G : Type 0} (from : ℕ → A) (starts : DoesOn FuncCallConcurrent T H G) (had : Option FuncCallConcurrent) (s : Store T H G)
    (r : Poll (Result A TaskError)) (kept : Option FuncCallConcurrent) (t : Store T H G) where
  pub polls_first : had ≡ None → StartsFirst from starts s r kept t ⊎ StartsNone starts s r kept t → PollsCall from starts had s r kept t
  polls_first none first = subst (λ (o : Option FuncCallConcurrent). PollsCall from starts o s r kept t) (sym none) first

  pub polls_on : (call : FuncCallConcurrent) → had ≡ Some call → kept ≡ Some call → FinishesAs from call.thread s r t → PollsCall from starts had s r kept t
  polls_on call some same finishes = subst (λ (o : Option FuncCallConcurrent). PollsCall from starts o s r kept t) (sym some) (same, finishes)
