-- What is let go with a store.
use Rattle.store_notices.specs.Moves.{finishes}
use Rattle.store_works.specs.KeptWorks.{HoldsNone}
use Rattle.std.specs.Prelude.{◌≡◌}
use Rattle.task_group.specs.Listeners.{ToldListeners}
use Rattle.machine_data.specs.Write.{set_trapped}
use Rattle.task_store.specs.declared.store.Store.{Store}
use Rattle.core_primitives.specs.Groups.{asked}
use Rattle.core_primitives.specs.StateView.{on_core}

-- All groups are finished, which is told, the store is trapped, and no host work is held.
pub record LetsGo {T H G : Type 0} (s t : Store T H G) : Type 0 where
  pub state : t.state ≡ asked (on_core set_trapped s.state)
  pub told : ToldListeners (finishes s.state.tags.tracked) s.listeners t.listeners
  pub works : HoldsNone t.works
  pub rest : t ≡ record s { state = t.state; works = t.works; listeners = t.listeners }
