-- What a call changes of a store.
use Rattle.std.specs.Prelude.{◌≡◌}
use Rattle.machine_data.specs.Core.{Core}
use Rattle.task_store.specs.declared.store.Store.{Store}
use Rattle.core_primitives.specs.StateView.{on_core}

-- The core is this function of what it was, and nothing else is changed but what is held of works.
abbrev pub ChangesCore : {T H G : Type 0} → (Core → Core) → Store T H G → Store T H G → Type 0
ChangesCore change s t = t ≡ record s { works = t.works; state = on_core change s.state }
