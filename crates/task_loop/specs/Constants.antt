-- What of a store no step of a run changes.
use Rattle.std.specs.Prelude.{Bool, ℕ}
use Rattle.task_store.specs.declared.store.Store.{Store}

-- whether a run is active on it, whether its calls may run beside one another, and its number
abbrev pub constants : {T H G : Type 0} → Store T H G → Bool × (Bool × ℕ)
constants store = (store.running, (store.concurrent, store.id))
