-- A spawn of a work in a store, and in the store of a slot.
use Rattle.std.specs.Prelude.{Err, IfErr, IfOk, None, Ok, OnErr, OnOk, Result, ◌≡◌}
use Rattle.ops_state.specs.declared.error.TaskError.{TaskError}
use Rattle.ops_state.specs.declared.error.TaskError.TheVariants as faults
use Rattle.task_store.specs.Slots.{Stays}
use Rattle.task_store.specs.declared.accessor.SpawnError.{SpawnError}
use Rattle.task_store.specs.declared.accessor.SpawnError.TheVariants as refusals
use Rattle.task_store.specs.declared.slot.Held.{Held}
use Rattle.task_store.specs.declared.slot.Held.TheVariants as helds
use Rattle.task_store.specs.declared.slot.SlotError.TheVariants as errors
use Rattle.machine_data.specs.declared.component.Component.{Component}
use Rattle.machine_data.specs.declared.component.HostDef.{HostDef}
use Rattle.machine_data.specs.declared.records.Turn.{Turn}
use Rattle.machine_data.specs.declared.records.WorkCaller.TheVariants as work_callers
use Rattle.machine_rules.specs.Calls.{next_work, work_queued}
use Rattle.task_store.specs.Hosts.{HoldsHosts, WorksNumbered}
use Rattle.task_store.specs.Spawned.{IsSpawnedIn}
use Rattle.task_store.specs.declared.spawn.SpawnHandle.{SpawnHandle}
use Rattle.task_store.specs.declared.store.Store.{Store}
use Rattle.ops_turns.specs.Turn.{CoreInOrder}
use Rattle.core_primitives.specs.StateView.{Keeps, work_of}

-- what a slot's spawn answers, where the store's answers this
abbrev pub of_task : {H : Type 0} → Result SpawnHandle TaskError → Result SpawnHandle (SpawnError H)
of_task (Ok h) = Ok h
of_task (Err e) = Err (refusals.Task e)

module _ {T H G : Type 0} (course : H → HostDef) (work : H) where
  -- the work is queued in the store as the machine's work, and held; or it is out of memory, and no work is made
  pub record Spawns (result : Result SpawnHandle TaskError) (s t : Store T H G) : Type 0 where
    pub number : IfOk result (λ h. h.number ≡ next_work s.state.core)
    pub named : IfOk result (λ h. work_of t.state h.work ≡ h.number)
    pub spawned : IfOk result (λ h. IsSpawnedIn h t.state)
    pub core : OnOk result (t.state.core ≡ work_queued work_callers.Spawn (course work) None s.state.core)
    pub current : t.state.current ≡ s.state.current
    pub tags : Keeps s.state.tags t.state.tags
    pub order : (c : Component) (p : Turn) → CoreInOrder c p s.state.core → CoreInOrder c p t.state.core
    pub hosts : WorksNumbered s.state.core → HoldsHosts course s → HoldsHosts course t
    pub rest : t ≡ record s { state = t.state; works = t.works }
    pub out_of_memory : IfErr result (λ e. e ≡ faults.NoMemory)
    pub err : OnErr result (t.state ≡ s.state)

module _ {T H : Type 0} (course : H → HostDef) (work : H) where
  -- a spawn in the store of a slot; where that has none, or it is taken, the work comes back
  abbrev pub SpawnsIn : Held T H → Result SpawnHandle (SpawnError H) → Held T H → Type 0
  SpawnsIn helds.Absent result new = (result ≡ Err (refusals.Slot errors.Absent work)) × (new ≡ helds.Absent)
  SpawnsIn helds.Taken result new = (result ≡ Err (refusals.Slot errors.Taken work)) × (new ≡ helds.Taken)
  SpawnsIn (helds.Store store) result new =
      (made : Result SpawnHandle TaskError) × (result ≡ of_task made) × Stays store new (λ left. Spawns course work made store.now left.now)
