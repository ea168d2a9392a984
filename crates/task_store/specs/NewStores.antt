-- A store as it is made.
use Rattle.store_works.specs.KeptWorks.{HoldsNone}
use Rattle.std.specs.Prelude.{Bool, [], false, ℕ, ◌≡◌}
use Rattle.task_group.specs.Listeners.{nobody}
use Rattle.core_records.specs.Seen.{nothing}
use Rattle.task_store.specs.declared.store.Store.{Store}

-- Nothing was made in it: it has this value, and the host knows it by this number.
pub record IsNewStore {T H G : Type 0} (v : T) (b : Bool) (i : ℕ) (s : Store T H G) : Type 0 where
  pub value : s.value ≡ v
  pub concurrent : s.concurrent ≡ b
  pub id : s.id ≡ i
  pub fuel : s.fuel ≡ 134217728
  pub scopes : s.scopes ≡ []
  pub state : s.state ≡ nothing
  pub listeners : s.listeners ≡ nobody
  pub works : HoldsNone s.works
  pub running : s.running ≡ false
