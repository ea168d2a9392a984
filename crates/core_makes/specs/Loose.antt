-- Chains and nodes that were made before what they are for.
use Rattle.std.specs.Prelude.{◌≡◌, ℕ, [], List, None, Option, Some, true}
use Rattle.table_links.specs.Links.{Spot, is_made, link_of, list_of}
use Rattle.core_records.specs.Image.{CoreImage}
use Rattle.core_records.specs.RecordPlaces.{place_chain, ready_call_chain, ready_work_chain}
use Rattle.core_records.specs.declared.set_records.WaitSet.{WaitSet}
use Rattle.core_records.specs.Rows.{instance_queue_chain}
use Rattle.core_records.specs.declared.single.Single.{Single}
use Rattle.task_table.specs.Table.{Placed, Table, place_at}

-- It is there, is empty, and hangs on nothing.
pub record IsLoose {K P : Type 0} (chain : K → Option ℕ) (links : List (Spot P)) (c : ℕ) : Type 0 where
  pub empty : list_of links c ≡ Some []
  pub apart : (k : K) → chain k ≡ Some c → ⊥

-- The chains that an instance is to have: of its held threads, of the starts that backpressure keeps out, and of its entries at high and
-- at low.
pub record AreLoose (p : CoreImage) (c s h l : ℕ) : Type 0 where
  pub held : IsLoose (place_chain p) p.places c
  pub starts : IsLoose (place_chain p) p.places s
  pub apart : c ≡ s → ⊥
  pub high : IsLoose (instance_queue_chain p) p.instance_queues h
  pub low : IsLoose (instance_queue_chain p) p.instance_queues l
  pub two : h ≡ l → ⊥

-- The chains that a set is to have: of its waiters, and of its ready members.
pub record AreSetLoose (p : CoreImage) (x : WaitSet) : Type 0 where
  pub waiters : IsLoose (place_chain p) p.places x.waiters
  pub ready_calls : IsLoose (ready_call_chain p) p.ready_calls x.ready_calls
  pub ready_works : IsLoose (ready_work_chain p) p.ready_works x.ready_works

-- A node that was made for an entry: it is in no chain, and no entry of the table has it.
pub record IsSpare {T P : Type 0} (node : T → ℕ) (t : Table (Single T)) (links : List (Spot P)) (n : ℕ) : Type 0 where
  pub made : is_made links n ≡ true
  pub free : link_of links n ≡ None
  pub apart : (rep : ℕ) (q : Placed (Single T)) → place_at t rep ≡ Some q → node q.entry.item ≡ n → ⊥
