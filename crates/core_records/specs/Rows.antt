-- The lists that the machine keeps, as chains: high and low, of each instance its entries there, and the callers of a thread.
use Rattle.std.specs.Prelude.{◌≡◌, ℕ, Bool, List, Option, Some, None, IsSome, true, slice_get, option_map}
use Rattle.table_links.specs.Links.{Spot, is_made}
use Rattle.machine_data.specs.declared.records.Entry.{Entry}
use Rattle.machine_data.specs.declared.records.Entry.TheVariants as entry
use Rattle.core_records.specs.Image.{CoreImage, chained}
use Rattle.core_records.specs.Keys.{callers_key}
use Rattle.core_records.specs.declared.instance_records.InstanceRecord.{InstanceRecord}
use Rattle.core_records.specs.declared.single.Single.{Single}
use Rattle.core_records.specs.declared.thread_records.Follower.{Follower}
use Rattle.core_records.specs.declared.thread_records.GuestThread.{GuestThread}
use Rattle.core_records.specs.declared.thread_records.Queued.{Queued}
use Rattle.core_records.specs.declared.work_records.WorkRecord.{WorkRecord}
use Rattle.task_table.specs.Records.{found_record}
use Rattle.task_table.specs.Table.{Placed, Table, is_number, place_at}

-- The marks whose entries are lists.
pub data Row : Type 0 where
  High : Row
  Low : Row

abbrev pub row_chain : CoreImage → Row → Option ℕ
row_chain p High = p.high
row_chain p Low = p.low

abbrev pub row : CoreImage → Row → List Queued
row p r = chained p.marks (row_chain p r)

-- the entry is of a thread of the instance
abbrev pub is_of_instance : ℕ → Queued → Bool
is_of_instance i q = is_number i q.instance

-- The entry is of a thread, which is in an instance.
abbrev pub IsOfThread : Queued → Type 0
IsOfThread q = IsSome q.instance

abbrev pub instance_queue_in : Row → InstanceRecord → ℕ
instance_queue_in High i = i.high
instance_queue_in Low i = i.low

abbrev pub instance_queue_chain : CoreImage → ℕ × Row → Option ℕ
instance_queue_chain p k = option_map (instance_queue_in k.1) (slice_get p.instances k.0)

-- the entry of the thread at a place, and of the work
abbrev pub thread_entry : ℕ → GuestThread → Queued
thread_entry rep g = record { entry = entry.Thread g.number; place = rep; instance = Some g.instance; mark = g.mark; instance_queue = g.instance_queue }

abbrev pub push_entry : ℕ → WorkRecord → Queued
push_entry rep w = record { entry = entry.Push w.number; place = rep; instance = None; mark = w.mark; instance_queue = w.mark }

abbrev pub host_entry : ℕ → WorkRecord → Queued
host_entry rep w = record { entry = entry.Host w.number; place = rep; instance = None; mark = w.mark; instance_queue = w.mark }

abbrev pub keyed : {E Q : Type 0} → (ℕ → E → Q) → Table (Single E) → ℕ → Option Q
keyed order_key t rep = option_map (λ p. order_key rep p.entry.item) (place_at t rep)

abbrev pub entry_keyed : CoreImage → Entry → ℕ → Option Queued
entry_keyed p (entry.Thread n) rep = keyed thread_entry p.threads rep
entry_keyed p (entry.Push i) rep = keyed push_entry p.works rep
entry_keyed p (entry.Host i) rep = keyed host_entry p.works rep

-- An entry is that of the thread or the work at its place.
abbrev pub IsKeyed : CoreImage → Queued → Type 0
IsKeyed p q = entry_keyed p q.entry q.place ≡ Some q

abbrev pub callers_chain : CoreImage → ℕ → Option ℕ
callers_chain p n = found_record callers_key n p.threads.places

abbrev pub callers_row : CoreImage → ℕ → List Follower
callers_row p n = chained p.behind (callers_chain p n)

abbrev pub follower : ℕ → GuestThread → Follower
follower rep g = record { number = g.number; place = rep; node = g.caller }

-- The thread at the place is the one that is kept.
abbrev pub IsFollower : CoreImage → Follower → Type 0
IsFollower p f = keyed follower p.threads f.place ≡ Some f

-- Each entry of the table has a node that is made, and its own.
pub record HaveNodes {E P : Type 0} (node : E → ℕ) (t : Table (Single E)) (links : List (Spot P)) : Type 0 where
  pub made : (rep : ℕ) (p : Placed (Single E)) → place_at t rep ≡ Some p → is_made links (node p.entry.item) ≡ true
  pub own : (r s : ℕ) (p q : Placed (Single E)) → place_at t r ≡ Some p → place_at t s ≡ Some q →
      node p.entry.item ≡ node q.entry.item → r ≡ s
