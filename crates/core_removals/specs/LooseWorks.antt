-- The nodes and the chain of a host work, made before it.
use Rattle.std.specs.Prelude.{◌≡◌, ℕ, Some}
use Rattle.core_makes.specs.Loose.{IsLoose, IsSpare}
use Rattle.core_records.specs.Image.{CoreImage}
use Rattle.core_records.specs.RecordPlaces.{place_chain}
use Rattle.core_records.specs.declared.single.Single.{Single}
use Rattle.core_records.specs.declared.thread_records.GuestThread.{GuestThread}
use Rattle.core_records.specs.declared.work_records.WorkRecord.{WorkRecord}
use Rattle.task_table.specs.Table.{Placed, place_at}
use Rattle.core_removals.specs.declared.work_nodes.WorkNodes.{WorkNodes}

abbrev pub nodes_of : WorkRecord → WorkNodes
nodes_of w = record { ready = w.ready; live = w.live; mark = w.mark; blocked = w.blocked }

-- They hang on nothing; no thread has the node of the mark.
pub record AreWorkLoose (p : CoreImage) (n : WorkNodes) : Type 0 where
  pub ready : IsSpare (λ (w : WorkRecord). w.ready.index) p.works p.ready_works n.ready.index
  pub live : IsSpare (λ (w : WorkRecord). w.live.index) p.works p.polled n.live.index
  pub mark : IsSpare (λ (w : WorkRecord). w.mark.index) p.works p.marks n.mark.index
  pub no_thread : (rep : ℕ) (g : Placed (Single GuestThread)) → place_at p.threads rep ≡ Some g → g.entry.item.mark.index ≡ n.mark.index → ⊥
  pub blocked : IsLoose (place_chain p) p.places n.blocked
