-- Entries that are at high or low: whose they are, and which one a node takes away.
use Rattle.std.specs.Prelude.{◌≡◌, ◌==◌, ◌&&◌, ℕ, Bool, true, false, List, [], ◌∷◌, Option, Some, None}
use Rattle.core_records.specs.Image.{CoreImage}
use Rattle.table_lists.specs.Rows.{less_by}
use Rattle.table_links.specs.Links.{Spot}
use Rattle.core_records.specs.Rows.{High, Low, Row, row, thread_entry}
use Rattle.core_records.specs.Sound.{IsWhole}
use Rattle.core_records.specs.declared.single.Single.{Single}
use Rattle.core_records.specs.declared.thread_records.GuestThread.{GuestThread}
use Rattle.core_records.specs.declared.thread_records.Queued.{Queued}
use Rattle.core_records.specs.declared.work_records.WorkRecord.{WorkRecord}
use Rattle.machine_data.specs.declared.records.Entry.{Entry}
use Rattle.machine_data.specs.declared.records.Entry.TheVariants as entry
use Rattle.task_table.specs.Table.{Placed, is_number, place_at}

-- The entry is that of the thread at its place.
pub record OfThread (p : CoreImage) (x : Queued) : Type 0 where
  pub placed : Placed (Single GuestThread)
  pub at : place_at p.threads x.place ≡ Some placed
  pub is : thread_entry x.place placed.entry.item ≡ x

abbrev pub is_entry_of_work : ℕ → Entry → Bool
is_entry_of_work i (entry.Thread n) = false
is_entry_of_work i (entry.Push j) = i == j
is_entry_of_work i (entry.Host j) = i == j

-- The entry is one of the work at its place.
pub record OfWork (p : CoreImage) (x : Queued) : Type 0 where
  pub placed : Placed (Single WorkRecord)
  pub at : place_at p.works x.place ≡ Some placed
  pub mark : placed.entry.item.mark ≡ x.mark
  pub entry : is_entry_of_work placed.entry.item.number x.entry ≡ true
  pub alone : x.instance ≡ None

abbrev pub same_instance : Option ℕ → Option ℕ → Bool
same_instance None None = true
same_instance None (Some j) = false
same_instance (Some i) o = is_number i o

-- x is the entry that is by the node of q
abbrev pub leaves : Queued → Queued → Bool
leaves q x = (x.mark.index == q.mark.index) && same_instance q.instance x.instance

-- the first of a list
abbrev pub top : {P : Type 0} → List P → Option P
top [] = None
top (x ∷ xs) = Some x

-- all but the first
abbrev pub rest : {P : Type 0} → List P → List P
rest [] = []
rest (x ∷ xs) = xs

-- these entries at one mark, and those of the other one as they are
abbrev pub row_with : Row → List Queued → (Row → List Queued) → Row → List Queued
row_with High xs list High = xs
row_with High xs list Low = list Low
row_with Low xs list High = list High
row_with Low xs list Low = xs

-- the entries of each mark without the one that is by the node of q
abbrev pub left : CoreImage → Queued → Row → List Queued
left p q r = less_by (leaves q) (row p r)

-- The parts with these chains of marks and instances' queues are whole, and have these entries at the marks.
pub record RowsAre (p : CoreImage) (marks instance_queues : List (Spot Queued)) (list : Row → List Queued) : Type 0 where
  pub whole : IsWhole (record p { marks = marks; instance_queues = instance_queues })
  pub rows : (r : Row) → row (record p { marks = marks; instance_queues = instance_queues }) r ≡ list r
