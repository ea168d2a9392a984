-- A thread that comes after all that wait or are held.
use Rattle.std.specs.Prelude.{◌≡◌, List, None, Option, Some, ℕ}
use Rattle.core_places.specs.Moved.{WritesThread}
use Rattle.core_records.specs.declared.single.Single.{Single}
use Rattle.core_records.specs.declared.thread_records.GuestThread.{GuestThread}
use Rattle.table_links.specs.Links.{Spot}
use Rattle.table_lists.specs.Index.{Refiles}
use Rattle.table_lists.specs.declared.ordered_lists.OrderKey.{OrderKey}
use Rattle.task_table.specs.Table.{Table}
use Rattle.task_table.specs.declared.id.TableId.{TableId}
use Rattle.task_wait.specs.declared.keys.ThreadKey.{ThreadKey}

-- The record of the thread that the id names has this as when it came.
abbrev pub ComesAt : ℕ → TableId ThreadKey → (old new : Table (Single GuestThread)) → Type 0
ComesAt arrival = WritesThread (λ g. record g { thread = record g.thread { came = arrival } })

-- The node keeps its chain, if it is in one, with this order key.
abbrev pub Rekeys : (old new : List (Spot OrderKey)) → ℕ → OrderKey → Option (ℕ × OrderKey) → Type 0
Rekeys old new n key None = new ≡ old
Rekeys old new n key (Some l) = Refiles old new n (Some (l.0, key))
