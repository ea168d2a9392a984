-- What a thread is among the waiting ones of its call, where a cancel may take any of these.
use Rattle.std.specs.Prelude.{◌≡◌, IfSome, IsSome, List, None, Option, Some, option_and_then, option_map, true, ℕ}
use Rattle.core_places.specs.declared.waits.WaitFiling.{WaitFiling}
use Rattle.core_records.specs.RecordPlaces.{member_order_key, wait_chain, waits_in}
use Rattle.core_records.specs.Seen.{parts_of}
use Rattle.core_records.specs.Sound.{bare}
use Rattle.core_records.specs.declared.parts.CoreParts.{CoreParts}
use Rattle.core_records.specs.declared.thread_records.GuestThread.{GuestThread}
use Rattle.machine_data.specs.declared.records.Place.{Place}
use Rattle.table_links.specs.Links.{Spot, is_made, list_of}
use Rattle.table_links.specs.declared.links.Node.{Node}
use Rattle.table_lists.specs.Index.{Refiles}
use Rattle.table_lists.specs.declared.ordered_lists.OrderKey.{OrderKey}

-- the chain of the waiting threads of its call, if it is at such a place
abbrev pub wait_chain_at : CoreParts → GuestThread → Place → Option ℕ
wait_chain_at a g p = option_and_then (wait_chain (bare (parts_of a))) (waits_in p g.thread.call)

-- what it is to be there, with this node
abbrev pub filing_at : CoreParts → (rep : ℕ) → GuestThread → Place → Node → WaitFiling
filing_at a rep g p node = record { node = node; chain = wait_chain_at a g p; order_key = member_order_key g.entry rep }

-- and none if it has no node for that
abbrev pub wait_filing : CoreParts → (rep : ℕ) → GuestThread → Place → Option WaitFiling
wait_filing a rep g p = option_map (λ node. filing_at a rep g p node) g.wait

-- Its node was made, and the chain is live.
abbrev pub MayRefile : List (Spot OrderKey) → Option WaitFiling → Type 0
MayRefile links w = IfSome w (λ f. (is_made links f.node.index ≡ true) × IfSome f.chain (λ c. IsSome (list_of links c)))

-- Its node is in that chain alone, or in none.
abbrev pub RefilesWait : (old new : List (Spot OrderKey)) → Option WaitFiling → Type 0
RefilesWait old new None = new ≡ old
RefilesWait old new (Some f) = Refiles old new f.node.index (option_map (λ c. (c, f.order_key)) f.chain)
