-- The order of order keys, and links whose chains are in it.
use Rattle.task_wait.specs.Walks.{IsWalk}
use Rattle.table_links.specs.declared.links.Node.{Node}
use Rattle.std.specs.Ordering.{is_lt, nat_cmp, ordering_then}
use Rattle.std.specs.Prelude.{ℕ, ◌∷◌, if◌then◌else◌, Bool, false, List, Option, Some, None, option_map}
use Rattle.std.specs.declared.cmp.Ordering.{Ordering}
use Rattle.table_lists.specs.declared.ordered_lists.OrderKey.{OrderKey}
use Rattle.table_links.specs.Links.{Spot, entries, head_of, linked}
use Rattle.task_wait.specs.Sets.{IsAscending, placed}

-- by the place of the task, then of the thread, then by the place in the table of their kind
abbrev pub order_key_order : OrderKey → OrderKey → Ordering
order_key_order a b = ordering_then (nat_cmp a.task b.task) (ordering_then (nat_cmp a.thread b.thread) (nat_cmp a.place b.place))

-- Each chain is in that order.
abbrev pub AreOrdered : List (Spot OrderKey) → Type 0
AreOrdered links = (chain : ℕ) → IsAscending order_key_order (entries links chain)

module _ {P : Type 0} (cmp : P → P → Ordering) where
  -- the value is less than that of the entry
  abbrev pub comes_first : P → Option (ℕ × P) → Bool
  comes_first value None = false
  comes_first value (Some e) = is_lt (cmp value e.1)

  -- the list with an entry at the front, where that is less than the first, else after the last one that is less
  abbrev pub keyed : ℕ × P → List (ℕ × P) → List (ℕ × P)
  keyed e list = if comes_first e.1 (head_of list) then e ∷ list else placed cmp e list

  -- the links with the node in the chain, at that place
  abbrev pub linked_keyed : (chain node : ℕ) → P → List (Spot P) → List (Spot P)
  linked_keyed chain node value links = linked chain node value (keyed (node, value) (entries links chain)) links

  -- From where a value's place is looked for: the next node to be looked at, and the last that was found not to be less.
  abbrev pub BeginsWalk : P → List (ℕ × P) → Option (Node × P) × Option Node → Type 0
  BeginsWalk value list begun =
      IsWalk (λ other. is_lt (cmp other value)) list (option_map (λ e. (e.0.index, e.1)) begun.0) (option_map (λ node. node.index) begun.1)
