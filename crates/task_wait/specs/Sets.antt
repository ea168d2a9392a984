-- What the calls of a `WaitableSet` change in the links.
use Rattle.std.specs.Prelude.{◌≡◌, ℕ, ◌==◌, if◌then◌else◌, Bool, false, List, [], ◌∷◌, ◌++◌, Option, Some, None, IfSome}
use Rattle.std.specs.declared.cmp.Ordering.{Ordering}
use Rattle.std.specs.List.{list_any}
use Rattle.std.specs.Ordering.{is_lt}
use Rattle.task_wait.specs.declared.set.WaitableSet.{WaitableSet}
use Rattle.table_links.specs.Links.{Spot, entries, head_of, link_of, put_before, removed, linked}

-- the chains of the ready members and of the waiters, and the flag
abbrev pub ready_chain : WaitableSet → ℕ
ready_chain set = set.ready

abbrev pub waiter_chain : WaitableSet → ℕ
waiter_chain set = set.waiters

abbrev pub sync_flag : WaitableSet → Bool
sync_flag set = set.sync

module _ {P : Type 0} where
  -- the ready members and the waiters, in order, over the links that are handed in
  abbrev pub ready_list : WaitableSet → List (Spot P) → List (ℕ × P)
  ready_list set links = entries links (ready_chain set)

  abbrev pub waiter_list : WaitableSet → List (Spot P) → List (ℕ × P)
  waiter_list set links = entries links (waiter_chain set)

  -- there is a link, and it is to this chain
  abbrev pub is_to : ℕ → Option (ℕ × P) → Bool
  is_to chain None = false
  is_to chain (Some link) = link.0 == chain

  -- the node is in this chain
  abbrev pub is_in : ℕ → ℕ → List (Spot P) → Bool
  is_in chain node links = is_to chain (link_of links node)

  -- the node is out of the chain, if it was in it
  abbrev pub taken_out : ℕ → ℕ → List (Spot P) → List (Spot P)
  taken_out chain node links = if is_in chain node links then removed node links else links

  abbrev pub without_entry : Option (ℕ × P) → List (Spot P) → List (Spot P)
  without_entry None links = links
  without_entry (Some e) links = removed e.0 links

  -- the first node of the chain is out of it
  abbrev pub without_first : ℕ → List (Spot P) → List (Spot P)
  without_first chain links = without_entry (head_of (entries links chain)) links

  -- the node of the first entry after which, itself among them, no entry is less
  abbrev pub place_of : (P → Bool) → List (ℕ × P) → Option ℕ
  place_of less [] = None
  place_of less (e ∷ es) = if list_any (λ k. less k.1) (e ∷ es) then place_of less es else Some e.0

  abbrev pub placed_at : Option ℕ → ℕ × P → List (ℕ × P) → List (ℕ × P)
  placed_at None entry list = list ++ entry ∷ []
  placed_at (Some at) entry list = put_before at entry list

  -- the list with an entry after the last one that is less, by the order of the values
  abbrev pub placed : (P → P → Ordering) → ℕ × P → List (ℕ × P) → List (ℕ × P)
  placed cmp entry list = placed_at (place_of (λ value. is_lt (cmp value entry.1)) list) entry list

  -- no value of the list is less than this one
  abbrev pub IsLeast : (P → P → Ordering) → P → List (ℕ × P) → Type 0
  IsLeast cmp value list = list_any (λ e. is_lt (cmp e.1 value)) list ≡ false

  -- no value is less than one that is before it
  abbrev pub IsAscending : (P → P → Ordering) → List (ℕ × P) → Type 0
  IsAscending cmp [] = Unit {0}
  IsAscending cmp (e ∷ es) = IsLeast cmp e.1 es × IsAscending cmp es

  -- the links with the node in the chain, after the last entry that is less
  abbrev pub linked_in_order : (P → P → Ordering) → (chain node : ℕ) → P → List (Spot P) → List (Spot P)
  linked_in_order cmp chain node value links = linked chain node value (placed cmp (node, value) (entries links chain)) links

  -- A list that was in order is so still.
  abbrev pub StaysAscending : (P → P → Ordering) → (old new : List (ℕ × P)) → Type 0
  StaysAscending cmp old new = IsAscending cmp old → IsAscending cmp new

  -- What is found of a list that is in order is the least value.
  abbrev pub FindsLeast : (P → P → Ordering) → Option P → List (ℕ × P) → Type 0
  FindsLeast cmp found list = IsAscending cmp list → IfSome found (λ value. IsLeast cmp value list)
