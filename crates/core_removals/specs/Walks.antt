-- A walk through a chain, from its first node on.
use Rattle.std.specs.List.{find}
use Rattle.std.specs.Prelude.{◌≡◌, ◌==◌, ◌++◌, ℕ, if◌then◌else◌, List, [], ◌∷◌, Option, None, Some, length, map, nat_lt}
use Rattle.table_lists.specs.declared.ordered_lists.OrderKey.{OrderKey}
use Rattle.table_lists.specs.Walks.{number_at, walked}
use Rattle.table_links.specs.Links.{head_of, link_of}
use Rattle.core_records.specs.Keys.{thread_key}
use Rattle.core_records.specs.declared.parts.CoreParts.{CoreParts}
use Rattle.core_records.specs.declared.work_records.LiveWork.{LiveWork}
use Rattle.task_table.specs.Records.{number_in, record_at}

-- the number of the thread at a place
abbrev pub at_place : CoreParts → ℕ → ℕ
at_place a place = number_in (record_at thread_key a.threads.places place)

abbrev pub at_order_key : CoreParts → OrderKey → ℕ
at_order_key a order_key = at_place a order_key.place

-- the number of the thread that a node represents, and those of a chain, in order
abbrev pub of_node : CoreParts → ℕ → ℕ
of_node a n = number_at (at_order_key a) a.places n

abbrev pub of_chain : CoreParts → ℕ → List ℕ
of_chain a c = walked (at_order_key a) a.places c

-- the numbers of works in the chain of the live ones
abbrev pub live_numbers : List (ℕ × LiveWork) → List ℕ
live_numbers es = map (λ e. e.1.number) es

-- what is left has the first above p
abbrev pub HasNext : ℕ → List (ℕ × LiveWork) → List (ℕ × LiveWork) → Type 0
HasNext p all left = find (nat_lt p) (live_numbers left) ≡ find (nat_lt p) (live_numbers all)

-- a work with this number has this node in the chain of the live ones
pub record IsLiveNode (node number : ℕ) (a : CoreParts) : Type 0 where
  pub chain : ℕ
  pub is : a.live ≡ Some chain
  pub place : ℕ
  pub link : link_of a.polled node ≡ Some (chain, record { number = number; place = place })

module _ {P : Type 0} where
  -- A walk is at the next entry: what holds of the entries that are left.
  pub record Walk (Good : List (ℕ × P) → Type 0) (list : List (ℕ × P)) (next : Option (ℕ × P)) : Type 0 where
    pub front : List (ℕ × P)
    pub back : List (ℕ × P)
    pub parts : list ≡ front ++ back
    pub next_is : next ≡ head_of back
    pub good : Good back

  -- how many entries there are from one on
  abbrev pub from : ℕ → List (ℕ × P) → ℕ
  from n [] = 0
  from n (e ∷ es) = if e.0 == n then length (e ∷ es) else from n es

  abbrev pub left_from : Option (ℕ × P) → List (ℕ × P) → ℕ
  left_from None list = 0
  left_from (Some e) list = from e.0 list
