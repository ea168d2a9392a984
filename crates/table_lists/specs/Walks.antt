-- The walk of an index's chain, node by node: what a release goes through. A link's value is read at its node.
use Rattle.std.specs.Prelude.{ℕ, Bool, false, List, None, Option, Some, map}
use Rattle.table_links.specs.Links.{Spot, entries, link_of}
use Rattle.machine_data.specs.Maps.{Records, get}

module _ {P : Type 0} (number : P → ℕ) where
  abbrev pub number_in_link : Option (ℕ × P) → ℕ
  number_in_link None = 0
  number_in_link (Some link) = number link.1

  -- the number that the value of a node names
  abbrev pub number_at : List (Spot P) → ℕ → ℕ
  number_at links n = number_in_link (link_of links n)

  -- the numbers of a chain's nodes, in order
  abbrev pub walked : List (Spot P) → ℕ → List ℕ
  walked links c = map (λ e. number_at links e.0) (entries links c)

module _ {X : Type 0} (test : ℕ × X → Bool) where
  abbrev pub passes_in : ℕ → Option X → Bool
  passes_in n None = false
  passes_in n (Some x) = test (n, x)

  -- there is a record of this number, and it passes
  abbrev pub passes_at : Records X → ℕ → Bool
  passes_at m n = passes_in n (get m n)
