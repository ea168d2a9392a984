-- A core where nodes and chains were made that hang on nothing yet: all else is as before.
use Rattle.std.specs.Prelude.{◌≡◌, ℕ, List}
use Rattle.table_links.specs.Links.{Spot, Unmade, spot_at}
use Rattle.core_records.specs.declared.parts.CoreParts.{CoreParts}

-- what a number names it names still
abbrev pub Grown : {P : Type 0} → List (Spot P) → List (Spot P) → Type 0
Grown old new = (n : ℕ) → (spot_at old n ≡ Unmade → ⊥) → spot_at new n ≡ spot_at old n

pub record Extends (a b : CoreParts) : Type 0 where
  pub places : Grown a.places b.places
  pub waits : Grown a.waits b.waits
  pub ready_calls : Grown a.ready_calls b.ready_calls
  pub marks : Grown a.marks b.marks
  pub instance_queues : Grown a.instance_queues b.instance_queues
  pub behind : Grown a.behind b.behind
  pub only : b ≡ record a {
    places = b.places;
    waits = b.waits;
    ready_calls = b.ready_calls;
    marks = b.marks;
    instance_queues = b.instance_queues;
    behind = b.behind;
  }
