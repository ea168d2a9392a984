-- What a make of a chain or of a node results in.
use Rattle.std.specs.Prelude.{◌≡◌, ℕ, [], List, IfOk, OnErr, Result}
use Rattle.table_links.specs.Links.{ChainOf, FreeNode, Renames, Spot, Unmade}
use Rattle.table_links.specs.declared.links.Node.{Node}
use Rattle.machine_data.specs.declared.memory.NoMemory.{NoMemory}
use Rattle.core_records.specs.Seen.{IsSoundCore, seen}
use Rattle.core_records.specs.declared.parts.CoreParts.{CoreParts}

-- In one list a number that named nothing names this, and nothing of it is seen. If it is out of memory, all is as before.
pub record MakesSpot {X P : Type 0} (number : X → ℕ) (spot : Spot P) (old new : List (Spot P)) (a b with_new : CoreParts) (result : Result X NoMemory) : Type 0 where
  pub sound : IsSoundCore b
  pub seen : seen b ≡ seen a
  pub made : IfOk result (λ x. Renames old new (number x) Unmade spot)
  pub only : b ≡ with_new
  pub err : OnErr result (b ≡ a)

abbrev pub MakesChain : {P : Type 0} → (old new : List (Spot P)) → (a b with_new : CoreParts) → Result ℕ NoMemory → Type 0
MakesChain = MakesSpot (λ c. c) (ChainOf [])

abbrev pub MakesNode : {P : Type 0} → (old new : List (Spot P)) → (a b with_new : CoreParts) → Result Node NoMemory → Type 0
MakesNode = MakesSpot (λ n. n.index) FreeNode

-- a core with the instance queues of another one
abbrev pub with_instance_queues_of : (new old : CoreParts) → CoreParts
with_instance_queues_of b a = record a { instance_queues = b.instance_queues }
