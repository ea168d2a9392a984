-- What was made, and that nothing was made if it was out of memory.
use Rattle.core_makes.specs.Makes.{MakesSpot}
use Rattle.machine_data.specs.declared.memory.NoMemory.{NoMemory}
use Rattle.core_records.proofs.Core.{ap, Err, IsSoundCore, List, Ok, refl, Renames, seen, Spot, subst, sym, Unmade, ℕ, ◌≡◌}
use Rattle.core_records.specs.declared.{parts.CoreParts.CoreParts}

module _ {X P : Type 0} {number : X → ℕ} {spot : Spot P} {old new : List (Spot P)} {a b : CoreParts} where
  pub spot_made : {x : X} → IsSoundCore b → seen b ≡ seen a → Renames old new (number x) Unmade spot → MakesSpot number spot old new a b b (Ok x)
  spot_made sound unseen made = record { sound = sound; seen = unseen; made = made; only = refl; err = tt }

  pub nothing_made : {why : NoMemory} → IsSoundCore a → b ≡ a → MakesSpot number spot old new a b b (Err why)
  nothing_made sound same = record { sound = subst IsSoundCore (sym same) sound; seen = ap seen same; made = tt; only = refl; err = same }
