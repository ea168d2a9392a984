-- The group whose record is at a place.
use Rattle.std.proofs.Common.{◌≡◌, ap, None, Option, refl, Some, ℕ}
use Rattle.std.proofs.lemmas.Option.{same_Some}
use Rattle.std.specs.Option.{option_and_then, option_map_or}
use Rattle.core_records.specs.Kinds.{item_of}
use Rattle.core_records.specs.declared.call_records.TaskGroup.{TaskGroup}
use Rattle.core_records.specs.declared.single.Single.{Single}
use Rattle.task_table.specs.Table.{Placed}

module _ (read : TaskGroup → ℕ) where
  pub read_there : (o : Option (Placed (Single TaskGroup))) (group : TaskGroup) → Some group ≡ option_and_then (λ p. item_of p.entry) o → read group ≡ option_map_or (λ p. read p.entry.item) o 0
  read_there None group is = absurd (cc)
  read_there (Some p) group is = ap read (same_Some group p.entry.item is)

  pub read_nowhere : (o : Option (Placed (Single TaskGroup))) → None ≡ option_and_then (λ p. item_of p.entry) o → 0 ≡ option_map_or (λ p. read p.entry.item) o 0
  read_nowhere None is = refl
  read_nowhere (Some p) is = absurd (cc)
