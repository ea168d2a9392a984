-- A group that has a record.
use Rattle.std.specs.Prelude.{ℕ, ◌<◌}
use Rattle.core_records.specs.Keys.{group_key}
use Rattle.core_records.specs.Names.{HasNumber}
use Rattle.core_records.specs.declared.parts.CoreParts.{CoreParts}

abbrev pub HasGroup : ℕ → CoreParts → Type 0
HasGroup g a = (place : ℕ) × (HasNumber group_key a.groups place g × (0 < g))
