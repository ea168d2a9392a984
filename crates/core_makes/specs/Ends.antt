-- Room for one group more to end.
use Rattle.std.specs.Prelude.{length, vec_capacity, ◌+◌, ◌≤◌}
use Rattle.core_records.specs.declared.parts.CoreParts.{CoreParts}

abbrev pub HasEndRoom : CoreParts → Type 0
HasEndRoom a = length a.ended.items + a.kept.groups + 1 ≤ vec_capacity a.ended
