-- What contracts see of a `TableIter`.
use Rattle.std.specs.Prelude.{ℕ, ◌+◌, List, [], ◌∷◌, Option, Some, None}
use Rattle.task_table.specs.Table.{Table, Placed}

module _ {E : Type 0} where
  -- the entries of these places, each with its place, where the first place has this number
  abbrev pub entries_from : ℕ → List (Option (Placed E)) → List (ℕ × E)
  entries_from rep [] = []
  entries_from rep (None ∷ rest) = entries_from (rep + 1) rest
  entries_from rep (Some p ∷ rest) = (rep, p.entry) ∷ entries_from (rep + 1) rest

  -- the entries with their places, in order of the place
  abbrev pub entries : Table E → List (ℕ × E)
  entries t = entries_from 0 t.places
