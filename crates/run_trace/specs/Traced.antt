-- What a contract sees of a list of labels.
use Rattle.std.specs.Prelude.{List, [], ℕ, ◌++◌, ◌-◌, ◌∷◌}
use Rattle.machine_data.specs.declared.label.Label.{Label}

-- the labels, the first one first, and for how many more there is room
pub record Traced : Type 0 where
  pub labels : List Label
  pub spare : ℕ

-- a label more, for which there was room
abbrev pub with_label : Traced → Label → Traced
with_label t l = record { labels = t.labels ++ l ∷ []; spare = t.spare - 1 }
