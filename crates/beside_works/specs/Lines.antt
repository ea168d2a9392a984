-- The lines of aborters.
use Rattle.std.specs.Option.{unwrap_or}
use Rattle.std.specs.Prelude.{List, [], slice_get, ℕ, ◌-◌}

-- that of the aborter with this number, counted from 1
abbrev pub line_at : List (List ℕ) → ℕ → List ℕ
line_at lines number = unwrap_or (slice_get lines (number - 1)) []
