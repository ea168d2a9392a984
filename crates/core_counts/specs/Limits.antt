-- The limits of a store.
use Rattle.std.specs.Prelude.{ℕ}
use Rattle.machine_data.specs.Core.{Core}

-- so many entries have room in the table
abbrev pub with_capacity : ℕ → Core → Core
with_capacity n s = record s { capacity = n }

-- so many handles may be live at once
abbrev pub with_handle_limit : ℕ → Core → Core
with_handle_limit n s = record s { handle_limit = n }
