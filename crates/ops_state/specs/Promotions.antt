-- Promotions that a host makes.
use Rattle.std.specs.Prelude.{Bool, false, if◌then◌else◌, is_some, not, ℕ, ◌||◌}
use Rattle.machine_data.specs.Core.{Core}
use Rattle.machine_data.specs.Moves.{first_entry, promoted_first, promoted_unless}
use Rattle.machine_data.specs.Read.{is_at, is_resumption}
use Rattle.machine_data.specs.declared.records.Place.{Place}
use Rattle.machine_data.specs.declared.records.Place.TheVariants as place
use Rattle.machine_rules.specs.Threads.{has_yielded}

-- a start or a delivery that is queued
abbrev pub is_ready_to_begin : Place → Bool
is_ready_to_begin (place.Ready m w) = not (is_resumption w)
is_ready_to_begin _ = false

-- the thread's start, delivery or resumption of a yield moves to switch, unless an entry is there
abbrev pub thread_promoted : ℕ → Core → Core
thread_promoted n s = if is_at n s is_ready_to_begin || has_yielded n s then promoted_unless n s else s

-- the instance's first entry moves to switch, unless an entry is there
abbrev pub local_promoted : ℕ → Core → Core
local_promoted i s = if is_some s.queues.switch then s else promoted_first (first_entry i s) s
