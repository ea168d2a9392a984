-- What a host reads of a store.
use Rattle.std.specs.Prelude.{Bool, is_none, not, ◌&&◌, ◌==◌}
use Rattle.machine_data.specs.Read.{live_count, next_entry, table_use}
use Rattle.machine_rules.specs.Works.{has_live_work}
use Rattle.core_primitives.specs.StateView.{StateView}

-- No entry is in the table, so no thread is there to be held; no handle is live, no entry is at a mark, no thread runs, no work is
-- live.
abbrev pub is_empty_state : StateView → Bool
is_empty_state s =
    (table_use s.core == 0) && ((live_count s.core == 0) && (is_none (next_entry s.core) &&
    (is_none s.current && not (has_live_work s.core))))
