-- A core whose threads don't have their places.
use Rattle.machine_data.specs.declared.scenario.Version.TheVariants as version
use Rattle.std.specs.Prelude.{None, [], false, replicate, ◌∷◌}
use Rattle.machine_data.specs.Core.{Core, fresh, nothing_made}
use Rattle.machine_data.specs.Maps.{from_entries}
use Rattle.machine_data.specs.declared.records.Place.{Place}
use Rattle.machine_data.specs.declared.records.Place.TheVariants as place
use Rattle.machine_data.specs.declared.records.Script.TheVariants as script
use Rattle.machine_data.specs.declared.records.Thread.{Thread}
use Rattle.machine_rules.specs.Calls.{new_thread}
use Rattle.machine_rules.specs.Places.{Placed}

abbrev pub thread_at_place : Place → Thread
thread_at_place p = record (new_thread 1 false script.Start (replicate 16 0) None) { place = p }

-- thread 1 is behind thread 2, but not among its callers
abbrev pub behind_and_no_caller : Core
behind_and_no_caller = record (fresh version.One 1 100 100) {
  threads = from_entries ((1, thread_at_place (place.Behind 2)) ∷ (2, thread_at_place place.Running) ∷ []);
  made = record nothing_made { threads = 2 };
}

abbrev pub IsUnplaced : Core → Type 0
IsUnplaced s = Placed s → ⊥
