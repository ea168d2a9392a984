-- What a core picks first where the machine leaves a choice: what is wanted, then of threads that wait or are held by their places or by
-- when they came, and of all else by the places of the resource table.
use Rattle.std.specs.Prelude.{List, Option, map, option_map}
use Rattle.machine_rules.specs.Picks.{Preference, earlier_in}
use Rattle.core_primitives.specs.Names.{subtask_in}
use Rattle.core_primitives.specs.StateView.{StateView, Wanted, thread_number}
use Rattle.core_primitives.specs.declared.names.WantedId.{WantedId}

-- by what the wanted ids name
abbrev pub preference : StateView → Preference
preference s = record {
  waiter = option_map (thread_number s.tags) s.tags.wanted.waiter;
  member = option_map (subtask_in s.tags) s.tags.wanted.member;
  held = map (thread_number s.tags) s.tags.wanted.held;
  earlier = earlier_in s.core s.tags.seats;
  seats = s.tags.seats;
}

abbrev pub wanted_of : WantedId → Wanted
wanted_of w = record { waiter = w.waiter; member = w.member; held = w.held.items }
