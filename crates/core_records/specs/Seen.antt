-- What contracts see of the parts of a core.
use Rattle.std.specs.Prelude.{None, [], vec_capacity}
use Rattle.machine_data.specs.Core.{fresh}
use Rattle.machine_data.specs.declared.scenario.Version.TheVariants as version
use Rattle.core_records.specs.Image.{CoreImage, image}
use Rattle.core_records.specs.Sound.{Sound}
use Rattle.core_records.specs.declared.parts.CoreParts.{CoreParts}
use Rattle.machine_data.specs.Maps.{empty}
use Rattle.machine_rules.specs.Picks.{Seats}
use Rattle.core_primitives.specs.Preferences.{wanted_of}
use Rattle.core_primitives.specs.StateView.{StateView, nothing_wanted}

abbrev pub parts_of : CoreParts → CoreImage
parts_of a = record {
  threads = a.threads;
  calls = a.calls;
  works = a.works;
  sets = a.sets;
  groups = a.groups;
  instances = a.instances.items;
  counter = a.counter;
  places = a.places;
  waits = a.waits;
  ready_calls = a.ready_calls;
  ready_works = a.ready_works;
  polled = a.polled;
  marks = a.marks;
  instance_queues = a.instance_queues;
  behind = a.behind;
  high = a.high;
  low = a.low;
  live = a.live;
  switch = a.switch;
  current = a.current;
  wanted = wanted_of a.wanted;
  results = a.results;
  kept = a.kept;
  finished = a.finished;
  ended = a.ended.items;
  end_room = vec_capacity a.ended;
  capacity = a.capacity;
  made = a.made;
  version = a.version;
  arrivals = a.arrivals;
  trapped = a.trapped;
}

unfoldable pub seen : CoreParts → StateView
seen a = image (parts_of a)

unfoldable pub IsSoundCore : CoreParts → Type 0
IsSoundCore a = Sound (parts_of a)

abbrev pub no_seats : Seats
no_seats = record { threads = empty; calls = empty; works = empty }

-- what is seen of a core in which nothing was made: no instance, a limit of 100,000 handles, and room for 1,000,000 entries
abbrev pub nothing : StateView
nothing = record { core = fresh version.One 0 100000 1000000; tags = record { threads = []; calls = []; sets = []; works = []; tracked = []; wanted = nothing_wanted; seats = no_seats }; current = None }
