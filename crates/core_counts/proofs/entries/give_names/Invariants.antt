use Rattle.std.proofs.Common.{◌≡◌}
use Rattle.core_counts.specs.Entries.{above}
use Rattle.table_lists.specs.GivenPlaces.{given_each}
use Rattle.core_counts.proofs.entries.give_names.Given as goal

abbrev pub invariant-loop-name : goal.invariant-loop-name
invariant-loop-name l =
    given_each (above l.finished l.name-iterator) l.places ≡ given_each (above l.finished l.initial.name-iterator) l.initial.places
