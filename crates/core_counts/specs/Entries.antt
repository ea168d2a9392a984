-- Groups by the places of their records.
use Rattle.std.specs.Option.{option_map_or}
use Rattle.std.specs.Prelude.{ℕ, List, filter, map, nat_lt}
use Rattle.table_lists.specs.GivenPlaces.{GivenInOrder, Places}
use Rattle.core_records.specs.declared.call_records.TaskGroup.{TaskGroup}
use Rattle.core_records.specs.declared.single.Single.{Single}
use Rattle.task_table.specs.Entries.{entries}
use Rattle.task_table.specs.Table.{Table, place_at}

-- the number, and the place in the resource table, of the group whose record is at a place; 0 if none does
abbrev pub number_at : Table (Single TaskGroup) → ℕ → ℕ
number_at groups place = option_map_or (λ p. p.entry.item.number) (place_at groups place) 0

abbrev pub entry_at : Table (Single TaskGroup) → ℕ → ℕ
entry_at groups place = option_map_or (λ p. p.entry.item.entry) (place_at groups place) 0

-- the places of the records of the groups with a number above this one
abbrev pub above : ℕ → List (ℕ × Single TaskGroup) → List ℕ
above finished es = map (λ e. e.0) (filter (λ e. nat_lt finished e.1.item.number) es)

abbrev pub groups_above : ℕ → Table (Single TaskGroup) → List ℕ
groups_above finished groups = above finished (entries groups)

-- the numbers of those groups
abbrev pub numbers_of : ℕ → List (ℕ × Single TaskGroup) → List ℕ
numbers_of finished es = map (λ e. e.1.item.number) (filter (λ e. nat_lt finished e.1.item.number) es)

abbrev pub numbers_above : ℕ → Table (Single TaskGroup) → List ℕ
numbers_above finished groups = numbers_of finished (entries groups)

-- These groups give back their places in the resource table, in order of their numbers.
abbrev pub GivesGroups : ℕ → Table (Single TaskGroup) → Places → Places → Type 0
GivesGroups finished groups = GivenInOrder (number_at groups) (entry_at groups) (groups_above finished groups)
