-- What a spawn's cell and an aborter's pass say of themselves.
use Rattle.std.specs.Prelude.{ℕ, Bool, List, is_none, length, ◌≡◌}
use Rattle.beside_works.specs.declared.cells.AborterPass.{AborterPass}
use Rattle.beside_works.specs.declared.log.Found.{Found}
use Rattle.beside_works.specs.declared.cells.SharedSpawn.{SharedSpawn}
use Rattle.task_abort.specs.Cells.{CellId, handle_cell, view_of}
use Rattle.task_abort.specs.declared.log.CallMade.{CallMade}
use Rattle.task_abort.specs.declared.log.PassView.{PassView}
use Rattle.machine_data.specs.declared.statuses.Phase.{Phase}

-- the cell, and what the run's pass has seen and done there
abbrev pub spawn_cell : SharedSpawn → CellId
spawn_cell s = handle_cell s.handle

abbrev pub spawn_view : SharedSpawn → PassView
spawn_view s = view_of s.pass

-- the run's own calls, as it lists them
abbrev pub own_list : SharedSpawn → List CallMade
own_list s = s.calls.items

-- the work is over
abbrev pub is_finished : SharedSpawn → Bool
is_finished s = is_none s.work

-- the aborters whose passes were met
abbrev pub met_list : SharedSpawn → List Found
met_list s = s.met.items

-- how many passes were split off
abbrev pub split_count : SharedSpawn → ℕ
split_count s = s.split

-- each pass that was split off was met
abbrev pub HasMetEach : SharedSpawn → Type 0
HasMetEach s = split_count s ≡ length (met_list s)

abbrev pub pass_cell_of : AborterPass → CellId
pass_cell_of a = handle_cell a.handle

abbrev pub aborter_view : AborterPass → PassView
aborter_view a = view_of a.pass

-- how many passes were split off before it
abbrev pub place_of : AborterPass → ℕ
place_of a = a.place

-- what its aborts found, in order
abbrev pub found_list : AborterPass → List Phase
found_list a = a.found.items
