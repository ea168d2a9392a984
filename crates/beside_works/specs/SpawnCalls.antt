-- What the calls of a spawn find and do.
use Rattle.std.specs.Prelude.{MatchBool, ◌≡◌}
use Rattle.beside_works.specs.Views.{is_finished, spawn_view}
use Rattle.beside_works.specs.declared.cells.SharedSpawn.{SharedSpawn}
use Rattle.machine_data.specs.declared.statuses.Phase.{Phase}
use Rattle.machine_data.specs.declared.statuses.Phase.TheVariants.{Complete}
use Rattle.task_abort.specs.Rule.{Calls}
use Rattle.task_abort.specs.declared.log.PhaseCall.TheVariants.{Finish, PollFuture}

-- A poll finds this phase; one that is over is Complete.
abbrev pub PollsSpawn : Phase → (old new : SharedSpawn) → Type 0
PollsSpawn found s t = MatchBool (is_finished s) ((found ≡ Complete) × (spawn_view t ≡ spawn_view s))
    (Calls PollFuture (spawn_view s) found (spawn_view t))

-- A finish finds some phase; where it was over nothing is done.
abbrev pub FinishesSpawn : (old new : SharedSpawn) → Type 0
FinishesSpawn s t = MatchBool (is_finished s) (spawn_view t ≡ spawn_view s) ((found : Phase) × Calls Finish (spawn_view s) found (spawn_view t))
