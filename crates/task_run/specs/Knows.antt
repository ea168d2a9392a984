-- What main knows of its spawns stays.
use Rattle.task_run.specs.Spawns.{KnowsSpawns}
use Rattle.task_run.specs.declared.script.ScriptMain.{ScriptMain}
use Rattle.task_store.specs.Spawned.{spawned_later}
use Rattle.ops_turns.specs.Later.{WorksLast}
use Rattle.core_primitives.specs.StateView.{StateView}

pub knows_later : (m : ScriptMain) (s t : StateView) → WorksLast s t → KnowsSpawns m s → KnowsSpawns m t
knows_later m s t last knows k h at = spawned_later h s t last (knows k h at)
