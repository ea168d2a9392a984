-- What main as a script says of itself: its part says what it did.
use Rattle.task_loop.specs.Says.{Says}
use Rattle.task_run.specs.Script.{Suits, part_of, script_of}
use Rattle.task_run.specs.Spawns.{KnowsSpawns}
use Rattle.task_run.specs.declared.script.ScriptMain.{ScriptMain}

abbrev pub script_says : Says ScriptMain
script_says = record { part = part_of; script = script_of; suits = Suits; knows = KnowsSpawns; does = λ m s step n t. Unit {0} }
