-- The works that main has spawned.
use Rattle.std.specs.Prelude.{◌≡◌, ℕ, None, Option, Some, slice_get}
use Rattle.task_run.specs.declared.script.ScriptMain.{ScriptMain}
use Rattle.task_store.specs.Spawned.{IsSpawnedIn}
use Rattle.task_store.specs.declared.spawn.SpawnHandle.{SpawnHandle}
use Rattle.core_primitives.specs.StateView.{StateView}

-- the number of the spawn's work, 0 if there is no such spawn
abbrev pub number_in : Option SpawnHandle → ℕ
number_in None = 0
number_in (Some h) = h.number

-- each work that main has spawned was made in the state
abbrev pub KnowsSpawns : ScriptMain → StateView → Type 0
KnowsSpawns m s = (k : ℕ) (h : SpawnHandle) → slice_get m.spawns.items k ≡ Some h → IsSpawnedIn h s
