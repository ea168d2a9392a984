-- What a main that is a script asks of other threads.
use Rattle.machine_data.specs.declared.scenario.MainOpDef.{MainOpDef}
use Rattle.machine_data.specs.declared.scenario.MainOpDef.TheVariants as main_op
use Rattle.machine_rules.specs.MainOps.{op_at}
use Rattle.std.specs.Prelude.{None, Option, Some, ℕ, ◌≡◌}
use Rattle.task_run.specs.Script.{place_of, script_of}
use Rattle.task_run.specs.declared.script.ScriptMain.{ScriptMain}

-- the op that main takes next
abbrev pub op_of : ScriptMain → Option MainOpDef
op_of m = op_at (script_of m) (place_of m)

-- what was done where main's next op is this one: one that aborts a spawn, or looks whether it is over, and nothing at another
abbrev pub HasAskedOp : {B : Type 0} → (aborted awaited : ℕ → B → B → Type 0) → Option MainOpDef → (a b : B) → Type 0
HasAskedOp aborted awaited (Some (main_op.Abort k)) a b = aborted k a b
HasAskedOp aborted awaited (Some (main_op.Await k)) a b = awaited k a b
HasAskedOp aborted awaited _ a b = b ≡ a
