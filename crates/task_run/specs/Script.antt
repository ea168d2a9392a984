-- Main as a script.
use Rattle.std.specs.Prelude.{◌≡◌, ◌<◌, ◌^◌, ℕ, IsSome, List, Some, Result, Ok, Err, map, length, slice_get}
use Rattle.machine_data.specs.declared.component.Component.{Component}
use Rattle.machine_data.specs.declared.scenario.MainOpDef.{MainOpDef}
use Rattle.machine_data.specs.declared.scenario.MainOpDef.TheVariants as machine
use Rattle.machine_data.specs.declared.component.ExportDef.{ExportDef}
use Rattle.machine_data.specs.declared.op.Operand.{Operand}
use Rattle.machine_data.specs.declared.trap.Trap.{Trap}
use Rattle.machine_data.specs.Core.{Began, Main, MainPlace, Refused, Scripted, Started}
use Rattle.machine_rules.specs.Scripts.{export_at}
use Rattle.task_run.specs.declared.scenario.MainOp.{MainOp}
use Rattle.task_run.specs.declared.scenario.MainOp.TheVariants as op
use Rattle.task_loop.specs.declared.call.Func.{Func}
use Rattle.task_run.specs.declared.script.ScriptMain.{ScriptMain}
use Rattle.task_run.specs.declared.script.Start.{Start}
use Rattle.task_run.specs.declared.script.Start.TheVariants as start
use Rattle.task_loop.specs.LoopCalls.{callee_of}

-- the machine's op
abbrev pub machine_op : MainOp → MainOpDef
machine_op (op.Start f xs) = machine.Start (callee_of f) xs
machine_op (op.Finish k r) = machine.Finish k r
machine_op (op.Spawn h) = machine.Spawn h
machine_op (op.Abort k) = machine.Abort k
machine_op (op.Await k) = machine.Await k
machine_op op.Quiet = machine.Quiet
machine_op (op.Ready f) = machine.Ready (callee_of f)
machine_op (op.Answer x) = machine.Answer x

-- the op as the machine has it, at each place
abbrev pub machine_ops : List MainOp → List MainOpDef
machine_ops ops = map machine_op ops

-- Each export that the script calls is the component's, and takes as many words, and each host that it spawns is there. There are fewer ops
-- than numbers of starts and spawns in labels.
pub record SuitsOps (ops : List MainOp) (c : Component) : Type 0 where
  pub few : length ops < 2 ^ 32
  pub spawns : (i h : ℕ) → slice_get ops i ≡ Some (op.Spawn h) → IsSome (slice_get c.hosts h)
  pub starts : (i : ℕ) (f : Func) (xs : List Operand) → slice_get ops i ≡ Some (op.Start f xs) →
      (e : ExportDef) × ((export_at c (callee_of f) ≡ Some e) × (length xs ≡ e.params))

abbrev pub started_of : Start → Started
started_of (start.Called n) = Began n
started_of (start.Refused why) = Refused why

-- where the script is
abbrev pub place_of : ScriptMain → MainPlace
place_of m =
    record { position = m.at; registers = m.registers; starts = map started_of m.starts.items; spawns = map (λ h. h.number) m.spawns.items }

abbrev pub part_of : ScriptMain → Main
part_of m = Scripted (place_of m)

abbrev pub script_of : ScriptMain → List MainOpDef
script_of m = machine_ops m.ops.now

abbrev pub Suits : ScriptMain → Component → Type 0
Suits m c = SuitsOps m.ops.now c

abbrev pub started : Result ℕ Trap → Started
started (Ok n) = Began n
started (Err why) = Refused why
