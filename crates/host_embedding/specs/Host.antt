-- What the host of this example needs of the component.
use Rattle.std.specs.Prelude.{◌≡◌, ◌∷◌, [], IfSome, IsSome}
use Rattle.machine_data.specs.declared.component.Component.{Component}
use Rattle.machine_data.specs.declared.component.ExportDef.{ExportDef}
use Rattle.machine_data.specs.declared.component.InstanceDef.{InstanceDef}
use Rattle.machine_rules.specs.Scripts.{export_at}
use Rattle.task_loop.specs.declared.call.Func.{Func}
use Rattle.task_loop.specs.LoopCalls.{callee_of}
use Rattle.ops_turns.specs.Covered.{IsPlainExport}

-- the export is there, and takes one word
abbrev pub TakesOne : Component → Func → Type 0
TakesOne c f = IsSome (export_at c (callee_of f)) × IfSome (export_at c (callee_of f)) (λ e. 1 ≡ e.params)

-- the instance has one export, of today's kind, which takes one word, and no slots
abbrev pub HasOneExport : InstanceDef → Type 0
HasOneExport d = (e : ExportDef) × ((d.exports ≡ e ∷ []) × (IsPlainExport e × ((e.params ≡ 1) × (d.slots ≡ []))))
