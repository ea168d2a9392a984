-- Components of callbacks with start scripts alone.
use Rattle.std.specs.List.{list_all}
use Rattle.std.specs.Prelude.{Bool, Some, [], false, length, true, ℕ, ◌≡◌, ◌≤◌}
use Rattle.machine_data.specs.declared.component.Callee.{Callee}
use Rattle.machine_data.specs.declared.component.Component.{Component}
use Rattle.machine_data.specs.declared.component.ExportDef.{ExportDef}
use Rattle.machine_data.specs.declared.component.ExportKind.TheVariants as kind
use Rattle.machine_data.specs.declared.op.Op.{Op}
use Rattle.machine_data.specs.declared.op.Op.TheVariants as op
use Rattle.machine_rules.specs.Scripts.{export_at, slot_at, slot_script}

-- the ops on registers and memory cells, and those of the task
abbrev pub is_covered_op : Op → Bool
is_covered_op (op.Data x) = true
is_covered_op (op.Task x) = true
is_covered_op _ = false

pub record IsPlainExport (e : ExportDef) : Type 0 where
  pub called_back : e.kind ≡ kind.Callback
  pub few_params : e.params ≤ 16
  pub short : length e.start ≤ 4096
  pub ops : list_all is_covered_op e.start ≡ true
  pub react : e.react ≡ []

-- All exports are such ones, and no slot has a script.
pub record HasPlainExports (c : Component) : Type 0 where
  pub exports : (f : Callee) (e : ExportDef) → export_at c f ≡ Some e → IsPlainExport e
  pub slots : (i x : ℕ) → slot_script (slot_at c i x) ≡ []
