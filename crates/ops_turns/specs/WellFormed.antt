-- What is asked of a component.
use Rattle.std.specs.Prelude.{Some, length, slice_get, true, ℕ, ◌≡◌, ◌≤◌}
use Rattle.ops_dispatch.specs.Fits.{op_fits}
use Rattle.machine_data.specs.declared.component.Callee.{Callee}
use Rattle.machine_data.specs.declared.component.Component.{Component}
use Rattle.machine_data.specs.declared.component.ExportDef.{ExportDef}
use Rattle.machine_data.specs.declared.op.Op.{Op}
use Rattle.machine_data.specs.declared.records.Script.{Script}
use Rattle.machine_rules.specs.Scripts.{export_at, script_in}

-- An export takes at most 16 words, a script has at most 4096 ops, and each op fits: it calls an export that is there with as many words as
-- that takes, and writes an event to three registers that there are.
pub record IsWellFormed (c : Component) : Type 0 where
  pub few_params : (f : Callee) (e : ExportDef) → export_at c f ≡ Some e → e.params ≤ 16
  pub short : (f : Callee) (x : Script) → length (script_in c f x) ≤ 4096
  pub ops : (f : Callee) (x : Script) (p : ℕ) (o : Op) → slice_get (script_in c f x) p ≡ Some o → op_fits c o ≡ true
