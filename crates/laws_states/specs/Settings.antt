-- What is asked of settings: as the grammar of scenarios has it, the ops that end an activation are in the scripts of callback
-- exports alone.
use Rattle.std.specs.Prelude.{List, Some, false, slice_get, ℕ, ◌≡◌}
use Rattle.machine_data.specs.declared.scenario.Version.{Version}
use Rattle.machine_data.specs.declared.component.Callee.{Callee}
use Rattle.machine_data.specs.declared.component.Component.{Component}
use Rattle.machine_data.specs.declared.component.ExportDef.{ExportDef}
use Rattle.machine_data.specs.declared.label.Label.{Label}
use Rattle.machine_data.specs.declared.op.Op.{Op}
use Rattle.machine_data.specs.declared.records.Script.{Script}
use Rattle.machine_data.specs.declared.scenario.MainOpDef.{MainOpDef}
use Rattle.machine_data.specs.Core.{Main, State}
use Rattle.machine_data.specs.Read.{is_callback}
use Rattle.machine_rules.specs.OpParts.{callee_of_main_op, callee_of_op, ends_activation}
use Rattle.machine_rules.specs.Run.{Run, opening}
use Rattle.machine_rules.specs.Scripts.{export_at, script_in, slot_at, slot_script}
use Rattle.machine_rules.specs.Stalled.{Setting}

-- no op of the script ends an activation
abbrev pub HasNoCode : List Op → Type 0
HasNoCode ops = (p : ℕ) (o : Op) → slice_get ops p ≡ Some o → ends_activation o ≡ false

-- Only the scripts of callback exports have such ops.
pub record CodesInCallbacks (c : Component) : Type 0 where
  pub starts : (f : Callee) (d : ExportDef) → export_at c f ≡ Some d → is_callback d.kind ≡ false → HasNoCode d.start
  pub reacts : (f : Callee) (d : ExportDef) → export_at c f ≡ Some d → is_callback d.kind ≡ false → HasNoCode d.react
  pub slots : (i x : ℕ) → HasNoCode (slot_script (slot_at c i x))

-- Each callee that main's script starts, or that one of the component's scripts calls, is such a one.
pub record CalleesAre (x : Setting) (P : Callee → Type 0) : Type 0 where
  pub starts : (p : ℕ) (o : MainOpDef) (f : Callee) → slice_get x.script p ≡ Some o → callee_of_main_op o ≡ Some f → P f
  pub calls : (f : Callee) (w : Script) (p : ℕ) (o : Op) (g : Callee) → slice_get (script_in x.component f w) p ≡ Some o →
      callee_of_op o ≡ Some g → P g

-- The state is reached from an opening state, under scripts that end activations in callbacks alone.
pub record Reached (x : Setting) (s : State) : Type 0 where
  pub scripts : CodesInCallbacks x.component
  pub version : Version
  pub instances : ℕ
  pub handle_limit : ℕ
  pub capacity : ℕ
  pub main : Main
  pub labels : List Label
  pub run : Run x (opening version instances handle_limit capacity main) labels s
