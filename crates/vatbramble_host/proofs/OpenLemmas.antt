-- A component with an open host has the scripts that it had.
use Rattle.ops_dispatch.specs.Fits.{call_op_fits, op_fits}
use Rattle.std.proofs.Common.{ap, refl, subst, sym, ◌∙◌}
use Rattle.std.specs.Prelude.{List, length, slice_get, ◌≡◌, ◌≤◌}
use Rattle.laws_states.specs.Settings.{CodesInCallbacks}
use Rattle.machine_data.specs.declared.component.Callee.{Callee}
use Rattle.machine_data.specs.declared.component.Component.{Component}
use Rattle.machine_data.specs.declared.component.HostDef.{HostDef}
use Rattle.machine_data.specs.declared.op.CallOp.{CallOp}
use Rattle.machine_data.specs.declared.op.CallOp.TheVariants as call_op
use Rattle.machine_data.specs.declared.op.Op.{Op}
use Rattle.machine_data.specs.declared.op.Op.TheVariants as op
use Rattle.machine_data.specs.declared.records.Script.{Script}
use Rattle.machine_data.specs.declared.records.Script.TheVariants as script
use Rattle.machine_rules.specs.Scripts.{script_in}
use Rattle.ops_turns.specs.WellFormed.{IsWellFormed}

module _ (c : Component) (hosts : List HostDef) where
  abbrev opened : Component
  opened = record c { hosts = hosts }

  call_fits : (o : CallOp) → call_op_fits opened o ≡ call_op_fits c o
  call_fits (call_op.Call to result callee params) = refl
  call_fits (call_op.CallSync to callee params) = refl
  call_fits (call_op.CallHost to result host) = refl
  call_fits (call_op.CallSyncHost to host) = refl
  call_fits (call_op.Cancel to subtask) = refl
  call_fits (call_op.CancelSync to subtask) = refl
  call_fits (call_op.Drop subtask) = refl

  fits : (o : Op) → op_fits opened o ≡ op_fits c o
  fits (op.Data o) = refl
  fits (op.Task o) = refl
  fits (op.Set o) = refl
  fits (op.Call o) = call_fits o
  fits (op.Thread o) = refl

  script_still : (f : Callee) (x : Script) → script_in opened f x ≡ script_in c f x
  script_still f script.Start = refl
  script_still f script.React = refl
  script_still f (script.Slot x) = refl

  pub formed_still : IsWellFormed c → IsWellFormed opened
  formed_still q = record {
    few_params = λ f e at. q.few_params f e at;
    short = λ f x. subst (λ (ops : List Op). length ops ≤ 4096) (sym (script_still f x)) (q.short f x);
    ops = λ f x p o at. fits o ∙ q.ops f x p o (ap (λ (ops : List Op). slice_get ops p) (sym (script_still f x)) ∙ at);
  }

  pub codes_still : CodesInCallbacks c → CodesInCallbacks opened
  codes_still q = record { starts = λ f d at other. q.starts f d at other; reacts = λ f d at other. q.reacts f d at other; slots = λ i x. q.slots i x }
