-- In a run of a scenario ends are handed out once, and one holding entry of an instance runs at a time.
use Rattle.std.proofs.Common.{◌≡◌, ◌<◌, ℕ, true, false, List, Option, Some, None, option_map, refl, sym, ap, subst, ◌∙◌}
use Rattle.std.proofs.lemmas.Bool.{and_parts}
use Rattle.std.proofs.lemmas.Option.{same_Some, slice_get-map, slice_get_within}
use Rattle.std.specs.Option.{option_map_or}
use Rattle.std.specs.Prelude.{length, nat_le, option_and_then, slice_get, ◌==◌}
use Rattle.ops_dispatch.specs.Fits.{op_fits}
use Rattle.laws_states.specs.Settings.{CalleesAre}
use Rattle.task_loop.specs.LoopCalls.{callee_of}
use Rattle.machine_data.specs.Core.{Scripted, State}
use Rattle.machine_data.specs.declared.component.Callee.{Callee}
use Rattle.machine_data.specs.declared.component.Component.{Component}
use Rattle.machine_data.specs.declared.component.ExportDef.{ExportDef}
use Rattle.machine_data.specs.declared.component.InstanceDef.{InstanceDef}
use Rattle.machine_data.specs.declared.label.Label.{Label}
use Rattle.machine_data.specs.declared.op.CallOp.TheVariants as call_op
use Rattle.machine_data.specs.declared.op.Op.{Op}
use Rattle.machine_data.specs.declared.op.Op.TheVariants as op
use Rattle.machine_data.specs.declared.scenario.MainOpDef.{MainOpDef}
use Rattle.laws_places.proofs.HoldLemmas.{scripts_hold_one}
use Rattle.laws_places.proofs.OnceSteps.{runs_are_once}
use Rattle.laws_places.specs.Once.{RunsAreOnce, ScriptsHoldOne}
use Rattle.machine_rules.specs.History.{history}
use Rattle.machine_rules.specs.MainOps.{takes_words}
use Rattle.machine_rules.specs.Once.{EndsOnce, OneHolder}
use Rattle.machine_rules.specs.OpParts.{callee_of_main_op, callee_of_op}
use Rattle.machine_rules.specs.Run.{Run, main_opening, opens}
use Rattle.machine_rules.specs.Scripts.{export_at}
use Rattle.machine_rules.specs.Stalled.{setting_of}
use Rattle.task_run.proofs.HeadlineLemmas.{Keeps}
use Rattle.task_run.specs.Headline.{machine_scenario}
use Rattle.task_run.specs.Runnable.{IsRunnable}
use Rattle.task_run.specs.Script.{machine_op}
use Rattle.task_run.specs.declared.scenario.MainOp.{MainOp}
use Rattle.task_run.specs.declared.scenario.MainOp.TheVariants as main
use Rattle.task_run.specs.declared.scenario.Scenario.{Scenario}

module _ (x : Scenario) (runnable : IsRunnable x) where
  abbrev c : Component
  c = x.component

  -- ---- Callees

  within : (f : Callee) (e : ExportDef) → export_at c f ≡ Some e → f.instance < length c.instances
  within f e is = by (slice_get c.instances f.instance) refl is
    where
      by : (d : Option InstanceDef) → slice_get c.instances f.instance ≡ d → option_and_then (λ (d : InstanceDef). slice_get d.exports f.export) d ≡ Some e →
          f.instance < length c.instances
      by None at h = absurd (cc)
      by (Some d) at h = slice_get_within c.instances f.instance d at

  takes : (f : Callee) (n : ℕ) → takes_words c f n ≡ true → f.instance < length c.instances
  takes f n is = by (export_at c f) refl is
    where
      by : (e : Option ExportDef) → export_at c f ≡ e → option_map_or (λ (d : ExportDef). d.params == n) e false ≡ true → f.instance < length c.instances
      by None at h = absurd (cc)
      by (Some e) at h = within f e at

  called : (o : Op) (g : Callee) → op_fits c o ≡ true → callee_of_op o ≡ Some g → g.instance < length c.instances
  called (op.Call (call_op.Call r q e xs)) g fits is =
      subst (λ (g : Callee). g.instance < length c.instances) (same_Some _ _ is) (takes e (length xs) (and_parts (takes_words c e (length xs)) (nat_le (length xs) 16) fits).0)
  called (op.Call (call_op.CallSync r e xs)) g fits is =
      subst (λ (g : Callee). g.instance < length c.instances) (same_Some _ _ is) (takes e (length xs) (and_parts (takes_words c e (length xs)) (nat_le (length xs) 16) fits).0)
  called o g fits is = absurd (cc)

  started : (p : ℕ) (m : Option MainOp) (o : MainOpDef) (f : Callee) → slice_get x.main p ≡ m → option_map machine_op m ≡ Some o →
      callee_of_main_op o ≡ Some f → f.instance < length c.instances
  started p (Some (main.Start g xs)) o f at is callee = let known = runnable.main.starts p g xs at in
      subst (λ (g : Callee). g.instance < length c.instances) (same_Some _ _ (ap callee_of_main_op (same_Some _ _ is) ∙ callee)) (within (callee_of g) known.0 known.1.0)
  started p m o f at is callee = absurd (cc)

  callees : CalleesAre (setting_of (machine_scenario x)) (λ f. f.instance < length c.instances)
  callees = record {
    starts = λ p o f at callee. started p (slice_get x.main p) o f refl (sym (slice_get-map machine_op x.main p) ∙ at) callee;
    calls = λ f w p o g at callee. called o g (runnable.component.ops f w p o at) callee;
  }

  -- ---- The run

  module _ (ls : List Label) (t : State) (run : Run (setting_of (machine_scenario x)) (opens (machine_scenario x)) ls t) where
    ends_once : EndsOnce c (history (setting_of (machine_scenario x)) (opens (machine_scenario x)) ls t run)
    unfolding opens RunsAreOnce
    ends_once = runs_are_once (setting_of (machine_scenario x)) runnable.codes x.rules (length c.instances) x.handles x.table (Scripted main_opening) refl ls t run

    one_holds : OneHolder (history (setting_of (machine_scenario x)) (opens (machine_scenario x)) ls t run)
    unfolding opens ScriptsHoldOne
    one_holds = scripts_hold_one (setting_of (machine_scenario x)) runnable.codes x.rules (length c.instances) x.handles x.table main_opening callees ls t run

  pub scenario_keeps : Keeps (machine_scenario x)
  scenario_keeps = record { once = ends_once; alone = one_holds }
