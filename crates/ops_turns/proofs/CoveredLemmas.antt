-- Components of callbacks with start scripts alone.
use Rattle.std.proofs.Common.{ap, arith, refl, subst, sym}
use Rattle.std.specs.List.{list_all}
use Rattle.std.specs.Option.{option_and_then, option_map_or}
use Rattle.std.proofs.lemmas.Option.{slice_get_within}
use Rattle.std.specs.Prelude.{IsSome, List, None, Option, Some, [], is_some, length, slice_get, suc, true, unwrap_or, zero, ℕ, ◌<◌, ◌∷◌, ◌≡◌, ◌≤◌}
use Rattle.laws_states.specs.Settings.{CodesInCallbacks, HasNoCode}
use Rattle.machine_data.specs.Core.{Core}
use Rattle.machine_data.specs.Maps.{get}
use Rattle.machine_data.specs.Read.{is_callback}
use Rattle.machine_data.specs.declared.component.Callee.{Callee}
use Rattle.machine_data.specs.declared.component.Component.{Component}
use Rattle.machine_data.specs.declared.component.ExportDef.{ExportDef}
use Rattle.machine_data.specs.declared.component.InstanceDef.{InstanceDef}
use Rattle.machine_data.specs.declared.component.Slot.TheVariants as slot
use Rattle.ops_dispatch.specs.Fits.{op_fits}
use Rattle.machine_data.specs.declared.op.Op.{Op}
use Rattle.machine_data.specs.declared.op.Op.TheVariants as op
use Rattle.machine_data.specs.declared.records.Script.{Script}
use Rattle.machine_data.specs.declared.records.Turn.{Turn}
use Rattle.machine_data.specs.declared.records.Script.TheVariants as script
use Rattle.machine_rules.specs.Scripts.{export_at, script_in, slot_script}
use Rattle.ops_turns.specs.Covered.{HasPlainExports, IsPlainExport, is_covered_op}
use Rattle.ops_turns.specs.WellFormed.{IsWellFormed}
use Rattle.ops_turns.specs.Turn.{CoreInOrder}

plain_fits : (c : Component) (o : Op) → is_covered_op o ≡ true → op_fits c o ≡ true
plain_fits c (op.Data x) plain = refl
plain_fits c (op.Task x) plain = refl
plain_fits c o plain = absurd (cc)

fits_at : (c : Component) (ops : List Op) (p : ℕ) (o : Op) → list_all is_covered_op ops ≡ true → slice_get ops p ≡ Some o → op_fits c o ≡ true
fits_at c [] p o all e = absurd (cc)
fits_at c (x ∷ ops) zero o all e = plain_fits c o (grind arith)
fits_at c (x ∷ ops) (suc p) o all e = fits_at c ops p o (grind arith) e

module _ (c : Component) (plain : HasPlainExports c) where
  -- a start script is an export's, and there are no other scripts
  each_script : (P : List Op → Type 0) → P [] → ((e : ExportDef) → IsPlainExport e → P e.start) → (f : Callee) (x : Script) → P (script_in c f x)
  each_script P none start f script.Start = go (export_at c f) refl
    where
      go : (o : Option ExportDef) → export_at c f ≡ o → P (option_map_or (λ (d : ExportDef). d.start) o [])
      go None e = none
      go (Some d) e = start d (plain.exports f d e)
  each_script P none start f script.React = go (export_at c f) refl
    where
      go : (o : Option ExportDef) → export_at c f ≡ o → P (option_map_or (λ (d : ExportDef). d.react) o [])
      go None e = none
      go (Some d) e = subst P (sym (plain.exports f d e).react) none
  each_script P none start f (script.Slot j) = subst P (sym (plain.slots f.instance j)) none

  pub covered_of : IsWellFormed c
  covered_of = record {
    few_params = λ f d at. (plain.exports f d at).few_params;
    short = each_script (λ (ops : List Op). length ops ≤ 4096) (omega arith) (λ e p. p.short);
    ops = λ f x p o at. fits_at c (script_in c f x) p o (each_script (λ (ops : List Op). list_all is_covered_op ops ≡ true) refl (λ e q. q.ops) f x) at;
  }

  pub codes_of : CodesInCallbacks c
  codes_of = record {
    starts = λ f d at other. absurd (let called = ap is_callback (plain.exports f d at).called_back in cc);
    reacts = λ f d at other. absurd (let called = ap is_callback (plain.exports f d at).called_back in cc);
    slots = λ i j. subst HasNoCode (sym (plain.slots i j)) (λ p o e. absurd (cc));
  }

-- ---- Instances

module _ (c : Component) (f : Callee) where
  below : (o : Option InstanceDef) → slice_get c.instances f.instance ≡ o → IsSome (option_and_then (λ (d : InstanceDef). slice_get d.exports f.export) o) → f.instance < length c.instances
  below None e h = absurd (cc)
  below (Some d) e h = slice_get_within c.instances f.instance d e

  -- the instance of an export is there
  pub home_there : (p : Turn) (s : Core) → CoreInOrder c p s → IsSome (export_at c f) → IsSome (get s.instances f.instance)
  home_there p s in_turn there = in_turn.there f.instance (below (slice_get c.instances f.instance) refl there)

  nothing : (p : ℕ) (o : Op) → slice_get {X = Op} [] p ≡ Some o → ⊥
  nothing p o e = absurd (cc)

  -- an op of a script is of an instance that is there
  pub home_below : (x : Script) (p : ℕ) (o : Op) → slice_get (script_in c f x) p ≡ Some o → f.instance < length c.instances
  home_below script.Start p o at = go (export_at c f) refl at
    where
      go : (e : Option ExportDef) → export_at c f ≡ e → slice_get (option_map_or (λ (d : ExportDef). d.start) e []) p ≡ Some o → f.instance < length c.instances
      go None e h = absurd (nothing p o h)
      go (Some d) e h = below (slice_get c.instances f.instance) refl (ap is_some e)
  home_below script.React p o at = go (export_at c f) refl at
    where
      go : (e : Option ExportDef) → export_at c f ≡ e → slice_get (option_map_or (λ (d : ExportDef). d.react) e []) p ≡ Some o → f.instance < length c.instances
      go None e h = absurd (nothing p o h)
      go (Some d) e h = below (slice_get c.instances f.instance) refl (ap is_some e)
  home_below (script.Slot x) p o at = go (slice_get c.instances f.instance) refl at
    where
      go : (i : Option InstanceDef) → slice_get c.instances f.instance ≡ i → slice_get (slot_script (unwrap_or (option_and_then (λ (d : InstanceDef). slice_get d.slots x) i) slot.Empty)) p ≡ Some o → f.instance < length c.instances
      go None e h = absurd (nothing p o h)
      go (Some d) e h = slice_get_within c.instances f.instance d e
