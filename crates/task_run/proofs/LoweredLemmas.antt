-- The scripts of a lowered component are those of the text, and are there.
use Rattle.std.proofs.Common.{inl, inr, ◌⊎◌, ◌≡◌, ◌<◌, ◌≤◌, ◌+◌, ℕ, suc, zero, Bool, true, false, List, [], ◌∷◌, ◌++◌, Option, Some, None, map, length, take, slice_get, refl, sym, ap, subst, ◌∙◌, arith}
use Rattle.std.specs.Prelude.{replicate, slice_set, unwrap_or, nat_lt}
use Rattle.std.specs.Option.{option_map, option_and_then, option_map_or}
use Rattle.std.proofs.lemmas.List.{length_push}
use Rattle.std.proofs.lemmas.Option.{slice_get-map}
use Rattle.text_scenario.specs.declared.tree.HostText.{HostText}
use Rattle.text_scenario.specs.declared.tree.ExportText.{ExportText}
use Rattle.text_scenario.specs.declared.tree.InstanceText.{InstanceText}
use Rattle.text_scenario.specs.declared.tree.PartText.{PartText}
use Rattle.text_scenario.specs.declared.tree.PartText.TheVariants as part
use Rattle.text_scenario.specs.declared.tree.ScenarioText.{ScenarioText}
use Rattle.text_scenario.specs.Spelling.{exports_in, exports_of}
use Rattle.text_scenario.specs.Placement.{EachIsPlaced, ExportIsPlaced, InstanceIsPlaced, IsWellFormed, OpIsPlaced, PartIsPlaced, ReactIsPlaced, ScriptIsPlaced, params_of}
use Rattle.text_scenario.proofs.ExportLaws.{export_placed}
use Rattle.text_scenario.proofs.PlacementLaws.{placed_at, some_map}
use Rattle.machine_data.specs.Read.{is_callback}
use Rattle.machine_data.specs.declared.component.Callee.{Callee}
use Rattle.machine_data.specs.declared.component.Component.{Component}
use Rattle.machine_data.specs.declared.component.ExportDef.{ExportDef}
use Rattle.machine_data.specs.declared.component.ExportKind.{ExportKind}
use Rattle.machine_data.specs.declared.component.InstanceDef.{InstanceDef}
use Rattle.machine_data.specs.declared.component.Slot.{Slot}
use Rattle.machine_data.specs.declared.component.Slot.TheVariants as slot
use Rattle.machine_data.specs.declared.op.Op.{Op}
use Rattle.machine_data.specs.declared.records.Script.{Script}
use Rattle.machine_data.specs.declared.records.Script.TheVariants as script
use Rattle.machine_rules.specs.Scripts.{export_at, script_in, slot_at, slot_script}
use Rattle.task_run.specs.Lower.{export_def, instance_def, scenario_of, slots_after}

-- each op had room
pub short : (hosts : List HostText) (earlier : List InstanceText) (callback : Bool) (before ops : List Op) → EachIsPlaced (OpIsPlaced hosts earlier callback) before ops → length before ≤ 4096
    → length before + length ops ≤ 4096
short hosts earlier callback before [] stands few = omega arith
short hosts earlier callback before (o ∷ ops) stands few =
    let room : nat_lt (length before) 4096 ≡ true = stands.0.room in
    let more : length (before ++ o ∷ []) ≡ length before + 1 = length_push before o in
    let below : length before < 4096 = grind (arith, room) in
    let rest = short hosts earlier callback (before ++ o ∷ []) ops stands.1 (omega arith) in
    omega arith

-- ---- Exports

module _ (is : List InstanceText) (f : Callee) where
  abbrev pub here : Option InstanceText → Option ExportDef
  here o = option_and_then (λ (d : InstanceDef). slice_get d.exports f.export) (option_map instance_def o)

  -- the export of the text that d represents
  pub record TextOf (d : ExportDef) : Type 0 where
    pub i : InstanceText
    pub e : ExportText
    pub at : slice_get is f.instance ≡ Some i
    pub within : slice_get (exports_in i.parts) f.export ≡ Some e
    pub is_def : export_def e ≡ d

  -- an export that is there is in the text
  pub export_text : (d : ExportDef) → here (slice_get is f.instance) ≡ Some d → TextOf d
  export_text d at = by_instance (slice_get is f.instance) refl at
    where
      by_instance : (o : Option InstanceText) → slice_get is f.instance ≡ o → here o ≡ Some d → TextOf d
      by_instance None none at = absurd (cc)
      by_instance (Some i) some at =
          let exports = exports_in i.parts in
          let e = some_map export_def (slice_get exports f.export) d (sym (slice_get-map export_def exports f.export) ∙ at) in
          record { i = i; e = e.0; at = some; within = e.1; is_def = e.2 }

  -- the export that a text gives so many parameters
  pub export_params : (n : ℕ) → params_of is f ≡ Some n → (e : ExportDef) × ((here (slice_get is f.instance) ≡ Some e) × (n ≡ e.params))
  export_params n at = by_instance (slice_get is f.instance) refl
    where
      by_instance : (o : Option InstanceText) → slice_get is f.instance ≡ o → (e : ExportDef) × ((here (slice_get is f.instance) ≡ Some e) × (n ≡ e.params))
      by_instance None none =
          let empty : exports_of is f.instance ≡ [] = rw none refl in
          let gone : params_of is f ≡ None = ap (λ es. option_map (λ (e : ExportText). e.params) (slice_get es f.export)) empty in
          absurd (cc)
      by_instance (Some i) some =
          let exports = exports_in i.parts in
          let mine : exports_of is f.instance ≡ exports = rw some refl in
          let e = some_map (λ (e : ExportText). e.params) (slice_get exports f.export) n (sym (ap (λ es. option_map (λ (e : ExportText). e.params) (slice_get es f.export)) mine) ∙ at) in
          (export_def e.0, (ap here some ∙ slice_get-map export_def exports f.export ∙ ap (option_map export_def) e.1, sym e.2))

-- what is among the first is among all
front_of : {X : Type 0} (xs : List X) (k i : ℕ) (x : X) → slice_get (take k xs) i ≡ Some x → slice_get xs i ≡ Some x
front_of {X} xs zero i x at = absurd (let none : slice_get {X = X} [] i ≡ Some x = at in cc)
front_of [] (suc k) i x at = at
front_of (y ∷ xs) (suc k) zero x at = at
front_of (y ∷ xs) (suc k) (suc i) x at = front_of xs k i x at

-- an export of an earlier instance is one of all
pub params_later : (is : List InstanceText) (k : ℕ) (f : Callee) (n : ℕ) → params_of (take k is) f ≡ Some n → params_of is f ≡ Some n
params_later is k f n at = by_instance (slice_get (take k is) f.instance) refl at
  where
    params : Option InstanceText → Option ℕ
    params o = option_map (λ (e : ExportText). e.params) (slice_get (unwrap_or (option_map (λ (i : InstanceText). exports_in i.parts) o) []) f.export)

    by_instance : (o : Option InstanceText) → slice_get (take k is) f.instance ≡ o → params o ≡ Some n → params_of is f ≡ Some n
    by_instance None none at = absurd (cc)
    by_instance (Some i) some at = ap params (front_of is k f.instance i some) ∙ at

-- ---- Slots

-- a list with something put into a place has that there, and elsewhere what it had
in_set : {X : Type 0} (xs : List X) (k : ℕ) (x : X) (j : ℕ) → (slice_get (slice_set xs k x) j ≡ slice_get xs j) ⊎ (slice_get (slice_set xs k x) j ≡ Some x)
in_set [] k x j = inl refl
in_set (y ∷ xs) zero x zero = inr refl
in_set (y ∷ xs) zero x (suc j) = inl refl
in_set (y ∷ xs) (suc k) x zero = inl refl
in_set (y ∷ xs) (suc k) x (suc j) = in_set xs k x j

module _ (hosts : List HostText) (earlier : List InstanceText) where
  abbrev at_slot : List Slot → ℕ → List Op
  at_slot slots j = slot_script (unwrap_or (slice_get slots j) slot.Empty)

  abbrev SlotsArePlaced : List Slot → Type 0
  SlotsArePlaced slots = (j : ℕ) → ScriptIsPlaced hosts earlier false (at_slot slots j)

  filled : (slots : List Slot) (k : ℕ) (x : Slot) → SlotsArePlaced slots → ScriptIsPlaced hosts earlier false (slot_script x) → SlotsArePlaced (slice_set slots k x)
  filled slots k x stand stands j = elim (in_set slots k x j) [
    | inl same ↦ subst (λ (o : Option Slot). ScriptIsPlaced hosts earlier false (slot_script (unwrap_or o slot.Empty))) (sym same) (stand j)
    | inr there ↦ subst (λ (o : Option Slot). ScriptIsPlaced hosts earlier false (slot_script (unwrap_or o slot.Empty))) (sym there) stands
  ]

  slots_placed : (before parts : List PartText) (slots : List Slot) → EachIsPlaced (PartIsPlaced hosts earlier) before parts → SlotsArePlaced slots → SlotsArePlaced (slots_after slots parts)
  slots_placed before [] slots each stand = stand
  slots_placed before (part.Export e ∷ parts) slots each stand = slots_placed (before ++ part.Export e ∷ []) parts slots each.1 stand
  slots_placed before (part.Thread s ops ∷ parts) slots each stand =
      slots_placed (before ++ part.Thread s ops ∷ []) parts (slice_set slots s (slot.Script ops)) each.1 (filled slots s (slot.Script ops) stand each.0.1)
  slots_placed before (part.Bad s ∷ parts) slots each stand = slots_placed (before ++ part.Bad s ∷ []) parts (slice_set slots s slot.Bad) each.1 (filled slots s slot.Bad stand tt)

  empty_placed : (n : ℕ) → SlotsArePlaced (replicate n slot.Empty)
  empty_placed zero j = tt
  empty_placed (suc n) zero = tt
  empty_placed (suc n) (suc j) = empty_placed n j

-- ---- The component

abbrev pub lowered : ScenarioText → Component
lowered s = (scenario_of s).component

pub at_lowered : (s : ScenarioText) (f : Callee) → export_at (lowered s) f ≡ here s.instances f (slice_get s.instances f.instance)
at_lowered s f = ap (option_and_then (λ (d : InstanceDef). slice_get d.exports f.export)) (slice_get-map instance_def s.instances f.instance)

module _ (s : ScenarioText) (formed : IsWellFormed s) where
  -- an export of the component is in the text
  pub record Exported (f : Callee) (d : ExportDef) : Type 0 where
    pub before : List PartText
    pub e : ExportText
    pub is_def : export_def e ≡ d
    pub stands : ExportIsPlaced s.hosts (take f.instance s.instances) before e

  pub exported : (f : Callee) (d : ExportDef) → export_at (lowered s) f ≡ Some d → Exported f d
  exported f d at =
      let t = export_text s.instances f d (sym (at_lowered s f) ∙ at) in
      let i = placed_at (InstanceIsPlaced s.hosts) s.instances f.instance t.i formed.instances t.at in
      let x = export_placed s.hosts (take f.instance s.instances) t.i.parts f.export t.e i.parts t.within in
      record { before = x.before; e = t.e; is_def = t.is_def; stands = x.stands }

  -- a script is after some instances, in a callback or not
  pub record Known (ops : List Op) : Type 0 where
    pub instances : ℕ
    pub callback : Bool
    pub stands : ScriptIsPlaced s.hosts (take instances s.instances) callback ops

  none_known : Known []
  none_known = record { instances = 0; callback = false; stands = tt }

  react_known : (k : ℕ) (x : ExportKind) (react : Option (List Op)) → ReactIsPlaced s.hosts (take k s.instances) x react → Known (unwrap_or react [])
  react_known k x None stands = none_known
  react_known k x (Some ops) stands = record { instances = k; callback = true; stands = stands.1 }

  abbrev in_slot : ℕ → Option InstanceDef → List Op
  in_slot j o = slot_script (unwrap_or (option_and_then (λ (d : InstanceDef). slice_get d.slots j) o) slot.Empty)

  pub slot_placed : (i j : ℕ) → ScriptIsPlaced s.hosts (take i s.instances) false (slot_script (slot_at (lowered s) i j))
  slot_placed i j = subst (λ o. ScriptIsPlaced s.hosts (take i s.instances) false (in_slot j o)) (sym (slice_get-map instance_def s.instances i)) (by_instance (slice_get s.instances i) refl)
    where
      by_instance : (o : Option InstanceText) → slice_get s.instances i ≡ o → ScriptIsPlaced s.hosts (take i s.instances) false (in_slot j (option_map instance_def o))
      by_instance None none = tt
      by_instance (Some t) some =
          let stands = placed_at (InstanceIsPlaced s.hosts) s.instances i t formed.instances some in
          slots_placed s.hosts (take i s.instances) [] t.parts (replicate 16 slot.Empty) stands.parts (empty_placed s.hosts (take i s.instances) 16) j

  -- each script of the component is such a one
  pub script_known : (f : Callee) (x : Script) → Known (script_in (lowered s) f x)
  script_known f script.Start = by_export (export_at (lowered s) f) refl
    where
      by_export : (o : Option ExportDef) → export_at (lowered s) f ≡ o → Known (option_map_or (λ (d : ExportDef). d.start) o [])
      by_export None none = none_known
      by_export (Some d) some =
          let x = exported f d some in
          subst (λ (d : ExportDef). Known d.start) x.is_def (record { instances = f.instance; callback = is_callback x.e.kind; stands = x.stands.start })
  script_known f script.React = by_export (export_at (lowered s) f) refl
    where
      by_export : (o : Option ExportDef) → export_at (lowered s) f ≡ o → Known (option_map_or (λ (d : ExportDef). d.react) o [])
      by_export None none = none_known
      by_export (Some d) some =
          let x = exported f d some in
          subst (λ (d : ExportDef). Known d.react) x.is_def (react_known f.instance x.e.kind x.e.react x.stands.react)
  script_known f (script.Slot j) = record { instances = f.instance; callback = false; stands = slot_placed f.instance j }
