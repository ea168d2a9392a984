-- A scenario that a text represents keeps what a run of it needs.
use Rattle.std.proofs.Common.{inl, inr, ◌⊎◌, ◌≡◌, ◌<◌, ◌≤◌, ◌+◌, ℕ, suc, zero, Bool, true, false, List, [], ◌∷◌, ◌++◌, Option, Some, None, map, length, take, slice_get, refl, sym, ap, subst, ◌∙◌, arith}
use Rattle.std.specs.Prelude.{IsSome, nat_le, nat_lt, not, unwrap_or, ◌&&◌, ◌==◌, ◌^◌}
use Rattle.std.specs.Option.{option_map, option_map_or}
use Rattle.std.proofs.lemmas.Bool.{and_from, and_parts, eq-eqb, le-leb, leb-true, not-true}
use Rattle.std.proofs.lemmas.List.{length_push, length-map}
use Rattle.std.proofs.lemmas.Option.{same_Some, slice_get-map}
use Rattle.ops_dispatch.specs.Fits.{call_op_fits, op_fits, set_op_fits}
use Rattle.text_scenario.specs.declared.tree.HostText.{HostText}
use Rattle.text_scenario.specs.declared.tree.InstanceText.{InstanceText}
use Rattle.text_scenario.specs.declared.tree.MainOpText.{MainOpText}
use Rattle.text_scenario.specs.declared.tree.MainOpText.TheVariants as text
use Rattle.text_scenario.specs.declared.tree.ScenarioText.{ScenarioText}
use Rattle.text_scenario.specs.Placement.{CallIsPlaced, EachIsPlaced, InstanceIsPlaced, IsWellFormed, MainOpIsPlaced, OpFits, OpIsPlaced, ReactIsPlaced, ScriptIsPlaced, finish_opens, is_callback_end, main_has_room, op_suits, params_of}
use Rattle.text_scenario.proofs.CalleeLaws.{some_at}
use Rattle.text_scenario.proofs.PlacementLaws.{placed_at}
use Rattle.laws_states.specs.Settings.{CodesInCallbacks, HasNoCode}
use Rattle.task_loop.specs.LoopCalls.{callee_of}
use Rattle.task_loop.specs.declared.call.Func.{Func}
use Rattle.machine_data.specs.Read.{is_callback}
use Rattle.machine_data.specs.declared.component.Callee.{Callee}
use Rattle.machine_data.specs.declared.component.ExportDef.{ExportDef}
use Rattle.machine_data.specs.declared.component.ExportKind.{ExportKind}
use Rattle.machine_data.specs.declared.component.HostDef.{HostDef}
use Rattle.machine_data.specs.declared.op.CallOp.{CallOp}
use Rattle.machine_data.specs.declared.op.CallOp.TheVariants as call_op
use Rattle.machine_data.specs.declared.op.Op.{Op}
use Rattle.machine_data.specs.declared.op.Op.TheVariants as op
use Rattle.machine_data.specs.declared.op.Operand.{Operand}
use Rattle.machine_data.specs.declared.op.SetOp.{SetOp}
use Rattle.machine_data.specs.declared.op.SetOp.TheVariants as set_op
use Rattle.machine_data.specs.declared.op.TaskOp.{TaskOp}
use Rattle.machine_data.specs.declared.op.TaskOp.TheVariants as task_op
use Rattle.machine_rules.specs.MainOps.{takes_words}
use Rattle.machine_rules.specs.OpParts.{ends_activation}
use Rattle.machine_rules.specs.Scripts.{export_at, script_in, slot_at, slot_script}
use Rattle.task_run.proofs.LoweredLemmas.{at_lowered, export_params, exported, lowered, params_later, script_known, short, slot_placed}
use Rattle.task_run.specs.Runnable.{IsRunnable}
use Rattle.task_run.specs.Script.{SuitsOps}
use Rattle.task_run.specs.Lower as lower
use Rattle.task_run.specs.Lower.{host_def, instance_def, scenario_of}
use Rattle.task_run.specs.declared.scenario.MainOp.{MainOp}
use Rattle.task_run.specs.declared.scenario.MainOp.TheVariants as main_op
use Rattle.ops_turns.specs.WellFormed as fit
use Rattle.text_lines.specs.Fits.{operand_fits}
use Rattle.text_lines.specs.Fits as line

-- ---- What a line gives

start_func : (g : Callee) (ys : List Operand) (f : Func) (xs : List Operand) → main_op.Start (lower.func_of g) ys ≡ main_op.Start f xs → lower.func_of g ≡ f
start_func g ys f xs is = cc

start_words : (g : Callee) (ys : List Operand) (f : Func) (xs : List Operand) → main_op.Start (lower.func_of g) ys ≡ main_op.Start f xs → ys ≡ xs
start_words g ys f xs is = cc

same_callee : (g : Callee) (f : Func) → lower.func_of g ≡ f → g ≡ callee_of f
same_callee g f is = ap callee_of is

same_host : (g h : ℕ) → main_op.Spawn g ≡ main_op.Spawn h → g ≡ h
same_host g h is = cc

first_of_and : (a b : Bool) → (a && b) ≡ true → a ≡ true
first_of_and true b both = refl
first_of_and false b both = absurd (cc)

some_there : (d : HostDef) → IsSome (Some d)
some_there d = refl

-- each instance had room
below_64 : (hosts : List HostText) (before is : List InstanceText) → EachIsPlaced (InstanceIsPlaced hosts) before is → length before ≤ 64 → length before + length is ≤ 64
below_64 hosts before [] stands few = omega arith
below_64 hosts before (i ∷ is) stands few =
    let room : nat_lt (length before) 64 ≡ true = first_of_and _ _ stands.0.opens in
    let more : length (before ++ i ∷ []) ≡ length before + 1 = length_push before i in
    let below : length before < 64 = grind (arith, room) in
    let rest = below_64 hosts (before ++ i ∷ []) is stands.1 (omega arith) in
    omega arith

-- ---- Ops that end activations

same_ends : (o : TaskOp) → ends_activation (op.Task o) ≡ is_callback_end o
same_ends (task_op.Ret x) = refl
same_ends (task_op.RetBad x) = refl
same_ends task_op.TaskCancel = refl
same_ends task_op.Exit = refl
same_ends task_op.CbYield = refl
same_ends (task_op.CbWait x) = refl
same_ends (task_op.Code x) = refl
same_ends task_op.BpInc = refl
same_ends task_op.BpDec = refl

no_end : (o : Op) → op_suits false o ≡ true → ends_activation o ≡ false
no_end (op.Task o) suits = same_ends o ∙ not-true _ suits
no_end (op.Data o) suits = refl
no_end (op.Set o) suits = refl
no_end (op.Call o) suits = refl
no_end (op.Thread o) suits = refl

no_codes : (hosts : List HostText) (earlier : List InstanceText) (ops : List Op) → ScriptIsPlaced hosts earlier false ops → HasNoCode ops
no_codes hosts earlier ops stands = λ p o at. no_end o (placed_at (OpIsPlaced hosts earlier false) ops p o stands at).suits

-- only a callback has a react script
no_react : (hosts : List HostText) (earlier : List InstanceText) (k : ExportKind) (react : Option (List Op)) → ReactIsPlaced hosts earlier k react → is_callback k ≡ false → HasNoCode (unwrap_or react [])
no_react hosts earlier k None stands other = λ p o at. absurd (cc)
no_react hosts earlier k (Some ops) stands other = absurd (let called : is_callback k ≡ true = stands.0 in cc)

set_fits : (o : SetOp) → line.set_op_fits o ≡ true → set_op_fits o ≡ true
set_fits (set_op.New r) fits = refl
set_fits (set_op.Drop x) fits = refl
set_fits (set_op.Wait r x) fits = (and_parts (nat_le r 13) (operand_fits x) fits).0
set_fits (set_op.Poll r x) fits = (and_parts (nat_le r 13) (operand_fits x) fits).0
set_fits (set_op.Join x y) fits = refl

module _ (s : ScenarioText) (formed : IsWellFormed s) where
  -- ---- Scripts

  few_params : (f : Callee) (d : ExportDef) → export_at (lowered s) f ≡ Some d → d.params ≤ 16
  few_params f d at = let x = exported s formed f d at in subst (λ (d : ExportDef). d.params ≤ 16) x.is_def x.stands.params

  -- a call's export is there, and takes so many words
  record Called (f : Callee) (n : ℕ) : Type 0 where
    takes : takes_words (lowered s) f n ≡ true
    few : nat_le n 16 ≡ true

  called : (k : ℕ) (f : Callee) (n : ℕ) → params_of (take k s.instances) f ≡ Some n → Called f n
  called k f n at =
      let p = export_params s.instances f n (params_later s.instances k f n at) in
      let there : export_at (lowered s) f ≡ Some p.0 = at_lowered s f ∙ p.1.0 in
      let few = few_params f p.0 there in
      record {
        takes = ap (λ (o : Option ExportDef). option_map_or (λ (d : ExportDef). d.params == n) o false) there ∙ eq-eqb p.0.params n (sym p.1.1);
        few = le-leb _ _ (omega (arith, few, p.1.1));
      }

  call_fits : (k : ℕ) (o : CallOp) → CallIsPlaced s.hosts (take k s.instances) o → call_op_fits (lowered s) o ≡ true
  call_fits k (call_op.Call r q f xs) stands = let c = called k f (length xs) stands.1 in and_from _ _ c.takes c.few
  call_fits k (call_op.CallSync r f xs) stands = let c = called k f (length xs) stands.1 in and_from _ _ c.takes c.few
  call_fits k (call_op.CallHost r q h) stands = refl
  call_fits k (call_op.CallSyncHost r h) stands = refl
  call_fits k (call_op.Cancel r x) stands = refl
  call_fits k (call_op.CancelSync r x) stands = refl
  call_fits k (call_op.Drop x) stands = refl

  fits : (k : ℕ) (o : Op) → OpFits s.hosts (take k s.instances) o → op_fits (lowered s) o ≡ true
  fits k (op.Set o) stands = set_fits o stands
  fits k (op.Call o) stands = call_fits k o stands
  fits k (op.Data o) stands = refl
  fits k (op.Task o) stands = refl
  fits k (op.Thread o) stands = refl

  well_formed : fit.IsWellFormed (lowered s)
  well_formed = record {
    few_params = few_params;
    short = λ f x.
        let k = script_known s formed f x in
        let few = short s.hosts (take k.instances s.instances) k.callback [] (script_in (lowered s) f x) k.stands (omega arith) in
        omega (arith, few);
    ops = λ f x p o at.
        let k = script_known s formed f x in
        fits k.instances o (placed_at (OpIsPlaced s.hosts (take k.instances s.instances) k.callback) (script_in (lowered s) f x) p o k.stands at).fits;
  }

  -- ---- Codes

  start_codes : (f : Callee) (d : ExportDef) → export_at (lowered s) f ≡ Some d → is_callback d.kind ≡ false → HasNoCode d.start
  start_codes f d at =
      let x = exported s formed f d at in
      subst (λ (d : ExportDef). is_callback d.kind ≡ false → HasNoCode d.start) x.is_def
      (λ other. no_codes s.hosts (take f.instance s.instances) x.e.start (subst (λ (callback : Bool). ScriptIsPlaced s.hosts (take f.instance s.instances) callback x.e.start) other x.stands.start))

  react_codes : (f : Callee) (d : ExportDef) → export_at (lowered s) f ≡ Some d → is_callback d.kind ≡ false → HasNoCode d.react
  react_codes f d at =
      let x = exported s formed f d at in
      subst (λ (d : ExportDef). is_callback d.kind ≡ false → HasNoCode d.react) x.is_def (no_react s.hosts (take f.instance s.instances) x.e.kind x.e.react x.stands.react)

  codes : CodesInCallbacks (lowered s)
  codes = record {
    starts = start_codes;
    reacts = react_codes;
    slots = λ i j. no_codes s.hosts (take i s.instances) (slot_script (slot_at (lowered s) i j)) (slot_placed s formed i j);
  }

  few_instances : length (lowered s).instances ≤ 64
  few_instances = let few = below_64 s.hosts [] s.instances formed.instances (omega arith) in let same = length-map s.instances instance_def in omega arith

  -- ---- Main's script

  -- an op of the script is a line's, or the answer
  line_or_answer : (lines : List MainOpText) (i : ℕ) (o : MainOp) → slice_get (map lower.main_op lines ++ main_op.Answer s.answer ∷ []) i ≡ Some o → ((l : MainOpText) × ((slice_get lines i ≡ Some l) × (lower.main_op l ≡ o))) ⊎ (o ≡ main_op.Answer s.answer)
  line_or_answer [] zero o at = inr (sym (same_Some _ _ at))
  line_or_answer [] (suc i) o at = absurd (let none : slice_get {X = MainOp} [] i ≡ Some o = at in cc)
  line_or_answer (l ∷ lines) zero o at = inl (l, (refl, same_Some _ _ at))
  line_or_answer (l ∷ lines) (suc i) o at = line_or_answer lines i o at

  abbrev IsPlaced : List MainOpText → MainOpText → Type 0
  IsPlaced = MainOpIsPlaced s.hosts s.instances

  start_line : (l : MainOpText) (f : Func) (xs : List Operand) → lower.main_op l ≡ main_op.Start f xs → (before : List MainOpText) → IsPlaced before l → params_of s.instances (callee_of f) ≡ Some (length xs)
  start_line (text.Start g ys) f xs is before stands =
      let callee : g ≡ callee_of f = same_callee g f (start_func g ys f xs is) in
      let words : ys ≡ xs = start_words g ys f xs is in
      sym (ap (params_of s.instances) callee) ∙ stands.1 ∙ ap (λ (zs : List Operand). Some (length zs)) words
  start_line (text.Finish k r) f xs is before stands = absurd (cc)
  start_line (text.Spawn h) f xs is before stands = absurd (cc)
  start_line (text.Abort k) f xs is before stands = absurd (cc)
  start_line (text.Await k) f xs is before stands = absurd (cc)
  start_line text.Quiet f xs is before stands = absurd (cc)
  start_line (text.Ready g) f xs is before stands = absurd (cc)

  spawn_line : (l : MainOpText) (h : ℕ) → lower.main_op l ≡ main_op.Spawn h → (before : List MainOpText) → IsPlaced before l → h < length s.hosts
  spawn_line (text.Spawn g) h is before stands = subst (λ (n : ℕ). n < length s.hosts) (same_host g h is) stands.1
  spawn_line (text.Start f xs) h is before stands = absurd (cc)
  spawn_line (text.Finish k r) h is before stands = absurd (cc)
  spawn_line (text.Abort k) h is before stands = absurd (cc)
  spawn_line (text.Await k) h is before stands = absurd (cc)
  spawn_line text.Quiet h is before stands = absurd (cc)
  spawn_line (text.Ready f) h is before stands = absurd (cc)

  host_there : (h : ℕ) → h < length s.hosts → IsSome (slice_get (lowered s).hosts h)
  host_there h lt =
      let t = some_at s.hosts h (slice_get s.hosts h) refl lt in
      subst (λ (o : Option HostDef). IsSome o) (sym (slice_get-map host_def s.hosts h ∙ ap (option_map host_def) t.1)) (some_there (host_def t.0))

  -- each line of main had room
  had_room : (before : List MainOpText) (l : MainOpText) → IsPlaced before l → main_has_room before ≡ true
  had_room before (text.Start f xs) stands = first_of_and _ _ stands.0
  had_room before (text.Finish k r) stands = let opens : finish_opens before k ≡ true = stands.0 in grind (arith, opens)
  had_room before (text.Spawn h) stands = first_of_and _ _ stands.0
  had_room before (text.Abort k) stands = first_of_and _ _ stands
  had_room before (text.Await k) stands = first_of_and _ _ stands
  had_room before text.Quiet stands = stands
  had_room before (text.Ready f) stands = stands.0

  few_lines : (before lines : List MainOpText) → EachIsPlaced IsPlaced before lines → length before ≤ 4095 → length before + length lines ≤ 4095
  few_lines before [] stands few = omega arith
  few_lines before (l ∷ lines) stands few =
      let room : nat_lt (length before) 4095 ≡ true = had_room before l stands.0 in
      let more : length (before ++ l ∷ []) ≡ length before + 1 = length_push before l in
      let below : length before < 4095 = grind (arith, room) in
      let rest = few_lines (before ++ l ∷ []) lines stands.1 (omega arith) in
      omega arith

  few_ops : length (scenario_of s).main < 2 ^ 32
  few_ops =
      let few = few_lines [] s.main formed.main (omega arith) in
      let same = length-map s.main lower.main_op in
      let more = length_push (map lower.main_op s.main) (main_op.Answer s.answer) in
      omega arith

  line_placed : (i : ℕ) (l : MainOpText) → slice_get s.main i ≡ Some l → IsPlaced (take i s.main) l
  line_placed i l at = placed_at IsPlaced s.main i l formed.main at

  suits : SuitsOps (scenario_of s).main (lowered s)
  suits = record {
    few = few_ops;
    spawns = λ i h at. elim (line_or_answer s.main i (main_op.Spawn h) at) [
      | inl l ↦ host_there h (spawn_line l.0 h l.1.1 (take i s.main) (line_placed i l.0 l.1.0))
      | inr answer ↦ absurd (cc)
    ];
    starts = λ i f xs at. elim (line_or_answer s.main i (main_op.Start f xs) at) [
      | inl l ↦
          let p = export_params s.instances (callee_of f) (length xs) (start_line l.0 f xs l.1.1 (take i s.main) (line_placed i l.0 l.1.0)) in
          (p.0, (at_lowered s (callee_of f) ∙ p.1.0, p.1.1))
      | inr answer ↦ absurd (cc)
    ];
  }

  pub runnable_scenario : IsRunnable (scenario_of s)
  runnable_scenario = record {
    handles = leb-true s.handles 268435455 formed.handles;
    few = few_instances;
    component = well_formed;
    codes = codes;
    main = suits;
  }
