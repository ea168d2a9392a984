-- What a scenario's tree must keep: each value fits its line, and each line may be after those before it.
use Rattle.std.specs.Prelude.{◌≡◌, ℕ, ◌+◌, ◌≤◌, ◌<◌, Bool, true, false, not, List, [], ◌∷◌, ◌++◌, length, count_by, Option, Some, None, slice_get, nat_lt, nat_le, ◌==◌, ◌&&◌, ◌||◌}
use Rattle.std.specs.List.{list_all, list_any, sum_by}
use Rattle.std.specs.Option.{option_map}
use Rattle.std.specs.Str.{bytes_eq}
use Rattle.machine_data.specs.declared.component.Callee.{Callee}
use Rattle.machine_data.specs.declared.component.ExportKind.{ExportKind}
use Rattle.machine_data.specs.declared.op.Op.{Op}
use Rattle.machine_data.specs.declared.op.Op.TheVariants as op
use Rattle.machine_data.specs.declared.op.CallOp.{CallOp}
use Rattle.machine_data.specs.declared.op.CallOp.TheVariants as call_op
use Rattle.machine_data.specs.declared.op.TaskOp.{TaskOp}
use Rattle.machine_data.specs.declared.op.TaskOp.TheVariants as task_op
use Rattle.machine_data.specs.Read.{is_callback}
use Rattle.text_lines.specs.Tokens.{is_name}
use Rattle.text_lines.specs.Fits.{register_fits, operand_fits, handles_fit, table_fits, slot_fits, work_fits, subtask_op_fits, plain_op_fits}
use Rattle.text_scenario.specs.declared.tree.HostText.{HostText}
use Rattle.text_scenario.specs.declared.tree.ExportText.{ExportText}
use Rattle.text_scenario.specs.declared.tree.PartText.{PartText}
use Rattle.text_scenario.specs.declared.tree.PartText.TheVariants as part
use Rattle.text_scenario.specs.declared.tree.InstanceText.{InstanceText}
use Rattle.text_scenario.specs.declared.tree.MainOpText.{MainOpText}
use Rattle.text_scenario.specs.declared.tree.MainOpText.TheVariants as main
use Rattle.text_scenario.specs.declared.tree.ScenarioText.{ScenarioText}
use Rattle.text_scenario.specs.Spelling.{exports_of}

-- each item is after those before it
abbrev pub EachIsPlaced : {X : Type 0} → (List X → X → Type 0) → List X → List X → Type 0
EachIsPlaced IsPlaced before [] = Unit {0}
EachIsPlaced IsPlaced before (x ∷ xs) = IsPlaced before x × EachIsPlaced IsPlaced (before ++ x ∷ []) xs

-- ---- Hosts

-- a host of this name may be after those before it: 256, with other names
abbrev pub host_opens : List HostText → List ℕ → Bool
host_opens before name = nat_lt (length before) 256 && not (list_any (λ h. bytes_eq h.name name) before)

pub record HostIsPlaced (before : List HostText) (h : HostText) : Type 0 where
  pub name : is_name h.name ≡ true
  pub work : work_fits h.work ≡ true
  pub opens : host_opens before h.name ≡ true

-- ---- Scripts

-- the number of parameters of an export, where there is one
abbrev pub params_of : List InstanceText → Callee → Option ℕ
params_of instances f = option_map (λ e. e.params) (slice_get (exports_of instances f.instance) f.export)

-- a callee is on an earlier line, an export's instance is an earlier one, and there are as many operands as parameters
abbrev pub CallIsPlaced : List HostText → List InstanceText → CallOp → Type 0
CallIsPlaced hosts earlier (call_op.Call r q f xs) =
    (register_fits r && register_fits q && list_all operand_fits xs ≡ true) × (params_of earlier f ≡ Some (length xs))
CallIsPlaced hosts earlier (call_op.CallSync r f xs) =
    (register_fits r && list_all operand_fits xs ≡ true) × (params_of earlier f ≡ Some (length xs))
CallIsPlaced hosts earlier (call_op.CallHost r q h) = (register_fits r && register_fits q ≡ true) × (h < length hosts)
CallIsPlaced hosts earlier (call_op.CallSyncHost r h) = (register_fits r ≡ true) × (h < length hosts)
CallIsPlaced hosts earlier o = subtask_op_fits o ≡ true

-- it ends an activation of a callback
abbrev pub is_callback_end : TaskOp → Bool
is_callback_end task_op.CbYield = true
is_callback_end (task_op.CbWait x) = true
is_callback_end (task_op.Code x) = true
is_callback_end _ = false

-- an op may be in a callback's scripts, or in others too
abbrev pub op_suits : Bool → Op → Bool
op_suits callback (op.Task o) = callback || not (is_callback_end o)
op_suits callback _ = true

-- the op's values fit, and its callee is known
abbrev pub OpFits : List HostText → List InstanceText → Op → Type 0
OpFits hosts earlier (op.Call o) = CallIsPlaced hosts earlier o
OpFits hosts earlier o = plain_op_fits o ≡ true

abbrev pub has_room_for_op : List Op → Bool
has_room_for_op before = nat_lt (length before) 4096

-- an op may be after these in a script, of a callback or not, of an instance after these
pub record OpIsPlaced (hosts : List HostText) (earlier : List InstanceText) (callback : Bool) (before : List Op) (o : Op) : Type 0 where
  pub room : has_room_for_op before ≡ true
  pub suits : op_suits callback o ≡ true
  pub fits : OpFits hosts earlier o

abbrev pub ScriptIsPlaced : List HostText → List InstanceText → Bool → List Op → Type 0
ScriptIsPlaced hosts earlier callback ops = EachIsPlaced (OpIsPlaced hosts earlier callback) [] ops

-- ---- Instances and their parts

abbrev pub ReactIsPlaced : List HostText → List InstanceText → ExportKind → Option (List Op) → Type 0
ReactIsPlaced hosts earlier k None = Unit {0}
ReactIsPlaced hosts earlier k (Some ops) = (is_callback k ≡ true) × ScriptIsPlaced hosts earlier true ops

abbrev pub is_export : PartText → Bool
is_export (part.Export e) = true
is_export _ = false

abbrev pub is_export_named : List ℕ → PartText → Bool
is_export_named name (part.Export e) = bytes_eq e.name name
is_export_named name _ = false

abbrev pub exports_among : List PartText → ℕ
exports_among parts = count_by is_export parts

abbrev pub export_count : List InstanceText → ℕ
export_count instances = sum_by (λ i. exports_among i.parts) instances

-- an export of this name may begin after those of earlier instances and of its own: 256 in all, with other names here
unfoldable pub export_opens : List InstanceText → List PartText → List ℕ → Bool
export_opens earlier before name = nat_lt (export_count earlier + exports_among before) 256 && not (list_any (is_export_named name) before)

pub record ExportIsPlaced (hosts : List HostText) (earlier : List InstanceText) (before : List PartText) (e : ExportText) : Type 0 where
  pub name : is_name e.name ≡ true
  pub params : e.params ≤ 16
  pub opens : export_opens earlier before e.name ≡ true
  pub start : ScriptIsPlaced hosts earlier (is_callback e.kind) e.start
  pub react : ReactIsPlaced hosts earlier e.kind e.react

abbrev pub fills : ℕ → PartText → Bool
fills s (part.Export e) = false
fills s (part.Thread t ops) = t == s
fills s (part.Bad t) = t == s

-- a slot is given once, by `thread` or by `bad`
abbrev pub slot_opens : List PartText → ℕ → Bool
slot_opens before s = not (list_any (fills s) before)

pub record SlotIsPlaced (before : List PartText) (s : ℕ) : Type 0 where
  pub fits : slot_fits s ≡ true
  pub opens : slot_opens before s ≡ true

abbrev pub PartIsPlaced : List HostText → List InstanceText → List PartText → PartText → Type 0
PartIsPlaced hosts earlier before (part.Export e) = ExportIsPlaced hosts earlier before e
PartIsPlaced hosts earlier before (part.Thread s ops) = SlotIsPlaced before s × ScriptIsPlaced hosts earlier false ops
PartIsPlaced hosts earlier before (part.Bad s) = SlotIsPlaced before s

-- an instance of this name may begin after those before it: 64, with other names
abbrev pub instance_opens : List InstanceText → List ℕ → Bool
instance_opens before name = nat_lt (length before) 64 && not (list_any (λ i. bytes_eq i.name name) before)

pub record InstanceIsPlaced (hosts : List HostText) (before : List InstanceText) (i : InstanceText) : Type 0 where
  pub name : is_name i.name ≡ true
  pub opens : instance_opens before i.name ≡ true
  pub parts : EachIsPlaced (PartIsPlaced hosts before) [] i.parts

-- ---- Main

-- main has fewer ops before its answer than it may
abbrev pub main_has_room : List MainOpText → Bool
main_has_room before = nat_lt (length before) 4095

abbrev pub is_start : MainOpText → Bool
is_start (main.Start f xs) = true
is_start _ = false

abbrev pub is_spawn : MainOpText → Bool
is_spawn (main.Spawn h) = true
is_spawn _ = false

abbrev pub finishes : ℕ → MainOpText → Bool
finishes k (main.Finish j r) = j == k
finishes k _ = false

-- the numbers of starts and of spawns, which are counted from 1
abbrev pub start_count : List MainOpText → ℕ
start_count before = count_by is_start before

abbrev pub spawn_count : List MainOpText → ℕ
spawn_count before = count_by is_spawn before

abbrev pub start_opens : List MainOpText → Bool
start_opens before = main_has_room before && nat_lt (start_count before) 256

-- k is an earlier start, which isn't finished
abbrev pub finish_opens : List MainOpText → ℕ → Bool
finish_opens before k = main_has_room before && nat_le 1 k && nat_le k (start_count before) && not (list_any (finishes k) before)

abbrev pub spawn_opens : List MainOpText → Bool
spawn_opens before = main_has_room before && nat_lt (spawn_count before) 256

-- k is an earlier spawn
abbrev pub is_spawned : List MainOpText → ℕ → Bool
is_spawned before k = nat_le 1 k && nat_le k (spawn_count before)

abbrev pub spawn_named : List MainOpText → ℕ → Bool
spawn_named before k = main_has_room before && is_spawned before k

abbrev pub MainOpIsPlaced : List HostText → List InstanceText → List MainOpText → MainOpText → Type 0
MainOpIsPlaced hosts instances before (main.Start f xs) =
    (start_opens before ≡ true) × (params_of instances f ≡ Some (length xs)) × (list_all operand_fits xs ≡ true)
MainOpIsPlaced hosts instances before (main.Finish k r) = (finish_opens before k ≡ true) × (register_fits r ≡ true)
MainOpIsPlaced hosts instances before (main.Spawn h) = (spawn_opens before ≡ true) × (h < length hosts)
MainOpIsPlaced hosts instances before (main.Abort k) = spawn_named before k ≡ true
MainOpIsPlaced hosts instances before (main.Await k) = spawn_named before k ≡ true
MainOpIsPlaced hosts instances before main.Quiet = main_has_room before ≡ true
MainOpIsPlaced hosts instances before (main.Ready f) = (main_has_room before ≡ true) × (n : ℕ) × (params_of instances f ≡ Some n)

-- an aborter may follow those before it: 8, each with 1 to 16 spawns of main
abbrev pub aborter_opens : List MainOpText → List (List ℕ) → List ℕ → Bool
aborter_opens ops before ks = nat_lt (length before) 8 && nat_le 1 (length ks) && nat_le (length ks) 16 && list_all (is_spawned ops) ks

abbrev pub AborterIsPlaced : List MainOpText → List (List ℕ) → List ℕ → Type 0
AborterIsPlaced ops before ks = aborter_opens ops before ks ≡ true

-- ---- The whole

pub record IsWellFormed (s : ScenarioText) : Type 0 where
  pub handles : handles_fit s.handles ≡ true
  pub table : table_fits s.table ≡ true
  pub hosts : EachIsPlaced HostIsPlaced [] s.hosts
  pub instances : EachIsPlaced (InstanceIsPlaced s.hosts) [] s.instances
  pub main : EachIsPlaced (MainOpIsPlaced s.hosts s.instances) [] s.main
  pub answer : operand_fits s.answer ≡ true
  pub aborters : EachIsPlaced (AborterIsPlaced s.main) [] s.aborters
