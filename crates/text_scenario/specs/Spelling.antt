-- The lines that spell a scenario's tree, one spelling for each. A line is a list of tokens.
use Rattle.std.specs.Prelude.{ℕ, List, [], ◌∷◌, ◌++◌, map, slice_get, unwrap_or, Option, Some, None}
use Rattle.std.specs.List.{flat_map}
use Rattle.std.specs.Option.{option_map}
use Rattle.machine_data.specs.declared.component.Callee.{Callee}
use Rattle.machine_data.specs.declared.op.Op.{Op}
use Rattle.machine_data.specs.declared.op.Op.TheVariants as op
use Rattle.machine_data.specs.declared.op.CallOp.{CallOp}
use Rattle.machine_data.specs.declared.op.CallOp.TheVariants as call_op
use Rattle.machine_data.specs.declared.scenario.IdleLine.{IdleLine}
use Rattle.machine_data.specs.declared.scenario.Version.{Version}
use Rattle.text_lines.specs.LineTokens.{callee_token, title_tokens, handles_tokens, table_tokens, idle_tokens, host_tokens, instance_tokens, export_tokens, react_tokens, thread_tokens, bad_tokens, subtask_op_tokens, plain_op_tokens, call_tokens, call_sync_tokens, main_tokens, start_tokens, finish_tokens, spawn_tokens, abort_tokens, await_tokens, quiet_tokens, ready_tokens, answer_tokens, aborter_tokens, end_tokens}
use Rattle.text_scenario.specs.declared.tree.HostText.{HostText}
use Rattle.text_scenario.specs.declared.tree.ExportText.{ExportText}
use Rattle.text_scenario.specs.declared.tree.PartText.{PartText}
use Rattle.text_scenario.specs.declared.tree.PartText.TheVariants as part
use Rattle.text_scenario.specs.declared.tree.InstanceText.{InstanceText}
use Rattle.text_scenario.specs.declared.tree.MainOpText.{MainOpText}
use Rattle.text_scenario.specs.declared.tree.MainOpText.TheVariants as main
use Rattle.text_scenario.specs.declared.tree.ScenarioText.{ScenarioText}

abbrev pub Lines : Type 0
Lines = List (List (List ℕ))

-- ---- The head and the hosts

abbrev pub head_lines : Version → ℕ → ℕ → IdleLine → Lines
head_lines v handles table i = title_tokens v ∷ handles_tokens handles ∷ table_tokens table ∷ idle_tokens i ∷ []

abbrev pub host_line : HostText → List (List ℕ)
host_line h = host_tokens h.name h.work

-- ---- Names of callees

-- an instance's exports in their order, without its slots
abbrev pub exports_in : List PartText → List ExportText
exports_in [] = []
exports_in (part.Export e ∷ parts) = e ∷ exports_in parts
exports_in (part.Thread s ops ∷ parts) = exports_in parts
exports_in (part.Bad s ∷ parts) = exports_in parts

abbrev pub exports_of : List InstanceText → ℕ → List ExportText
exports_of instances k = unwrap_or (option_map (λ i. exports_in i.parts) (slice_get instances k)) []

abbrev pub instance_name : List InstanceText → ℕ → List ℕ
instance_name instances k = unwrap_or (option_map (λ i. i.name) (slice_get instances k)) []

abbrev pub export_name : List ExportText → ℕ → List ℕ
export_name exports k = unwrap_or (option_map (λ e. e.name) (slice_get exports k)) []

abbrev pub name_of : List InstanceText → Callee → List ℕ
name_of instances f = callee_token (instance_name instances f.instance) (export_name (exports_of instances f.instance) f.export)

abbrev pub host_name : List HostText → ℕ → List ℕ
host_name hosts k = unwrap_or (option_map (λ h. h.name) (slice_get hosts k)) []

-- ---- Scripts, whose callees are hosts and exports of earlier instances

abbrev pub call_op_tokens : List HostText → List InstanceText → CallOp → List (List ℕ)
call_op_tokens hosts earlier (call_op.Call r q f xs) = call_tokens r q (name_of earlier f) xs
call_op_tokens hosts earlier (call_op.CallSync r f xs) = call_sync_tokens r (name_of earlier f) xs
call_op_tokens hosts earlier (call_op.CallHost r q h) = call_tokens r q (host_name hosts h) []
call_op_tokens hosts earlier (call_op.CallSyncHost r h) = call_sync_tokens r (host_name hosts h) []
call_op_tokens hosts earlier o = subtask_op_tokens o

abbrev pub op_tokens : List HostText → List InstanceText → Op → List (List ℕ)
op_tokens hosts earlier (op.Call o) = call_op_tokens hosts earlier o
op_tokens hosts earlier o = plain_op_tokens o

abbrev pub script_lines : List HostText → List InstanceText → List Op → Lines
script_lines hosts earlier ops = map (op_tokens hosts earlier) ops

-- ---- Instances and their parts

abbrev pub react_lines : List HostText → List InstanceText → Option (List Op) → Lines
react_lines hosts earlier None = []
react_lines hosts earlier (Some ops) = react_tokens ∷ script_lines hosts earlier ops

abbrev pub export_lines : List HostText → List InstanceText → ExportText → Lines
export_lines hosts earlier e =
    export_tokens e.name e.kind e.params ∷ script_lines hosts earlier e.start ++ react_lines hosts earlier e.react

abbrev pub part_lines : List HostText → List InstanceText → PartText → Lines
part_lines hosts earlier (part.Export e) = export_lines hosts earlier e
part_lines hosts earlier (part.Thread s ops) = thread_tokens s ∷ script_lines hosts earlier ops
part_lines hosts earlier (part.Bad s) = bad_tokens s ∷ []

abbrev pub instance_lines : List HostText → List InstanceText → InstanceText → Lines
instance_lines hosts earlier i = instance_tokens i.name ∷ flat_map (part_lines hosts earlier) i.parts

-- the lines of these instances, which are after earlier ones
abbrev pub lines_after : List HostText → List InstanceText → List InstanceText → Lines
lines_after hosts earlier [] = []
lines_after hosts earlier (i ∷ is) = instance_lines hosts earlier i ++ lines_after hosts (earlier ++ i ∷ []) is

abbrev pub body_lines : List HostText → List InstanceText → Lines
body_lines hosts instances = map host_line hosts ++ lines_after hosts [] instances

-- ---- Main

abbrev pub main_op_tokens : List HostText → List InstanceText → MainOpText → List (List ℕ)
main_op_tokens hosts instances (main.Start f xs) = start_tokens (name_of instances f) xs
main_op_tokens hosts instances (main.Finish k r) = finish_tokens k r
main_op_tokens hosts instances (main.Spawn h) = spawn_tokens (host_name hosts h)
main_op_tokens hosts instances (main.Abort k) = abort_tokens k
main_op_tokens hosts instances (main.Await k) = await_tokens k
main_op_tokens hosts instances main.Quiet = quiet_tokens
main_op_tokens hosts instances (main.Ready f) = ready_tokens (name_of instances f)

abbrev pub main_lines : List HostText → List InstanceText → List MainOpText → Lines
main_lines hosts instances ops = main_tokens ∷ map (main_op_tokens hosts instances) ops

-- ---- The whole

abbrev pub lines_of : ScenarioText → Lines
lines_of s =
    head_lines s.version s.handles s.table s.idle ++ body_lines s.hosts s.instances ++ main_lines s.hosts s.instances s.main
    ++ answer_tokens s.answer ∷ [] ++ map aborter_tokens s.aborters ++ end_tokens ∷ []
