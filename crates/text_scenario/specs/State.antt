-- What the lines so far have said, and what one more line makes of it.
use Rattle.std.specs.Prelude.{◌≡◌, ℕ, Bool, true, false, Result, Ok, Err, ◌+◌, ◌^◌, List, [], ◌∷◌, ◌++◌, length, Option, Some, None, nat_lt, ◌==◌, ◌&&◌, if◌then◌else◌, position, ◌⊎◌}
use Rattle.std.specs.Str.{bytes_eq}
use Rattle.machine_data.specs.declared.component.Callee.{Callee}
use Rattle.machine_data.specs.declared.op.Operand.{Operand}
use Rattle.machine_data.specs.declared.op.CallOp.{CallOp}
use Rattle.machine_data.specs.declared.op.CallOp.TheVariants as call_op
use Rattle.machine_data.specs.declared.op.Op.{Op}
use Rattle.machine_data.specs.declared.op.Op.TheVariants as op
use Rattle.machine_data.specs.declared.scenario.IdleLine.{IdleLine}
use Rattle.machine_data.specs.declared.scenario.Version.{Version}
use Rattle.text_lines.specs.declared.line.HeadLine.{HeadLine}
use Rattle.text_lines.specs.declared.line.HeadLine.TheVariants as head_line
use Rattle.text_lines.specs.declared.line.PartLine.{PartLine}
use Rattle.text_lines.specs.declared.line.PartLine.TheVariants as part_line
use Rattle.text_lines.specs.declared.line.CalleeName.{CalleeName}
use Rattle.text_lines.specs.declared.line.CalleeName.TheVariants as callee
use Rattle.text_lines.specs.declared.line.NamedCall.{NamedCall}
use Rattle.text_lines.specs.declared.line.NamedCall.TheVariants as named_call
use Rattle.text_lines.specs.declared.line.NamedOp.{NamedOp}
use Rattle.text_lines.specs.declared.line.NamedOp.TheVariants as named
use Rattle.text_lines.specs.declared.line.Line.{Line}
use Rattle.text_lines.specs.declared.line.Line.TheVariants as line
use Rattle.text_scenario.specs.declared.read.TextError.{TextError}
use Rattle.text_scenario.specs.declared.read.TextError.TheVariants as errors
use Rattle.text_scenario.specs.declared.state.Body.{Body}
use Rattle.text_scenario.specs.declared.state.Opening.{Opening}
use Rattle.text_scenario.specs.declared.state.State.{State}
use Rattle.text_scenario.specs.declared.state.State.TheVariants as state
use Rattle.text_scenario.specs.declared.tree.HostText.{HostText}
use Rattle.text_scenario.specs.declared.tree.ExportText.{ExportText}
use Rattle.text_scenario.specs.declared.tree.PartText.{PartText}
use Rattle.text_scenario.specs.declared.tree.PartText.TheVariants as part
use Rattle.text_scenario.specs.declared.tree.InstanceText.{InstanceText}
use Rattle.text_scenario.specs.declared.tree.MainOpText.{MainOpText}
use Rattle.text_scenario.specs.declared.tree.MainOpText.TheVariants as main
use Rattle.text_scenario.specs.declared.tree.ScenarioText.{ScenarioText}
use Rattle.text_lines.specs.Tokens.{◌>>=◌}
use Rattle.text_lines.specs.declared.keyword.Keyword.{Keyword}
use Rattle.text_lines.specs.Line.{line_after, line_at}
use Rattle.text_scenario.specs.Spelling.{Lines, exports_of}
use Rattle.machine_data.specs.Read.{is_callback}
use Rattle.text_scenario.specs.Placement.{host_opens, has_room_for_op, op_suits, params_of, export_opens, slot_opens, instance_opens, main_has_room, start_opens, finish_opens, spawn_opens, spawn_named, aborter_opens}

abbrev pub with_host : Body → HostText → Body
with_host b h = record b { hosts = b.hosts ++ h ∷ [] }

abbrev pub with_instance : Body → InstanceText → Body
with_instance b i = record b { instances = b.instances ++ i ∷ [] }

abbrev pub with_part : InstanceText → PartText → InstanceText
with_part i p = record i { parts = i.parts ++ p ∷ [] }

-- the export of these scripts
abbrev pub export_from : Opening → List Op → Option (List Op) → ExportText
export_from h start react = record { name = h.name; kind = h.kind; params = h.params; start = start; react = react }

abbrev pub with_export : InstanceText → Opening → List Op → Option (List Op) → InstanceText
with_export i h start react = with_part i (part.Export (export_from h start react))

-- ---- What is open is closed

-- the open instance, its script closed
unfoldable pub script_closed : State → Option (Body × InstanceText)
script_closed (state.Instance b i) = Some (b, i)
script_closed (state.Script b i h start) = Some (b, with_export i h start None)
script_closed (state.React b i h start react) = Some (b, with_export i h start (Some react))
script_closed (state.Thread b i slot ops) = Some (b, with_part i (part.Thread slot ops))
script_closed _ = None

-- the instances, the open one closed
unfoldable pub instance_closed : State → Option Body
instance_closed (state.Hosts b) = Some b
instance_closed s = script_closed s >>= λ p. Some (with_instance p.0 p.1)

-- main, as far as it is read
unfoldable pub main_open : State → Option (Body × List MainOpText)
main_open (state.Main b ops) = Some (b, ops)
main_open _ = None

-- ---- The head

unfoldable pub after_title : State → Version → Option State
after_title state.Empty v = Some (state.Titled v)
after_title _ v = None

unfoldable pub after_handles : State → ℕ → Option State
after_handles (state.Titled v) h = Some (state.Handles v h)
after_handles _ h = None

unfoldable pub after_table : State → ℕ → Option State
after_table (state.Handles v h) t = Some (state.Table v h t)
after_table _ t = None

unfoldable pub after_idle : State → IdleLine → Option State
after_idle (state.Table v h t) i =
    Some (state.Hosts (record { version = v; handles = h; table = t; idle = i; hosts = []; instances = [] }))
after_idle _ i = None

unfoldable pub after_head : State → HeadLine → Option State
after_head s (head_line.Title v) = after_title s v
after_head s (head_line.Handles h) = after_handles s h
after_head s (head_line.Table t) = after_table s t
after_head s (head_line.Idle i) = after_idle s i

-- ---- Hosts, instances and their parts

unfoldable pub after_host : State → HostText → Option State
after_host (state.Hosts b) h = if host_opens b.hosts h.name then Some (state.Hosts (with_host b h)) else None
after_host _ h = None

unfoldable pub after_instance : State → List ℕ → Option State
after_instance s name = do
  b ← instance_closed s
  if instance_opens b.instances name then Some (state.Instance b (record { name = name; parts = [] })) else None

unfoldable pub after_export : State → Opening → Option State
after_export s h = do
  p ← script_closed s
  if export_opens p.0.instances p.1.parts h.name then Some (state.Script p.0 p.1 h []) else None

unfoldable pub after_react : State → Option State
after_react (state.Script b i h start) = if is_callback h.kind then Some (state.React b i h start []) else None
after_react _ = None

unfoldable pub after_thread : State → ℕ → Option State
after_thread s slot = do
  p ← script_closed s
  if slot_opens p.1.parts slot then Some (state.Thread p.0 p.1 slot []) else None

unfoldable pub after_bad : State → ℕ → Option State
after_bad s slot = do
  p ← script_closed s
  if slot_opens p.1.parts slot then Some (state.Instance p.0 (with_part p.1 (part.Bad slot))) else None

unfoldable pub after_part : State → PartLine → Option State
after_part s (part_line.Host name w) = after_host s (record { name = name; work = w })
after_part s (part_line.Instance name) = after_instance s name
after_part s (part_line.Export name k params) = after_export s (record { name = name; kind = k; params = params })
after_part s part_line.React = after_react s
after_part s (part_line.Thread slot) = after_thread s slot
after_part s (part_line.Bad slot) = after_bad s slot

-- ---- Scripts

-- a script with one more op
unfoldable pub with_op : Bool → List Op → Op → Option (List Op)
with_op callback ops o = if has_room_for_op ops && op_suits callback o then Some (ops ++ o ∷ []) else None

unfoldable pub after_op : State → Op → Option State
after_op (state.Script b i h start) o = with_op (is_callback h.kind) start o >>= λ ops. Some (state.Script b i h ops)
after_op (state.React b i h start react) o = with_op true react o >>= λ ops. Some (state.React b i h start ops)
after_op (state.Thread b i slot ops) o = with_op false ops o >>= λ more. Some (state.Thread b i slot more)
after_op _ o = None

-- the head and the closed instances, where a script is open
unfoldable pub script_body : State → Option Body
script_body (state.Script b i h start) = Some b
script_body (state.React b i h start react) = Some b
script_body (state.Thread b i slot ops) = Some b
script_body _ = None

-- ---- Callees

-- a place that fits its type
abbrev pub small : ℕ → Option ℕ
small k = if nat_lt k (2 ^ 32) then Some k else None

abbrev pub host_place : List HostText → List ℕ → Option ℕ
host_place hosts name = position (λ h. bytes_eq h.name name) hosts >>= small

abbrev pub instance_place : List InstanceText → List ℕ → Option ℕ
instance_place instances name = position (λ i. bytes_eq i.name name) instances >>= small

abbrev pub export_place : List ExportText → List ℕ → Option ℕ
export_place exports name = position (λ e. bytes_eq e.name name) exports >>= small

-- the export of these names
unfoldable pub callee_of : List InstanceText → List ℕ → List ℕ → Option Callee
callee_of instances instance export = do
  k ← instance_place instances instance
  j ← export_place (exports_of instances k) export
  Some (record { instance = k; export = j })

-- the export of these names, if it takes these operands
unfoldable pub fitting_export : List InstanceText → List ℕ → List ℕ → List Operand → Option Callee
fitting_export instances instance export operands = do
  f ← callee_of instances instance export
  n ← params_of instances f
  if n == length operands then Some f else None

unfoldable pub fitting_host : List HostText → List ℕ → List Operand → Option ℕ
fitting_host hosts name operands = do
  h ← host_place hosts name
  if length operands == 0 then Some h else None

unfoldable pub call_to : List HostText → List InstanceText → ℕ → ℕ → CalleeName → List Operand → Option CallOp
call_to hosts earlier r q (callee.Export instance export) xs = do
  f ← fitting_export earlier instance export xs
  Some (call_op.Call r q f xs)
call_to hosts earlier r q (callee.Host name) xs = do
  h ← fitting_host hosts name xs
  Some (call_op.CallHost r q h)

unfoldable pub call_sync_to : List HostText → List InstanceText → ℕ → CalleeName → List Operand → Option CallOp
call_sync_to hosts earlier r (callee.Export instance export) xs = do
  f ← fitting_export earlier instance export xs
  Some (call_op.CallSync r f xs)
call_sync_to hosts earlier r (callee.Host name) xs = do
  h ← fitting_host hosts name xs
  Some (call_op.CallSyncHost r h)

unfoldable pub call_of : List HostText → List InstanceText → NamedCall → Option CallOp
call_of hosts earlier (named_call.Call r q c xs) = call_to hosts earlier r q c xs
call_of hosts earlier (named_call.CallSync r c xs) = call_sync_to hosts earlier r c xs

unfoldable pub after_call : State → NamedCall → Option State
after_call s c = do
  b ← script_body s
  o ← call_of b.hosts b.instances c
  after_op s (op.Call o)

-- ---- Main

unfoldable pub after_main : State → Option State
after_main s = instance_closed s >>= λ b. Some (state.Main b [])

unfoldable pub start_of : List InstanceText → List MainOpText → List ℕ → List ℕ → List Operand → Option MainOpText
start_of instances ops instance export operands = do
  f ← fitting_export instances instance export operands
  if start_opens ops then Some (main.Start f operands) else None

unfoldable pub finish_of : List MainOpText → ℕ → ℕ → Option MainOpText
finish_of ops k r = if finish_opens ops k then Some (main.Finish k r) else None

unfoldable pub spawn_of : List HostText → List MainOpText → List ℕ → Option MainOpText
spawn_of hosts ops name = do
  h ← host_place hosts name
  if spawn_opens ops then Some (main.Spawn h) else None

unfoldable pub ready_of : List InstanceText → List MainOpText → List ℕ → List ℕ → Option MainOpText
ready_of instances ops instance export = do
  f ← callee_of instances instance export
  n ← params_of instances f
  if main_has_room ops then Some (main.Ready f) else None

unfoldable pub main_op_of : Body → List MainOpText → NamedOp → Option MainOpText
main_op_of b ops (named.Start instance export operands) = start_of b.instances ops instance export operands
main_op_of b ops (named.Finish k r) = finish_of ops k r
main_op_of b ops (named.Spawn name) = spawn_of b.hosts ops name
main_op_of b ops (named.Abort k) = if spawn_named ops k then Some (main.Abort k) else None
main_op_of b ops (named.Await k) = if spawn_named ops k then Some (main.Await k) else None
main_op_of b ops named.Quiet = if main_has_room ops then Some main.Quiet else None
main_op_of b ops (named.Ready instance export) = ready_of b.instances ops instance export

unfoldable pub after_main_op : State → NamedOp → Option State
after_main_op s l = do
  p ← main_open s
  o ← main_op_of p.0 p.1 l
  Some (state.Main p.0 (p.1 ++ o ∷ []))

unfoldable pub after_answer : State → Operand → Option State
after_answer s x = main_open s >>= λ p. Some (state.Answered p.0 p.1 x [])

unfoldable pub after_aborter : State → List ℕ → Option State
after_aborter (state.Answered b ops x before) ks =
    if aborter_opens ops before ks then Some (state.Answered b ops x (before ++ ks ∷ [])) else None
after_aborter _ ks = None

abbrev pub whole : Body → List MainOpText → Operand → List (List ℕ) → ScenarioText
whole b ops x aborters = record {
  version = b.version;
  handles = b.handles;
  table = b.table;
  idle = b.idle;
  hosts = b.hosts;
  instances = b.instances;
  main = ops;
  answer = x;
  aborters = aborters;
}

unfoldable pub after_end : State → Option State
after_end (state.Answered b ops x aborters) = Some (state.Ended (whole b ops x aborters))
after_end _ = None

-- ---- Any line, and the lines of a text

unfoldable pub after : State → Line → Option State
after s (line.Head l) = after_head s l
after s (line.Part l) = after_part s l
after s (line.Op o) = after_op s o
after s (line.Call c) = after_call s c
after s line.Main = after_main s
after s (line.MainOp o) = after_main_op s o
after s (line.Answer x) = after_answer s x
after s (line.Aborter ks) = after_aborter s ks
after s line.End = after_end s

-- what the line of a keyword and the tokens after it makes of a state
abbrev pub after_keyword : State → Keyword → List (List ℕ) → Option State
after_keyword s k tokens = line_after k tokens >>= λ l. after s l

-- what one more line makes of a state
unfoldable pub after_tokens : State → List (List ℕ) → Option State
after_tokens s tokens = line_at tokens >>= λ l. after s l

-- a line that isn't taken leaves what was read as it was, or nothing of it
abbrev pub StaysOrEmpty : (old new : State) → Type 0
StaysOrEmpty old new = (new ≡ old) ⊎ (new ≡ state.Empty)

unfoldable pub scenario_of : State → Option ScenarioText
scenario_of (state.Ended x) = Some x
scenario_of _ = None

-- the scenario that ends here, or the number of the line that is missing
abbrev pub end_at : ℕ → Option ScenarioText → Result ScenarioText ℕ
end_at n None = Err n
end_at n (Some x) = Ok x

abbrev pub go_on : ℕ → (State → Result ScenarioText ℕ) → Option State → Result ScenarioText ℕ
go_on n more None = Err n
go_on n more (Some t) = more t

-- The scenario, or the number of the first line that may not be where it does. n is the next line's number.
unfoldable pub read_from : State → ℕ → Lines → Result ScenarioText ℕ
read_from s n [] = end_at n (scenario_of s)
read_from s n (tokens ∷ lines) = go_on n (λ t. read_from t (n + 1) lines) (after_tokens s tokens)

abbrev pub ReadsAs : Result ScenarioText TextError → Result ScenarioText ℕ → Type 0
ReadsAs (Ok x) read = read ≡ Ok x
ReadsAs (Err (errors.Bad n)) read = read ≡ Err n
ReadsAs (Err errors.NoMemory) read = Unit {0}
