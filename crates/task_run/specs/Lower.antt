-- The scenario that a tree of a text represents.
use Rattle.std.specs.Prelude.{◌≡◌, ℕ, List, [], ◌∷◌, ◌++◌, map, replicate, slice_set, unwrap_or, Some, None, Result, Ok, Err}
use Rattle.text_lines.specs.declared.line.HostWork.{HostWork}
use Rattle.text_lines.specs.declared.line.HostWork.TheVariants as work
use Rattle.text_scenario.specs.declared.tree.HostText.{HostText}
use Rattle.text_scenario.specs.declared.tree.PartText.{PartText}
use Rattle.text_scenario.specs.declared.tree.PartText.TheVariants as part
use Rattle.text_scenario.specs.Spelling.{exports_in}
use Rattle.machine_data.specs.declared.component.HostDef.{HostDef}
use Rattle.machine_data.specs.declared.component.Slot.{Slot}
use Rattle.text_scenario.specs.declared.tree.ExportText.{ExportText}
use Rattle.text_scenario.specs.declared.tree.InstanceText.{InstanceText}
use Rattle.text_scenario.specs.declared.tree.MainOpText.{MainOpText}
use Rattle.text_scenario.specs.declared.tree.MainOpText.TheVariants as text
use Rattle.text_scenario.specs.declared.tree.ScenarioText.{ScenarioText}
use Rattle.text_scenario.specs.Grammar.{IsTextOf}
use Rattle.machine_data.specs.declared.component.Callee.{Callee}
use Rattle.machine_data.specs.declared.component.ExportDef.{ExportDef}
use Rattle.machine_data.specs.declared.component.InstanceDef.{InstanceDef}
use Rattle.machine_data.specs.declared.component.HostDef.TheVariants as host_line
use Rattle.machine_data.specs.declared.component.Slot.TheVariants as slot
use Rattle.task_loop.specs.declared.call.Func.{Func}
use Rattle.task_run.specs.declared.scenario.InstanceNames.{InstanceNames}
use Rattle.task_run.specs.declared.scenario.MainOp.{MainOp}
use Rattle.task_run.specs.declared.scenario.MainOp.TheVariants as op
use Rattle.task_run.specs.declared.scenario.Scenario.{Scenario}
use Rattle.text_reader.specs.declared.error.RunError.{RunError}
use Rattle.text_reader.specs.Trees.{RefusedAs}

abbrev pub work_def : HostWork → HostDef
work_def (work.Value n v) = host_line.Settled (Some n) (Some v)
work_def (work.Fail n) = host_line.Settled (Some n) None
work_def work.Never = host_line.Settled None None

abbrev pub host_def : HostText → HostDef
host_def h = work_def h.work

abbrev pub host_name : HostText → List ℕ
host_name h = h.name

-- what runs of an export; without a `react` line its react script is empty
abbrev pub export_def : ExportText → ExportDef
export_def e = record { kind = e.kind; params = e.params; start = e.start; react = unwrap_or e.react [] }

-- these slots, with what a part of the instance puts into one of them
abbrev pub slots_with : List Slot → PartText → List Slot
slots_with slots (part.Export e) = slots
slots_with slots (part.Thread s ops) = slice_set slots s (slot.Script ops)
slots_with slots (part.Bad s) = slice_set slots s slot.Bad

abbrev pub slots_after : List Slot → List PartText → List Slot
slots_after slots [] = slots
slots_after slots (p ∷ ps) = slots_after (slots_with slots p) ps

-- what runs of an instance: its exports, and 16 slots, each empty where no `thread` or `bad` line is
abbrev pub instance_def : InstanceText → InstanceDef
instance_def i = record { exports = map export_def (exports_in i.parts); slots = slots_after (replicate 16 slot.Empty) i.parts }

abbrev pub names_of : InstanceText → InstanceNames
names_of i = record { instance = i.name; exports = map (λ e. e.name) (exports_in i.parts) }

abbrev pub func_of : Callee → Func
func_of f = record { instance = record { index = f.instance }; export = f.export }

abbrev pub main_op : MainOpText → MainOp
main_op (text.Start f xs) = op.Start (func_of f) xs
main_op (text.Finish k r) = op.Finish k r
main_op (text.Spawn h) = op.Spawn h
main_op (text.Abort k) = op.Abort k
main_op (text.Await k) = op.Await k
main_op text.Quiet = op.Quiet
main_op (text.Ready f) = op.Ready (func_of f)

abbrev pub scenario_of : ScenarioText → Scenario
scenario_of s = record {
  rules = s.version;
  handles = s.handles;
  table = s.table;
  idle = s.idle;
  component = record { instances = map instance_def s.instances; hosts = map host_def s.hosts };
  names = map names_of s.instances;
  host_names = map host_name s.hosts;
  main = map main_op s.main ++ op.Answer s.answer ∷ [];
  aborters = s.aborters;
}

-- the text represents the scenario
abbrev pub Reads : List ℕ → Scenario → Type 0
Reads text x = (tree : ScenarioText) × IsTextOf tree text × (x ≡ scenario_of tree)

-- a text gives its scenario, or is refused with its bad line; it may be out of memory
abbrev pub ReadsAs : List ℕ → Result Scenario RunError → Type 0
ReadsAs text (Ok x) = Reads text x
ReadsAs text (Err why) = RefusedAs text why
