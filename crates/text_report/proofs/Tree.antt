-- The tree of the generated scenario's text.
use Rattle.std.specs.Prelude.{ℕ, List, [], ◌∷◌, ◌++◌, Some, None, codes}
use Rattle.machine_data.specs.declared.scenario.Version.TheVariants as version
use Rattle.machine_data.specs.declared.component.ExportKind.TheVariants as kind
use Rattle.machine_data.specs.declared.op.CallOp.TheVariants as call_op
use Rattle.machine_data.specs.declared.op.DataOp.TheVariants as data_op
use Rattle.machine_data.specs.declared.op.Op.{Op}
use Rattle.machine_data.specs.declared.op.Op.TheVariants as op
use Rattle.machine_data.specs.declared.op.Operand.TheVariants.{Number, Register}
use Rattle.machine_data.specs.declared.op.SetOp.TheVariants as set_op
use Rattle.machine_data.specs.declared.op.TaskOp.TheVariants as task_op
use Rattle.machine_data.specs.declared.scenario.IdleLine.TheVariants as idle
use Rattle.text_lines.specs.declared.line.HostWork.TheVariants as work
use Rattle.text_scenario.specs.declared.tree.ExportText.{ExportText}
use Rattle.text_scenario.specs.declared.tree.HostText.{HostText}
use Rattle.text_scenario.specs.declared.tree.InstanceText.{InstanceText}
use Rattle.text_scenario.specs.declared.tree.MainOpText.{MainOpText}
use Rattle.text_scenario.specs.declared.tree.MainOpText.TheVariants as main
use Rattle.text_scenario.specs.declared.tree.PartText.TheVariants as part
use Rattle.text_scenario.specs.declared.tree.ScenarioText.{ScenarioText}
use Rattle.text_report.specs.Generated.{each_to}

abbrev pub disk : HostText
disk = record { name = codes "disk"; work = work.Value 9 100 }

-- ---- Scripts

abbrev pub get_start : List Op
get_start =
    op.Task task_op.BpInc ∷ op.Data (data_op.Set 9 (Register 0)) ∷ op.Call (call_op.CallHost 3 8 0) ∷ op.Set (set_op.New 4)
    ∷ op.Data (data_op.Handle 5 (Register 3)) ∷ op.Set (set_op.Join (Register 5) (Register 4)) ∷ op.Task (task_op.CbWait (Register 4)) ∷ []

abbrev pub get_react : List Op
get_react =
    op.Data (data_op.Add 8 (Register 9)) ∷ op.Call (call_op.Drop (Register 1)) ∷ op.Set (set_op.Drop (Register 4))
    ∷ op.Task task_op.BpDec ∷ op.Task (task_op.Ret (Register 8)) ∷ op.Task task_op.Exit ∷ []

abbrev pub do_start : List Op
do_start =
    op.Data (data_op.Set 9 (Register 0)) ∷ op.Call (call_op.Call 3 8 (record { instance = 0; export = 0 }) (Register 9 ∷ []))
    ∷ op.Data (data_op.Handle 5 (Register 3)) ∷ op.Set (set_op.New 4) ∷ op.Set (set_op.Join (Register 5) (Register 4))
    ∷ op.Task (task_op.CbWait (Register 4)) ∷ []

abbrev pub do_react : List Op
do_react =
    op.Data (data_op.SkipEq (Register 2) (Number 2) 1) ∷ op.Task (task_op.CbWait (Register 4)) ∷ op.Call (call_op.Drop (Register 1))
    ∷ op.Set (set_op.Drop (Register 4)) ∷ op.Data (data_op.Add 8 (Number 1)) ∷ op.Task (task_op.Ret (Register 8)) ∷ op.Task task_op.Exit ∷ []

abbrev pub req_start : List Op
req_start =
    op.Call (call_op.CallSync 3 (record { instance = 1; export = 0 }) (Register 0 ∷ [])) ∷ op.Task (task_op.Ret (Register 3))
    ∷ op.Task task_op.Exit ∷ []

-- ---- Instances

abbrev pub get : ExportText
get = record { name = codes "get"; kind = kind.Callback; params = 1; start = get_start; react = Some get_react }

abbrev pub do_it : ExportText
do_it = record { name = codes "do"; kind = kind.Callback; params = 1; start = do_start; react = Some do_react }

abbrev pub req : ExportText
req = record { name = codes "req"; kind = kind.Stackful; params = 1; start = req_start; react = None }

abbrev pub db : InstanceText
db = record { name = codes "db"; parts = part.Export get ∷ [] }

abbrev pub api : InstanceText
api = record { name = codes "api"; parts = part.Export do_it ∷ [] }

abbrev pub edge : InstanceText
edge = record { name = codes "edge"; parts = part.Export req ∷ [] }

abbrev pub hosts : List HostText
hosts = disk ∷ []

abbrev pub instances : List InstanceText
instances = db ∷ api ∷ edge ∷ []

-- ---- Main

abbrev pub start_op : ℕ → MainOpText
start_op k = main.Start (record { instance = 2; export = 0 }) (Number k ∷ [])

abbrev pub finish_op : ℕ → MainOpText
finish_op k = main.Finish k 0

abbrev pub main_ops : ℕ → List MainOpText
main_ops n = each_to start_op n ++ each_to finish_op n

abbrev pub tree : ℕ → ScenarioText
tree n = record {
  version = version.One;
  handles = 100000;
  table = 1000000;
  idle = idle.Trap;
  hosts = hosts;
  instances = instances;
  main = main_ops n;
  answer = Register 0;
  aborters = [];
}
