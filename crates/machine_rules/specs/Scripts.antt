-- The scripts of a component, and the op at which a thread is.
use Rattle.std.specs.Prelude.{Bool, false, true, ℕ, List, [], ◌++◌, ◌-◌, Option, None, option_and_then, unwrap_or, map, length, replicate, slice_get, slice_index, ◌≡◌}
use Rattle.std.specs.Option.{option_map_or}
use Rattle.machine_data.specs.declared.component.Callee.{Callee}
use Rattle.machine_data.specs.declared.component.Component.{Component}
use Rattle.machine_data.specs.declared.component.ExportDef.{ExportDef}
use Rattle.machine_data.specs.declared.component.ExportKind.{ExportKind}
use Rattle.machine_data.specs.declared.component.ExportKind.TheVariants as kind
use Rattle.machine_data.specs.declared.component.HostDef.{HostDef}
use Rattle.machine_data.specs.declared.component.HostDef.TheVariants as host_def
use Rattle.machine_data.specs.declared.component.Slot.{Slot}
use Rattle.machine_data.specs.declared.component.Slot.TheVariants as slot
use Rattle.machine_data.specs.declared.op.Op.{Op}
use Rattle.machine_data.specs.declared.op.Op.TheVariants as op
use Rattle.machine_data.specs.declared.op.Operand.{Operand}
use Rattle.machine_data.specs.declared.op.Operand.TheVariants as operand
use Rattle.machine_data.specs.declared.op.TaskOp.TheVariants as task
use Rattle.machine_data.specs.declared.records.Script.{Script}
use Rattle.machine_data.specs.declared.records.Script.TheVariants as script
use Rattle.machine_data.specs.declared.records.Thread.{Thread}
use Rattle.machine_data.specs.Maps.{get}
use Rattle.machine_data.specs.Core.{Core}
use Rattle.machine_data.specs.Read.{is_open, callee_of, registers_of}

-- ---- Operands

abbrev pub value_in : List ℕ → Operand → ℕ
value_in registers (operand.Number v) = v
value_in registers (operand.Register r) = slice_index registers r

-- the operand's value for the thread
abbrev pub value_of : ℕ → Core → Operand → ℕ
value_of n s x = value_in (registers_of n s) x

abbrev pub values_in : List ℕ → List Operand → List ℕ
values_in registers xs = map (value_in registers) xs

-- the registers of a thread that is called with these values
abbrev pub registers_for : List ℕ → List ℕ
registers_for words = words ++ replicate (16 - length words) 0

-- ---- A component's parts, with the default "absent part"

abbrev pub export_at : Component → Callee → Option ExportDef
export_at c f = option_and_then (λ d. slice_get d.exports f.export) (slice_get c.instances f.instance)

abbrev pub export_kind : Component → Callee → ExportKind
export_kind c f = option_map_or (λ d. d.kind) (export_at c f) kind.Callback

abbrev pub slot_at : Component → ℕ → ℕ → Slot
slot_at c i x = unwrap_or (option_and_then (λ d. slice_get d.slots x) (slice_get c.instances i)) slot.Empty

abbrev pub never_host : HostDef
never_host = host_def.Settled None None

abbrev pub host_at : Component → ℕ → HostDef
host_at c h = unwrap_or (slice_get c.hosts h) never_host

-- some host of the component is open
abbrev pub HasOpen : Component → Type 0
HasOpen c = (h : ℕ) × (is_open (host_at c h) ≡ true)

-- ---- A thread's script, with the defaults "absent part" and "absent thread"

abbrev pub is_script : Slot → Bool
is_script (slot.Script ops) = true
is_script _ = false

abbrev pub slot_script : Slot → List Op
slot_script (slot.Script ops) = ops
slot_script _ = []

abbrev pub script_in : Component → Callee → Script → List Op
script_in c f script.Start = option_map_or (λ d. d.start) (export_at c f) []
script_in c f script.React = option_map_or (λ d. d.react) (export_at c f) []
script_in c f (script.Slot x) = slot_script (slot_at c f.instance x)

abbrev pub script_of_thread : Component → Core → Thread → List Op
script_of_thread c s t = script_in c (callee_of t.call s) t.script

unfoldable pub script_of : Component → ℕ → Core → List Op
script_of c n s = option_map_or (script_of_thread c s) (get s.threads n) []

-- the op at a place of a script. A script's end is an exit
abbrev pub op_at_place : List Op → ℕ → Op
op_at_place ops p = unwrap_or (slice_get ops p) (op.Task task.Exit)

abbrev pub op_of_thread : Component → Core → Thread → Op
op_of_thread c s t = op_at_place (script_of_thread c s t) t.position

unfoldable pub op_of : Component → ℕ → Core → Op
op_of c n s = op_at_place (script_of c n s) (option_map_or (λ t. t.position) (get s.threads n) 0)

-- the op of each thread, where all are at their places in scripts of the component
abbrev pub ops_of : Component → Core → ℕ → Op
ops_of c s n = op_of c n s
