-- Which ops fit their component.
use Rattle.std.specs.Prelude.{Bool, false, is_some, length, nat_le, not, true, ℕ, ◌&&◌, ◌<◌, ◌≡◌}
use Rattle.machine_data.specs.Core.{Core}
use Rattle.machine_data.specs.Maps.{get}
use Rattle.machine_data.specs.declared.component.Component.{Component}
use Rattle.machine_data.specs.declared.op.CallOp.{CallOp}
use Rattle.machine_data.specs.declared.op.CallOp.TheVariants as call_op
use Rattle.machine_data.specs.declared.op.Op.{Op}
use Rattle.machine_data.specs.declared.op.Op.TheVariants as op
use Rattle.machine_data.specs.declared.op.SetOp.{SetOp}
use Rattle.machine_data.specs.declared.op.SetOp.TheVariants as set_op
use Rattle.machine_rules.specs.MainOps.{takes_words}

-- an event is written to a register and the two after it
abbrev pub set_op_fits : SetOp → Bool
set_op_fits (set_op.Wait r x) = nat_le r 13
set_op_fits (set_op.Poll r x) = nat_le r 13
set_op_fits o = true

-- a call is of an export that is there, with as many words as it takes, at most 16
abbrev pub call_op_fits : Component → CallOp → Bool
call_op_fits c (call_op.Call r q e xs) = takes_words c e (length xs) && nat_le (length xs) 16
call_op_fits c (call_op.CallSync r e xs) = takes_words c e (length xs) && nat_le (length xs) 16
call_op_fits c o = true

abbrev pub op_fits : Component → Op → Bool
op_fits c (op.Set o) = set_op_fits o
op_fits c (op.Call o) = call_op_fits c o
op_fits c o = true

-- an op on registers and memory cells
abbrev pub is_data_op : Op → Bool
is_data_op (op.Data o) = true
is_data_op o = false

-- a call of a host
abbrev pub is_host_call : CallOp → Bool
is_host_call (call_op.CallHost r q i) = true
is_host_call (call_op.CallSyncHost r i) = true
is_host_call o = false

abbrev pub calls_host : Op → Bool
calls_host (op.Call o) = is_host_call o
calls_host o = false

-- neither of these
abbrev pub is_plain : Op → Bool
is_plain (op.Data o) = false
is_plain (op.Call o) = not (is_host_call o)
is_plain o = true

-- ---- Where ops find their instances

-- each instance of the component is there
abbrev pub HasInstances : Component → Core → Type 0
HasInstances c s = (i : ℕ) → i < length c.instances → is_some (get s.instances i) ≡ true

-- and has its table of handles
abbrev pub HasHandles : Component → Core → Type 0
HasHandles c s = (i : ℕ) → i < length c.instances → is_some (get s.handles i) ≡ true
