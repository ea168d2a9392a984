-- An op that a host has the running thread do loses no wake, wherever the thread is in its script.
use Rattle.ops_calls.specs.Methods.{Rests, hosts_rule}
use Rattle.laws_order.specs.Pieces.{IsPrepared}
use Rattle.ops_state.specs.declared.name_calls.QualifiedThreadId.{QualifiedThreadId}
use Rattle.std.specs.Prelude.{List, None, Option, false, ℕ, ◌≡◌}
use Rattle.ops_calls.specs.HostOps.{Did, scripted_rule_of}
use Rattle.ops_calls.specs.Directs.{enters_rule}
use Rattle.ops_calls.specs.Prepared.{starts_in}
use Rattle.machine_data.specs.Read.{is_async_lifted}
use Rattle.machine_data.specs.declared.component.Callee.{Callee}
use Rattle.machine_data.specs.declared.component.Component.{Component}
use Rattle.machine_rules.specs.Calls.{FirstPoll}
use Rattle.machine_data.specs.declared.op.Op.{Op}
use Rattle.ops_guests.specs.declared.op_result.OpResult.{OpResult}
use Rattle.machine_rules.specs.OpParts.{ends_activation, is_data_op}
use Rattle.machine_rules.specs.Scripts.{export_kind}
use Rattle.core_primitives.specs.StateView.{StateView, thread_of, with_core, with_current}
use Rattle.laws_order.specs.WakesKept.{NoWakeLost}

-- where n did any op but one on registers and memory cells or one that ends an activation, as far as it came, no wake is lost
unfoldable pub OpsLoseNone : Type 0
OpsLoseNone =
    (c : Component) (o : Op) (n : ℕ) (r : OpResult) (s t : StateView) → Rests c n s → ends_activation o ≡ false → is_data_op o ≡ false →
    Did (scripted_rule_of c o s.core) s r t → NoWakeLost t.core

-- ---- Calls

-- where the start of a call was queued that had been prepared
unfoldable pub StartsLose : Type 0
StartsLose = (c : Component) (n : ℕ) (s t : StateView) (id : QualifiedThreadId) → Rests c n s →
    IsPrepared n (thread_of s id.thread) s.core → t ≡ with_current None (with_core (starts_in n id s) s) → NoWakeLost t.core

-- where an export was called directly, or that was refused
unfoldable pub EntersLose : Type 0
EntersLose = (c : Component) (n : ℕ) (e : Callee) (words : List ℕ) (r : OpResult) (s t : StateView) → Rests c n s →
    is_async_lifted (export_kind c e) ≡ false → Did (enters_rule c e words s.core) s r t → NoWakeLost t.core

-- where a host was called, or that was refused
unfoldable pub HostsLose : Type 0
HostsLose = (c : Component) (found : FirstPoll) (q : Option ℕ) (n : ℕ) (r : OpResult) (s t : StateView) → Rests c n s →
    Did (hosts_rule q found s.core) s r t → NoWakeLost t.core
