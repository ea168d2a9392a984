-- An op loses no wake: a state in order loses none, whichever op its thread has.
use Rattle.ops_calls.proofs.DidLemmas.{hosts_keep, ops_keep}
use Rattle.ops_calls.specs.Methods.{HostsKeep, KeepsDone, KeepsFor, OpsKeep}
use Rattle.ops_calls.specs.MethodWakes.{HostsLose, OpsLoseNone}
use Rattle.ops_dispatch.specs.Continues.{running_of}
use Rattle.laws_order.specs.Given.{given, host_op}
use Rattle.std.proofs.Common.{refl}
use Rattle.std.specs.Prelude.{None, Option, Some, true, ℕ, ◌≡◌}
use Rattle.ops_calls.specs.HostOps.{turn_for}
use Rattle.machine_data.specs.Core.{Core, Unscripted}
use Rattle.machine_data.specs.declared.component.Component.{Component}
use Rattle.machine_data.specs.declared.op.Op.{Op}
use Rattle.machine_data.specs.declared.records.Turn.TheVariants as turn
use Rattle.ops_guests.specs.declared.op_result.OpResult.{OpResult}
use Rattle.ops_guests.specs.declared.op_result.OpResult.TheVariants as op_result
use Rattle.laws_places.proofs.Laws.{is_open}
use Rattle.machine_rules.specs.Scripts.{ops_of}
use Rattle.ops_turns.specs.Turn.{CoreInOrder, state_at}
use Rattle.core_primitives.specs.StateView.{StateView}
use Rattle.laws_order.proofs.GroundLemmas.{order_loses_no_wake, order_loses_no_wake_as}
use Rattle.laws_order.specs.WakesKept.{NoWakeLost, OrderLosesNoWake, OrderLosesNoWakeAs}

open_for : (o : Option ℕ) → is_open (turn_for o) ≡ true
open_for None = refl
open_for (Some n) = refl

-- in order, whichever the component is, no wake is lost
pub core_in_order_loses : (c : Component) (o : Option ℕ) (s : Core) → CoreInOrder c (turn_for o) s → NoWakeLost s
unfolding OrderLosesNoWake
core_in_order_loses c o s in_turn = order_loses_no_wake c (state_at s Unscripted (turn_for o)) (in_turn.order Unscripted) (open_for o)

-- nor in order in which the thread has the op
pub kept_loses : (c : Component) (o : Op) (n : ℕ) (r : OpResult) (t : StateView) → KeepsFor c o n r t → NoWakeLost t.core
unfolding OrderLosesNoWakeAs
kept_loses c o n (op_result.Continues l m said) t k = order_loses_no_wake_as (given n o (ops_of c t.core)) c (state_at t.core Unscripted (turn.Run m)) (k.order Unscripted) refl
kept_loses c o n (op_result.Stops l) t k = order_loses_no_wake_as (given n o (ops_of c t.core)) c (state_at t.core Unscripted turn.Main) (k.order Unscripted) refl
kept_loses c o n (op_result.Traps why) t k = core_in_order_loses c (running_of t) t.core k
kept_loses c o n (op_result.Fails i) t k = core_in_order_loses c (running_of t) t.core k

done_loses : (c : Component) (o : Op) (n : ℕ) (r : OpResult) (t : StateView) → KeepsDone c o n r t → NoWakeLost t.core
unfolding OrderLosesNoWakeAs
done_loses c o n (op_result.Stops l) t k = order_loses_no_wake_as (given n o (ops_of c t.core)) c (state_at t.core Unscripted turn.Main) (k.order Unscripted) refl
done_loses c o n (op_result.Continues l m said) t k = core_in_order_loses c (running_of t) t.core k
done_loses c o n (op_result.Traps why) t k = core_in_order_loses c (running_of t) t.core k
done_loses c o n (op_result.Fails i) t k = core_in_order_loses c (running_of t) t.core k

pub ops_lose_none : OpsLoseNone
unfolding OpsKeep OpsLoseNone
ops_lose_none c o n r s t h plain other did = kept_loses c o n r t (ops_keep c o n r s t h plain other did)

pub hosts_lose : HostsLose
unfolding HostsKeep HostsLose
hosts_lose c found q n r s t h did = done_loses c (host_op q) n r t (hosts_keep c found q n r s t h did)
