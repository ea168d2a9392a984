-- A call of an export loses no wake, wherever its thread is in its script.
use Rattle.ops_calls.proofs.MethodLemmas.{enters, starts_keep}
use Rattle.ops_calls.proofs.WakeLemmas.{core_in_order_loses}
use Rattle.ops_calls.specs.Methods.{Rests, StartsKeep}
use Rattle.ops_calls.specs.MethodWakes.{EntersLose, StartsLose}
use Rattle.laws_order.specs.Given.{given}
use Rattle.std.proofs.Common.{refl, subst, sym}
use Rattle.std.specs.Prelude.{Some, [], true, ℕ, ◌≡◌}
use Rattle.ops_calls.proofs.HostOpLemmas.{running_is}
use Rattle.ops_calls.specs.HostOps.{Does, CoreInOrderAs}
use Rattle.ops_calls.specs.Directs.{enters_rule}
use Rattle.laws_states.specs.Order.{is_open}
use Rattle.machine_data.specs.Core.{Core, Unscripted}
use Rattle.machine_data.specs.declared.component.Callee.{Callee}
use Rattle.machine_data.specs.declared.component.Component.{Component}
use Rattle.machine_data.specs.declared.op.CallOp.TheVariants as call_op
use Rattle.machine_data.specs.declared.op.Op.{Op}
use Rattle.machine_data.specs.declared.op.Op.TheVariants as op
use Rattle.machine_data.specs.declared.records.Turn.{Turn}
use Rattle.machine_data.specs.declared.records.Turn.TheVariants as turn
use Rattle.ops_guests.specs.declared.op_result.OpResult.{OpResult}
use Rattle.ops_guests.specs.declared.op_result.OpResult.TheVariants as op_result
use Rattle.machine_rules.specs.Scripts.{ops_of}
use Rattle.ops_turns.specs.Turn.{state_at}
use Rattle.core_primitives.specs.StateView.{StateView}
use Rattle.laws_order.proofs.GroundLemmas.{order_loses_no_wake_as}
use Rattle.laws_order.specs.WakesKept.{NoWakeLost, OrderLosesNoWakeAs}

-- a sync call of an export
abbrev calls : Callee → Op
calls e = op.Call (call_op.CallSync 0 e [])

-- in order, whichever op each thread has, no wake is lost
in_turn_as_loses : (ops : ℕ → Op) (c : Component) (p : Turn) (s : Core) → is_open p ≡ true → CoreInOrderAs ops c p s → NoWakeLost s
unfolding OrderLosesNoWakeAs
in_turn_as_loses ops c p s on in_turn = order_loses_no_wake_as ops c (state_at s Unscripted p) (in_turn.order Unscripted) on

-- nothing is changed
none_lost : (c : Component) (n : ℕ) (s t : StateView) → Rests c n s → t ≡ s → NoWakeLost t.core
none_lost c n s t h same = subst (λ (v : StateView). NoWakeLost v.core) (sym same) (core_in_order_loses c (Some n) s.core h.order)

pub starts_lose : StartsLose
unfolding StartsLose StartsKeep
starts_lose c n s t id h ready is =
    let o = calls (record { instance = 0; export = 0 }) in
    in_turn_as_loses (given n o (ops_of c t.core)) c turn.Main t.core refl (starts_keep c o n s t id h ready refl is)

pub enters_lose : EntersLose
unfolding EntersLose
enters_lose c n e words r s t h plain did = by r (running_is s n h.runs (λ k. Does (enters_rule c e words s.core k) k s r t) did)
  where
    by : (r : OpResult) → Does (enters_rule c e words s.core n) n s r t → NoWakeLost t.core
    by (op_result.Continues l m said) does = in_turn_as_loses (given n (calls e) (ops_of c t.core)) c (turn.Run m) t.core refl (enters c (calls e) n e words s t h refl refl plain (op_result.Continues l m said) does)
    by (op_result.Stops l) does = none_lost c n s t h (enters c (calls e) n e words s t h refl refl plain (op_result.Stops l) does)
    by (op_result.Traps why) does = none_lost c n s t h does.stays
    by (op_result.Fails i) does = none_lost c n s t h does.stays
