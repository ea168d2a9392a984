-- The running thread is under way, and so in its place after an op that a host has it do.
use Rattle.std.proofs.Common.{ap, arith, refl, subst, sym, ◌∙◌}
use Rattle.std.proofs.lemmas.Bool.Decides.{nat_tests}
use Rattle.std.specs.Prelude.{Bool, None, Option, Result, Some, false, is_some, true, ℕ, ◌==◌, ◌≡◌}
use Rattle.std.specs.Option.{option_map_or}
use Rattle.ops_dispatch.specs.Continues.{running_of}
use Rattle.ops_state.specs.declared.error.TaskError.{TaskError}
use Rattle.ops_calls.proofs.HostOpLemmas.{running_is}
use Rattle.ops_dispatch.proofs.LeavesLemmas.{host_leaves_in_place}
use Rattle.ops_calls.specs.HostOps.{Does, scripted_rule_of}
use Rattle.ops_calls.specs.MainCalls.{Returned, Returns}
use Rattle.ops_calls.specs.InPlace.{HostOpsLeaveInPlace, CallsItself, HostLeavesInPlace, IsInPlace, IsUnderWay, ReturnsLeaveInPlace, in_script, is_return}
use Rattle.machine_data.specs.Core.{Core, Unscripted}
use Rattle.machine_data.specs.Labels.{Choice, choice_of}
use Rattle.machine_data.specs.Maps.{get}
use Rattle.machine_data.specs.Read.{has_ended, instance_of, place_of, subtask_at, task_of, was_started}
use Rattle.machine_data.specs.declared.component.Component.{Component}
use Rattle.machine_data.specs.declared.label.Label.{Label}
use Rattle.machine_data.specs.declared.op.Op.{Op}
use Rattle.machine_data.specs.declared.op.Op.TheVariants as op
use Rattle.machine_data.specs.declared.op.Operand.TheVariants as operand
use Rattle.machine_data.specs.declared.op.TaskOp.TheVariants as task_op
use Rattle.machine_data.specs.declared.records.Call.{Call}
use Rattle.machine_data.specs.declared.records.Place.TheVariants as place
use Rattle.machine_data.specs.declared.records.Subtask.TheVariants as subtask
use Rattle.machine_data.specs.declared.records.Thread.{Thread}
use Rattle.machine_data.specs.declared.records.Turn.TheVariants as turn
use Rattle.machine_data.specs.declared.trap.Trap.{Trap}
use Rattle.machine_data.specs.declared.trap.Trap.TheVariants as trap
use Rattle.ops_guests.specs.OpResult.{Implements}
use Rattle.ops_guests.specs.Steps.{label_of}
use Rattle.ops_guests.specs.declared.op_result.OpResult.{OpResult}
use Rattle.machine_rules.specs.Calls.{next_thread}
use Rattle.machine_rules.specs.Finish.{SomeHost}
use Rattle.machine_rules.specs.Places.{is_fresh}
use Rattle.machine_rules.specs.Progress.{Asks, Fails, Continues, Never, OneOf, Ordered, Progress, Stops, Traps, trap_if}
use Rattle.machine_rules.specs.Step.{op_rule}
use Rattle.machine_rules.specs.Task.{ret_bad_rule, ret_rule}
use Rattle.ops_turns.proofs.OrderLemmas.{named_calls_there}
use Rattle.ops_turns.specs.Turn.{CoreInOrder}
use Rattle.core_primitives.specs.StateView.{StateView}

-- ---- The thread that runs

module _ (c : Component) (n : ℕ) (s : Core) (in_turn : CoreInOrder c (turn.Run n) s) where
  runs : place_of n s ≡ Some place.Running
  runs = (in_turn.order Unscripted).in_place.runs n refl

  not_next : (n == next_thread s) ≡ false
  not_next = by (get s.threads n) refl runs
    where
      by : (o : Option Thread) → get s.threads n ≡ o → place_of n s ≡ Some place.Running → (n == next_thread s) ≡ false
      by None here at = absurd (grind (arith, here, at))
      by (Some t) here at = let low = ((in_turn.order Unscripted).numbered.threads n t here).number in grind (arith, nat_tests, low)

  unstarted : (k : ℕ) (o : Option Call) → get s.calls k ≡ o → is_some o ≡ true → option_map_or (λ (x : Call). x.started) o false ≡ false → is_fresh (place_of k s) ≡ true
  unstarted k None at there un = absurd (cc)
  unstarted k (Some x) at there un = (in_turn.order Unscripted).starts k x at un

  other : (k : ℕ) (b : Bool) → (n == k) ≡ b → is_fresh (place_of k s) ≡ true → b ≡ false
  other k false e fresh = refl
  other k true e fresh = absurd (
      let same : n ≡ k = grind (arith, nat_tests, e) in
      let f = subst (λ (j : ℕ). is_fresh (place_of j s) ≡ true) (sym same) fresh in
      let g = subst (λ o. is_fresh o ≡ true) runs f in
      cc)

  pub is_under_way : IsUnderWay n s
  is_under_way = record {
    made = not_next;
    begun = λ h k at un. other k (n == k) refl (unstarted k (get s.calls k) refl (named_calls_there c (turn.Run n) s in_turn (instance_of n s) h k at) un);
  }

-- ---- By what a call answers

met_in_place : (n : ℕ) (p : Progress) (s t : Core) (r : OpResult) → IsInPlace n (in_script n s) p → Implements p s r t → in_script n t ≡ in_script n s
met_in_place n (Continues l new m) s t r h e = ap (in_script n) e.1 ∙ h
met_in_place n (Stops l new) s t r h e = ap (in_script n) e.1 ∙ h
met_in_place n (Traps why) s t r h e = ap (in_script n) e.1
met_in_place n (Fails i) s t r h e = ap (in_script n) e.1
met_in_place n Never s t r h e = absurd e
met_in_place n (Ordered ns next) s t r h e = met_in_place n (next e.0) s t r (h e.0) e.1.1
met_in_place n (OneOf ns next) s t r h e = met_in_place n (next e.0) s t r (h e.0) e.1.1
met_in_place n (Asks next) s t r h e = met_in_place n (next e.0) s t r (h e.0) e.1

pub host_ops_leave_in_place : HostOpsLeaveInPlace
unfolding HostOpsLeaveInPlace HostLeavesInPlace
host_ops_leave_in_place c o n r s t run in_turn finished apart plain d =
    let does = running_is s n run (λ k. Does (scripted_rule_of c o s.core k) k s r t) d in
    met_in_place n (op_rule SomeHost c n s.core (choice_of (label_of n r)) o) s.core t.core r
    (host_leaves_in_place c n s.core (choice_of (label_of n r)) o finished apart (is_under_way c n s.core in_turn) (λ is. absurd (let no = sym is ∙ plain in cc))) does.implements

returned_in_place : (n : ℕ) (p : Progress) (s t : StateView) (r : Result (Unit {0}) TaskError) → IsInPlace n (in_script n s.core) p → Returned p s r t → in_script n t.core ≡ in_script n s.core
returned_in_place n (Continues l new m) s t r h e = ap (λ (v : StateView). in_script n v.core) e.1 ∙ h
returned_in_place n (Traps why) s t r h e = ap (λ (v : StateView). in_script n v.core) e.1
returned_in_place n (Stops l new) s t r h e = absurd e
returned_in_place n (Fails i) s t r h e = absurd e
returned_in_place n Never s t r h e = absurd e
returned_in_place n (Ordered ns next) s t r h e = absurd e
returned_in_place n (OneOf ns next) s t r h e = absurd e
returned_in_place n (Asks next) s t r h e = absurd e

pub returns_leave_in_place : ReturnsLeaveInPlace
unfolding ReturnsLeaveInPlace HostLeavesInPlace
returns_leave_in_place c n v true s t r in_turn apart e =
    returned_in_place n (ret_rule SomeHost n v e.0 s.core) s t r
    (host_leaves_in_place c n s.core (record { woken = e.0; member = None }) (op.Task (task_op.Ret (operand.Number v))) refl refl (is_under_way c n s.core in_turn) (λ is. apart)) e.1
returns_leave_in_place c n v false s t r in_turn apart e = returned_in_place n (ret_bad_rule n s.core) s t r (refused (has_ended (task_of n s.core) s.core)) e
  where
    refused : (b : Bool) → IsInPlace n (in_script n s.core) (trap_if b trap.TaskCancelOrReturnTwice (Traps trap.TaskReturnInvalid))
    refused true = tt
    refused false = tt
