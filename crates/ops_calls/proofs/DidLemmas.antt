-- An op that a host has the running thread do keeps order in which the thread has it; once it is done the state is in order.
use Rattle.ops_calls.specs.Methods.{HostOpsKeep, HostsKeep, InTurn, KeepsDone, KeepsFor, OpsKeep, Rests, hosts_rule}
use Rattle.ops_dispatch.specs.Continues.{running_of}
use Rattle.laws_order.proofs.GivenLemmas.{host_keeps}
use Rattle.laws_order.proofs.HostCallLemmas.{host_calls_keep, host_instances}
use Rattle.laws_order.proofs.HostLemmas.{host_calls_done, host_done}
use Rattle.laws_order.specs.Given.{HostCallsDone, HostCallsKeep, HostDone, HostInstances, HostKeeps, given, host_op, host_rule, is_host_op}
use Rattle.laws_order.specs.Pieces.{SameInstances}
use Rattle.std.proofs.Common.{arith, refl, subst, sym, ◌∙◌}
use Rattle.std.specs.Prelude.{None, Option, Some, false, suc, true, ℕ, ◌≡◌}
use Rattle.ops_calls.proofs.HostOpLemmas.{implements_progresses, met_progresses, order_still, running_is}
use Rattle.ops_calls.specs.HostOps.{Does, CoreInOrderAs, scripted_rule_of, turn_for}
use Rattle.laws_states.specs.Order.{InOrderAs}
use Rattle.machine_data.specs.Core.{Core, Main, State, Unscripted}
use Rattle.machine_data.specs.Labels.{choice_of}
use Rattle.machine_data.specs.declared.component.Component.{Component}
use Rattle.machine_data.specs.declared.component.HostDef.{HostDef}
use Rattle.machine_data.specs.declared.label.Label.{Label}
use Rattle.machine_data.specs.declared.op.Op.{Op}
use Rattle.machine_data.specs.declared.records.Turn.{Turn}
use Rattle.ops_guests.specs.OpResult.{Implements}
use Rattle.ops_guests.specs.Steps.{label_of, turn_after}
use Rattle.ops_guests.specs.declared.op_result.OpResult.{OpResult}
use Rattle.machine_rules.specs.Finish.{SomeHost}
use Rattle.machine_rules.specs.OpParts.{ends_activation, is_data_op}
use Rattle.machine_rules.specs.Progress.{Progress}
use Rattle.machine_rules.specs.Scripts.{ops_of}
use Rattle.machine_rules.specs.Step.{Progresses, op_rule}
use Rattle.ops_turns.proofs.KeptLemmas.{setting}
use Rattle.ops_turns.proofs.RunLemmas.{settled}
use Rattle.ops_turns.specs.Turn.{CoreInOrder, is_going, state_at}
use Rattle.core_primitives.specs.StateView.{StateView}
use Rattle.machine_data.specs.declared.component.HostDef.TheVariants as host_def
use Rattle.machine_data.specs.declared.statuses.HostPoll.TheVariants as host_poll
use Rattle.machine_rules.specs.Calls.{AtOnce, Failing, FirstPoll, Later, call_host_by, call_sync_host_by, first_polled}

-- what met a progress and wasn't refused, whatever main's part is
pub progressed : (p : Progress) (n : ℕ) (r : OpResult) (s t : Core) → Implements p s r t → is_going r ≡ true → (m : Main) →
    Progresses (state_at s m (Turn.Run n)) s n p (label_of n r) (state_at t m (turn_after r))
progressed p n r s t h on m =
    let before = state_at s m (Turn.Run n) in
    subst (Progresses before s n p (label_of n r)) (settled r s m (Turn.Run n) t) (implements_progresses before n p r t h on)

-- nothing is changed
pub stays : (c : Component) (n : ℕ) (s t : StateView) → Rests c n s → t ≡ s → InTurn c t
stays c n s t h same = order_still c n s t h.runs h.order same

-- who runs after a rule that went on
pub then_runs : (c : Component) (n m : ℕ) (t : StateView) → running_of t ≡ Some m → CoreInOrder c (Turn.Run m) t.core → InTurn c t
then_runs c n m t is in_turn = subst (λ (o : Option ℕ). CoreInOrder c (turn_for o) t.core) (sym is) in_turn

unending : (o : Op) → is_host_op o ≡ true → ends_activation o ≡ false
unending o on = grind arith

not_data : (o : Op) → is_host_op o ≡ true → is_data_op o ≡ false
not_data o on = grind arith

module _ (c : Component) (n : ℕ) (s : StateView) (h : Rests c n s) where
  abbrev before : Main → State
  before m = state_at s.core m (Turn.Run n)

  pub same_there : (ops : ℕ → Op) (p : Turn) (t : Core) → SameInstances s.core t → ((m : Main) → InOrderAs ops c (state_at t m p)) → CoreInOrderAs ops c p t
  same_there ops p t same order = record {
    order = order;
    there = λ i low. same.instances i ∙ h.order.there i low;
    handles = λ i low. same.handles i ∙ h.order.handles i low;
  }

  -- an op that went on or stopped
  pub went_as : (o : Op) (l : Label) (p : Turn) (t : Core) → ends_activation o ≡ false → is_data_op o ≡ false →
      ((m : Main) → Progresses (before m) s.core n (op_rule SomeHost c n s.core (choice_of l) o) l (state_at t m p)) → CoreInOrderAs (given n o (ops_of c t)) c p t
  unfolding HostKeeps HostInstances
  went_as o l p t plain other row = same_there (given n o (ops_of c t)) p t
      (host_instances (setting c) o n (before Unscripted) (state_at t Unscripted p) l refl other (row Unscripted))
      (λ m. host_keeps (setting c) o n (before m) (state_at t m p) l refl plain other h.fresh (h.order.order m) (row m))

  -- one that is done
  pub done_as : (o : Op) (l : Label) (k : ℕ) (t : Core) → is_host_op o ≡ true →
      ((m : Main) → Progresses (before m) s.core n (op_rule SomeHost c n s.core (choice_of l) o) l (state_at t m (Turn.Run k))) → (k ≡ n) × CoreInOrder c (Turn.Run k) t
  unfolding HostDone HostInstances
  done_as o l k t asked row =
      let r : (m : Main) → _ = λ m. host_done (setting c) o n k (before m) (state_at t m (Turn.Run k)) l refl asked h.fresh (h.order.order m) (row m) refl in
      let same = host_instances (setting c) o n (before Unscripted) (state_at t Unscripted (Turn.Run k)) l refl (not_data o asked) (row Unscripted) in (
        (r Unscripted).0,
        record {
          order = λ m. (r m).1;
          there = λ i low. same.instances i ∙ h.order.there i low;
          handles = λ i low. same.handles i ∙ h.order.handles i low;
        },
      )

  -- a call of a host
  pub called_as : (host : HostDef) (q : Option ℕ) (l : Label) (p : Turn) (t : Core) →
      ((m : Main) → Progresses (before m) s.core n (host_rule q host n s.core) l (state_at t m p)) → CoreInOrderAs (given n (host_op q) (ops_of c t)) c p t
  unfolding HostCallsKeep
  called_as host q l p t row =
      let r : (m : Main) → _ = λ m. host_calls_keep (setting c) host q n (before m) (state_at t m p) l refl h.fresh (h.order.order m) (row m) in
      same_there (given n (host_op q) (ops_of c t)) p t (r Unscripted).1 (λ m. (r m).0)

  -- one that goes on
  pub called_on : (host : HostDef) (q : Option ℕ) (l : Label) (k : ℕ) (t : Core) →
      ((m : Main) → Progresses (before m) s.core n (host_rule q host n s.core) l (state_at t m (Turn.Run k))) → CoreInOrder c (Turn.Run k) t
  unfolding HostCallsDone HostCallsKeep
  called_on host q l k t row =
      let same = (host_calls_keep (setting c) host q n (before Unscripted) (state_at t Unscripted (Turn.Run k)) l refl h.fresh (h.order.order Unscripted) (row Unscripted)).1 in
      record {
        order = λ m. (host_calls_done (setting c) host q n k (before m) (state_at t m (Turn.Run k)) l refl h.fresh (h.order.order m) (row m) refl).1;
        there = λ i low. same.instances i ∙ h.order.there i low;
        handles = λ i low. same.handles i ∙ h.order.handles i low;
      }

pub ops_keep : OpsKeep
unfolding OpsKeep
ops_keep c o n r s t h plain other did = by r (running_is s n h.runs (λ k. Does (scripted_rule_of c o s.core k) k s r t) did)
  where
    by : (r : OpResult) → Does (scripted_rule_of c o s.core n) n s r t → KeepsFor c o n r t
    by (OpResult.Continues l m said) does = went_as c n s h o l (Turn.Run m) t.core plain other (met_progresses c o n (OpResult.Continues l m said) s.core t.core does.implements refl)
    by (OpResult.Stops l) does = went_as c n s h o l Turn.Main t.core plain other (met_progresses c o n (OpResult.Stops l) s.core t.core does.implements refl)
    by (OpResult.Traps why) does = stays c n s t h does.stays
    by (OpResult.Fails i) does = stays c n s t h does.stays

-- one of is_host_op
host_op_done : (c : Component) (o : Op) (n : ℕ) (r : OpResult) (s t : StateView) → Rests c n s → is_host_op o ≡ true → Does (scripted_rule_of c o s.core n) n s r t → KeepsDone c o n r t
host_op_done c o n (OpResult.Continues l m said) s t h asked does = then_runs c n m t does.running (done_as c n s h o l m t.core asked (met_progresses c o n (OpResult.Continues l m said) s.core t.core does.implements refl)).1
host_op_done c o n (OpResult.Stops l) s t h asked does = went_as c n s h o l Turn.Main t.core (unending o asked) (not_data o asked) (met_progresses c o n (OpResult.Stops l) s.core t.core does.implements refl)
host_op_done c o n (OpResult.Traps why) s t h asked does = stays c n s t h does.stays
host_op_done c o n (OpResult.Fails i) s t h asked does = stays c n s t h does.stays

-- a host whose first poll may find this
host_of : FirstPoll → HostDef
host_of (AtOnce v) = host_def.Settled (Some 0) (Some v)
host_of Failing = host_def.Settled (Some 0) None
host_of (Later (host_def.Settled None v)) = host_def.Settled None v
host_of (Later (host_def.Settled (Some k) v)) = host_def.Settled (Some (suc k)) v
host_of (Later host_def.Open) = host_def.Open

found_implements : (found : FirstPoll) (next : FirstPoll → Progress) (s t : Core) (r : OpResult) → Implements (next found) s r t → Implements (first_polled (host_of found) next) s r t
unfolding host_of
found_implements (AtOnce v) next s t r m = m
found_implements Failing next s t r m = m
found_implements (Later (host_def.Settled None v)) next s t r m = m
found_implements (Later (host_def.Settled (Some k) v)) next s t r m = m
found_implements (Later host_def.Open) next s t r m = (host_poll.Pending, m)

-- a call of a host
module _ (c : Component) (found : FirstPoll) (q : Option ℕ) (n : ℕ) (s t : StateView) (h : Rests c n s) where
  host : HostDef
  host = host_of found

  implements : (q : Option ℕ) (r : OpResult) → Implements (hosts_rule q found s.core n (choice_of (label_of n r))) s.core r t.core → Implements (host_rule q host n s.core) s.core r t.core
  unfolding host
  implements (Some k) r m = found_implements found (call_host_by SomeHost n k s.core) s.core t.core r m
  implements None r m = found_implements found (call_sync_host_by SomeHost n s.core) s.core t.core r m

  row : (r : OpResult) → Does (hosts_rule q found s.core n) n s r t → is_going r ≡ true → (m : Main) →
      Progresses (state_at s.core m (Turn.Run n)) s.core n (host_rule q host n s.core) (label_of n r) (state_at t.core m (turn_after r))
  row r does on = progressed (host_rule q host n s.core) n r s.core t.core (implements q r does.implements) on

  called_done : (r : OpResult) → Does (hosts_rule q found s.core n) n s r t → KeepsDone c (host_op q) n r t
  called_done (OpResult.Continues l m said) does = then_runs c n m t does.running (called_on c n s h host q l m t.core (row (OpResult.Continues l m said) does refl))
  called_done (OpResult.Stops l) does = called_as c n s h host q l Turn.Main t.core (row (OpResult.Stops l) does refl)
  called_done (OpResult.Traps why) does = stays c n s t h does.stays
  called_done (OpResult.Fails i) does = stays c n s t h does.stays

pub hosts_keep : HostsKeep
unfolding HostsKeep
hosts_keep c found q n r s t h did = called_done c found q n s t h r (running_is s n h.runs (λ k. Does (hosts_rule q found s.core k) k s r t) did)

pub host_ops_keep : HostOpsKeep
unfolding HostOpsKeep
host_ops_keep c o n r s t h asked did = host_op_done c o n r s t h asked (running_is s n h.runs (λ k. Does (scripted_rule_of c o s.core k) k s r t) did)
