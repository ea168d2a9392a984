-- Where an op leaves its thread until it is ended, and which register then gets an event.
use Rattle.ops_dispatch.proofs.InPlaceLemmas.{at_done, same_place}
use Rattle.ops_dispatch.proofs.LeavesLemmas.{ops_leave_places}
use Rattle.ops_dispatch.proofs.OpLemmas.{direct_unanswered, stops_unanswered}
use Rattle.ops_dispatch.proofs.RuleLemmas.{blocking_exit_stops, code_stops, sync_exit_stops, thread_exit_stops}
use Rattle.ops_dispatch.specs.Fits.{is_data_op, op_fits}
use Rattle.ops_dispatch.specs.Continues.{DoesOp}
use Rattle.ops_dispatch.specs.InPlace.{AnswerKind, KeepsPlace, LeavesPlace, OpsLeavePlaces, answers_of, answers_so, in_script, is_finished, may_answer}
use Rattle.ops_dispatch.specs.Rules.{rule_of}
use Rattle.std.proofs.Common.{ap, arith, refl, subst, sym, ◌∙◌}
use Rattle.std.proofs.lemmas.Bool.Decides.{nat_tests}
use Rattle.std.specs.Prelude.{Bool, None, Option, false, true, ℕ, ◌*◌, ◌+◌, ◌≡◌, ◌≤◌}
use Rattle.machine_data.specs.Core.{Core}
use Rattle.machine_data.specs.Labels.{Choice, choice_of, exit_label}
use Rattle.machine_data.specs.Read.{goal_of, is_direct, is_explicit, kind_of, position_of, task_of, under_of}
use Rattle.machine_data.specs.declared.component.Component.{Component}
use Rattle.machine_data.specs.declared.component.ExportKind.{ExportKind}
use Rattle.machine_data.specs.declared.component.ExportKind.TheVariants as kind
use Rattle.machine_data.specs.declared.label.Label.TheVariants as label
use Rattle.machine_data.specs.declared.label.TaskLabel.TheVariants as task_label
use Rattle.machine_data.specs.declared.op.CallOp.TheVariants as call_op
use Rattle.machine_data.specs.declared.op.Op.{Op}
use Rattle.machine_data.specs.declared.op.Op.TheVariants as op
use Rattle.machine_data.specs.declared.op.SetOp.TheVariants as set_op
use Rattle.machine_data.specs.declared.op.TaskOp.{TaskOp}
use Rattle.machine_data.specs.declared.op.TaskOp.TheVariants as task_op
use Rattle.machine_data.specs.declared.op.ThreadOp.TheVariants as thread_op
use Rattle.ops_guests.proofs.EndedLemmas.{IsUnanswered, undue}
use Rattle.ops_guests.specs.OpResult.{Implements}
use Rattle.ops_guests.specs.Ended.{ended, ends_op, gives_event}
use Rattle.ops_guests.specs.Steps.{label_of}
use Rattle.ops_guests.specs.declared.op_result.OpResult.{OpResult}
use Rattle.ops_guests.specs.declared.op_result.OpResult.TheVariants as op_result
use Rattle.ops_guests.specs.declared.op_result.OpAnswer.TheVariants as op_answer
use Rattle.machine_rules.specs.Ends.{exit_rule_for, implicit_exit_rule, kind_exit_rule}
use Rattle.machine_rules.specs.Finish.{Doer, SomeHost}
use Rattle.machine_rules.specs.Progress.{Asks, Fails, Continues, Never, OneOf, Ordered, Progress, Stops, Traps}
use Rattle.machine_rules.specs.Scripts.{value_of}
use Rattle.machine_rules.specs.Step.{answer_register, op_rule}
use Rattle.machine_rules.specs.Task.{task_rule}
use Rattle.task_table.specs.declared.id.TableId.{TableId}
use Rattle.task_wait.specs.declared.keys.ThreadKey.{ThreadKey}
use Rattle.core_primitives.specs.StateView.{StateView, thread_of}

-- ---- By what it resulted in

module _ (A : Type 0) (k : AnswerKind) (n : ℕ) (s : Core) where
  met_below : (p : Progress) (r : OpResult) (t : Core) → LeavesPlace A k n s p → Implements p s r t → position_of n t ≤ position_of n s
  met_below (Continues l new m) r t h e = subst (λ (c : Core). position_of n c ≤ position_of n s) (sym e.1) h.0.below
  met_below (Stops l new) r t h e = subst (λ (c : Core). position_of n c ≤ position_of n s) (sym e.1) h.below
  met_below (Traps why) r t h e = let p = ap (λ (c : Core). position_of n c) e.1 in grind (arith, p)
  met_below (Fails i) r t h e = let p = ap (λ (c : Core). position_of n c) e.1 in grind (arith, p)
  met_below Never r t h e = absurd e
  met_below (Ordered ns next) r t h e = met_below (next e.0) r t (h e.0) e.1.1
  met_below (OneOf ns next) r t h e = met_below (next e.0) r t (h e.0) e.1.1
  met_below (Asks next) r t h e = met_below (next e.0) r t (h e.0) e.1

  met_said : (p : Progress) (r : OpResult) (t : Core) → LeavesPlace A k n s p → Implements p s r t → answers_so k r ≡ true
  met_said (Continues l new m) r t h e = ap (answers_so k) e.0 ∙ h.1
  met_said (Stops l new) r t h e = ap (answers_so k) e.0
  met_said (Traps why) r t h e = ap (answers_so k) e.0
  met_said (Fails i) r t h e = ap (answers_so k) e.0
  met_said Never r t h e = absurd e
  met_said (Ordered ns next) r t h e = met_said (next e.0) r t (h e.0) e.1.1
  met_said (OneOf ns next) r t h e = met_said (next e.0) r t (h e.0) e.1.1
  met_said (Asks next) r t h e = met_said (next e.0) r t (h e.0) e.1

ended_place : (n : ℕ) (r : OpResult) (t : Core) → in_script n (ended SomeHost n r t) ≡ in_script n t
ended_place n (op_result.Continues l m op_answer.Nothing) t = at_done n t
ended_place n (op_result.Continues l m (op_answer.Number v)) t = at_done n t
ended_place n (op_result.Continues l m (op_answer.Value v)) t = at_done n t
ended_place n (op_result.Continues l m (op_answer.Event g)) t = at_done n t
ended_place n (op_result.Continues l m (op_answer.Entered k)) t = refl
ended_place n (op_result.Continues l m op_answer.NoneDue) t = refl
ended_place n (op_result.Stops l) t = refl
ended_place n (op_result.Traps why) t = refl
ended_place n (op_result.Fails i) t = refl

-- what isn't due any op may answer
undue_said : (k : AnswerKind) (r : OpResult) → ends_op r ≡ false → answers_so k r ≡ true
undue_said k (op_result.Continues l m op_answer.Nothing) e = absurd (cc)
undue_said k (op_result.Continues l m (op_answer.Number v)) e = absurd (cc)
undue_said k (op_result.Continues l m (op_answer.Value v)) e = absurd (cc)
undue_said k (op_result.Continues l m (op_answer.Event g)) e = absurd (cc)
undue_said k (op_result.Continues l m (op_answer.Entered j)) e = refl
undue_said k (op_result.Continues l m op_answer.NoneDue) e = refl
undue_said k (op_result.Stops l) e = refl
undue_said k (op_result.Traps why) e = refl
undue_said k (op_result.Fails i) e = refl

-- ---- An op that ends its thread or its activation answers nothing

module _ (n : ℕ) (w : Option ℕ) (s : Core) where
  kinds : (x : ExportKind) → IsUnanswered (kind_exit_rule n w s x)
  kinds kind.Sync = stops_unanswered (kind_exit_rule n w s kind.Sync) (sync_exit_stops n w s)
  kinds kind.Blocking = stops_unanswered (kind_exit_rule n w s kind.Blocking) (blocking_exit_stops n w s)
  kinds kind.Stackful = stops_unanswered (kind_exit_rule n w s kind.Stackful) (thread_exit_stops n w s)
  kinds kind.Callback = stops_unanswered (kind_exit_rule n w s kind.Callback) (code_stops (exit_label n None) refl n s 0)

  implicits : (b : Bool) → IsUnanswered (implicit_exit_rule n w s b)
  implicits true = direct_unanswered n (kind_of (task_of n s) s) s (under_of n s)
  implicits false = kinds (kind_of (task_of n s) s)

  pub exit_unanswered : (b : Bool) → IsUnanswered (exit_rule_for n w s b)
  exit_unanswered true = stops_unanswered (exit_rule_for n w s true) (thread_exit_stops n w s)
  exit_unanswered false = implicits (is_direct (goal_of (task_of n s) s))

tasks : (d : Doer) (n : ℕ) (s : Core) (ch : Choice) (o : TaskOp) → is_finished (op.Task o) ≡ false → IsUnanswered (task_rule d n s ch o)
tasks d n s ch task_op.Exit e = exit_unanswered n ch.woken s (is_explicit n s)
tasks d n s ch task_op.CbYield e = stops_unanswered (task_rule d n s ch task_op.CbYield) (code_stops (label.Task (task_label.CbYield n)) refl n s 1)
tasks d n s ch (task_op.CbWait x) e = stops_unanswered (task_rule d n s ch (task_op.CbWait x)) (code_stops (label.Task (task_label.CbWait n)) refl n s (16 * value_of n s x + 2))
tasks d n s ch (task_op.Code x) e = stops_unanswered (task_rule d n s ch (task_op.Code x)) (code_stops (label.Task (task_label.Code n)) refl n s (value_of n s x))
tasks d n s ch (task_op.Ret x) e = absurd (cc)
tasks d n s ch (task_op.RetBad x) e = absurd (cc)
tasks d n s ch task_op.TaskCancel e = absurd (cc)
tasks d n s ch task_op.BpInc e = absurd (cc)
tasks d n s ch task_op.BpDec e = absurd (cc)

unfinished : (d : Doer) (c : Component) (n : ℕ) (s : Core) (ch : Choice) (o : Op) → is_data_op o ≡ false → is_finished o ≡ false → IsUnanswered (op_rule d c n s ch o)
unfinished d c n s ch (op.Data o) e f = absurd (cc)
unfinished d c n s ch (op.Task o) e f = tasks d n s ch o f
unfinished d c n s ch (op.Set o) e f = absurd (cc)
unfinished d c n s ch (op.Call o) e f = absurd (cc)
unfinished d c n s ch (op.Thread o) e f = absurd (cc)

-- ---- An op of the running thread

module _ (AreKept : StateView → StateView → Type 0) (c : Component) (o : Op) (id : TableId ThreadKey) (s t : StateView) (r : OpResult) (other : is_data_op o ≡ false) (did : DoesOp AreKept (rule_of c o) id s r t) (due : ends_op r ≡ true) where
  abbrev number : ℕ
  number = thread_of s id

  finished : is_finished o ≡ true
  finished = by (is_finished o) refl
    where
      by : (b : Bool) → is_finished o ≡ b → b ≡ true
      by true e = refl
      by false e = absurd (
          let ch = choice_of (label_of number r) in
          let none = undue (op_rule SomeHost c number s.core ch o) s.core r (ended SomeHost number r t.core) (unfinished SomeHost c number s.core ch o other e) (did.implements SomeHost) in
          let h = sym none ∙ due in
          cc)

  leaves : LeavesPlace (KeepsPlace number s.core o) (answers_of o) number s.core (op_rule SomeHost c number s.core (choice_of (label_of number r)) o)
  unfolding OpsLeavePlaces
  leaves = ops_leave_places c number s.core (choice_of (label_of number r)) o finished

  -- it is no farther in its script
  pub below_end : position_of (thread_of t id) t.core ≤ position_of number s.core
  below_end =
      let p = met_below (KeepsPlace number s.core o) (answers_of o) number s.core _ r (ended SomeHost number r t.core) leaves (did.implements SomeHost) in
      let q = same_place number t.core (ended SomeHost number r t.core) (ended_place number r t.core) in
      let m = ap (λ (k : ℕ). position_of k t.core) (did.named due) in
      grind (arith, p, q, m)

  said_due : answers_so (answers_of o) r ≡ true
  said_due = met_said (KeepsPlace number s.core o) (answers_of o) number s.core _ r (ended SomeHost number r t.core) leaves (did.implements SomeHost)

-- it answers what such an op may answer
pub answers_right : (AreKept : StateView → StateView → Type 0) (c : Component) (o : Op) (id : TableId ThreadKey) (s t : StateView) (r : OpResult) → is_data_op o ≡ false → DoesOp AreKept (rule_of c o) id s r t → answers_so (answers_of o) r ≡ true
answers_right AreKept c o id s t r other did = by (ends_op r) refl
  where
    by : (b : Bool) → ends_op r ≡ b → answers_so (answers_of o) r ≡ true
    by true due = said_due AreKept c o id s t r other did due
    by false none = undue_said (answers_of o) r none

-- the register of an op that receives an event has two after it
pub event_fits : (c : Component) (o : Op) (r : OpResult) → op_fits c o ≡ true → answers_so (answers_of o) r ≡ true → gives_event r ≡ true → answer_register o ≤ 13
event_fits c o (op_result.Continues l m (op_answer.Event g)) fits said e = by o fits said
  where
    by : (o : Op) → op_fits c o ≡ true → may_answer (answers_of o) (op_answer.Event g) ≡ true → answer_register o ≤ 13
    by (op.Set (set_op.Wait r x)) fits said = grind (arith, nat_tests, fits)
    by (op.Set (set_op.Poll r x)) fits said = grind (arith, nat_tests, fits)
    by (op.Set (set_op.New r)) fits said = absurd (cc)
    by (op.Set (set_op.Drop x)) fits said = absurd (cc)
    by (op.Set (set_op.Join x y)) fits said = absurd (cc)
    by (op.Data o) fits said = absurd (cc)
    by (op.Task o) fits said = absurd (cc)
    by (op.Call (call_op.Call q p f xs)) fits said = absurd (cc)
    by (op.Call (call_op.CallSync q f xs)) fits said = absurd (cc)
    by (op.Call (call_op.CallHost q p h)) fits said = absurd (cc)
    by (op.Call (call_op.CallSyncHost q h)) fits said = absurd (cc)
    by (op.Call (call_op.Cancel q x)) fits said = absurd (cc)
    by (op.Call (call_op.CancelSync q x)) fits said = absurd (cc)
    by (op.Call (call_op.Drop x)) fits said = absurd (cc)
    by (op.Thread (thread_op.New q x v)) fits said = absurd (cc)
    by (op.Thread (thread_op.Index q)) fits said = absurd (cc)
    by (op.Thread (thread_op.ResumeLater x)) fits said = absurd (cc)
    by (op.Thread thread_op.Suspend) fits said = absurd (cc)
    by (op.Thread thread_op.Yield) fits said = absurd (cc)
    by (op.Thread (thread_op.SuspendThenResume x)) fits said = absurd (cc)
    by (op.Thread (thread_op.YieldThenResume x)) fits said = absurd (cc)
    by (op.Thread (thread_op.SuspendThenPromote x)) fits said = absurd (cc)
    by (op.Thread (thread_op.YieldThenPromote x)) fits said = absurd (cc)
event_fits c o (op_result.Continues l m op_answer.Nothing) fits said e = absurd (cc)
event_fits c o (op_result.Continues l m (op_answer.Number v)) fits said e = absurd (cc)
event_fits c o (op_result.Continues l m (op_answer.Value v)) fits said e = absurd (cc)
event_fits c o (op_result.Continues l m (op_answer.Entered k)) fits said e = absurd (cc)
event_fits c o (op_result.Continues l m op_answer.NoneDue) fits said e = absurd (cc)
event_fits c o (op_result.Stops l) fits said e = absurd (cc)
event_fits c o (op_result.Traps why) fits said e = absurd (cc)
event_fits c o (op_result.Fails i) fits said e = absurd (cc)
