-- A call of an export that is made, and not started yet; and a direct call, by the rule of a sync call, which a host has the thread do.
use Rattle.laws_order.proofs.GivenLemmas.{as_far, host_keeps}
use Rattle.laws_order.proofs.StayLemmas.{with_ops}
use Rattle.laws_order.proofs.HostCallLemmas.{host_instances}
use Rattle.laws_order.proofs.PieceLemmas.{setting_for}
use Rattle.laws_order.specs.Given.{EnterKeeps, HostInstances, HostKeeps, given}
use Rattle.laws_order.specs.Pieces.{InOrderForAnyMain, InOrderForAnyMainAs, PrepareMakes, SameInstances, state_in}
use Rattle.machine_data.specs.Labels.{choice_of}
use Rattle.machine_data.specs.Read.{caller_of, is_async_lifted, registers_of, subtask_handle, thread_group}
use Rattle.machine_data.specs.declared.component.Callee.{Callee}
use Rattle.machine_data.specs.declared.op.CallOp.TheVariants as call_op
use Rattle.machine_data.specs.declared.op.Op.{Op}
use Rattle.machine_data.specs.declared.op.Op.TheVariants as op
use Rattle.machine_data.specs.declared.op.Operand.{Operand}
use Rattle.machine_data.specs.declared.op.Operand.TheVariants as operand
use Rattle.machine_data.specs.declared.records.Caller.{Caller}
use Rattle.machine_data.specs.declared.records.Goal.{Goal}
use Rattle.laws_places.proofs.Laws.{Bool, Component, Core, ExportKind, OpProgress, Label, List, Main, None, Some, State, Subtask, Turn, Unscripted, [], add_call, add_thread, ap, arith, call_made, false, get-insert, op_progress_of, is_direct, nat_tests, next_thread, refl, subst, sym, true, ℕ, ◌+◌, ◌==◌, ◌∙◌, ◌∷◌, ◌≡◌, ◌≤◌}
use Rattle.machine_rules.proofs.WalkParts.{Born, call_born}
use Rattle.machine_rules.specs.Allowed.{IsUntouched}
use Rattle.machine_rules.specs.Calls.{call_sync_begins, call_sync_rule, enter_rule}
use Rattle.machine_rules.specs.Finish.{SomeHost}
use Rattle.machine_rules.specs.OpParts.{callee_of_op, can_come, is_sync_call}
use Rattle.machine_rules.specs.Progress.{Continues, Progress}
use Rattle.machine_rules.specs.Scripts.{export_kind, ops_of, values_in}
use Rattle.machine_rules.specs.Step.{Progresses, op_rule}
use Rattle.machine_rules.specs.Turns.{at_turn}

-- nothing has become of a call as it is made
module _ (n : ℕ) (e : Callee) (x : ExportKind) (g : Goal) (words : List ℕ) (s : Core) where
  abbrev new_made : Core
  new_made = call_made (Caller.Thread n) e x g (thread_group n s) words s

  made_far : n ≤ s.made.threads → op_progress_of n new_made ≡ op_progress_of n s
  unfolding call_made add_thread add_call
  made_far low = let apart : (n == s.made.threads + 1) ≡ false = grind (arith, nat_tests, low) in grind (arith, nat_tests, get-insert, apart)

  made_caller : caller_of (next_thread s) new_made ≡ Caller.Thread n
  unfolding call_made add_thread add_call
  made_caller = grind (arith, nat_tests, get-insert)

  made_nameless : subtask_handle (Subtask.Guest (next_thread s)) new_made ≡ None
  unfolding call_made add_thread add_call
  made_nameless = grind (arith, nat_tests, get-insert)

  made_untouched : IsUntouched (next_thread s) new_made
  unfolding call_made add_thread add_call
  made_untouched = (grind (arith, nat_tests, get-insert), (grind (arith, nat_tests, get-insert), grind (arith, nat_tests, get-insert)))

pub prepare_makes : PrepareMakes
unfolding PrepareMakes
prepare_makes n e x g words s low fresh plain =
    let b : Born (next_thread s) g (new_made n e x g words s) = call_born (Caller.Thread n) e x g (thread_group n s) words s in
    record {
      fresh = made_far n e x g words s low ∙ fresh;
      new = b.place;
      implicit = b.explicit;
      queued = ap (λ (y : Goal). is_direct y) b.goal ∙ plain;
      called = ((made_caller n e x g words s, made_nameless n e x g words s), made_untouched n e x g words s);
    }

-- ---- A direct call

numbers : List ℕ → List Operand
numbers [] = []
numbers (v ∷ vs) = operand.Number v ∷ numbers vs

numbers_are : (registers words : List ℕ) → values_in registers (numbers words) ≡ words
unfolding numbers
numbers_are registers [] = refl
numbers_are registers (v ∷ vs) = ap (λ (rest : List ℕ). v ∷ rest) (numbers_are registers vs)

-- every sync call of an export may come as far
sync_far : (o : Op) (e : Callee) (xs : List Operand) → callee_of_op o ≡ Some e → is_sync_call o ≡ true → (f : OpProgress) → can_come (op.Call (call_op.CallSync 0 e xs)) f ≡ true → can_come o f ≡ true
sync_far (op.Call (call_op.CallSync r d ys)) e xs callee sync OpProgress.Fresh h = refl
sync_far (op.Call (call_op.CallSync r d ys)) e xs callee sync (OpProgress.Waits x) h = h
sync_far (op.Call (call_op.CallSync r d ys)) e xs callee sync (OpProgress.Calls (Subtask.Guest k)) h = h
sync_far (op.Call (call_op.CallSync r d ys)) e xs callee sync (OpProgress.Calls (Subtask.Host i)) h = h
sync_far (op.Call (call_op.CallSync r d ys)) e xs callee sync (OpProgress.Answered v) h = h
sync_far (op.Call (call_op.CallSync r d ys)) e xs callee sync (OpProgress.Cancels (Subtask.Guest k)) h = h
sync_far (op.Call (call_op.CallSync r d ys)) e xs callee sync (OpProgress.Cancels (Subtask.Host i)) h = h
sync_far (op.Call (call_op.CallSync r d ys)) e xs callee sync (OpProgress.AwaitsEnd sub) h = h
sync_far (op.Call (call_op.CallSync r d ys)) e xs callee sync OpProgress.Suspends h = h
sync_far (op.Call (call_op.CallSync r d ys)) e xs callee sync OpProgress.Yields h = h
sync_far o e xs callee sync f h = absurd (grind (arith, callee, sync))

module _ (c : Component) (e : Callee) (words : List ℕ) (n m : ℕ) (l : Label) (new s : Core) (plain : is_async_lifted (export_kind c e) ≡ false) (fresh : op_progress_of n s ≡ OpProgress.Fresh)
    (row : enter_rule n e (export_kind c e) words s ≡ Continues l new m) (h : InOrderForAnyMain c (Turn.Run n) s) where
  -- the sync call with these values
  abbrev call : Op
  call = op.Call (call_op.CallSync 0 e (numbers words))

  abbrev before : Main → State
  before z = state_in z (Turn.Run n) s

  abbrev after : Main → State
  after z = state_in z (Turn.Run m) new

  its_rule : op_rule SomeHost c n s (choice_of l) call ≡ Continues l new m
  its_rule =
      ap (λ (ws : List ℕ). call_sync_rule SomeHost c n e ws s (op_progress_of n s)) (numbers_are (registers_of n s) words)
      ∙ (ap (λ (f : OpProgress). call_sync_rule SomeHost c n e words s f) fresh ∙ (ap (λ (b : Bool). call_sync_begins c n e words s b) plain ∙ row))

  does : (z : Main) → Progresses (before z) s n (op_rule SomeHost c n s (choice_of l) call) l (after z)
  unfolding at_turn
  does z = subst (λ (p : Progress). Progresses (before z) s n p l (after z)) (sym its_rule) (refl, refl)

  entered : (o : Op) → callee_of_op o ≡ Some e → is_sync_call o ≡ true → InOrderForAnyMainAs (given n o (ops_of c new)) c (Turn.Run m) new × SameInstances s new
  unfolding HostKeeps HostInstances
  entered o callee sync = (
    λ z.
        let kept = host_keeps (setting_for c) call n (before z) (after z) l refl refl refl fresh (h z) (does z) in
        with_ops kept (as_far c n call o (ops_of c new) new (sync_far o e (numbers words) callee sync) (λ is. sync) kept.fits),
    host_instances (setting_for c) call n (before Unscripted) (after Unscripted) l refl refl (does Unscripted),
  )

pub enter_keeps : EnterKeeps
unfolding EnterKeeps
enter_keeps c o e words n m l new s callee sync plain fresh row h = entered c e words n m l new s plain fresh row h o callee sync
