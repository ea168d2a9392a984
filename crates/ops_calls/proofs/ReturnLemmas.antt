-- What a return needs of the running thread, and what it results in.
use Rattle.std.proofs.Common.{ap, ap₂, arith, refl, subst, sym, ◌∙◌}
use Rattle.std.proofs.lemmas.Bool.Decides.{nat_tests}
use Rattle.std.specs.Prelude.{Bool, Option, false, not, true, ℕ, ◌+◌, ◌<◌, ◌^◌, ◌≡◌}
use Rattle.ops_calls.specs.MainCalls.{Returned, Returns, answer_of}
use Rattle.machine_data.specs.Core.{Core, Unscripted}
use Rattle.machine_data.specs.Labels.{ret_label}
use Rattle.machine_data.specs.Read.{callee_of, has_ended, is_async_lifted, kind_of, position_of, task_of}
use Rattle.machine_data.specs.declared.component.Component.{Component}
use Rattle.machine_data.specs.declared.records.Turn.TheVariants as turn
use Rattle.machine_data.specs.declared.label.Label.{Label}
use Rattle.machine_data.specs.declared.trap.Trap.{Trap}
use Rattle.machine_data.specs.declared.trap.Trap.TheVariants as trap
use Rattle.ops_guests.specs.OpResult.{Implements}
use Rattle.ops_guests.specs.declared.op_result.OpResult.{OpResult}
use Rattle.machine_rules.specs.Ends.{may_tell}
use Rattle.machine_rules.specs.Progress.{Continues, Traps, may, trap_if}
use Rattle.machine_rules.specs.Task.{ret_bad_rule, ret_rule}
use Rattle.machine_rules.specs.Finish.{SomeHost}
use Rattle.ops_calls.specs.OpAnswers.{has_stopped}
use Rattle.task_table.specs.declared.id.TableId.{TableId}
use Rattle.ops_turns.specs.WellFormed.{IsWellFormed}
use Rattle.ops_dispatch.specs.Runner.{Runner}
use Rattle.ops_turns.specs.Turn.{CoreInOrder}
use Rattle.task_wait.specs.declared.keys.ThreadKey.{ThreadKey}
use Rattle.core_primitives.specs.StateView.{StateView, Tags, thread_of, with_core}

-- a return never stops
pub ret_goes_on : (n v : ℕ) (w : Option ℕ) (s : Core) (r : OpResult) (t : Core) → Implements (ret_rule SomeHost n v w s) s r t → has_stopped r ≡ false
ret_goes_on n v w s r t h = row (has_ended (task_of n s) s) (not (is_async_lifted (kind_of (task_of n s) s))) (may_tell (task_of n s) w s) _ _ _ _ _ h
  where
    row : (a b d : Bool) (x y : Trap) (l : Label) (new : Core) (m : ℕ) → Implements (trap_if a x (trap_if b y (may d (Continues l new m)))) s r t → has_stopped r ≡ false
    row true b d x y l new m h = ap has_stopped h.0
    row false true d x y l new m h = ap has_stopped h.0
    row false false true x y l new m h = ap has_stopped h.0
    row false false false x y l new m h = absurd h

module _ (s t : StateView) (tags : t.tags ≡ s.tags) (current : t.current ≡ s.current) (r : OpResult) where
  become : (new : Core) → t.core ≡ new → t ≡ with_core new s
  become new is = ap₂ (λ (c : Core) (ts : Tags). record { core = c; tags = ts; current = t.current }) is tags ∙ ap (λ o. record { core = new; tags = s.tags; current = o }) current

  goes : (l : Label) (new : Core) (m : ℕ) → Implements (Continues l new m) s.core r t.core → Returned (Continues l new m) s (answer_of r) t
  goes l new m h = (ap answer_of h.0, become new h.1)

  traps : (why : Trap) → Implements (Traps why) s.core r t.core → Returned (Traps why) s (answer_of r) t
  traps why h = (ap answer_of h.0, become s.core h.1)

  -- a rule that goes on or traps
  row : (a b d : Bool) (x y : Trap) (l : Label) (new : Core) (m : ℕ) → Implements (trap_if a x (trap_if b y (may d (Continues l new m)))) s.core r t.core →
      Returned (trap_if a x (trap_if b y (may d (Continues l new m)))) s (answer_of r) t
  row true b d x y l new m h = traps x h
  row false true d x y l new m h = traps y h
  row false false true x y l new m h = goes l new m h
  row false false false x y l new m h = absurd h

  pub returned : (n v : ℕ) (w : Option ℕ) → Implements (ret_rule SomeHost n v w s.core) s.core r t.core → Returns n v true s (answer_of r) t
  returned n v w h = (
    w,
    row (has_ended (task_of n s.core) s.core) (not (is_async_lifted (kind_of (task_of n s.core) s.core))) (may_tell (task_of n s.core) w s.core)
        trap.TaskCancelOrReturnTwice trap.TaskReturnInvalid (ret_label n v w) _ n h,
  )

  pub refused : (n v : ℕ) → Implements (ret_bad_rule n s.core) s.core r t.core → Returns n v false s (answer_of r) t
  refused n v h = go (has_ended (task_of n s.core) s.core) h
    where
      go : (b : Bool) → Implements (trap_if b trap.TaskCancelOrReturnTwice (Traps trap.TaskReturnInvalid)) s.core r t.core →
          Returned (trap_if b trap.TaskCancelOrReturnTwice (Traps trap.TaskReturnInvalid)) s (answer_of r) t
      go true h = traps _ h
      go false h = traps _ h
