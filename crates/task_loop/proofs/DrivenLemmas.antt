-- How far a run has come since it last yielded, once it was driven.
use Rattle.run_trace.specs.YieldBudget.{since_driven}
use Rattle.run_trace.specs.declared.yield_budget.YieldBudget.{YieldBudget}
use Rattle.std.proofs.Common.{ap, drop, length, refl, sym, ◌∙◌}
use Rattle.std.proofs.Math.Seq.{drop-append_seam}
use Rattle.std.specs.Prelude.{List, false, ℕ, ◌++◌, ◌≡◌}
use Rattle.task_loop.specs.YieldBudgets.{LeavesYieldBudget}
use Rattle.task_loop.specs.RunPolls.{since_left_by}
use Rattle.machine_data.specs.declared.label.Label.{Label}
use Rattle.machine_data.specs.declared.outcome.Outcome.{Outcome}
use Rattle.machine_data.specs.declared.outcome.Outcome.TheVariants as outcome
use Rattle.ops_turns.specs.Turn.{goes_on}

-- it ends a run, so nothing counts any more
pub none_left : (o : Outcome) (k : ℕ) → goes_on o ≡ false → since_left_by o k ≡ 0
none_left (outcome.Done v) k h = refl
none_left (outcome.Trap t) k h = refl
none_left (outcome.Deadlock t) k h = refl
none_left (outcome.HostFailed i) k h = refl
none_left outcome.Idle k h = absurd (cc)
none_left outcome.OutOfSteps k h = absurd (cc)

-- nothing counts but where it is idle
pub unless_idle : (o : Outcome) → (o ≡ outcome.Idle → ⊥) → (k : ℕ) → since_left_by o k ≡ 0
unless_idle (outcome.Done v) other k = refl
unless_idle (outcome.Trap t) other k = refl
unless_idle (outcome.Deadlock t) other k = refl
unless_idle (outcome.HostFailed i) other k = refl
unless_idle outcome.OutOfSteps other k = refl
unless_idle outcome.Idle other k = absurd (other refl)

module _ (before after added : List Label) (trace : after ≡ before ++ added) (o : Outcome) (yield_budget yield_budget' : YieldBudget) where
  -- it is idle: the labels of the drive are counted, which are from the end of those before on
  pub leaves_counted : o ≡ outcome.Idle → yield_budget'.since ≡ since_driven yield_budget.passes yield_budget.since (drop (length before) after) → yield_budget'.passes ≡ false → LeavesYieldBudget yield_budget added o yield_budget'
  leaves_counted idle since passes =
      let counted = since ∙ ap (λ (ls : List Label). since_driven yield_budget.passes yield_budget.since ls) (ap (λ (ls : List Label). drop (length before) ls) trace ∙ drop-append_seam before added) in
      record { since = rw idle counted; passes_on = passes }

  -- else none counts
  pub leaves_none : (o ≡ outcome.Idle → ⊥) → yield_budget'.since ≡ 0 → yield_budget'.passes ≡ false → LeavesYieldBudget yield_budget added o yield_budget'
  leaves_none other since passes = record { since = since ∙ sym (unless_idle o other _); passes_on = passes }
