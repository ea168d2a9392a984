-- Runs beside aborters, put together, and those of the machine among them.
use Rattle.std.proofs.Common.{inl, refl, subst, sym}
use Rattle.std.specs.Prelude.{None, Option, Some, [], true, ◌∷◌, ◌≡◌}
use Rattle.laws_beside.specs.Laws.{OutcomesAreWide, RunsAreWide, WideRunGoesOn, WideRunsJoin}
use Rattle.laws_beside.specs.Wide.{Due, Going, IsWideOutcome, Made, Never, Round, StepBeside, StepsTo, Wide, WideRun, WideStep, is_past, settled, wide, wide_outcome_of}
use Rattle.machine_data.specs.Core.{State}
use Rattle.machine_data.specs.declared.label.Label.{Label}
use Rattle.machine_data.specs.declared.outcome.Outcome.{Outcome}
use Rattle.machine_rules.specs.Outcome.{IsOutcome, last_outcome, outcome_of}
use Rattle.machine_rules.specs.Stalled.{Setting}
use Rattle.machine_rules.specs.Step.{Step}

pub wide_run_goes_on : WideRunGoesOn
wide_run_goes_on x w [] m l v r step = (v, (subst (λ (y : Wide). WideStep x y l v) r step, refl))
wide_run_goes_on x w (k ∷ ks) m l v r step = (r.0, (r.1.0, wide_run_goes_on x r.0 ks m l v r.1.1 step))

pub wide_runs_join : WideRunsJoin
wide_runs_join x w [] m ks v r q = subst (λ (y : Wide). WideRun x y ks v) r q
wide_runs_join x w (l ∷ ls) m ks v r q = (r.0, (r.1.0, wide_runs_join x r.0 ls m ks v r.1.1 q))

-- ---- Where no round is to come

past_step : (x : Setting) (r : Round) (s : State) (l : Label) (t : State) → is_past r ≡ true → Step x s l t → WideStep x (wide s r) l (wide t r)
unfolding StepBeside WideStep settled
past_step x Never s l t past step = (t, (inl step, refl))
past_step x Made s l t past step = (t, (inl step, refl))
past_step x Due s l t past step = absurd (cc)
past_step x (Going n found) s l t past step = absurd (cc)

pub runs_are_wide : RunsAreWide
runs_are_wide x r s [] t past run = subst (λ (y : State). wide y r ≡ wide s r) (sym run) refl
runs_are_wide x r s (l ∷ ls) t past run = (wide run.0 r, (past_step x r s l run.0 past run.1.0, runs_are_wide x r run.0 ls t past run.1.1))

pub outcomes_are_wide : OutcomesAreWide
unfolding wide_outcome_of outcome_of
outcomes_are_wide x Never t ls steps o past is = by (last_outcome ls) is
  where
    by : (a : Option Outcome) → Rattle.machine_rules.specs.Outcome.or_open a x t ls steps ≡ Some o → Rattle.laws_beside.specs.Wide.or_open a x (wide t Never) ls steps ≡ Some o
    by None e = e
    by (Some b) e = e
outcomes_are_wide x Made t ls steps o past is = by (last_outcome ls) is
  where
    by : (a : Option Outcome) → Rattle.machine_rules.specs.Outcome.or_open a x t ls steps ≡ Some o → Rattle.laws_beside.specs.Wide.or_open a x (wide t Made) ls steps ≡ Some o
    by None e = e
    by (Some b) e = e
outcomes_are_wide x Due t ls steps o past is = absurd (cc)
outcomes_are_wide x (Going n found) t ls steps o past is = absurd (cc)
