-- No host of a scenario's text is open.
use Rattle.machine_data.specs.Read.{is_open}
use Rattle.machine_rules.specs.Scripts.{HasOpen, never_host}
use Rattle.std.proofs.Common.{refl, subst}
use Rattle.std.specs.Prelude.{Bool, List, [], false, map, slice_get, suc, true, unwrap_or, zero, ℕ, ◌∷◌, ◌≡◌}
use Rattle.task_run.specs.Lower.{Reads, host_def, scenario_of, work_def}
use Rattle.task_run.specs.declared.scenario.Scenario.{Scenario}
use Rattle.text_lines.specs.declared.line.HostWork.TheVariants as work
use Rattle.text_lines.specs.declared.line.HostWork.{HostWork}
use Rattle.text_scenario.specs.declared.tree.HostText.{HostText}

closed_work : (w : HostWork) → is_open (work_def w) ≡ false
closed_work (work.Value n v) = refl
closed_work (work.Fail n) = refl
closed_work work.Never = refl

closed_at : (hosts : List HostText) (h : ℕ) → is_open (unwrap_or (slice_get (map (λ t. host_def t) hosts) h) never_host) ≡ false
closed_at [] h = refl
closed_at (t ∷ hosts) zero = closed_work t.work
closed_at (t ∷ hosts) (suc h) = closed_at hosts h

pub closed_read : (text : List ℕ) (x : Scenario) → Reads text x → HasOpen x.component → ⊥
closed_read text x reads some = by (subst (λ (y : Scenario). HasOpen y.component) reads.2 some)
  where
    both : (b : Bool) → b ≡ false → b ≡ true → ⊥
    both b none there = absurd (cc)

    by : HasOpen (scenario_of reads.0).component → ⊥
    by some = both (is_open (unwrap_or (slice_get (map (λ t. host_def t) reads.0.hosts) some.0) never_host)) (closed_at reads.0.hosts some.0) some.1
