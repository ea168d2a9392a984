-- What was driven is a run of the host.
use Rattle.std.proofs.Common.{ap, refl, subst, sym, ◌∙◌}
use Rattle.std.specs.Prelude.{List, [], length, ℕ, ◌≡◌, ◌≤◌}
use Rattle.laws_states.specs.Settings.{CodesInCallbacks}
use Rattle.machine_data.specs.Core.{State, Unscripted}
use Rattle.machine_data.specs.declared.label.Label.{Label}
use Rattle.machine_data.specs.declared.outcome.Outcome.{Outcome}
use Rattle.laws_places.proofs.OnceSteps.{runs_are_once}
use Rattle.laws_places.specs.Once.{RunsAreOnce}
use Rattle.machine_rules.specs.History.{history}
use Rattle.machine_rules.specs.Once.{EndsOnce}
use Rattle.machine_rules.specs.Outcome.{IsOutcome}
use Rattle.machine_rules.specs.Run.{Run}
use Rattle.machine_rules.specs.Stalled.{Setting}
use Rattle.task_run.specs.declared.scenario.Scenario.{Scenario}
use Rattle.ops_turns.specs.Drive.{Drives}
use Rattle.vatbramble_host.specs.HostRuns.{IsHostRunOf, host_opening, host_setting}

module _ (x : Scenario) (codes : CodesInCallbacks x.component) where
  once : (ls : List Label) (t : State) (run : Run (host_setting x) (host_opening x) ls t) → EndsOnce x.component (history (host_setting x) (host_opening x) ls t run)
  unfolding RunsAreOnce
  once ls t run = runs_are_once (host_setting x) codes x.rules (length x.component.instances) x.handles x.table Unscripted tt ls t run

  -- the setting, the first state and the trace before are named otherwise
  pub host_run : (y : Setting) (s : State) (before : List Label) (t : State) (after : List Label) (steps : ℕ) (o : Outcome) →
      y ≡ host_setting x → s ≡ host_opening x → before ≡ [] → Drives y s before t after steps o → IsHostRunOf x steps after o
  host_run y s before t after steps o setting start none drives =
      let d : Drives (host_setting x) (host_opening x) [] t after steps o =
      subst (λ (ls : List Label). Drives (host_setting x) (host_opening x) ls t after steps o) none (subst (λ (u : State). Drives (host_setting x) u before t after steps o) start (subst (λ (z : Setting). Drives z s before t after steps o) setting drives)) in
      let run = subst (λ (ls : List Label). Run (host_setting x) (host_opening x) ls t) (sym d.trace) d.run in
      record {
        last = t;
        run = run;
        few = subst (λ (ls : List Label). length ls ≤ steps) (sym d.trace) d.few;
        ends = subst (λ (ls : List Label). IsOutcome (host_setting x) t ls steps o) (sym d.trace) d.ends;
        once = once after t run;
      }
