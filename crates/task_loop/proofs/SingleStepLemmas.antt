-- One turn as a step of a run.
use Rattle.laws_states.specs.Order.{is_open}
use Rattle.machine_data.specs.declared.component.Component.{Component}
use Rattle.machine_data.specs.declared.component.HostDef.{HostDef}
use Rattle.machine_data.specs.declared.label.Label.{Label}
use Rattle.machine_data.specs.declared.records.Turn.{Turn}
use Rattle.ops_turns.specs.Does.{step_shown}
use Rattle.ops_turns.specs.StepResult.{is_made, turn_of}
use Rattle.ops_turns.specs.declared.made.StepResult.TheVariants as stepped
use Rattle.ops_turns.specs.declared.made.StepResult.{StepResult}
use Rattle.ops_turns.specs.Turn.{given}
use Rattle.std.proofs.Common.{ap, arith, refl, subst, sym, ◌*◌, ◌+◌, ◌∙◌, ◌≤◌}
use Rattle.std.specs.Prelude.{None, Some, true, ℕ, ◌≡◌}
use Rattle.task_loop.proofs.HasRunLemmas.{come_first, come_goes}
use Rattle.task_loop.proofs.RanLemmas.{last_same}
use Rattle.task_loop.specs.HasRun.{At, HasTurned, Keeps, MayRun}
use Rattle.task_loop.specs.Ran.{DoesStep}
use Rattle.task_loop.specs.Says.{Says}
use Rattle.task_loop.specs.SingleSteps.{StepsOnce}

module _ {M T H G : Type 0} (says : Says M) (course : H → HostDef) (c : Component) (a v : At M T H G) (r : ℕ) where
  pub once_made : MayRun says course c a → (q : StepResult) → is_made q ≡ true → HasTurned says course c q r a v → Keeps says a v → StepsOnce says course c (Some (turn_of q)) a (record v { turn = turn_of q })
  once_made may q made turned keeps =
      let t = turned.told.made made in
      let d = turned.did.made made in
      let same = last_same a.trace d.0.label t.0.label (sym d.1.0.0 ∙ t.1.0.0) in (
        t.0,
        (
          sym t.1.0.1,
          record {
            trace = t.1.0.0;
            turn = sym t.1.0.1;
            told = t.1.1;
            did = subst (λ (l : Label). DoesStep says.does a.main a.store.state.core (step_shown l) v.main v.store.state.core) same d.1.1;
            may_turn = λ goes_on.
                let come = come_goes says course c a a 0 (come_first says course c a may) v r q made (ap is_open (sym t.1.0.1) ∙ goes_on) turned keeps in
                record {
                  order = come.on.at.order;
                  settled = come.on.at.settled;
                  running = come.on.at.running;
                  pends = come.on.pends;
                  suits = come.suits;
                  knows = come.knows;
                  works = come.works;
                  asked = come.asked;
                };
            numbers = λ goes_on.
                let come = come_goes says course c a a 0 (come_first says course c a may) v r q made (ap is_open (sym t.1.0.1) ∙ goes_on) turned keeps in
                let few : given v.store.state.core ≤ given a.store.state.core + 2 * (0 + 1) = come.on.few in
                omega (arith, few);
          },
        ),
      )

  pub once_idle : HasTurned says course c stepped.Nothing r a v → StepsOnce says course c None a v
  once_idle turned =
      let none = turned.told.nothing refl in
      record {
        rests = none.0.turned.0;
        turn = turned.turn;
        main = (turned.did.nothing refl).0;
        state = none.0.turned.1.1;
        told = record { told = none.0.told; hook_is_ok = none.0.hook_is_ok };
        trace = none.1;
        works = turned.works;
      }
