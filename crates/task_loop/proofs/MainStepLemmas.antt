-- What main did makes the step that is shown.
use Rattle.laws_labels.specs.Tells.{is_start}
use Rattle.ops_state.specs.declared.error.TaskError.{TaskError}
use Rattle.ops_state.specs.declared.error.TaskError.TheVariants as task_error
use Rattle.std.proofs.Common.{ap, inl, inr, refl, subst, sym, ◌∙◌}
use Rattle.std.specs.Prelude.{Bool, List, None, Some, false, true, ◌≡◌}
use Rattle.task_group.specs.Listeners.{ToldListeners, errors_of}
use Rattle.task_loop.proofs.DoesLemmas.{step_in}
use Rattle.task_loop.proofs.HookLemmas.{knows_trapped, stops_main}
use Rattle.task_loop.proofs.LackLemmas.{failed_tells}
use Rattle.task_loop.proofs.MainToldLemmas.{asked_step, told_step}
use Rattle.task_loop.proofs.ToldLemmas.{idle_at, idle_running, main_moment, stands_turn}
use Rattle.task_loop.specs.HasRun.{FailsTurn, HasStepResult, HasTurned, LacksTurn, MayStep, at_main}
use Rattle.task_loop.specs.AnswersOk.{is_refused}
use Rattle.task_loop.specs.Hooked.{FailsMain, MainFails}
use Rattle.task_loop.specs.Says.{Says}
use Rattle.task_loop.specs.Ran.{DoesStep}
use Rattle.task_loop.specs.Told.{TellsSome, TurnTold, group_running, main_notices}
use Rattle.machine_data.specs.Core.{Main}
use Rattle.machine_data.specs.declared.component.Component.{Component}
use Rattle.machine_data.specs.declared.component.HostDef.{HostDef}
use Rattle.machine_data.specs.declared.label.Label.{Label}
use Rattle.machine_data.specs.declared.records.Notice.{Notice}
use Rattle.machine_data.specs.declared.records.Turn.TheVariants as turn
use Rattle.machine_data.specs.declared.trap.Trap.{Trap}
use Rattle.machine_rules.specs.Stalled.{Setting}
use Rattle.core_primitives.specs.Groups.{IsAsked}
use Rattle.task_store.specs.Hosts.{HoldsHosts}
use Rattle.task_store.specs.declared.store.Store.{Store}
use Rattle.ops_turns.proofs.DoesLemmas.{steps_shown}
use Rattle.ops_turns.specs.Does.{step_shown, label_of_step}
use Rattle.ops_turns.specs.Later.{WorksLast}
use Rattle.ops_turns.specs.Main.{Steps}
use Rattle.ops_turns.proofs.SteppedLemmas.{of_made}
use Rattle.ops_turns.specs.StepResult.{Added, IsInTrace, is_made}
use Rattle.ops_turns.specs.Turn.{Turns, running_of, setting_of}
use Rattle.ops_turns.specs.declared.made.MadeStep.{MadeStep}
use Rattle.ops_turns.specs.declared.made.StepResult.{StepResult}
use Rattle.ops_turns.specs.declared.mains.MainStep.{MainStep}
use Rattle.core_primitives.specs.StateView.{StateView}

module _ {M T H G : Type 0} (says : Says M) (course : H → HostDef) (c : Component) where
  -- ---- What a main shows of its own step

  -- it is no start, and the listeners and the tracked groups are as before
  pub stepped_quietly : (q : MainStep) (m : M) (s : Store T H G) (n : M) (t : Store T H G) → t.listeners ≡ s.listeners → t.state.tags.tracked ≡ s.state.tags.tracked →
      Steps c (says.script m) (says.part m) s.state.core q (says.part n) t.state.core → is_start (label_of_step q) ≡ false → IsAsked s.state → running_of t.state ≡ running_of s.state → says.does m s.state.core q n t.state.core → says.suits n c → says.knows n t.state → HoldsHosts course t → HasStepResult says course c q m s n t
  stepped_quietly q m s n t same known steps quiet is idle does suits knows works = record {
    steps = steps;
    does = does;
    told = told_step c (says.script m) (says.part m) s.state (says.part n) t.state s.listeners t.listeners same q steps quiet;
    hook_is_ok = λ unrefused. ap errors_of same;
    idle = idle;
    suits = suits;
    knows = knows;
    works = works;
    asked = asked_step c (says.script m) (says.part m) s.state (says.part n) t.state s.listeners t.listeners same known q steps quiet is;
  }

  -- nor is anything else of the store changed
  pub stepped_still : (q : MainStep) (m : M) (s : Store T H G) (n : M) → MayStep says course c m s → Steps c (says.script m) (says.part m) s.state.core q (says.part n) s.state.core → is_start (label_of_step q) ≡ false →
      says.does m s.state.core q n s.state.core → says.suits n c → says.knows n s.state → HasStepResult says course c q m s n s
  stepped_still q m s n may steps quiet does suits knows = stepped_quietly q m s n s refl refl steps quiet may.asked refl does suits knows may.works

  -- ---- What the loop makes of it

  -- what main did is a turn, which was made into the step that is shown
  pub step_turned : (x y : MainStep) → x ≡ y → (m : M) (s : Store T H G) (n : M) (t : Store T H G) → HasStepResult says course c x m s n t → running_of s.state ≡ None → (made : MadeStep) → made.label ≡ label_of_step y →
      ((z : Setting) → (k l : Main) → (v : StateView) → Steps z.component z.script k v.core y l t.state.core → Turns z turn.Main k v made l t.state) → (q : StepResult) (before after : List Label) → is_made q ≡ true → IsInTrace q before made after → (idle : Bool) →
      HasTurned says course c q 0 (at_main idle m s before) (at_main idle n t after)
  step_turned x y is m s n t did none made label turns q before after shown in_trace idle =
      let z = setting_of c (says.script m) idle in
      let label : made.label ≡ label_of_step x = label ∙ ap label_of_step (sym is) in
      let turned : Turns z turn.Main (says.part m) s.state made (says.part n) t.state = turns z (says.part m) (says.part n) s.state
      (subst (λ (w : MainStep). Steps c (says.script m) (says.part m) s.state.core w (says.part n) t.state.core) is did.steps) in
      let none_then = idle_at made.turn t.state.core (running_of t.state) turned.running (did.idle ∙ none) in
      record {
        turn = refl;
        told = of_made {M = Added (λ step. TurnTold z turn.Main (says.part m) s.state s.listeners (Some step) (says.part n) t.state t.listeners) q before after} q shown (
          made,
          (
            in_trace,
            record {
              turned = turned;
              told = subst (λ (ns : List Notice). ToldListeners ns s.listeners t.listeners)
                  (sym (main_moment c (says.script m) (says.part m) s.state.core (says.part n) t.state.core x did.steps made.label label made.turn none_then)) did.told;
              hook_is_ok = λ e. did.hook_is_ok (ap is_refused (sym label) ∙ e);
              fewer = λ other. absurd (cc);
            },
          ),
        );
        did = of_made {M = Added (λ step. DoesStep says.does m s.state.core (step_shown step.label) n t.state.core) q before after} q shown (made, (in_trace, step_in says.does m n s.state.core t.state.core x made.label label (steps_shown c (says.script m) (says.part m) s.state.core x (says.part n) t.state.core did.steps) did.does));
        group = λ yes. sym (ap (group_running t.state) (sym (stands_turn q before made after in_trace)) ∙ idle_running t.state made.turn turned.running (did.idle ∙ none));
        suits = did.suits;
        knows = did.knows;
        works = did.works;
        asked = did.asked;
      }

  -- it was out of memory, and main may have told some notices
  pub lacks_main : (m : M) (s : Store T H G) (n : M) (t : Store T H G) → TellsSome s.listeners t.listeners → (before after : List Label) → after ≡ before → (idle : Bool) → LacksTurn says course c (at_main idle m s before) (at_main idle n t after)
  lacks_main m s n t told before after same idle = record { trace = same; wants = tt; image = λ other. absurd (cc); main = λ other. absurd (cc); untold = λ other. absurd (cc); told = told; groups = λ other. absurd (cc) }

  -- those of a step that was done are such
  pub stepped_tells : (q : MainStep) (m : M) (s : Store T H G) (n : M) (t : Store T H G) → HasStepResult says course c q m s n t → TellsSome s.listeners t.listeners
  stepped_tells q m s n t did = (main_notices q s.state.core t.state.core, did.told)

  -- nor are others told by an op that isn't done
  pub fails_telling : (e : TaskError) (m n : M) (s t : Store T H G) → FailsMain course e m n s t → TellsSome s.listeners t.listeners
  fails_telling e m n s t (inl lacks) = lacks.1
  fails_telling e m n s t (inr hook) = failed_tells s.state.core s.listeners t.listeners hook.1.fails

  -- main's op came to a trap, as the hook failed
  pub step_failed : (e : TaskError) (w : Trap) → e ≡ task_error.Trap w → (m : M) (s : Store T H G) (n : M) (t : Store T H G) → FailsMain course e m n s t → ((u : StateView) → WorksLast s.state u → says.knows m s.state → says.knows m u) →
      says.knows m s.state → (before after : List Label) → after ≡ before → (idle : Bool) → FailsTurn says course c (at_main idle m s before) (at_main idle n t after)
  step_failed e w is m s n t fails stays knows before after same idle =
      let q = fails_main e w is m n s t fails in
      record {
        stops = stops_main course says.part (setting_of c (says.script m) idle) turn.Main refl m n before after same s t q;
        main = q.main;
        knows = knows_trapped says.knows m n s.state t.state q.main q.state stays knows;
        works = q.hosts;
      }
    where
      fails_main : (e : TaskError) (w : Trap) → e ≡ task_error.Trap w → (m n : M) (s t : Store T H G) → FailsMain course e m n s t → MainFails course m n s t
      fails_main e w is m n s t (inl lacks) = absurd (let memory = lacks.0 in cc)
      fails_main e w is m n s t (inr q) = q.1
