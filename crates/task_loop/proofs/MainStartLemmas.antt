-- What the start of a call is as a step of main.
use Rattle.store_notices.specs.Moves.{finishes}
use Rattle.ops_state.specs.declared.error.TaskError.{TaskError}
use Rattle.ops_state.specs.declared.error.TaskError.TheVariants as task_error
use Rattle.std.proofs.Common.{ap, inr, refl, subst, sym, ◌∙◌}
use Rattle.std.specs.Prelude.{Bool, Err, List, Ok, ℕ, ◌∷◌, ◌≡◌}
use Rattle.ops_calls.specs.MainCalls.{Starts}
use Rattle.task_group.specs.Listeners.{ToldListeners}
use Rattle.task_loop.proofs.CallStartLemmas.{stop_fails}
use Rattle.task_loop.proofs.MainToldLemmas.{refused_notices, started_notices}
use Rattle.task_loop.proofs.StartLemmas.{start_current}
use Rattle.task_loop.proofs.ToldLemmas.{running_asked}
use Rattle.task_loop.specs.CallStarts.{HasStarted, KeepsStore, StopsUnmade}
use Rattle.task_loop.specs.HasRun.{HasStepResult, MayStep}
use Rattle.task_loop.specs.Hooked.{FailsMain}
use Rattle.task_loop.specs.Says.{Says}
use Rattle.task_loop.specs.Told.{main_notices}
use Rattle.task_loop.specs.declared.call.FuncCallConcurrent.{FuncCallConcurrent}
use Rattle.machine_data.specs.Write.{set_trapped}
use Rattle.machine_data.specs.declared.component.Callee.{Callee}
use Rattle.machine_data.specs.declared.component.Component.{Component}
use Rattle.machine_data.specs.declared.component.HostDef.{HostDef}
use Rattle.machine_data.specs.declared.label.Label.TheVariants as label
use Rattle.machine_data.specs.declared.label.MainLabel.TheVariants as main_label
use Rattle.machine_data.specs.declared.records.Notice.{Notice}
use Rattle.machine_data.specs.declared.trap.Trap.{Trap}
use Rattle.machine_data.specs.declared.trap.Trap.TheVariants as trap
use Rattle.machine_rules.specs.MainOps.{start_refusal}
use Rattle.task_store.specs.declared.store.Store.{Store}
use Rattle.ops_turns.specs.Main.{Steps}
use Rattle.ops_turns.specs.declared.mains.MainStep.{MainStep}
use Rattle.ops_turns.specs.declared.mains.MainStep.TheVariants as step
use Rattle.ops_turns.specs.Turn.{running_of}
use Rattle.core_primitives.specs.Groups.{asked}
use Rattle.core_primitives.specs.StateView.{StateView, on_core}

-- the step that shows the start of the call with this number and thread
abbrev pub shows_start : (k thread : ℕ) → MainStep
shows_start k thread = step.Did (label.Main (main_label.Start k thread))

-- and one that shows why it was refused
abbrev pub shows_refusal : (k : ℕ) → Trap → MainStep
shows_refusal k why = step.Did (label.Main (main_label.StartRefused why k))

module _ {M T H G : Type 0} (says : Says M) (course : H → HostDef) (c : Component) (e : Callee) (words : List ℕ) (m : M) (s : Store T H G) (may : MayStep says course c m s) (t : Store T H G) (keeps : KeepsStore c s t) (k : ℕ) where
  -- the call was made
  pub start_stepped : (call : FuncCallConcurrent) → HasStarted c e words s call t → (thread : ℕ) → thread ≡ call.thread → (n : M) → Steps c (says.script m) (says.part m) s.state.core (shows_start k thread) (says.part n) t.state.core →
      says.does m s.state.core (shows_start k thread) n t.state.core → says.suits n c → says.knows n t.state → HasStepResult says course c (shows_start k thread) m s n t
  start_stepped call has thread is n steps does suits knows =
      let started = started_notices c e words s.state t.state k (start_refusal s.state.core) call.thread has.starts in
      record {
        steps = steps;
        does = does;
        told = subst (λ (i : ℕ). ToldListeners (main_notices (shows_start k i) s.state.core t.state.core) s.listeners t.listeners) (sym is)
            (subst (λ (ns : List Notice). ToldListeners ns s.listeners t.listeners) started has.begun.told);
        hook_is_ok = λ unrefused. has.begun.hook_is_ok;
        idle = start_current c e words s.state t.state (start_refusal s.state.core) (Ok call.thread) may.idle has.starts ∙ sym may.idle;
        suits = suits;
        knows = knows;
        works = keeps.works course may.works;
        asked = keeps.asked may.asked;
      }

  -- the machine refused it, and all groups were told that they finish
  pub refusal_stepped : (why : Trap) → Starts c e words s.state (start_refusal s.state.core) (Err (task_error.Trap why)) (on_core set_trapped s.state) → t.state ≡ asked (on_core set_trapped s.state) →
      ToldListeners (finishes s.state.tags.tracked) s.listeners t.listeners → (n : M) → Steps c (says.script m) (says.part m) s.state.core (shows_refusal k why) (says.part n) t.state.core →
      says.does m s.state.core (shows_refusal k why) n t.state.core → says.suits n c → says.knows n t.state → HasStepResult says course c (shows_refusal k why) m s n t
  refusal_stepped why starts state told n steps does suits knows =
      let refused = refused_notices c e words s.state (on_core set_trapped s.state) k (start_refusal s.state.core) why starts in
      let trapped = start_current c e words s.state (on_core set_trapped s.state) (start_refusal s.state.core) (Err (task_error.Trap why)) may.idle starts in
      record {
        steps = steps;
        does = does;
        told = subst (λ (ns : List Notice). ToldListeners ns s.listeners t.listeners)
            (ap finishes may.asked ∙ (refused ∙ sym (ap (λ (v : StateView). main_notices (shows_refusal k why) s.state.core v.core) state))) told;
        hook_is_ok = λ unrefused. absurd (cc);
        idle = ap running_of state ∙ (running_asked (on_core set_trapped s.state) ∙ (trapped ∙ sym may.idle));
        suits = suits;
        knows = knows;
        works = keeps.works course may.works;
        asked = keeps.asked may.asked;
      }

  -- the hook failed: that is answered, and main is as it was
  pub start_failed : (listens : Bool) (r why : TaskError) → StopsUnmade listens s why t → r ≡ task_error.Trap trap.HookFailed → why ≡ task_error.Trap trap.HookFailed → FailsMain course r m m s t
  start_failed listens r why stops is failed =
      inr (
        is,
        record {
          main = refl;
          state = stops.state;
          hosts = keeps.works course may.works;
          fails = stop_fails why s.state s.listeners t.listeners stops.told may.asked failed;
        },
      )
