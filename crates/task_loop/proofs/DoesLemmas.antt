-- At another turn than its own main did nothing.
use Rattle.laws_labels.proofs.TurnLemmas.{main_at_its_turns}
use Rattle.laws_labels.specs.Own.{is_main_turn, is_of_main}
use Rattle.std.proofs.Common.{ap, refl, subst, sym, ◌∙◌}
use Rattle.std.specs.Prelude.{Bool, Err, List, None, Ok, OnErr, OnOk, Option, Result, Some, false, ℕ, ◌≡◌}
use Rattle.task_loop.specs.Ran.{DoesStep}
use Rattle.machine_data.specs.Core.{Core, Main}
use Rattle.machine_data.specs.declared.label.Label.{Label}
use Rattle.machine_data.specs.declared.label.Label.TheVariants as label
use Rattle.machine_data.specs.declared.label.LoopLabel.TheVariants as loop_label
use Rattle.machine_data.specs.declared.records.Turn.{Turn}
use Rattle.machine_data.specs.declared.records.Turn.TheVariants as turn
use Rattle.machine_rules.specs.Stalled.{Setting}
use Rattle.ops_turns.proofs.SteppedLemmas.{none_as}
use Rattle.ops_turns.specs.Does.{label_of_step, step_of, step_shown}
use Rattle.ops_turns.specs.StepResult.{AddedOrNone}
use Rattle.ops_turns.specs.Turn.{MakesStep, PendsIn, Turned, TurnedBeside, Turns, idle_line_of, state_at}
use Rattle.ops_turns.specs.declared.made.MadeStep.{MadeStep}
use Rattle.ops_turns.specs.declared.made.StepResult.{StepResult}
use Rattle.ops_turns.specs.declared.mains.MainStep.{MainStep}
use Rattle.core_primitives.specs.StateView.{StateView}

others_show_none : (l : Label) → is_of_main l ≡ false → None ≡ step_shown l
others_show_none (label.Main l) h = absurd (cc)
others_show_none (label.Loop loop_label.MainPends) h = absurd (cc)
others_show_none (label.Loop _) h = refl
others_show_none _ h = refl

module _ {M : Type 0} (does : M → Core → MainStep → M → Core → Type 0) (m : M) (x : Setting) (k : Main) (s t : StateView) where
  pub still : (p : Turn) → is_main_turn p ≡ false → (made : MadeStep) → Turns x p k s made k t → DoesStep does m s.core (step_shown made.label) m t.core
  still p other made turns =
      let shows = main_at_its_turns x (state_at s.core k p) made.label (state_at t.core k made.turn) turns.step ∙ other in
      subst (λ (o : Option MainStep). DoesStep does m s.core o m t.core) (others_show_none made.label shows) refl

  pub still_run : (n : ℕ) (made : MadeStep) → MakesStep x.component (turn.Run n) s made t → DoesStep does m s.core (step_shown made.label) m t.core
  still_run n made makes =
      let shows = main_at_its_turns x (state_at s.core k (turn.Run n)) made.label (state_at t.core k made.turn) (makes.step x refl k) in
      subst (λ (o : Option MainStep). DoesStep does m s.core o m t.core) (others_show_none made.label shows) refl

  still_turned : (ended : Bool) (o : Option MadeStep) → Turned x (turn.Take ended) k s o k t → DoesStep does m s.core (step_of o) m t.core
  still_turned ended None h = refl
  still_turned ended (Some made) h = still (turn.Take ended) refl made h

  pub still_taken : (b ended : Bool) (q : StepResult) (before after : List Label) → x.idle ≡ idle_line_of b → PendsIn x s.core k (turn.Take ended)
      → AddedOrNone (λ made. TurnedBeside x.component b (turn.Take ended) s made t) q before after → AddedOrNone (λ made. DoesStep does m s.core (step_of made) m t.core) q before after
  still_taken b ended q before after idle pends turned =
      none_as (λ (made : Option MadeStep). TurnedBeside x.component b (turn.Take ended) s made t) (λ (made : Option MadeStep). DoesStep does m s.core (step_of made) m t.core) q before after
      (λ made h. still_turned ended made (h x refl idle k pends)) turned

not_main : (p : Turn) → (p ≡ turn.Main → ⊥) → is_main_turn p ≡ false
not_main turn.Main other = absurd (other refl)
not_main _ other = refl

-- a label of another turn than main's shows no step of main
pub others_shown : (x : Setting) (k k' : Main) (s t : StateView) (p : Turn) → (p ≡ turn.Main → ⊥) → (made : MadeStep) → Turns x p k s made k' t → None ≡ step_shown made.label
others_shown x k k' s t p other made turns =
    others_show_none made.label (main_at_its_turns x (state_at s.core k p) made.label (state_at t.core k' made.turn) turns.step ∙ not_main p other)

-- the step that a label shows, where it shows it
pub step_in : {M : Type 0} (does : M → Core → MainStep → M → Core → Type 0) (m n : M) (s t : Core) (step : MainStep) (l : Label) → l ≡ label_of_step step → step_shown (label_of_step step) ≡ Some step → does m s step n t →
    DoesStep does m s (step_shown l) n t
step_in does m n s t step l label shown did = subst (λ (o : Option MainStep). DoesStep does m s o n t) (sym (ap step_shown label ∙ shown)) did

-- what is so anyhow is so after an error
pub on_err : {A E : Type 0} (r : Result A E) (P : Type 0) → P → OnErr r P
on_err (Ok v) P h = tt
on_err (Err e) P h = h

pub on_ok : {A E : Type 0} (r : Result A E) (P : Type 0) → P → OnOk r P
on_ok (Ok v) P h = h
on_ok (Err e) P h = tt
