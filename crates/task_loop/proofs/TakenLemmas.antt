-- Turns in which main has no part, as the loop tells of them.
use Rattle.store_notices.specs.declared.tells.GroupsBefore.{GroupsBefore}
use Rattle.std.proofs.Common.{refl, ◌∙◌, ◌≡◌, sym}
use Rattle.std.specs.Prelude.{[], ◌++◌, ◌∷◌, Bool, List, None, Option, Some, false, true, ℕ}
use Rattle.task_group.specs.Listeners.{Listeners, errors_of}
use Rattle.task_loop.proofs.ToldLemmas.{current_is, none_told, other_told, turns_asked, turns_runs}
use Rattle.task_loop.proofs.TurnTellLemmas.{turns_part}
use Rattle.task_loop.specs.Told.{TellsPart, TellsTurn, TurnTold, current_group, group_running, turn_of}
use Rattle.machine_data.specs.Core.{Core, Main, Unscripted}
use Rattle.machine_data.specs.declared.label.Label.{Label}
use Rattle.machine_data.specs.declared.records.Turn.{Turn}
use Rattle.machine_data.specs.declared.records.Turn.TheVariants as turn
use Rattle.machine_rules.specs.Stalled.{Setting}
use Rattle.machine_data.specs.declared.component.Component.{Component}
use Rattle.core_primitives.specs.Groups.{IsAsked, asked}
use Rattle.ops_turns.proofs.SteppedLemmas.{of_full}
use Rattle.ops_turns.specs.StepResult.{Added, AddedOrNone, IsFull, IsInTrace, MatchStep, is_made}
use Rattle.ops_turns.specs.Turn.{PendsIn, Turned, TurnedBeside, Turns, setting_of}
use Rattle.ops_turns.specs.declared.made.MadeStep.{MadeStep}
use Rattle.ops_turns.specs.declared.made.StepResult.{StepResult}
use Rattle.ops_turns.specs.declared.made.StepResult.TheVariants as stepped
use Rattle.core_primitives.specs.StateView.{StateView}

-- the label of what was made was added
pub stands_adds : (q : StepResult) (before : List Label) (made : MadeStep) (after : List Label) → IsInTrace q before made after → after ≡ before ++ made.label ∷ []
stands_adds q before made after h = h.0

-- a step of whatever main is one of this
pub any_turns : (x : Setting) (p : Turn) (m : Main) (s t : StateView) (q : StepResult) (before after : List Label) → PendsIn x s.core m p →
    Added (λ (made : MadeStep). (y : Setting) → (k : Main) → PendsIn y s.core k p → Turns y p k s made k t) q before after → Added (λ (made : MadeStep). Turns x p m s made m t) q before after
any_turns x p m s t q before after pends h = (h.0, (h.1.0, h.1.1 x m pends))

pends_take : (x : Setting) (s : Core) (b : Bool) → PendsIn x s Unscripted (turn.Take b)
pends_take x s true = tt
pends_take x s false = refl

-- where nothing was made nothing is changed
pub none_kept : (c : Component) (b ended : Bool) (s t : StateView) → TurnedBeside c b (turn.Take ended) s None t → t ≡ s
none_kept c b ended s t turned = let x = setting_of c [] b in (turned x refl refl Unscripted (pends_take x s.core ended)).1.1

-- ---- No step was made

-- it is out of memory
pub of_unmade : {M N F H : Type 0} {before after : List Label} (q : StepResult) → is_made q ≡ false → IsFull q before after → (after ≡ before → F) → MatchStep M N F H q
of_unmade q unmade is lost = of_full q (λ made. absurd (let no = sym unmade ∙ made in cc)) (λ none. is) lost

-- ---- An entry is taken

-- what was made was made once it was told
pub turned_asked : (c : Component) (b : Bool) (p : Turn) (s t u : StateView) → u ≡ asked t → (q : StepResult) (before after : List Label) → Added (λ made. TurnedBeside c b p s (Some made) t) q before after →
    Added (λ made. TurnedBeside c b p s (Some made) u) q before after
turned_asked c b p s t u is q before after h = (h.0, (h.1.0, λ x same idle m pends. turns_asked x p m s h.0 m t u is (h.1.1 x same idle m pends)))

pub turned_part : (a : GroupsBefore) (c : Component) (b : Bool) (p : Turn) (s t u : StateView) (old new : Listeners) → TellsPart a t u old new → (q : StepResult) (before after : List Label) → Added (λ made. TurnedBeside c b p s (Some made) t) q before after →
    Added (λ made. TurnedBeside c b p s (Some made) u) q before after
turned_part a c b p s t u old new told q before after h = (h.0, (h.1.0, λ x same idle m pends. turns_part a t u old new told x p m s h.0 m (h.1.1 x same idle m pends)))

module _ (x : Setting) (ended : Bool) (m : Main) (s t : StateView) (before after : List Label) where
  abbrev p : Turn
  p = turn.Take ended

  abbrev IsTurned : StepResult → Type 0
  IsTurned q = AddedOrNone (λ (made : Option MadeStep). Turned x p m s made m t) q before after

  pub taken_running : (running : ℕ) (q : StepResult) → IsTurned q → (is_made q ≡ true → running ≡ current_group t) → is_made q ≡ true → running ≡ group_running t (turn_of q)
  taken_running running q turned is made = is made ∙ current_is t (turn_of q) (turns_runs x p m s m t q before after (turned.made made))

  pub taken_told : (old new : Listeners) (q : StepResult) → IsAsked s → IsTurned q → (q ≡ stepped.Nothing → new ≡ old) → (is_made q ≡ true → TellsTurn s p t old new) →
      (is_made q ≡ true → errors_of new ≡ errors_of old) → AddedOrNone (λ (made : Option MadeStep). TurnTold x p m s old made m t new) q before after
  taken_told old new q is turned none told hook_is_ok =
      record {
        made = λ e. other_told x p refl m s is old m t new (told e) q before after (turned.made e) (hook_is_ok e);
        nothing = λ e. none_told x p m s old m t new before after (none e) (turned.nothing e);
        full = turned.full;
        failed = turned.failed;
      }
