-- One run that was added to a trace, what was told in it, and what main did in it.
use Rattle.std.specs.Prelude.{List, None, Option, Some, [], ◌++◌, ◌∷◌, ◌≡◌}
use Rattle.task_group.specs.Listeners.{Listeners}
use Rattle.task_loop.specs.AnswersOk.{AnswersOkAll}
use Rattle.machine_data.specs.Core.{Core, State}
use Rattle.machine_data.specs.declared.label.Label.{Label}
use Rattle.machine_rules.specs.History.{Moment, history}
use Rattle.machine_rules.specs.Run.{Run}
use Rattle.machine_rules.specs.Stalled.{Setting}
use Rattle.ops_turns.specs.Does.{step_shown}
use Rattle.ops_turns.specs.declared.mains.MainStep.{MainStep}

module _ {M : Type 0} (does : M → Core → MainStep → M → Core → Type 0) where
  -- main did this step, or none
  abbrev pub DoesStep : M → Core → Option MainStep → M → Core → Type 0
  DoesStep m s None n t = n ≡ m
  DoesStep m s (Some step) n t = does m s step n t

  -- main did the step that this step of the machine shows, if it shows one
  abbrev pub DoesMoment : Moment → M → M → Type 0
  DoesMoment k m n = DoesStep m k.before.core (step_shown k.label) n k.after.core

  -- so it was of each step, one after another
  abbrev pub DoesAll : List Moment → M → M → Type 0
  DoesAll [] m n = n ≡ m
  DoesAll (k ∷ ks) m n = (mid : M) × (DoesMoment k m mid × DoesAll ks mid n)

-- A run was added to the trace. The listeners were told what it gives, and main did just the steps that it shows.
pub record Ran {M : Type 0} (does : M → Core → MainStep → M → Core → Type 0) (x : Setting) (s : State) (m : M) (before : List Label)
    (old : Listeners) (t : State) (n : M) (after : List Label) (new : Listeners) : Type 0 where
  -- its labels, which follow in the trace those before
  pub added : List Label
  pub trace : after ≡ before ++ added
  -- the machine may show them from the state before, and then is in the state after
  pub run : Run x s added t
  -- the notices of each step were told as it was made, and the hook answered no error but to a refused start
  pub answers_ok : AnswersOkAll (history x s added t run) old new
  -- main did the steps of main among them, in their order, each from the core before it to the core after it, and no other
  pub mains : DoesAll does (history x s added t run) m n
