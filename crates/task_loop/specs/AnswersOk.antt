-- What the hook that is told of groups answers in a run.
use Rattle.machine_data.specs.declared.records.Turn.{Turn}
use Rattle.machine_data.specs.Core.{Core}
use Rattle.laws_labels.specs.Own.{is_main_turn}
use Rattle.std.specs.Prelude.{Bool, List, None, Option, Some, [], false, true, ◌∷◌, ◌≡◌, length, ◌+◌, ◌≤◌}
use Rattle.task_group.specs.Listeners.{Listeners, ToldListeners, ToldWithHookOk, errors_of}
use Rattle.machine_data.specs.declared.label.Label.{Label}
use Rattle.machine_data.specs.declared.label.Label.TheVariants as label
use Rattle.machine_data.specs.declared.label.MainLabel.TheVariants as main_label
use Rattle.machine_rules.specs.History.{Moment}
use Rattle.machine_rules.specs.Notices.{finish_notices, moment_notices}
use Rattle.ops_turns.specs.declared.made.MadeStep.{MadeStep}

-- a start of main that is refused traps the store, and errors of what the hook is told then are passed over
abbrev pub is_refused : Label → Bool
is_refused (label.Main (main_label.StartRefused why k)) = true
is_refused _ = false

-- in what was told of the step that was made, if one was, the hook answered no error, unless it is a refused start
abbrev pub IsHookIsOk : Option MadeStep → Listeners → Listeners → Type 0
IsHookIsOk None old new = errors_of new ≡ errors_of old
IsHookIsOk (Some made) old new = is_refused made.label ≡ false → errors_of new ≡ errors_of old

-- Of the groups that were live in s, those that have finished and those that are live in t are no more than these were.
abbrev pub FewerGroups : Core → Core → Type 0
FewerGroups s t = length (finish_notices s.groups t.groups) + length t.groups ≤ length s.groups

-- so it is of a step in another turn than main's
abbrev pub FewerIn : Turn → Core → Core → Type 0
FewerIn p s t = is_main_turn p ≡ false → FewerGroups s t

-- The step's notices were told, and the hook answered no error to them, unless the step is a refused start.
pub record AnswersOkMoment (m : Moment) (old new : Listeners) : Type 0 where
  pub told : ToldListeners (moment_notices m) old new
  pub hook_is_ok : is_refused m.label ≡ false → errors_of new ≡ errors_of old
  pub fewer : FewerIn m.before.turn m.before.core m.after.core

-- so it was of each step, one after another
abbrev pub AnswersOkAll : List Moment → Listeners → Listeners → Type 0
AnswersOkAll [] old new = ToldWithHookOk [] old new
AnswersOkAll (m ∷ ms) old new = (next : Listeners) × (AnswersOkMoment m old next × AnswersOkAll ms next new)
