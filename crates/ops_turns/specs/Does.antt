-- The steps of main that labels show.
use Rattle.std.specs.Prelude.{None, Option, Some}
use Rattle.machine_data.specs.declared.label.Label.{Label}
use Rattle.machine_data.specs.declared.label.Label.TheVariants as label
use Rattle.machine_data.specs.declared.label.LoopLabel.TheVariants as loop_label
use Rattle.machine_data.specs.declared.label.MainLabel.TheVariants as main_label
use Rattle.ops_turns.specs.declared.made.MadeStep.{MadeStep}
use Rattle.ops_turns.specs.declared.mains.MainStep.{MainStep}
use Rattle.ops_turns.specs.declared.mains.MainStep.TheVariants as step

-- the label of a step of main
abbrev pub label_of_step : MainStep → Label
label_of_step (step.Did l) = l
label_of_step step.Pends = label.Loop loop_label.MainPends
label_of_step (step.Answer v) = label.Main (main_label.Answer v)

-- the step of main that the label shows
abbrev pub step_shown : Label → Option MainStep
step_shown (label.Main (main_label.Answer v)) = Some (step.Answer v)
step_shown (label.Main l) = Some (step.Did (label.Main l))
step_shown (label.Loop loop_label.MainPends) = Some step.Pends
step_shown _ = None

-- the one that what was made shows
abbrev pub step_of : Option MadeStep → Option MainStep
step_of None = None
step_of (Some made) = step_shown made.label
