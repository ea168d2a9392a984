-- What main did is shown by its label.
use Rattle.std.proofs.Common.{refl}
use Rattle.std.specs.Prelude.{List, Some, ◌≡◌}
use Rattle.machine_data.specs.Core.{Core, Main}
use Rattle.machine_data.specs.declared.component.Component.{Component}
use Rattle.machine_data.specs.declared.label.Label.{Label}
use Rattle.machine_data.specs.declared.label.Label.TheVariants as label
use Rattle.machine_data.specs.declared.label.MainLabel.TheVariants as main_label
use Rattle.machine_data.specs.declared.scenario.MainOpDef.{MainOpDef}
use Rattle.ops_turns.specs.Does.{label_of_step, step_shown}
use Rattle.ops_turns.specs.Main.{Did, Steps}
use Rattle.ops_turns.specs.declared.mains.MainStep.{MainStep}
use Rattle.ops_turns.specs.declared.mains.MainStep.TheVariants as step

-- an op of main is shown by its label
did_shown : (c : Component) (ops : List MainOpDef) (m : Main) (s : Core) (l : Label) (n : Main) (t : Core) → Did c ops m s l n t → step_shown l ≡ Some (step.Did l)
did_shown c ops m s (label.Main (main_label.Answer v)) n t h = absurd h.op
did_shown c ops m s (label.Main (main_label.Start k i)) n t h = refl
did_shown c ops m s (label.Main (main_label.StartRefused x k)) n t h = refl
did_shown c ops m s (label.Main (main_label.Finish k v)) n t h = refl
did_shown c ops m s (label.Main (main_label.FinishRefused x k)) n t h = refl
did_shown c ops m s (label.Main (main_label.Spawn k i)) n t h = refl
did_shown c ops m s (label.Main (main_label.Abort p k)) n t h = refl
did_shown c ops m s (label.Main (main_label.Await k)) n t h = refl
did_shown c ops m s (label.Main main_label.Quiet) n t h = refl
did_shown c ops m s (label.Main main_label.Ready) n t h = refl
did_shown c ops m s _ n t h = absurd h.op

-- and so is each step of it
pub steps_shown : (c : Component) (ops : List MainOpDef) (m : Main) (s : Core) (x : MainStep) (n : Main) (t : Core) → Steps c ops m s x n t → step_shown (label_of_step x) ≡ Some x
steps_shown c ops m s (step.Did l) n t h = did_shown c ops m s l n t h
steps_shown c ops m s step.Pends n t h = refl
steps_shown c ops m s (step.Answer v) n t h = refl
