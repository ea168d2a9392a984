-- What a main may do in one step.
use Rattle.std.specs.Prelude.{List, true, ℕ, ◌≡◌}
use Rattle.machine_data.specs.Core.{Core, Main}
use Rattle.machine_data.specs.declared.component.Component.{Component}
use Rattle.machine_data.specs.declared.label.Label.{Label}
use Rattle.machine_data.specs.declared.label.Label.TheVariants as label
use Rattle.machine_data.specs.declared.label.MainLabel.TheVariants as main_label
use Rattle.machine_data.specs.declared.records.Turn.TheVariants as turn
use Rattle.machine_data.specs.declared.scenario.IdleLine.TheVariants as idle_line
use Rattle.machine_data.specs.declared.scenario.MainOpDef.{MainOpDef}
use Rattle.machine_rules.specs.Stalled.{Setting, main_pends}
use Rattle.machine_rules.specs.Step as machine
use Rattle.core_primitives.specs.StateView.{StateView}
use Rattle.ops_turns.specs.Turn.{Turns, state_at}
use Rattle.ops_turns.specs.declared.made.MadeStep.{MadeStep}
use Rattle.ops_turns.specs.declared.mains.MainStep.{MainStep}
use Rattle.ops_turns.specs.declared.mains.MainStep.TheVariants as step

-- what a step of main is seen beside: the idle line is of no account
abbrev pub main_setting : Component → List MainOpDef → Setting
main_setting c ops = record { component = c; script = ops; idle = idle_line.Trap }

-- an op of main other than its answer
abbrev pub IsOpOfMain : Label → Type 0
IsOpOfMain (label.Main (main_label.Answer v)) = ⊥
IsOpOfMain (label.Main l) = Unit {0}
IsOpOfMain _ = ⊥

module _ (c : Component) (ops : List MainOpDef) (m : Main) (s : Core) where
  -- the op is done: its label is lawful, and main's part and the core are as it leaves them
  pub record Did (l : Label) (m' : Main) (s' : Core) : Type 0 where
    pub op : IsOpOfMain l
    pub step : machine.MainStep (main_setting c ops) (state_at s m turn.Main) m l (state_at s' m' turn.Main)

  -- main waits, and nothing is changed
  pub record Pends (m' : Main) (s' : Core) : Type 0 where
    pub part : m' ≡ m
    pub core : s' ≡ s
    pub pends : main_pends (main_setting c ops) s m ≡ true

  -- main answers v, and nothing is changed
  pub record Answers (v : ℕ) (m' : Main) (s' : Core) : Type 0 where
    pub part : m' ≡ m
    pub core : s' ≡ s
    pub step : machine.MainStep (main_setting c ops) (state_at s m turn.Main) m (label.Main (main_label.Answer v)) (state_at s m turn.Over)

  -- what the step of a main resulted in
  abbrev pub Steps : MainStep → Main → Core → Type 0
  Steps (step.Did l) m' s' = Did l m' s'
  Steps step.Pends m' s' = Pends m' s'
  Steps (step.Answer v) m' s' = Answers v m' s'

-- Where main did this step, it was made as a step of the machine.
abbrev pub StepTurns : MainStep → MadeStep → StateView → Type 0
StepTurns step made t =
    (x : Setting) → (m new : Main) → (s : StateView) → Steps x.component x.script m s.core step new t.core → Turns x turn.Main m s made new t
