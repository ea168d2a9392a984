-- What is left when main has answered.
use Rattle.std.specs.Prelude.{ℕ, ◌≡◌}
use Rattle.laws_states.specs.Order.{InOrder}
use Rattle.laws_states.specs.WakeLaw.{CallersGoOn, NoneAdmitted, NoneBlockedOnEnd, WakesCounted}
use Rattle.machine_data.specs.Core.{Core, State}
use Rattle.machine_data.specs.declared.label.Label.TheVariants as label
use Rattle.machine_data.specs.declared.label.MainLabel.TheVariants as main_label
use Rattle.machine_rules.specs.Stalled.{Setting}
use Rattle.machine_rules.specs.Step.{Step}

-- the four facts of wakes
pub record NoneLost (s : Core) : Type 0 where
  pub counted : WakesCounted s
  pub callers : CallersGoOn s
  pub held : NoneAdmitted s
  pub blocked : NoneBlockedOnEnd s

-- A step in which main answers ends the run and changes nothing of the core, in which no wake is lost.
unfoldable pub AnswersLoseNone : Type 0
AnswersLoseNone = (x : Setting) (s : State) (v : ℕ) (t : State) → InOrder x.component s → Step x s (label.Main (main_label.Answer v)) t →
    (t.core ≡ s.core) × NoneLost t.core
