-- Each reached state is in order, so that each thread is at one place, with an entry just where that says so.
use Rattle.laws_states.specs.Settings.{Reached}
use Rattle.machine_data.specs.Core.{State}
use Rattle.machine_data.specs.declared.label.Label.{Label}
use Rattle.laws_states.specs.Order.{InOrder, InPlace}
use Rattle.machine_rules.specs.Stalled.{Setting}
use Rattle.machine_rules.specs.Step.{Step}

-- each reached state is in order
unfoldable pub ReachedInOrder : Type 0
ReachedInOrder = (x : Setting) (s : State) → Reached x s → InOrder x.component s

-- each thread has its place in it, and one whose turn it is runs
unfoldable pub ReachedInPlace : Type 0
ReachedInPlace = (x : Setting) (s : State) → Reached x s → InPlace s

-- each step from a reached state leads to such a state
abbrev pub StepsKeepPlaces : Type 0
StepsKeepPlaces = (x : Setting) (s : State) (l : Label) (t : State) → Reached x s → Step x s l t → InPlace t
