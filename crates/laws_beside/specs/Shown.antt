-- What the machine's own steps call on spawned works, by their turns.
use Rattle.laws_beside.specs.Own.{calls_from, if_same, number_of}
use Rattle.std.specs.Prelude.{Bool, List, Option, Some, [], false, true, ℕ, ◌∷◌, ◌≡◌}
use Rattle.task_abort.specs.declared.log.PhaseCall.{PhaseCall}
use Rattle.task_abort.specs.declared.log.PhaseCall.TheVariants.{Abort, Finish, PollFuture, PollHandle}
use Rattle.machine_data.specs.Core.{MainPlace, Scripted, State}
use Rattle.machine_data.specs.declared.label.Label.{Label}
use Rattle.machine_data.specs.declared.label.Label.TheVariants as label
use Rattle.machine_data.specs.declared.label.LoopLabel.TheVariants as loop_label
use Rattle.machine_data.specs.declared.records.Turn.{Turn}
use Rattle.machine_data.specs.declared.records.Turn.TheVariants as turn
use Rattle.machine_data.specs.declared.scenario.MainOpDef.{MainOpDef}
use Rattle.machine_data.specs.declared.scenario.MainOpDef.TheVariants as main_op
use Rattle.machine_rules.specs.MainOps.{op_at}
use Rattle.machine_rules.specs.Stalled.{Setting}
use Rattle.machine_rules.specs.Step.{Step}
use Rattle.machine_rules.specs.Works.{next_polled}

-- a poll that ends the work finishes it
abbrev pub finish_of : Label → List PhaseCall
finish_of (label.Loop (loop_label.FutureEnds j)) = Finish ∷ []
finish_of _ = []

-- a turn of polls polls the work that is next
abbrev pub PollsCall : Type 0
PollsCall =
    (x : Setting) (s : State) (n i : ℕ) (l : Label) (t : State) (k : ℕ) → s.turn ≡ turn.Futures n → next_polled n s.core ≡ Some i →
    Step x s l t → calls_from x k s l ≡ if_same i (number_of k s.main) (PollFuture ∷ finish_of l)

-- what an op of main calls on spawn k, whether or not it pends
abbrev pub calls_of_op : ℕ → Option MainOpDef → List PhaseCall
calls_of_op k (Some (main_op.Abort j)) = if_same j k (Abort ∷ [])
calls_of_op k (Some (main_op.Await j)) = if_same j k (PollHandle ∷ [])
calls_of_op k _ = []

-- a turn of a main that is a script makes the calls of its op
abbrev pub ScriptsCall : Type 0
ScriptsCall =
    (x : Setting) (s : State) (p : MainPlace) (l : Label) (t : State) (k : ℕ) → s.turn ≡ turn.Main → s.main ≡ Scripted p → Step x s l t →
    calls_from x k s l ≡ calls_of_op k (op_at x.script p)

abbrev pub is_calling : Turn → Bool
is_calling turn.Main = true
is_calling (turn.Futures n) = true
is_calling _ = false

-- other turns make none
abbrev pub OthersCallNone : Type 0
OthersCallNone = (x : Setting) (s : State) (l : Label) (t : State) (k : ℕ) → is_calling s.turn ≡ false → Step x s l t → calls_from x k s l ≡ []
