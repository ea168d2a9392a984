-- The calls on a spawned work that a run itself makes.
use Rattle.std.specs.Prelude.{Bool, List, Option, Some, [], false, if◌then◌else◌, length, true, ℕ, ◌++◌, ◌+◌, ◌==◌, ◌∷◌}
use Rattle.task_abort.specs.declared.log.PhaseCall.{PhaseCall}
use Rattle.task_abort.specs.declared.log.PhaseCall.TheVariants.{Abort, Finish, PollFuture, PollHandle}
use Rattle.machine_data.specs.declared.label.Label.{Label}
use Rattle.machine_data.specs.declared.label.LoopLabel.{LoopLabel}
use Rattle.machine_data.specs.declared.label.MainLabel.{MainLabel}
use Rattle.machine_data.specs.declared.scenario.MainOpDef.{MainOpDef}
use Rattle.machine_data.specs.declared.label.Label.TheVariants as label
use Rattle.machine_data.specs.declared.label.LoopLabel.TheVariants as loop_label
use Rattle.machine_data.specs.declared.label.MainLabel.TheVariants as main_label
use Rattle.machine_data.specs.declared.scenario.MainOpDef.TheVariants as main_op
use Rattle.machine_data.specs.Core.{Main, Scripted, State, Unscripted}
use Rattle.machine_rules.specs.MainOps.{op_at, spawned_at}
use Rattle.machine_rules.specs.Stalled.{Setting}
use Rattle.laws_beside.specs.Wide.{Due, Never, Round, Wide, WideRun}

abbrev pub if_same : ℕ → ℕ → List PhaseCall → List PhaseCall
if_same m n calls = if m == n then calls else []

abbrev pub awaits : ℕ → Option MainOpDef → List PhaseCall
awaits k (Some (main_op.Await j)) = if_same j k (PollHandle ∷ [])
awaits k _ = []

-- main polls the handle where it pends at an await
abbrev pub calls_at_pends : Setting → ℕ → Main → List PhaseCall
calls_at_pends x k (Scripted p) = awaits k (op_at x.script p)
calls_at_pends x k Unscripted = []

-- The calls that a step with this label makes on spawn k, whose number is i: one that ends by a poll is finished
abbrev pub calls_of_loop : Setting → ℕ → ℕ → Main → LoopLabel → List PhaseCall
calls_of_loop x k i m loop_label.MainPends = calls_at_pends x k m
calls_of_loop x k i m (loop_label.FuturePends j) = if_same j i (PollFuture ∷ [])
calls_of_loop x k i m (loop_label.FutureFails j) = if_same j i (PollFuture ∷ [])
calls_of_loop x k i m (loop_label.FutureEnds j) = if_same j i (PollFuture ∷ Finish ∷ [])
calls_of_loop x k i m (loop_label.FutureAborted j) = if_same j i (PollFuture ∷ Finish ∷ [])
calls_of_loop x k i m _ = []

abbrev pub calls_of_main : ℕ → MainLabel → List PhaseCall
calls_of_main k (main_label.Abort p j) = if_same j k (Abort ∷ [])
calls_of_main k (main_label.Await j) = if_same j k (PollHandle ∷ [])
calls_of_main k _ = []

abbrev pub calls_of_label : Setting → ℕ → ℕ → Main → Label → List PhaseCall
calls_of_label x k i m (label.Main l) = calls_of_main k l
calls_of_label x k i m (label.Loop l) = calls_of_loop x k i m l
calls_of_label x k i m _ = []

-- the number of spawn k, 0 where main has not spawned it
abbrev pub number_of : ℕ → Main → ℕ
number_of k (Scripted p) = spawned_at p k
number_of k Unscripted = 0

-- the calls of a step from this state on spawn k
abbrev pub calls_from : Setting → ℕ → State → Label → List PhaseCall
calls_from x k s l = calls_of_label x k (number_of k s.main) s.main l

-- those of a run, in order
abbrev pub own_calls : (x : Setting) → ℕ → (w : Wide) (ls : List Label) (v : Wide) → WideRun x w ls v → List PhaseCall
own_calls x k w [] v run = []
own_calls x k w (l ∷ ls) v run = calls_from x k w.state l ++ own_calls x k run.0 ls v run.1.1

-- the round is still to come, or there is none
abbrev pub is_before : Round → Bool
is_before Never = true
is_before Due = true
is_before _ = false

-- how many of them are made before the last round
abbrev pub early_calls : (x : Setting) → ℕ → (w : Wide) (ls : List Label) (v : Wide) → WideRun x w ls v → ℕ
early_calls x k w [] v run = 0
early_calls x k w (l ∷ ls) v run =
    (if is_before w.round then length (calls_from x k w.state l) else 0) + early_calls x k run.0 ls v run.1.1
