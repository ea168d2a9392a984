-- How a run beside aborters goes on: with what the machine's own runs add to it, and with the steps beside them; and what it calls on its
-- spawned works.
use Rattle.laws_beside.specs.RunCalls.{Calls, early_of}
use Rattle.laws_beside.specs.Outcomes.{CameTo}
use Rattle.laws_beside.specs.Rounds.{is_going}
use Rattle.laws_beside.specs.Laws.{waiting}
use Rattle.laws_beside.specs.Own.{calls_from}
use Rattle.laws_beside.specs.Wide.{Due, Going, IsWideOutcome, Made, Round, StepBeside, Wide, is_running_spawn, next_spawn, opens_wide, round_of, settled, wide}
use Rattle.std.specs.Prelude.{Bool, List, None, Some, [], cond, false, length, true, ℕ, ◌+◌, ◌++◌, ◌∷◌, ◌≡◌, ◌≤◌}
use Rattle.task_abort.specs.declared.log.PhaseCall.{PhaseCall}
use Rattle.machine_data.specs.Core.{State}
use Rattle.machine_data.specs.declared.label.Label.{Label}
use Rattle.machine_data.specs.declared.label.Label.TheVariants as label
use Rattle.machine_data.specs.declared.label.LoopLabel.TheVariants as loop_label
use Rattle.machine_data.specs.declared.outcome.Outcome.{Outcome}
use Rattle.machine_data.specs.declared.outcome.Outcome.TheVariants as outcome
use Rattle.machine_data.specs.declared.records.Turn.TheVariants as turn
use Rattle.machine_data.specs.declared.scenario.ScenarioDef.{ScenarioDef}
use Rattle.machine_rules.specs.Outcome.{IsOutcome, is_at_rest, last_outcome, outcome_of_label}
use Rattle.machine_rules.specs.Run.{Run, opens}
use Rattle.machine_rules.specs.Stalled.{Setting, is_stalled, setting_of}
use Rattle.machine_rules.specs.Works.{poll_ends}

-- while the last round is due, no stalled state is a deadlock
abbrev pub heard_in : Round → Setting → Setting
heard_in Due x = waiting x
heard_in r x = x

-- the calls on each spawn, and how many of them came before the last round
pub record Own : Type 0 where
  pub calls : ℕ → List PhaseCall
  pub early : ℕ → ℕ

-- with those of a step from this state
abbrev pub with_step : Setting → Round → State → Label → Own → Own
with_step x r s l own = record {
  calls = λ k. own.calls k ++ calls_from x k s l;
  early = λ k. own.early k + early_of x k (wide s r) l;
}

-- with those of a run of one step, or of none
abbrev pub with_run : Setting → Round → State → List Label → Own → Own
with_run x r s [] own = own
with_run x r s (l ∷ ls) own = with_step x r s l own

abbrev pub none_called : Own
none_called = record { calls = λ k. []; early = λ k. 0 }

-- These labels are a run beside aborters from w to v, with these calls.
abbrev pub IsRun : Setting → Wide → List Label → Wide → Own → Type 0
IsRun x w ls v own = Calls x w ls v own.calls own.early

-- They are one to the state s, where the round is so. It may go on, with as many steps as are left of these.
pub record IsOn (x : Setting) (w : Wide) (r : Round) (steps left : ℕ) (own : Own) (ls : List Label) (s : State) : Type 0 where
  pub run : IsRun x w ls (wide s r) own
  pub unended : last_outcome ls ≡ None
  pub outside : is_going r ≡ false
  pub waits : r ≡ Due → is_stalled x s ≡ false
  pub count : length ls + left ≡ steps

-- The run has ended in this outcome. The round has begun, if it was due and nothing can go on.
pub record HasCome (x : Setting) (w : Wide) (r : Round) (steps left : ℕ) (o : Outcome) (own : Own) (ls : List Label) (s : State) :
    Type 0 where
  pub run : IsRun x w ls (settled x s r) own
  pub came : CameTo (heard_in r x) s ls o
  pub few : length ls + left ≤ steps
  pub used : o ≡ outcome.OutOfSteps → length ls + left ≡ steps
  pub due : r ≡ Due → length ls + left ≡ steps

-- so it is at the opening, with all steps left and no call
abbrev pub RunOpens : Type 0
RunOpens =
    (x : ScenarioDef) (steps : ℕ) → IsOn (setting_of x) (opens_wide x) (round_of x) steps steps none_called [] (opens x)

-- ---- Outside the round

-- the machine's own run of one step, or of none, is added
abbrev pub RunsAdd : Type 0
RunsAdd =
    (x : Setting) (w : Wide) (r : Round) (steps left k : ℕ) (o : Outcome) (own : Own) (ls ks : List Label) (s t : State) → k ≤ 1 →
    IsOn x w r steps (left + k) own ls s → Run (heard_in r x) s ks t → length ks ≤ k → IsOutcome (heard_in r x) t ks k o →
    HasCome x w r steps left o (with_run x r s ks own) (ls ++ ks) t

-- so is a step beside it, after which the run isn't at rest
abbrev pub StepsAdd : Type 0
StepsAdd =
    (x : Setting) (w : Wide) (r : Round) (steps left : ℕ) (own : Own) (l : Label) (ls : List Label) (s t : State) →
    IsOn x w r steps (left + 1) own ls s → outcome_of_label l ≡ None → StepBeside x s l t → ((y : Setting) → is_at_rest y t ≡ false) →
    HasCome x w r steps left outcome.OutOfSteps (with_step x r s l own) (ls ++ l ∷ []) t

-- a run that has come to no end goes on
abbrev pub OpenRunsGoOn : Type 0
OpenRunsGoOn =
    (x : Setting) (w : Wide) (r : Round) (steps left : ℕ) (own : Own) (ls : List Label) (s : State) → is_going r ≡ false →
    HasCome x w r steps left outcome.OutOfSteps own ls s → IsOn x w r steps left own ls s

-- what it results in, outside the round
abbrev pub HasOutcome : Type 0
HasOutcome =
    (x : Setting) (w : Wide) (r : Round) (steps left : ℕ) (o : Outcome) (own : Own) (ls : List Label) (s : State) → is_going r ≡ false →
    HasCome x w r steps left o own ls s → (o ≡ outcome.OutOfSteps → left ≡ 0) → (r ≡ Due → o ≡ outcome.Idle → ⊥) →
    IsWideOutcome x (settled x s r) ls steps o

-- ---- The round

-- the state at the turn in which the run stalled
abbrev pub at_take : State → State
at_take s = record s { turn = turn.Take false }

-- The round is under way: those up to n were polled, and whether an abort was found.
pub record InRound (x : Setting) (w : Wide) (n : ℕ) (found : Bool) (steps left : ℕ) (own : Own) (ls : List Label) (s : State) : Type 0 where
  pub run : IsRun x w ls (settled x (at_take s) (Going n found)) own
  pub unended : last_outcome ls ≡ None
  pub count : length ls + left ≡ steps

-- it begins if the run is idle before it
abbrev pub RoundBegins : Type 0
RoundBegins =
    (x : Setting) (w : Wide) (steps left : ℕ) (own : Own) (ls : List Label) (s : State) → HasCome x w Due steps left outcome.Idle own ls s →
    (s.turn ≡ turn.Take false) × InRound x w 0 false steps left own ls s

abbrev pub polled_label : Bool → ℕ → Label
polled_label ended i = cond ended (label.Loop (loop_label.FutureAborted i)) (label.Loop (loop_label.FuturePends i))

-- with the calls of a poll in the round
abbrev pub with_poll : Setting → State → Label → Own → Own
with_poll x s l own = record own { calls = λ k. own.calls k ++ calls_from x k s l }

-- the next spawned work is polled: it pends, or ends without a value, if it is running
abbrev pub RoundGoes : Type 0
RoundGoes =
    (x : Setting) (w : Wide) (n i : ℕ) (found ended : Bool) (steps left : ℕ) (own : Own) (ls : List Label) (s t : State) →
    InRound x w n found steps (left + 1) own ls s → next_spawn n s.core ≡ Some i → (ended ≡ true → is_running_spawn i s.core ≡ true) →
    t.main ≡ s.main → t.core ≡ cond ended (poll_ends i None s.core) s.core →
    InRound x w i (cond ended true found) steps left (with_poll x (at_take s) (polled_label ended i) own)
    (ls ++ polled_label ended i ∷ []) t

-- once all were polled the run goes on, with main's turn if an abort was found
abbrev pub RoundEnds : Type 0
RoundEnds =
    (x : Setting) (w : Wide) (n : ℕ) (found : Bool) (steps left : ℕ) (own : Own) (ls : List Label) (s : State) →
    InRound x w n found steps left own ls s → next_spawn n s.core ≡ None → s.turn ≡ cond found turn.Main (turn.Take false) →
    IsOn x w Made steps left own ls s

-- where no step is left it is cut, and the steps are used up
abbrev pub RoundsAreCut : Type 0
RoundsAreCut =
    (x : Setting) (w : Wide) (n i : ℕ) (found : Bool) (steps : ℕ) (own : Own) (ls : List Label) (s : State) →
    InRound x w n found steps 0 own ls s → next_spawn n s.core ≡ Some i →
    IsRun x w ls (wide (at_take s) (Going n found)) own × IsWideOutcome x (wide (at_take s) (Going n found)) ls steps outcome.OutOfSteps
