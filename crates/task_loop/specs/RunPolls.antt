-- What a poll of a run adds and answers.
use Rattle.ops_state.specs.declared.error.TaskError.{TaskError}
use Rattle.ops_state.specs.declared.error.TaskError.TheVariants as task_error
use Rattle.std.specs.Prelude.{Bool, Err, List, None, Ok, Option, Result, Some, [], false, length, option_map, true, ℕ, ◌==◌, ◌||◌, ◌∷◌}
use Rattle.laws_labels.specs.Own.{next_mark}
use Rattle.run_trace.specs.YieldBudget.{passes_after, since_after, yields_before}
use Rattle.task_loop.specs.declared.poll_methods.RunPoll.{RunPoll}
use Rattle.task_loop.specs.declared.poll_methods.RunPoll.TheVariants as poll
use Rattle.task_loop.specs.declared.run.Stop.{Stop}
use Rattle.task_loop.specs.declared.run.Stop.TheVariants as stop
use Rattle.machine_data.specs.Core.{State}
use Rattle.machine_data.specs.declared.label.Label.{Label}
use Rattle.machine_data.specs.declared.label.Label.TheVariants as label
use Rattle.machine_data.specs.declared.label.LoopLabel.TheVariants as loop_label
use Rattle.machine_data.specs.declared.outcome.Outcome.{Outcome}
use Rattle.machine_data.specs.declared.outcome.Outcome.TheVariants as outcome
use Rattle.machine_rules.specs.Outcome.{is_at_rest, outcome_of_label}
use Rattle.machine_rules.specs.Stalled.{Setting}

-- ---- What a poll answers

abbrev pub run_answer : Outcome → Result RunPoll TaskError
run_answer (outcome.Done v) = Ok (poll.Done v)
run_answer (outcome.Trap t) = Err (task_error.Trap t)
run_answer (outcome.Deadlock t) = Err (task_error.Trap t)
run_answer (outcome.HostFailed i) = Err (task_error.HostFailed i)
run_answer outcome.Idle = Ok poll.Idle
run_answer outcome.OutOfSteps = Ok poll.Yielded

-- by what its turns stop at
abbrev pub stop_answer : Stop → Result RunPoll TaskError
stop_answer (stop.Ends o) = run_answer o
stop_answer stop.Rests = Ok poll.Rest
stop_answer stop.Yields = Ok poll.Yielded

-- after this label, where it ends the poll
abbrev pub answer_of_label : Label → Option (Result RunPoll TaskError)
answer_of_label (label.Loop loop_label.Rest) = Some (Ok poll.Rest)
answer_of_label l = option_map run_answer (outcome_of_label l)

-- by the last label, and none before that ends the poll
abbrev pub last_answer : List Label → Option (Result RunPoll TaskError)
last_answer [] = None
last_answer (l ∷ []) = answer_of_label l
last_answer (l ∷ m ∷ ls) = last_answer (m ∷ ls)

abbrev pub or_paused : Option (Result RunPoll TaskError) → (idle yields : Bool) → Option (Result RunPoll TaskError)
or_paused (Some r) idle yields = Some r
or_paused None true yields = Some (Ok poll.Idle)
or_paused None false true = Some (Ok poll.Yielded)
or_paused None false false = None

-- it yields at this state after these labels: the steps are used up, or an entry is next before which it yields
abbrev pub yields_at : State → (passes : Bool) → (since : ℕ) → List Label → (steps : ℕ) → Bool
yields_at t passes since ls steps =
    (length ls == steps) || yields_before (passes_after passes ls) (since_after since ls) (next_mark t.turn t.core)

-- what a poll answers that has resulted in this state with these labels; nothing if it goes on
abbrev pub poll_answer : Setting → State → (passes : Bool) → (since : ℕ) → List Label → (steps : ℕ) → Option (Result RunPoll TaskError)
poll_answer x t passes since ls steps = or_paused (last_answer ls) (is_at_rest x t) (yields_at t passes since ls steps)

-- no label but the last one rests
abbrev pub rests_last : List Label → Bool
rests_last [] = true
rests_last (l ∷ []) = true
rests_last (label.Loop loop_label.Rest ∷ m ∷ ls) = false
rests_last (l ∷ m ∷ ls) = rests_last (m ∷ ls)

abbrev pub is_yielded : Result RunPoll TaskError → Bool
is_yielded (Ok poll.Yielded) = true
is_yielded _ = false

-- how many entries were taken since it last yielded, once the poll has answered
abbrev pub since_left : Result RunPoll TaskError → ℕ → ℕ
since_left (Ok poll.Yielded) since = 0
since_left _ since = since

-- A drive that ended so: where the steps were used up it has yielded last, and one that is over is polled no more.
abbrev pub since_left_by : Outcome → ℕ → ℕ
since_left_by outcome.Idle since = since
since_left_by _ since = 0

-- ---- What a poll leaves

-- the run can go on after this answer
abbrev pub may_poll : Result RunPoll TaskError → Bool
may_poll (Ok (poll.Done v)) = false
may_poll (Ok _) = true
may_poll (Err e) = false
