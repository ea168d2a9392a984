-- A drive by its polls: how far the run has come since it last yielded.
use Rattle.run_trace.specs.YieldBudget.{since_driven}
use Rattle.run_trace.specs.declared.yield_budget.YieldBudget.{YieldBudget}
use Rattle.ops_state.specs.declared.error.TaskError.{TaskError}
use Rattle.std.specs.Prelude.{Bool, List, Ok, Result, false, length, not, true, ℕ, ◌++◌, ◌==◌, ◌≡◌}
use Rattle.task_loop.specs.HasRun.{At, HasDriven, HasPolled}
use Rattle.task_loop.specs.RunPolls.{run_answer, since_left_by}
use Rattle.task_loop.specs.Says.{Says}
use Rattle.task_loop.specs.declared.poll_methods.RunPoll.{RunPoll}
use Rattle.task_loop.specs.declared.poll_methods.RunPoll.TheVariants as poll
use Rattle.machine_data.specs.declared.component.Component.{Component}
use Rattle.machine_data.specs.declared.component.HostDef.{HostDef}
use Rattle.machine_data.specs.declared.label.Label.{Label}
use Rattle.machine_data.specs.declared.outcome.Outcome.{Outcome}
use Rattle.ops_turns.specs.Turn.{goes_on}

-- What a drive leaves that resulted in this with these labels: it yielded wherever a poll does, and was polled on.
pub record LeavesYieldBudget (yield_budget : YieldBudget) (added : List Label) (o : Outcome) (yield_budget' : YieldBudget) : Type 0 where
  pub since : yield_budget'.since ≡ since_left_by o (since_driven yield_budget.passes yield_budget.since added)
  pub passes_on : yield_budget'.passes ≡ false

-- a drive polls on after this answer
abbrev pub is_polled_on : Result RunPoll TaskError → (used_up : Bool) → Bool
is_polled_on (Ok poll.Rest) used_up = true
is_polled_on (Ok poll.Yielded) used_up = not used_up
is_polled_on _ used_up = false

module _ {M T H G : Type 0} (says : Says M) (course : H → HostDef) where
  -- The poll with which a drive ends leaves what a drive leaves.
  abbrev pub LastPollIsDrive : At M T H G → Type 0
  LastPollIsDrive a =
      (c : Component) (b : At M T H G) (yield_budget yield_budget' : YieldBudget) (n : ℕ) (o : Outcome)
      (polled : HasPolled says course c n (run_answer o) yield_budget a b yield_budget') →
      goes_on o ≡ true → is_polled_on (run_answer o) (length polled.has.ran.added == n) ≡ false →
      LeavesYieldBudget yield_budget polled.has.ran.added o yield_budget'

  -- A poll before that and the drive after it leave what one drive leaves.
  abbrev pub PollThenDrive : At M T H G → Type 0
  PollThenDrive a =
      (c : Component) (b d : At M T H G) (yield_budget yield_budget' yield_budget'' : YieldBudget) (n steps : ℕ) (r : Result RunPoll TaskError) (o : Outcome)
      (polled : HasPolled says course c n r yield_budget a b yield_budget') → is_polled_on r (length polled.has.ran.added == n) ≡ true →
      (driven : HasDriven says course c steps o yield_budget' b d yield_budget'') →
      LeavesYieldBudget yield_budget (polled.has.ran.added ++ driven.gone.has.ran.added) o yield_budget''
