-- What comes of an end of a task that holds no borrows.
use Rattle.std.specs.Prelude.{false, ℕ}
use Rattle.ops_calls.specs.OpAnswers.{at_once, nothing_answered}
use Rattle.ops_calls.specs.HostOps.{Answers}
use Rattle.task_store.specs.HeldBorrows.{Comes}
use Rattle.machine_data.specs.Labels.{Choice}
use Rattle.machine_rules.specs.Progress.{Progress}

-- the running thread did its rule, which takes no memory, and nothing is answered
abbrev pub RuleAnswers : (ℕ → Choice → Progress) → Comes
RuleAnswers row s r t = Answers false row nothing_answered s (at_once r) t
