-- What the callers of a pass list, and the log that is put together from that by stages.
use Rattle.std.specs.Prelude.{List, None, Some, [], ℕ, ◌∷◌}
use Rattle.machine_data.specs.declared.statuses.Phase.TheVariants.{AbortRequested, Running}
use Rattle.task_abort.specs.PhaseLog.{entry}
use Rattle.task_abort.specs.Staged.{Aborter, made}
use Rattle.task_abort.specs.declared.log.CallMade.{CallMade}
use Rattle.task_abort.specs.declared.log.LogEntry.{LogEntry}
use Rattle.task_abort.specs.declared.log.PhaseCall.TheVariants.{Abort, Finish, PollFuture, PollHandle}

-- the calls of caller 0
abbrev pub own_calls : List CallMade
own_calls = made PollFuture (Some Running) ∷ made PollHandle None ∷ made PollFuture (Some AbortRequested) ∷ made PollHandle None ∷
    made Finish (Some AbortRequested) ∷ []

-- what the aborts of callers 1 and 3 found
abbrev pub aborters : List Aborter
aborters = (1, Running ∷ []) ∷ (3, AbortRequested ∷ []) ∷ []

abbrev pub log_by_stages : List (LogEntry ℕ)
log_by_stages = entry 0 PollFuture Running ∷ entry 0 PollHandle Running ∷ entry 1 Abort Running ∷ entry 3 Abort AbortRequested ∷
    entry 0 PollFuture AbortRequested ∷ entry 0 PollHandle AbortRequested ∷ entry 0 Finish AbortRequested ∷ []
