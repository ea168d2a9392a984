-- The cell of a spawn that other threads abort, and what its callers list.
use Rattle.std.specs.Prelude.{List, [], map, ℕ, ◌+◌, ◌∷◌}
use Rattle.beside_works.specs.declared.log.Found.{Found}
use Rattle.task_abort.specs.PhaseLog.{Log, Name, entry}
use Rattle.task_abort.specs.Staged.{Aborter, aborts_of}
use Rattle.task_abort.specs.declared.log.HandleCaller.{HandleCaller}
use Rattle.task_abort.specs.declared.log.LogEntry.{LogEntry}
use Rattle.task_abort.specs.declared.log.PhaseCall.TheVariants.{Abort}
use Rattle.machine_data.specs.declared.statuses.Phase.{Phase}

-- the entries of aborts that found these phases
abbrev pub aborts_by : Name → List Phase → Log
aborts_by n ps = map (λ p. entry n Abort p) ps

-- the pass that was split off k-th, and did nothing but these aborts
abbrev pub aborter_at : ℕ → List Phase → HandleCaller
aborter_at k ps = record { name = k ∷ []; calls = aborts_by (k ∷ []) ps; splits = 0 }

-- the passes that were split off from the k-th on, with what the aborts of each found
abbrev pub aborters_from : ℕ → List (List Phase) → List HandleCaller
aborters_from k [] = []
aborters_from k (ps ∷ pss) = aborter_at k ps ∷ aborters_from (k + 1) pss

abbrev pub phases_in : List Found → List (List Phase)
phases_in fs = map (λ f. f.found.items) fs

-- what the aborters of a log's lists are of these
abbrev pub listed_one : Found → Aborter
listed_one f = (f.number, f.found.items)

abbrev pub entries_of : Found → List (LogEntry ℕ)
entries_of f = aborts_of (listed_one f)

-- as a log's lists have them
abbrev pub listed : List Found → List Aborter
listed fs = map listed_one fs
