use Rattle.beside_main.proofs.PollLemmas.{still_polled}
use Rattle.beside_main.proofs.asked.CellsAskedSpawns.aborts.Goals as goal
use Rattle.std.proofs.Common.{refl}

pub returns-clause-keeps : goal.returns-clause-keeps
returns-clause-keeps c = (c.finds_request.ensures.cells, refl)

pub returns-clause-aborted : goal.returns-clause-aborted
returns-clause-aborted c = still_polled _ _ c.finds_request.result refl c.finds_request.ensures.calls
