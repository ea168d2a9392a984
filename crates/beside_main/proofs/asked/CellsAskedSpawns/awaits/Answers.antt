use Rattle.beside_main.proofs.PollLemmas.{still_polled}
use Rattle.beside_main.proofs.asked.CellsAskedSpawns.awaits.Goals as goal
use Rattle.std.proofs.Common.{refl}

pub returns-clause-keeps : goal.returns-clause-keeps
returns-clause-keeps c = (c.poll_handle.ensures.cells, refl)

pub returns-clause-awaited : goal.returns-clause-awaited
returns-clause-awaited c = still_polled _ _ c.poll_handle.result refl c.poll_handle.ensures.calls
