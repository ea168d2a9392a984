use Rattle.std.proofs.Common.{ap, sym}
use Rattle.std.specs.Prelude.{None, ◌≡◌}
use Rattle.machine_data.specs.Core.{Core}
use Rattle.machine_data.specs.Maps.{get}
use Rattle.task_run.proofs.main_script.abort.Goals as goal
use Rattle.task_run.specs.Spawns.{number_in}
use Rattle.task_store.proofs.SpawnLemmas.{gone_aborted}
use Rattle.core_primitives.specs.StateView.{with_core}

pub returns-in-None-clause-store : goal.returns-in-None-clause-store
returns-in-None-clause-store g c =
    let store = c.args.access.now.store.now in
    let none : get store.state.core.works (number_in c.args.work) ≡ None = rw c.in-None.is c.none_is_zero.ensures.works in
    ap (λ (d : Core). record store { state = with_core d store.state }) (sym (gone_aborted (number_in c.args.work) store.state.core none))
