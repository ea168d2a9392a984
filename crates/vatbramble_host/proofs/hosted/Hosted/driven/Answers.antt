-- The new store is in order at main's turn, and what was driven begins there.
use Rattle.std.proofs.Common.{ap, arith, refl, ◌∙◌}
use Rattle.std.specs.Prelude.{Bool, []}
use Rattle.task_loop.proofs.BeginLemmas.{may_open}
use Rattle.task_loop.proofs.HasRunLemmas.{drives_of}
use Rattle.task_loop.proofs.MainToldLemmas.{fresh_asked}
use Rattle.machine_data.specs.Core.{Unscripted}
use Rattle.machine_data.specs.declared.records.Turn.{Turn}
use Rattle.ops_turns.specs.Turn.{setting_of, state_at}
use Rattle.vatbramble_host.proofs.RunLemmas.{host_run}
use Rattle.vatbramble_host.proofs.SpawnLemmas.{spawns_none}
use Rattle.vatbramble_host.proofs.hosted.Hosted.driven.Goals as goal

pub drive-requires : goal.drive-requires
drive-requires g c =
    let x = c.args.self.now.scenario in
    record {
      may = may_open _ _ _ c.in-Ok.run' c.in-Ok.ensures.turn c.new-main.result tt c.args.self.now.formed c.in_ok-store.store _ c.run_concurrent.ensures.store _
          c.args.self.now.codes x.rules c.len.result x.handles x.table (rw c.len.ensures (omega arith)) c.in_ok-store.ensures.state c.in_ok-store.ensures.works
          (spawns_none c.new-main.result.spawns.items _ c.new-main.ensures.spawns)
          (fresh_asked x.rules c.len.result x.handles x.table c.in_ok-store.store.state c.in_ok-store.ensures.state);
    }

pub returns : goal.returns
returns g c =
    host_run c.args.self.now.scenario c.args.self.now.codes _ _ _ _ _ _ _
    (ap (λ (b : Bool). setting_of c.args.self.now.scenario.component [] b) c.in-Ok.ensures.idle
    ∙ ap (λ i. record { component = c.args.self.now.scenario.component; script = []; idle = i }) c.traps_on_idle.ensures)
    (ap (λ (p : Turn). state_at c.run_concurrent.new.store.state.core Unscripted p) c.in-Ok.ensures.turn
    ∙ rw (c.run_concurrent.ensures.store, c.in_ok-store.ensures.state, c.len.ensures) refl)
    c.new-trace.ensures (drives_of _ _ _ _ _ c.args.steps _ c.in_ok-outcome.ensures.drives.gone)
