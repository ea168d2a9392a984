-- The new store is in order at main's turn, and what was driven begins there.
use Rattle.machine_data.specs.declared.scenario.Version.TheVariants as version
use Rattle.std.proofs.Common.{ap, arith, refl, ◌∙◌}
use Rattle.std.specs.Prelude.{Bool, []}
use Rattle.machine_data.specs.Core.{Unscripted}
use Rattle.machine_data.specs.declared.records.Turn.{Turn}
use Rattle.ops_turns.proofs.CoveredLemmas.{codes_of, covered_of}
use Rattle.ops_turns.specs.Turn.{setting_of, state_at}
use Rattle.host_embedding.proofs.HostLemmas.{driven}
use Rattle.host_embedding.proofs.RelayLemmas.{answered}
use Rattle.host_embedding.proofs.run.relayed.Goals as goal
use Rattle.task_loop.proofs.BeginLemmas.{may_open}
use Rattle.task_loop.proofs.HasRunLemmas.{drives_of}

pub drive-requires : goal.drive-requires
drive-requires c =
    let d = c.args.component.now in
    record {
      may = may_open _ _ _ c.in-Ok.run' c.in-Ok.ensures.turn c.new-main.result (c.requires.double, c.requires.next) (covered_of d c.requires.exports) c.in_ok-store.store _ c.run_concurrent.ensures.store _
          (codes_of d c.requires.exports) version.One 2 100000 1000000 (let two = c.requires.two in omega (arith, two)) c.in_ok-store.ensures.state c.in_ok-store.ensures.works (c.new-main.ensures.keeps _) c.in_ok-store.ensures.groups;
    }

pub returns-clause-answers : goal.returns-clause-answers
returns-clause-answers c v done =
    let gone = c.in_ok-outcome.ensures.drives.gone in
    answered c.args.word _ _ _ _ _ _ _ _ 64 _ v c.new-main.ensures.word c.new-trace.ensures gone.has.ran.trace gone.has.ran.run gone.has.ran.mains gone.outcome done

pub returns-clause-ran : goal.returns-clause-ran
returns-clause-ran c = (
  _,
  driven _ _ _ _ _ _ _ _ _
      (ap (λ (b : Bool). setting_of c.args.component.now [] b) c.in-Ok.ensures.idle)
      (ap (λ (p : Turn). state_at c.run_concurrent.new.store.state.core Unscripted p) c.in-Ok.ensures.turn
      ∙ rw (c.run_concurrent.ensures.store, c.in_ok-store.ensures.state) refl)
      c.new-trace.ensures (drives_of _ _ _ _ _ 64 _ c.in_ok-outcome.ensures.drives.gone),
)
