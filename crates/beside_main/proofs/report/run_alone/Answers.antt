use Rattle.std.proofs.Common.{List, refl, subst, sym, ◌∙◌}
use Rattle.beside_main.proofs.CellLemmas.{met_kept, new_met, none_listed}
use Rattle.beside_main.proofs.ReportLemmas.{alone_ends, reported}
use Rattle.beside_main.specs.Cells.{AreCounts, AreNew}
use Rattle.beside_works.specs.declared.cells.SharedSpawn.{SharedSpawn}
use Rattle.beside_main.proofs.report.run_alone.Goals as goal

pub go_on-requires : goal.go_on-requires
go_on-requires g c = record { able = c.in_ok-beside.ensures.able }

pub report_of-requires-clause-met : goal.report_of-requires-clause-met
report_of-requires-clause-met g c =
    met_kept c.in_ok-beside.beside.cells.list.items c.go_on.new.self.cells.list.items c.in_ok-outcome.ensures.took.cells
    (new_met c.in_ok-beside.beside.cells.list.items (subst (λ (cs : List SharedSpawn). AreNew cs) (sym c.in_ok-beside.ensures.cells) c.requires.new))

pub report_of-requires-clause-concurrent : goal.report_of-requires-clause-concurrent
report_of-requires-clause-concurrent g c = c.in_ok-outcome.ensures.took.concurrent ∙ c.in_ok-beside.ensures.concurrent

pub returns : goal.returns
returns g c =
    let x = c.args.scenario.now in
    let a = c.in_ok-beside.beside in
    let b = c.go_on.new.self in
    let took = c.in_ok-outcome.ensures.took in
    let early = c.in_ok-early.early.items in
    let counts = subst (λ (cs : List SharedSpawn). AreCounts cs early) c.as_slice.ensures.value c.in_ok-early.ensures.counts in
    reported x c.args.steps b c.in_ok-outcome.outcome early c.report_of.result c.report_of.ensures
    (alone_ends _ x c.args.steps c.requires.alone c.traps_on_idle-trap.result c.traps_on_idle-trap.ensures c.args.cells.items a b c.in_ok-outcome.outcome c.requires.new c.in_ok-beside.ensures took c.in_ok-outcome.ensures.left
    early counts)
    (took.concurrent ∙ c.in_ok-beside.ensures.concurrent)
    (none_listed x.aborters a.cells.list.items b.cells.list.items c.requires.alone (subst (λ (cs : List SharedSpawn). AreNew cs) (sym c.in_ok-beside.ensures.cells) c.requires.new) took.cells)
