use Rattle.std.proofs.Common.{List, ℕ, ap, map, refl, rules, subst, sym, ◌∙◌, ◌≡◌}
use Rattle.beside_main.proofs.CallLemmas.{called_same}
use Rattle.beside_main.proofs.CellLemmas.{AreListed, all_are_met, all_listed, can, early_kept, new_called}
use Rattle.beside_main.specs.Same.{same_cells}
use Rattle.beside_main.proofs.ReportLemmas.{beside_ends, past_ends, reported, stalls}
use Rattle.beside_main.specs.Cells.{AreCounts, AreEarly, KeepsCells}
use Rattle.beside_main.specs.Course.{Able}
use Rattle.beside_works.specs.declared.cells.SharedSpawn.{SharedSpawn}
use Rattle.laws_beside.specs.Courses.{none_called}
use Rattle.ops_turns.specs.Turn.{goes_on}
use Rattle.beside_main.proofs.report.run_with.Goals as goal

pub run_both-requires : goal.run_both-requires
run_both-requires g c = let able : Able c.args.scenario.now.component c.in_ok-beside.beside = c.in_ok-beside.ensures.able in search rules

pub meet_all-requires : goal.meet_all-requires
meet_all-requires g c =
    let x = c.args.scenario.now in
    let lines = c.as_slice-lines.result.now in
    let ds = c.aborters_of.new.cells.items in
    let ran = c.in_ok-ran.ran in
    let kept : KeepsCells ds ran.1.0.cells.list.items = subst (λ (cs : List SharedSpawn). KeepsCells cs ran.1.0.cells.list.items) c.in_ok-beside.ensures.cells c.in_ok-ran.ensures.1.took.cells in
    can lines c.args.cells.items ds ran.1.0.cells.list.items c.in_ok-aborters.aborters.items ran.0.items c.requires.new c.aborters_of.ensures.cells c.aborters_of.ensures.met
    c.in_ok-aborters.ensures.new c.in_ok-aborters.ensures.each kept c.in_ok-ran.ensures.0

pub report_of-requires-clause-met : goal.report_of-requires-clause-met
report_of-requires-clause-met g c =
    let x = c.args.scenario.now in
    let lines = c.as_slice-lines.result.now in
    let ds = c.aborters_of.new.cells.items in
    let ran = c.in_ok-ran.ran in
    let kept : KeepsCells ds ran.1.0.cells.list.items = subst (λ (cs : List SharedSpawn). KeepsCells cs ran.1.0.cells.list.items) c.in_ok-beside.ensures.cells c.in_ok-ran.ensures.1.took.cells in
    let fs = c.meet_all.new.cells.items in
    all_are_met lines c.args.cells.items ds ran.1.0.cells.list.items c.in_ok-aborters.aborters.items ran.0.items c.requires.new c.aborters_of.ensures.cells c.aborters_of.ensures.met
    c.in_ok-aborters.ensures.new c.in_ok-aborters.ensures.each kept c.in_ok-ran.ensures.0 fs fs c.in_ok-aborters.ensures.split c.meet_all.ensures.split c.in_ok-meet_all.ensures.count c.in_ok-meet_all.ensures.met
    c.in_ok-meet_all.ensures.out_of_memory (same_cells fs)

pub report_of-requires-clause-concurrent : goal.report_of-requires-clause-concurrent
report_of-requires-clause-concurrent g c = c.in_ok-ran.ensures.1.took.concurrent ∙ c.in_ok-beside.ensures.concurrent

pub returns-then-not-is_idle : goal.returns-then-not-is_idle
returns-then-not-is_idle g c =
    let x = c.args.scenario.now in
    let lines = c.as_slice-lines.result.now in
    let ds = c.aborters_of.new.cells.items in
    let ran = c.in_ok-ran.ran in
    let took = c.in_ok-ran.ensures.1.took in
    let kept : KeepsCells ds ran.1.0.cells.list.items = subst (λ (cs : List SharedSpawn). KeepsCells cs ran.1.0.cells.list.items) c.in_ok-beside.ensures.cells took.cells in
    let fs = c.meet_all.new.cells.items in
    let early = c.in_ok-early.early.items in
    let counts = subst (λ (cs : List SharedSpawn). AreCounts cs early) c.as_slice.ensures.value c.in_ok-early.ensures.counts in
    let called = called_same none_called.calls 1 c.args.cells.items ds c.aborters_of.ensures.own (new_called c.args.cells.items 1 c.requires.new) in
    reported x c.args.steps _ ran.1.1 early c.report_of.result c.report_of.ensures
    (beside_ends _ x c.args.steps c.requires.some ds c.in_ok-beside.beside ran.1.0 ran.1.1 c.in_ok-beside.ensures took called c.meet_all.new.cells c.meet_all.ensures.own early counts c.in_ok-ran.ensures.1.used
    (λ idle. c.is_idle.ensures.other c.if-not-is_idle.true idle))
    (took.concurrent ∙ c.in_ok-beside.ensures.concurrent)
    (subst (λ (ls : List (List ℕ)). AreListed ls fs) c.as_slice-lines.ensures (all_listed lines c.args.cells.items ds ran.1.0.cells.list.items c.in_ok-aborters.aborters.items ran.0.items c.requires.new c.aborters_of.ensures.cells c.aborters_of.ensures.met
    c.in_ok-aborters.ensures.new c.in_ok-aborters.ensures.each kept c.in_ok-ran.ensures.0 fs fs c.in_ok-aborters.ensures.split c.meet_all.ensures.split c.in_ok-meet_all.ensures.count c.in_ok-meet_all.ensures.met
    c.in_ok-meet_all.ensures.out_of_memory (same_cells fs)))

pub go_past-requires-clause-able : goal.go_past-requires-clause-able
go_past-requires-clause-able g c =
    let able = c.in_ok-ran.ensures.1.took.able (ap goes_on (c.is_idle.ensures.idle c.if-not-is_idle.false)) in
    record { may = able.may; few = able.few; noted = record { noted = able.noted.noted; rising = able.noted.rising; none = able.noted.none } }

pub go_past-requires-clause-turn : goal.go_past-requires-clause-turn
go_past-requires-clause-turn g c =
    let ran = c.in_ok-ran.ran in
    stalls _ c.args.scenario.now c.args.steps c.requires.some c.aborters_of.new.cells.items c.in_ok-beside.beside ran.1.0 ran.1.1 c.in_ok-beside.ensures c.in_ok-ran.ensures.1.took (c.is_idle.ensures.idle c.if-not-is_idle.false)

pub report_of-requires-2-clause-met : goal.report_of-requires-2-clause-met
report_of-requires-2-clause-met g c =
    let x = c.args.scenario.now in
    let lines = c.as_slice-lines.result.now in
    let ds = c.aborters_of.new.cells.items in
    let ran = c.in_ok-ran.ran in
    let kept : KeepsCells ds ran.1.0.cells.list.items = subst (λ (cs : List SharedSpawn). KeepsCells cs ran.1.0.cells.list.items) c.in_ok-beside.ensures.cells c.in_ok-ran.ensures.1.took.cells in
    let fs = c.meet_all.new.cells.items in
    all_are_met lines c.args.cells.items ds ran.1.0.cells.list.items c.in_ok-aborters.aborters.items ran.0.items c.requires.new c.aborters_of.ensures.cells c.aborters_of.ensures.met
    c.in_ok-aborters.ensures.new c.in_ok-aborters.ensures.each kept c.in_ok-ran.ensures.0 fs c.go_past.new.beside.cells.list.items c.in_ok-aborters.ensures.split c.meet_all.ensures.split c.in_ok-meet_all.ensures.count
    c.in_ok-meet_all.ensures.met c.in_ok-meet_all.ensures.out_of_memory c.in_ok-outcome.ensures.cells

pub report_of-requires-2-clause-early : goal.report_of-requires-2-clause-early
report_of-requires-2-clause-early g c =
    let early = c.in_ok-early.early.items in
    early_kept c.meet_all.new.cells.items c.go_past.new.beside.cells.list.items early c.in_ok-outcome.ensures.cells
    (subst (λ (cs : List SharedSpawn). AreEarly cs early) c.as_slice.ensures.value c.in_ok-early.ensures.early)

pub report_of-requires-2-clause-concurrent : goal.report_of-requires-2-clause-concurrent
report_of-requires-2-clause-concurrent g c = c.in_ok-outcome.ensures.concurrent ∙ (c.in_ok-ran.ensures.1.took.concurrent ∙ c.in_ok-beside.ensures.concurrent)

pub returns : goal.returns
returns g c =
    let x = c.args.scenario.now in
    let lines = c.as_slice-lines.result.now in
    let ds = c.aborters_of.new.cells.items in
    let ran = c.in_ok-ran.ran in
    let took = c.in_ok-ran.ensures.1.took in
    let kept : KeepsCells ds ran.1.0.cells.list.items = subst (λ (cs : List SharedSpawn). KeepsCells cs ran.1.0.cells.list.items) c.in_ok-beside.ensures.cells took.cells in
    let fs = c.meet_all.new.cells.items in
    let d = c.go_past.new.beside in
    let early = c.in_ok-early.early.items in
    let counts = subst (λ (cs : List SharedSpawn). AreCounts cs early) c.as_slice.ensures.value c.in_ok-early.ensures.counts in
    let called = called_same none_called.calls 1 c.args.cells.items ds c.aborters_of.ensures.own (new_called c.args.cells.items 1 c.requires.new) in
    reported x c.args.steps d c.in_ok-outcome.outcome early c.report_of-2.result c.report_of-2.ensures
    (past_ends _ x c.args.steps c.requires.some ds c.in_ok-beside.beside ran.1.0 ran.1.1 c.in_ok-beside.ensures took called c.meet_all.new.cells c.meet_all.ensures.own early counts
    (c.is_idle.ensures.idle c.if-not-is_idle.false) c.traps_on_idle-trap.result c.traps_on_idle-trap.ensures d c.in_ok-outcome.outcome c.in_ok-outcome.ensures)
    (c.in_ok-outcome.ensures.concurrent ∙ (took.concurrent ∙ c.in_ok-beside.ensures.concurrent))
    (subst (λ (ls : List (List ℕ)). AreListed ls d.cells.list.items) c.as_slice-lines.ensures (all_listed lines c.args.cells.items ds ran.1.0.cells.list.items c.in_ok-aborters.aborters.items ran.0.items c.requires.new c.aborters_of.ensures.cells c.aborters_of.ensures.met
    c.in_ok-aborters.ensures.new c.in_ok-aborters.ensures.each kept c.in_ok-ran.ensures.0 fs d.cells.list.items c.in_ok-aborters.ensures.split c.meet_all.ensures.split c.in_ok-meet_all.ensures.count c.in_ok-meet_all.ensures.met
    c.in_ok-meet_all.ensures.out_of_memory c.in_ok-outcome.ensures.cells))
