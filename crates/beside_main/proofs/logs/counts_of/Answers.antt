use Rattle.std.proofs.Common.{List, ap, arith, get_or, length, rules, subst, sym, ◌∙◌, ◌≡◌}
use Rattle.std.specs.Prelude.{[], ℕ}
use Rattle.beside_main.proofs.CellLemmas.{counts_next, early_next}
use Rattle.beside_main.specs.Cells.{AreCounts, AreEarly}
use Rattle.beside_works.proofs.NewLemmas.{take_past}
use Rattle.beside_works.specs.Views.{own_list, spawn_view}
use Rattle.beside_works.specs.declared.cells.SharedSpawn.{SharedSpawn}
use Rattle.task_abort.specs.Staged.{LastRound}
use Rattle.beside_main.proofs.logs.counts_of.Goals as goal

pub loop-cell-init : goal.loop-cell-init
loop-cell-init c = record { early = subst (λ (ns : List ℕ). AreEarly [] ns) (sym c.new-counts.ensures.items) tt; counts = c.new-counts.ensures.items }

pub loop-cell-preserved : goal.loop-cell-preserved
loop-cell-preserved c =
    let cells = c.args.cells.now in
    let i = c.loop-cell.cell-index in
    let cell = c.cell-item.result in
    let here : cell ≡ get_or cells i cell = search rules in
    record {
      early = early_next cells c.loop-cell.counts.items c.add.new.list.items i c.calls.result cell c.loop-cell-test.true c.loop-cell.invariant.early
          (subst (λ (s : SharedSpawn). LastRound (spawn_view s) c.calls.result) here c.calls.ensures.round) c.in_ok-add.ensures.ok;
      counts = counts_next cells c.loop-cell.counts.items c.add.new.list.items i c.calls.result cell c.loop-cell-test.true c.loop-cell.invariant.counts
          (c.calls.ensures.count ∙ ap (λ (s : SharedSpawn). length (own_list s)) here) c.in_ok-add.ensures.ok;
    }

pub returns-clause-early : goal.returns-clause-early
returns-clause-early c =
    subst (λ (cs : List SharedSpawn). AreEarly cs c.loop-cell.counts.items)
    (take_past c.loop-cell.cell-index c.args.cells.now (let past = c.loop-cell-test.false in omega (arith, past))) c.loop-cell.invariant.early

pub returns-clause-counts : goal.returns-clause-counts
returns-clause-counts c =
    subst (λ (cs : List SharedSpawn). AreCounts cs c.loop-cell.counts.items)
    (take_past c.loop-cell.cell-index c.args.cells.now (let past = c.loop-cell-test.false in omega (arith, past))) c.loop-cell.invariant.counts
