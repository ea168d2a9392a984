use Rattle.std.proofs.Common.{List, ap, arith, length, refl, subst, sym, ◌∙◌, ◌≡◌, ◌≤◌}
use Rattle.std.proofs.lemmas.Option.{slice_get_read}
use Rattle.std.specs.Prelude.{Some, slice_get, ◌-◌, ℕ, ◌+◌}
use Rattle.beside_main.proofs.CallLemmas.{adds_one, adds_past, finish_called}
use Rattle.beside_main.proofs.CellLemmas.{one_cell}
use Rattle.beside_main.specs.Same.{same_cells}
use Rattle.task_abort.specs.declared.log.PhaseCall.TheVariants.{Finish}
use Rattle.std.specs.Prelude.{[], ◌∷◌}
use Rattle.beside_main.proofs.cells.finish.Goals as goal

pub returns-in_default-clause-cells : goal.returns-in_default-clause-cells
returns-in_default-clause-cells c = same_cells c.args.cells.now.items

pub returns-in_default-clause-calls : goal.returns-in_default-clause-calls
returns-in_default-clause-calls c = adds_past c.args.place c.args.cells.now.items (Finish ∷ []) (let past = c.in_default.ensures in omega (arith, c.args.cells.now.ok.0, past))

pub returns-in_err-finish-clause-cells : goal.returns-in_err-finish-clause-cells
returns-in_err-finish-clause-cells c =
    let ds = c.args.cells.now.items in
    let i = c.args.place in
    let s = c.in-Some.cell.now in
    let there : slice_get ds i ≡ Some s = slice_get_read ds (length ds) i s refl (omega (arith, c.args.cells.now.ok.0, c.in-Some.ensures.variant.0 refl)) c.in-Some.ensures.value in
    one_cell ds i s c.finish.new.self there (record { cell = c.finish.ensures.cell; split = c.finish.ensures.rest.0; met = c.finish.ensures.rest.1; round = c.finish.ensures.round })

pub returns-clause-cells : goal.returns-clause-cells
returns-clause-cells c =
    let ds = c.args.cells.now.items in
    let i = c.args.place in
    let s = c.in-Some.cell.now in
    let there : slice_get ds i ≡ Some s = slice_get_read ds (length ds) i s refl (omega (arith, c.args.cells.now.ok.0, c.in-Some.ensures.variant.0 refl)) c.in-Some.ensures.value in
    one_cell ds i s c.finish.new.self there (record { cell = c.finish.ensures.cell; split = c.finish.ensures.rest.0; met = c.finish.ensures.rest.1; round = c.finish.ensures.round })

pub returns-clause-calls : goal.returns-clause-calls
returns-clause-calls c =
    let ds = c.args.cells.now.items in
    let i = c.args.place in
    let s = c.in-Some.cell.now in
    let there : slice_get ds i ≡ Some s = slice_get_read ds (length ds) i s refl (omega (arith, c.args.cells.now.ok.0, c.in-Some.ensures.variant.0 refl)) c.in-Some.ensures.value in
    adds_one i ds s c.finish.new.self (Finish ∷ []) there (finish_called s c.finish.new.self (c.requires s there) c.in_ok-finish.ensures.call)
