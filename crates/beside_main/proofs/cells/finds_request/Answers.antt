use Rattle.std.proofs.Common.{List, ap, arith, length, refl, subst, sym, ◌∙◌, ◌≡◌, ◌≤◌}
use Rattle.std.proofs.lemmas.Option.{slice_get_read}
use Rattle.std.specs.Prelude.{Some, slice_get, ◌-◌, ℕ, ◌+◌}
use Rattle.beside_main.proofs.CallLemmas.{adds_spawn, call_added, spawn_none, spawn_past, zero_of}
use Rattle.beside_main.proofs.CellLemmas.{one_cell}
use Rattle.beside_main.specs.Same.{same_cells}
use Rattle.task_abort.specs.declared.log.PhaseCall.TheVariants.{Abort}
use Rattle.std.specs.Prelude.{[], ◌∷◌}
use Rattle.beside_main.proofs.cells.finds_request.Goals as goal

pub returns-in_default-clause-cells : goal.returns-in_default-clause-cells
returns-in_default-clause-cells c = same_cells c.args.cells.now.items

pub returns-in_default-clause-calls : goal.returns-in_default-clause-calls
returns-in_default-clause-calls c = spawn_none c.args.spawn c.args.cells.now.items (Abort ∷ []) (zero_of c.args.spawn c.in_default.ensures)

pub returns-in_default-get_mut-clause-cells : goal.returns-in_default-get_mut-clause-cells
returns-in_default-get_mut-clause-cells c = same_cells c.args.cells.now.items

pub returns-in_default-get_mut-clause-calls : goal.returns-in_default-get_mut-clause-calls
returns-in_default-get_mut-clause-calls c = spawn_past c.args.spawn c.in-Some.place c.args.cells.now.items (Abort ∷ []) (let less = c.in-Some.ensures in omega (arith, less.0, less.1)) (let past = c.in_default-get_mut.ensures in omega (arith, c.args.cells.now.ok.0, past))

pub returns-in_err-phase-clause-cells : goal.returns-in_err-phase-clause-cells
returns-in_err-phase-clause-cells c =
    let ds = c.args.cells.now.items in
    let i = c.in-Some.place in
    let s = c.in-Some-get_mut.cell.now in
    let there : slice_get ds i ≡ Some s = slice_get_read ds (length ds) i s refl (omega (arith, c.args.cells.now.ok.0, c.in-Some-get_mut.ensures.variant.0 refl)) c.in-Some-get_mut.ensures.value in
    one_cell ds i s c.abort.new.self there (record { cell = c.abort.ensures.cell; split = c.abort.ensures.rest.1.0; met = c.abort.ensures.rest.1.1; round = c.abort.ensures.round })

pub returns-in-Running-clause-cells : goal.returns-in-Running-clause-cells
returns-in-Running-clause-cells c =
    let ds = c.args.cells.now.items in
    let i = c.in-Some.place in
    let s = c.in-Some-get_mut.cell.now in
    let there : slice_get ds i ≡ Some s = slice_get_read ds (length ds) i s refl (omega (arith, c.args.cells.now.ok.0, c.in-Some-get_mut.ensures.variant.0 refl)) c.in-Some-get_mut.ensures.value in
    one_cell ds i s c.abort.new.self there (record { cell = c.abort.ensures.cell; split = c.abort.ensures.rest.1.0; met = c.abort.ensures.rest.1.1; round = c.abort.ensures.round })

pub returns-in-Running-clause-calls : goal.returns-in-Running-clause-calls
returns-in-Running-clause-calls c =
    let ds = c.args.cells.now.items in
    let i = c.in-Some.place in
    let s = c.in-Some-get_mut.cell.now in
    let there : slice_get ds i ≡ Some s = slice_get_read ds (length ds) i s refl (omega (arith, c.args.cells.now.ok.0, c.in-Some-get_mut.ensures.variant.0 refl)) c.in-Some-get_mut.ensures.value in
    adds_spawn c.args.spawn i ds s c.abort.new.self (Abort ∷ []) (let less = c.in-Some.ensures in omega (arith, less.0, less.1)) there (call_added Abort s c.abort.new.self c.in_ok-phase.phase c.in_ok-phase.ensures.call)

pub returns-in-AbortRequested-clause-cells : goal.returns-in-AbortRequested-clause-cells
returns-in-AbortRequested-clause-cells c =
    let ds = c.args.cells.now.items in
    let i = c.in-Some.place in
    let s = c.in-Some-get_mut.cell.now in
    let there : slice_get ds i ≡ Some s = slice_get_read ds (length ds) i s refl (omega (arith, c.args.cells.now.ok.0, c.in-Some-get_mut.ensures.variant.0 refl)) c.in-Some-get_mut.ensures.value in
    one_cell ds i s c.abort.new.self there (record { cell = c.abort.ensures.cell; split = c.abort.ensures.rest.1.0; met = c.abort.ensures.rest.1.1; round = c.abort.ensures.round })

pub returns-in-AbortRequested-clause-calls : goal.returns-in-AbortRequested-clause-calls
returns-in-AbortRequested-clause-calls c =
    let ds = c.args.cells.now.items in
    let i = c.in-Some.place in
    let s = c.in-Some-get_mut.cell.now in
    let there : slice_get ds i ≡ Some s = slice_get_read ds (length ds) i s refl (omega (arith, c.args.cells.now.ok.0, c.in-Some-get_mut.ensures.variant.0 refl)) c.in-Some-get_mut.ensures.value in
    adds_spawn c.args.spawn i ds s c.abort.new.self (Abort ∷ []) (let less = c.in-Some.ensures in omega (arith, less.0, less.1)) there (call_added Abort s c.abort.new.self c.in_ok-phase.phase c.in_ok-phase.ensures.call)

pub returns-in-Complete-clause-cells : goal.returns-in-Complete-clause-cells
returns-in-Complete-clause-cells c =
    let ds = c.args.cells.now.items in
    let i = c.in-Some.place in
    let s = c.in-Some-get_mut.cell.now in
    let there : slice_get ds i ≡ Some s = slice_get_read ds (length ds) i s refl (omega (arith, c.args.cells.now.ok.0, c.in-Some-get_mut.ensures.variant.0 refl)) c.in-Some-get_mut.ensures.value in
    one_cell ds i s c.abort.new.self there (record { cell = c.abort.ensures.cell; split = c.abort.ensures.rest.1.0; met = c.abort.ensures.rest.1.1; round = c.abort.ensures.round })

pub returns-in-Complete-clause-calls : goal.returns-in-Complete-clause-calls
returns-in-Complete-clause-calls c =
    let ds = c.args.cells.now.items in
    let i = c.in-Some.place in
    let s = c.in-Some-get_mut.cell.now in
    let there : slice_get ds i ≡ Some s = slice_get_read ds (length ds) i s refl (omega (arith, c.args.cells.now.ok.0, c.in-Some-get_mut.ensures.variant.0 refl)) c.in-Some-get_mut.ensures.value in
    adds_spawn c.args.spawn i ds s c.abort.new.self (Abort ∷ []) (let less = c.in-Some.ensures in omega (arith, less.0, less.1)) there (call_added Abort s c.abort.new.self c.in_ok-phase.phase c.in_ok-phase.ensures.call)
