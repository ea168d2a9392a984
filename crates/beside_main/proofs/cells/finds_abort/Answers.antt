use Rattle.std.proofs.Common.{List, ap, arith, length, refl, subst, sym, ◌∙◌, ◌≡◌, ◌≤◌}
use Rattle.std.proofs.lemmas.Option.{slice_get_read}
use Rattle.std.specs.Prelude.{Some, slice_get, ◌-◌, ℕ, ◌+◌}
use Rattle.beside_main.proofs.CallLemmas.{adds_one, adds_past, open_here, open_past, poll_called}
use Rattle.beside_main.proofs.CellLemmas.{one_cell}
use Rattle.beside_main.specs.Same.{same_cells}
use Rattle.machine_data.specs.declared.statuses.Phase.{Phase}
use Rattle.machine_data.specs.declared.statuses.Phase.TheVariants as phase
use Rattle.task_abort.specs.declared.log.PhaseCall.TheVariants.{PollFuture}
use Rattle.std.specs.Prelude.{[], ◌∷◌}
use Rattle.beside_main.proofs.cells.finds_abort.Goals as goal

pub returns-in_default-clause-cells : goal.returns-in_default-clause-cells
returns-in_default-clause-cells c = same_cells c.args.cells.now.items

pub returns-in_default-clause-calls : goal.returns-in_default-clause-calls
returns-in_default-clause-calls c = adds_past c.args.place c.args.cells.now.items (PollFuture ∷ []) (let past = c.in_default.ensures in omega (arith, c.args.cells.now.ok.0, past))

pub returns-in_default-clause-still : goal.returns-in_default-clause-still
returns-in_default-clause-still c = open_past c.args.place c.args.cells.now.items (let past = c.in_default.ensures in omega (arith, c.args.cells.now.ok.0, past))

pub returns-in_err-phase-clause-cells : goal.returns-in_err-phase-clause-cells
returns-in_err-phase-clause-cells c =
    let ds = c.args.cells.now.items in
    let i = c.args.place in
    let s = c.in-Some.cell.now in
    let there : slice_get ds i ≡ Some s = slice_get_read ds (length ds) i s refl (omega (arith, c.args.cells.now.ok.0, c.in-Some.ensures.variant.0 refl)) c.in-Some.ensures.value in
    one_cell ds i s c.poll.new.self there (record { cell = c.poll.ensures.cell; split = c.poll.ensures.rest.1.0; met = c.poll.ensures.rest.1.1; round = c.poll.ensures.round })

pub returns-in-Running-clause-cells : goal.returns-in-Running-clause-cells
returns-in-Running-clause-cells c =
    let ds = c.args.cells.now.items in
    let i = c.args.place in
    let s = c.in-Some.cell.now in
    let there : slice_get ds i ≡ Some s = slice_get_read ds (length ds) i s refl (omega (arith, c.args.cells.now.ok.0, c.in-Some.ensures.variant.0 refl)) c.in-Some.ensures.value in
    one_cell ds i s c.poll.new.self there (record { cell = c.poll.ensures.cell; split = c.poll.ensures.rest.1.0; met = c.poll.ensures.rest.1.1; round = c.poll.ensures.round })

pub returns-in-Running-clause-calls : goal.returns-in-Running-clause-calls
returns-in-Running-clause-calls c =
    let ds = c.args.cells.now.items in
    let i = c.args.place in
    let s = c.in-Some.cell.now in
    let there : slice_get ds i ≡ Some s = slice_get_read ds (length ds) i s refl (omega (arith, c.args.cells.now.ok.0, c.in-Some.ensures.variant.0 refl)) c.in-Some.ensures.value in
    let polled = poll_called s c.poll.new.self c.in_ok-phase.phase c.in_ok-phase.ensures.call (λ is. let clash : phase.Running ≡ phase.Complete = sym c.in-Running.is ∙ is in absurd (cc)) in
    adds_one i ds s c.poll.new.self (PollFuture ∷ []) there polled.1

pub returns-in-Running-clause-still : goal.returns-in-Running-clause-still
returns-in-Running-clause-still c =
    let ds = c.args.cells.now.items in
    let i = c.args.place in
    let s = c.in-Some.cell.now in
    let there : slice_get ds i ≡ Some s = slice_get_read ds (length ds) i s refl (omega (arith, c.args.cells.now.ok.0, c.in-Some.ensures.variant.0 refl)) c.in-Some.ensures.value in
    let polled = poll_called s c.poll.new.self c.in_ok-phase.phase c.in_ok-phase.ensures.call (λ is. let clash : phase.Running ≡ phase.Complete = sym c.in-Running.is ∙ is in absurd (cc)) in
    open_here i ds s c.poll.new.self there (c.poll.ensures.rest.0 ∙ polled.0)

pub returns-in-AbortRequested-clause-cells : goal.returns-in-AbortRequested-clause-cells
returns-in-AbortRequested-clause-cells c =
    let ds = c.args.cells.now.items in
    let i = c.args.place in
    let s = c.in-Some.cell.now in
    let there : slice_get ds i ≡ Some s = slice_get_read ds (length ds) i s refl (omega (arith, c.args.cells.now.ok.0, c.in-Some.ensures.variant.0 refl)) c.in-Some.ensures.value in
    one_cell ds i s c.poll.new.self there (record { cell = c.poll.ensures.cell; split = c.poll.ensures.rest.1.0; met = c.poll.ensures.rest.1.1; round = c.poll.ensures.round })

pub returns-in-AbortRequested-clause-calls : goal.returns-in-AbortRequested-clause-calls
returns-in-AbortRequested-clause-calls c =
    let ds = c.args.cells.now.items in
    let i = c.args.place in
    let s = c.in-Some.cell.now in
    let there : slice_get ds i ≡ Some s = slice_get_read ds (length ds) i s refl (omega (arith, c.args.cells.now.ok.0, c.in-Some.ensures.variant.0 refl)) c.in-Some.ensures.value in
    let polled = poll_called s c.poll.new.self c.in_ok-phase.phase c.in_ok-phase.ensures.call (λ is. let clash : phase.AbortRequested ≡ phase.Complete = sym c.in-AbortRequested.is ∙ is in absurd (cc)) in
    adds_one i ds s c.poll.new.self (PollFuture ∷ []) there polled.1

pub returns-in-AbortRequested-clause-still : goal.returns-in-AbortRequested-clause-still
returns-in-AbortRequested-clause-still c =
    let ds = c.args.cells.now.items in
    let i = c.args.place in
    let s = c.in-Some.cell.now in
    let there : slice_get ds i ≡ Some s = slice_get_read ds (length ds) i s refl (omega (arith, c.args.cells.now.ok.0, c.in-Some.ensures.variant.0 refl)) c.in-Some.ensures.value in
    let polled = poll_called s c.poll.new.self c.in_ok-phase.phase c.in_ok-phase.ensures.call (λ is. let clash : phase.AbortRequested ≡ phase.Complete = sym c.in-AbortRequested.is ∙ is in absurd (cc)) in
    open_here i ds s c.poll.new.self there (c.poll.ensures.rest.0 ∙ polled.0)

pub returns-in-Complete-clause-cells : goal.returns-in-Complete-clause-cells
returns-in-Complete-clause-cells c =
    let ds = c.args.cells.now.items in
    let i = c.args.place in
    let s = c.in-Some.cell.now in
    let there : slice_get ds i ≡ Some s = slice_get_read ds (length ds) i s refl (omega (arith, c.args.cells.now.ok.0, c.in-Some.ensures.variant.0 refl)) c.in-Some.ensures.value in
    one_cell ds i s c.poll.new.self there (record { cell = c.poll.ensures.cell; split = c.poll.ensures.rest.1.0; met = c.poll.ensures.rest.1.1; round = c.poll.ensures.round })
