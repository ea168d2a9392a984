use Rattle.std.proofs.Common.{◌≡◌, ◌∙◌, ℕ, ap, arith, length, refl, suc, sym}
use Rattle.std.specs.Prelude.{vec_len}
use Rattle.std.proofs.lemmas.Option.{slice_get_past, slice_get_read}
use Rattle.beside_works.proofs.CountLemmas.{cells_after, counts_after, counts_past, longer, not_below, places_after}
use Rattle.beside_works.proofs.NewLemmas.{at_err, field_after}
use Rattle.beside_works.specs.Counts.{added, counts_in}
use Rattle.beside_works.specs.Views.{found_list}
use Rattle.beside_works.specs.declared.cells.AborterPass.{AborterPass}
use Rattle.beside_works.proofs.aborter_aborters.abort_one.Goals as goal

pub returns-in_err-_phase-clause-cells : goal.returns-in_err-_phase-clause-cells
returns-in_err-_phase-clause-cells c = cells_after c.args.passes.now.items c.in-Some.place c.in-Some-get_mut.pass.now c.abort.new.self (slice_get_read c.args.passes.now.items (length c.args.passes.now.items) c.in-Some.place c.in-Some-get_mut.pass.now refl (omega (arith, c.args.passes.now.ok.0, c.in-Some-get_mut.ensures.variant.0 refl)) c.in-Some-get_mut.ensures.value) c.abort.ensures.cell

pub returns-in_err-_phase-clause-places : goal.returns-in_err-_phase-clause-places
returns-in_err-_phase-clause-places c = places_after c.args.passes.now.items c.in-Some.place c.in-Some-get_mut.pass.now c.abort.new.self (slice_get_read c.args.passes.now.items (length c.args.passes.now.items) c.in-Some.place c.in-Some-get_mut.pass.now refl (omega (arith, c.args.passes.now.ok.0, c.in-Some-get_mut.ensures.variant.0 refl)) c.in-Some-get_mut.ensures.value) c.abort.ensures.place

pub returns-in_ok-_phase-clause-cells : goal.returns-in_ok-_phase-clause-cells
returns-in_ok-_phase-clause-cells c = cells_after c.args.passes.now.items c.in-Some.place c.in-Some-get_mut.pass.now c.abort.new.self (slice_get_read c.args.passes.now.items (length c.args.passes.now.items) c.in-Some.place c.in-Some-get_mut.pass.now refl (omega (arith, c.args.passes.now.ok.0, c.in-Some-get_mut.ensures.variant.0 refl)) c.in-Some-get_mut.ensures.value) c.abort.ensures.cell

pub returns-in_ok-_phase-clause-places : goal.returns-in_ok-_phase-clause-places
returns-in_ok-_phase-clause-places c = places_after c.args.passes.now.items c.in-Some.place c.in-Some-get_mut.pass.now c.abort.new.self (slice_get_read c.args.passes.now.items (length c.args.passes.now.items) c.in-Some.place c.in-Some-get_mut.pass.now refl (omega (arith, c.args.passes.now.ok.0, c.in-Some-get_mut.ensures.variant.0 refl)) c.in-Some-get_mut.ensures.value) c.abort.ensures.place

pub returns-in_ok-_phase-clause-counts : goal.returns-in_ok-_phase-clause-counts
returns-in_ok-_phase-clause-counts c =
    let is : c.args.spawn ≡ suc c.in-Some.place = omega (arith, c.in-Some.ensures) in
    counts_after c.args.passes.now.items c.in-Some.place c.in-Some-get_mut.pass.now c.abort.new.self (slice_get_read c.args.passes.now.items (length c.args.passes.now.items) c.in-Some.place c.in-Some-get_mut.pass.now refl (omega (arith, c.args.passes.now.ok.0, c.in-Some-get_mut.ensures.variant.0 refl)) c.in-Some-get_mut.ensures.value)
    (longer (found_list c.in-Some-get_mut.pass.now) (found_list c.abort.new.self) _ c.in_ok-_phase.ensures.found)
    ∙ ap (λ (n : ℕ). added n (counts_in c.args.passes.now.items)) (sym is)

pub returns-in_default-get_mut-clause-counts : goal.returns-in_default-get_mut-clause-counts
returns-in_default-get_mut-clause-counts c =
    let is : c.args.spawn ≡ suc c.in-Some.place = omega (arith, c.in-Some.ensures) in
    sym (ap (λ (n : ℕ). added n (counts_in c.args.passes.now.items)) is ∙ counts_past c.args.passes.now.items c.in-Some.place (slice_get_past c.args.passes.now.items c.in-Some.place (let past = not_below c.in-Some.place (vec_len c.args.passes.now) (λ lt. let no = c.in_default-get_mut.ensures.variant.1 lt in absurd (cc)) in omega (arith, c.args.passes.now.ok.0, past))))

pub returns-in_err-_phase-clause-err : goal.returns-in_err-_phase-clause-err
returns-in_err-_phase-clause-err c = at_err c.from_residual.result (field_after (λ (r : AborterPass). length (found_list r)) c.args.passes.now.items c.in-Some.place c.in-Some-get_mut.pass.now c.abort.new.self (slice_get_read c.args.passes.now.items (length c.args.passes.now.items) c.in-Some.place c.in-Some-get_mut.pass.now refl (omega (arith, c.args.passes.now.ok.0, c.in-Some-get_mut.ensures.variant.0 refl)) c.in-Some-get_mut.ensures.value)
    (ap length c.in_err-_phase.ensures.err.1))
