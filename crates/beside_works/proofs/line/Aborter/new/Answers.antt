use Rattle.std.proofs.Common.{◌≡◌, ◌∙◌, ◌≤◌, ℕ, ap, arith, get_or, length, map, replicate, rules, suc, sym, take}
use Rattle.std.proofs.lemmas.List.{length-map}
use Rattle.std.proofs.lemmas.Option.{slice_get-get_or}
use Rattle.std.specs.Prelude.{Some, slice_get}
use Rattle.beside_works.proofs.NewLemmas.{at_err, field_after, got, more_items, next_index, raised_past, same_length, set_whole, splits_after, whole_items, zero_items}
use Rattle.beside_works.specs.Counts.{later, raised}
use Rattle.beside_works.specs.Views.{found_list, met_list, own_list, pass_cell_of, place_of, spawn_cell, split_count}
use Rattle.beside_works.specs.declared.cells.AborterPass.{AborterPass}
use Rattle.beside_works.proofs.line.Aborter.new.Goals as goal

pub loop-cell-preserved : goal.loop-cell-preserved
loop-cell-preserved c =
    let i = c.loop-cell.cell-index in
    let items = c.loop-cell.cell-items in
    let first = c.deref_mut-cell-items.result.now in
    let p = get_or items i c.cell-item.result in
    let q = c.split.new.self in
    let inv = c.loop-cell.invariant in
    let long : length items ≡ length first = same_length spawn_cell items first inv.same in
    let at : slice_get items i ≡ Some p = slice_get-get_or items i c.cell-item.result (omega (arith, c.loop-cell-test.true, long)) in
    let split = splits_after split_count items i p q (map split_count first) at c.in_ok-pass.ensures.place.1 inv.split in
    let same : slice_get (map spawn_cell first) i ≡ Some (spawn_cell p) = ap (λ xs. slice_get xs i) (sym inv.same) ∙ got spawn_cell items i p at in
    record {
      same = field_after spawn_cell items i p q at c.split.ensures.cell ∙ inv.same;
      met = field_after met_list items i p q at c.split.ensures.rest.1.1 ∙ inv.met;
      own = field_after own_list items i p q at c.split.ensures.rest.1.0 ∙ inv.own;
      split = split.0 ∙ ap (λ (k : ℕ). raised k (map split_count first)) (next_index i);
      cells = more_items pass_cell_of c.loop-cell.passes.items c.add.new.list.items c.in_ok-pass.pass i (map spawn_cell first) (spawn_cell p) c.in_ok-add.ensures.ok c.in_ok-pass.ensures.right.0 same inv.cells
          ∙ ap (λ (k : ℕ). take k (map spawn_cell first)) (next_index i);
      places = more_items place_of c.loop-cell.passes.items c.add.new.list.items c.in_ok-pass.pass i (map split_count first) (split_count p) c.in_ok-add.ensures.ok c.in_ok-pass.ensures.place.0 split.1 inv.places
          ∙ ap (λ (k : ℕ). take k (map split_count first)) (next_index i);
      counts = zero_items (λ (r : AborterPass). length (found_list r)) c.loop-cell.passes.items c.add.new.list.items c.in_ok-pass.pass i c.in_ok-add.ensures.ok (ap length c.in_ok-pass.ensures.found) inv.counts
          ∙ ap (λ (k : ℕ). replicate k 0) (next_index i);
    }

pub returns-clause-split : goal.returns-clause-split
returns-clause-split c =
    let items = c.loop-cell.cell-items in
    let old = c.args.cells.now in
    let first = c.deref_mut-cell-items.result.now in
    let whole : first ≡ old.items = search rules in
    let long : length items ≡ length first = same_length spawn_cell items first c.loop-cell.invariant.same in
    let same = ap length whole in
    let past : length (map split_count first) ≤ c.loop-cell.cell-index = (let one = length-map first split_count in omega (arith, one, c.loop-cell-test.false)) in
    ap (map split_count) (whole_items items old.items old.len (long ∙ same) (omega (arith, old.ok.0)))
    ∙ (c.loop-cell.invariant.split ∙ (raised_past c.loop-cell.cell-index (map split_count first) past ∙ ap (λ xs. later 1 (map split_count xs)) whole))

pub returns-in_err-pass-clause-same : goal.returns-in_err-pass-clause-same
returns-in_err-pass-clause-same c =
    let i = c.loop-cell.cell-index in
    let items = c.loop-cell.cell-items in
    let old = c.args.cells.now in
    let first = c.deref_mut-cell-items.result.now in
    let p = get_or items i c.cell-item.result in
    let q = c.split.new.self in
    let inv = c.loop-cell.invariant in
    let whole : first ≡ old.items = search rules in
    let long : length items ≡ length first = same_length spawn_cell items first inv.same in
    let at : slice_get items i ≡ Some p = slice_get-get_or items i c.cell-item.result (omega (arith, c.loop-cell-test.true, long)) in
    let same = ap length whole in
    let all = set_whole items old.items old.len i q (long ∙ same) (omega (arith, old.ok.0)) in
    ap (map spawn_cell) all ∙ (field_after spawn_cell items i p q at c.split.ensures.cell ∙ (inv.same ∙ ap (map spawn_cell) whole))

pub returns-in_err-pass-clause-rest : goal.returns-in_err-pass-clause-rest
returns-in_err-pass-clause-rest c =
    let i = c.loop-cell.cell-index in
    let items = c.loop-cell.cell-items in
    let old = c.args.cells.now in
    let first = c.deref_mut-cell-items.result.now in
    let p = get_or items i c.cell-item.result in
    let q = c.split.new.self in
    let inv = c.loop-cell.invariant in
    let whole : first ≡ old.items = search rules in
    let long : length items ≡ length first = same_length spawn_cell items first inv.same in
    let at : slice_get items i ≡ Some p = slice_get-get_or items i c.cell-item.result (omega (arith, c.loop-cell-test.true, long)) in
    let same = ap length whole in
    let all = set_whole items old.items old.len i q (long ∙ same) (omega (arith, old.ok.0)) in (
      ap (map met_list) all ∙ (field_after met_list items i p q at c.split.ensures.rest.1.1 ∙ (inv.met ∙ ap (map met_list) whole)),
      ap (map own_list) all ∙ (field_after own_list items i p q at c.split.ensures.rest.1.0 ∙ (inv.own ∙ ap (map own_list) whole)),
    )

pub returns-in_err-pass-clause-refused : goal.returns-in_err-pass-clause-refused
returns-in_err-pass-clause-refused c =
    let i = c.loop-cell.cell-index in
    let items = c.loop-cell.cell-items in
    let old = c.args.cells.now in
    let first = c.deref_mut-cell-items.result.now in
    let p = get_or items i c.cell-item.result in
    let q = c.split.new.self in
    let inv = c.loop-cell.invariant in
    let whole : first ≡ old.items = search rules in
    let long : length items ≡ length first = same_length spawn_cell items first inv.same in
    let at : slice_get items i ≡ Some p = slice_get-get_or items i c.cell-item.result (omega (arith, c.loop-cell-test.true, long)) in
    let same = ap length whole in
    let all = set_whole items old.items old.len i q (long ∙ same) (omega (arith, old.ok.0)) in
    at_err c.from_residual.result (i, ap (map split_count) all ∙ (field_after split_count items i p q at c.in_err-pass.ensures.err.1 ∙ (inv.split ∙ ap (λ xs. raised i (map split_count xs)) whole)))

pub returns-in_err-add-clause-same : goal.returns-in_err-add-clause-same
returns-in_err-add-clause-same c =
    let i = c.loop-cell.cell-index in
    let items = c.loop-cell.cell-items in
    let old = c.args.cells.now in
    let first = c.deref_mut-cell-items.result.now in
    let p = get_or items i c.cell-item.result in
    let q = c.split.new.self in
    let inv = c.loop-cell.invariant in
    let whole : first ≡ old.items = search rules in
    let long : length items ≡ length first = same_length spawn_cell items first inv.same in
    let at : slice_get items i ≡ Some p = slice_get-get_or items i c.cell-item.result (omega (arith, c.loop-cell-test.true, long)) in
    let same = ap length whole in
    let all = set_whole items old.items old.len i q (long ∙ same) (omega (arith, old.ok.0)) in
    ap (map spawn_cell) all ∙ (field_after spawn_cell items i p q at c.split.ensures.cell ∙ (inv.same ∙ ap (map spawn_cell) whole))

pub returns-in_err-add-clause-rest : goal.returns-in_err-add-clause-rest
returns-in_err-add-clause-rest c =
    let i = c.loop-cell.cell-index in
    let items = c.loop-cell.cell-items in
    let old = c.args.cells.now in
    let first = c.deref_mut-cell-items.result.now in
    let p = get_or items i c.cell-item.result in
    let q = c.split.new.self in
    let inv = c.loop-cell.invariant in
    let whole : first ≡ old.items = search rules in
    let long : length items ≡ length first = same_length spawn_cell items first inv.same in
    let at : slice_get items i ≡ Some p = slice_get-get_or items i c.cell-item.result (omega (arith, c.loop-cell-test.true, long)) in
    let same = ap length whole in
    let all = set_whole items old.items old.len i q (long ∙ same) (omega (arith, old.ok.0)) in (
      ap (map met_list) all ∙ (field_after met_list items i p q at c.split.ensures.rest.1.1 ∙ (inv.met ∙ ap (map met_list) whole)),
      ap (map own_list) all ∙ (field_after own_list items i p q at c.split.ensures.rest.1.0 ∙ (inv.own ∙ ap (map own_list) whole)),
    )

pub returns-in_err-add-clause-refused : goal.returns-in_err-add-clause-refused
returns-in_err-add-clause-refused c =
    let i = c.loop-cell.cell-index in
    let items = c.loop-cell.cell-items in
    let old = c.args.cells.now in
    let first = c.deref_mut-cell-items.result.now in
    let p = get_or items i c.cell-item.result in
    let q = c.split.new.self in
    let inv = c.loop-cell.invariant in
    let whole : first ≡ old.items = search rules in
    let long : length items ≡ length first = same_length spawn_cell items first inv.same in
    let at : slice_get items i ≡ Some p = slice_get-get_or items i c.cell-item.result (omega (arith, c.loop-cell-test.true, long)) in
    let same = ap length whole in
    let all = set_whole items old.items old.len i q (long ∙ same) (omega (arith, old.ok.0)) in
    at_err c.from_residual-in_err-add.result (suc i, ap (map split_count) all ∙ ((splits_after split_count items i p q (map split_count first) at c.in_ok-pass.ensures.place.1 inv.split).0 ∙ ap (λ xs. raised (suc i) (map split_count xs)) whole))

pub returns-clause-rest : goal.returns-clause-rest
returns-clause-rest c =
    let items = c.loop-cell.cell-items in
    let old = c.args.cells.now in
    let first = c.deref_mut-cell-items.result.now in
    let inv = c.loop-cell.invariant in
    let whole : first ≡ old.items = search rules in
    let long : length items ≡ length first = same_length spawn_cell items first inv.same in
    let same = ap length whole in
    let all = whole_items items old.items old.len (long ∙ same) (omega (arith, old.ok.0)) in (
      ap (map met_list) all ∙ (inv.met ∙ ap (map met_list) whole),
      ap (map own_list) all ∙ (inv.own ∙ ap (map own_list) whole),
    )

pub returns-clause-same : goal.returns-clause-same
returns-clause-same c =
    let items = c.loop-cell.cell-items in
    let old = c.args.cells.now in
    let first = c.deref_mut-cell-items.result.now in
    let inv = c.loop-cell.invariant in
    let whole : first ≡ old.items = search rules in
    let long : length items ≡ length first = same_length spawn_cell items first inv.same in
    let same = ap length whole in
    ap (map spawn_cell) (whole_items items old.items old.len (long ∙ same) (omega (arith, old.ok.0))) ∙ (inv.same ∙ ap (map spawn_cell) whole)
