use Rattle.std.proofs.Common.{◌≡◌, ◌∙◌, ◌≤◌, ℕ, List, ap, arith, length, map, refl, sym, take}
use Rattle.std.proofs.lemmas.List.{length-map}
use Rattle.std.proofs.lemmas.Option.{slice_get_past, slice_get_read}
use Rattle.std.specs.Prelude.{[], Some, slice_get, vec_len}
use Rattle.std.specs.Vec.Iter.{into_iter_items}
use Rattle.beside_works.proofs.CountLemmas.{not_below}
use Rattle.beside_works.proofs.MeetLemmas.{counts_next, each_length, each_part, lists_next, next_met, no_items, none_left, own_left, own_stays, past_both, rest_next, same_cell, stepped, stepped_past, there_is}
use Rattle.beside_works.proofs.NewLemmas.{at_err, field_after, next_index, raised_past}
use Rattle.beside_works.specs.Counts.{brief, cells_in, counts_in, met_count, met_of, places_in, raised, with_each}
use Rattle.beside_works.specs.Views.{own_list, spawn_cell, split_count}
use Rattle.beside_works.specs.declared.cells.AborterPass.{AborterPass}
use Rattle.beside_works.proofs.meets.meet_each.Goals as goal

pub loop-pass-init : goal.loop-pass-init
loop-pass-init c = record {
  rest = refl;
  ends = let gives = c.into_iter-pass-iterator.ensures.into_iter_gives in let one = gives.1 in let two = ap length gives.0 in omega (arith, one, two, c.args.aborter.passes.ok.0);
  cells = refl;
  split = refl;
  own = refl;
  count = refl;
  met = refl;
}

pub meet-requires-clause-cell : goal.meet-requires-clause-cell
meet-requires-clause-cell c =
    let ps = into_iter_items c.into_iter-pass-iterator.result in
    let gives : ps ≡ c.args.aborter.passes.items = c.into_iter-pass-iterator.ensures.into_iter_gives.0 in
    let cs = c.args.cells.now.items in
    let ds = c.loop-pass.cells.items in
    let i = c.loop-pass.place in
    let inv = c.loop-pass.invariant in
    let p = c.in-Some.pass in
    let next = rest_next i ps (into_iter_items c.next.new.self) p (sym c.in-Some.ensures.steps.0 ∙ inv.rest) in
    let cells : cells_in ps ≡ map spawn_cell cs = ap cells_in gives ∙ c.requires.cells in
    let s = c.in-Some-get_mut.cell.now in
    let there : slice_get ds i ≡ Some s = slice_get_read ds (length ds) i s refl (omega (arith, c.loop-pass.cells.ok.0, c.in-Some-get_mut.ensures.variant.0 refl)) c.in-Some-get_mut.ensures.value in
    same_cell ps cs ds i p s cells inv.cells next.0 there

pub meet-requires-clause-order : goal.meet-requires-clause-order
meet-requires-clause-order c =
    let ps = into_iter_items c.into_iter-pass-iterator.result in
    let gives : ps ≡ c.args.aborter.passes.items = c.into_iter-pass-iterator.ensures.into_iter_gives.0 in
    let cs = c.args.cells.now.items in
    let ds = c.loop-pass.cells.items in
    let i = c.loop-pass.place in
    let inv = c.loop-pass.invariant in
    let p = c.in-Some.pass in
    let next = rest_next i ps (into_iter_items c.next.new.self) p (sym c.in-Some.ensures.steps.0 ∙ inv.rest) in
    let cells : cells_in ps ≡ map spawn_cell cs = ap cells_in gives ∙ c.requires.cells in
    let s = c.in-Some-get_mut.cell.now in
    let there : slice_get ds i ≡ Some s = slice_get_read ds (length ds) i s refl (omega (arith, c.loop-pass.cells.ok.0, c.in-Some-get_mut.ensures.variant.0 refl)) c.in-Some-get_mut.ensures.value in
    next_met ps cs ds i p s (ap places_in gives ∙ c.requires.places) inv.count next.0 there

pub loop-pass-preserved-in-Continue-1 : goal.loop-pass-preserved-in-Continue-1
loop-pass-preserved-in-Continue-1 c =
    let ps = into_iter_items c.into_iter-pass-iterator.result in
    let gives : ps ≡ c.args.aborter.passes.items = c.into_iter-pass-iterator.ensures.into_iter_gives.0 in
    let cs = c.args.cells.now.items in
    let ds = c.loop-pass.cells.items in
    let i = c.loop-pass.place in
    let inv = c.loop-pass.invariant in
    let p = c.in-Some.pass in
    let next = rest_next i ps (into_iter_items c.next.new.self) p (sym c.in-Some.ensures.steps.0 ∙ inv.rest) in
    let cells : cells_in ps ≡ map spawn_cell cs = ap cells_in gives ∙ c.requires.cells in
    let s = c.in-Some-get_mut.cell.now in
    let there : slice_get ds i ≡ Some s = slice_get_read ds (length ds) i s refl (omega (arith, c.loop-pass.cells.ok.0, c.in-Some-get_mut.ensures.variant.0 refl)) c.in-Some-get_mut.ensures.value in
    let t = c.meet.new.self in
    let n = c.args.aborter.number in
    let met = c.in_ok-meet.ensures.met in
    record {
      rest = next.1;
      ends = let was = inv.ends in let gone = c.in-Some.ensures.steps.1 in let short = ap length c.in-Some.ensures.steps.0 in omega (arith, was, gone, short);
      cells = field_after spawn_cell ds i s t there c.meet.ensures.cell ∙ inv.cells;
      split = field_after split_count ds i s t there c.meet.ensures.rest.1 ∙ inv.split;
      own = field_after own_list ds i s t there (own_stays s t _ c.in_ok-meet.ensures.meets) ∙ inv.own;
      count = counts_next ps cs ds i n p s t met.0 next.0 there met.1 inv.count ∙ ap (λ (k : ℕ). raised k (map met_count cs)) (next_index i);
      met = lists_next ps cs ds i n p s t met.0 next.0 there met.1 (sym (each_length n (counts_in ps) (map met_of cs))) met.2.0 met.2.1 inv.met
          ∙ ap (λ (k : ℕ). stepped k (map met_of cs) (with_each n (counts_in ps) (map met_of cs))) (next_index i);
    }

-- there is a cell for each pass
pub loop-pass-preserved : goal.loop-pass-preserved
loop-pass-preserved c =
    let ps = into_iter_items c.into_iter-pass-iterator.result in
    let gives : ps ≡ c.args.aborter.passes.items = c.into_iter-pass-iterator.ensures.into_iter_gives.0 in
    let cs = c.args.cells.now.items in
    let ds = c.loop-pass.cells.items in
    let i = c.loop-pass.place in
    let inv = c.loop-pass.invariant in
    let p = c.in-Some.pass in
    let next = rest_next i ps (into_iter_items c.next.new.self) p (sym c.in-Some.ensures.steps.0 ∙ inv.rest) in
    let cells : cells_in ps ≡ map spawn_cell cs = ap cells_in gives ∙ c.requires.cells in
    absurd (there_is ps cs ds i p cells inv.cells next.0 (slice_get_past ds i (let past = not_below i (vec_len c.loop-pass.cells) (λ lt. let no = c.in_default.ensures.variant.1 lt in absurd (cc)) in omega (arith, c.loop-pass.cells.ok.0, past))))

pub returns-clause-count : goal.returns-clause-count
returns-clause-count c =
    let ps = into_iter_items c.into_iter-pass-iterator.result in
    let gives : ps ≡ c.args.aborter.passes.items = c.into_iter-pass-iterator.ensures.into_iter_gives.0 in
    let cs = c.args.cells.now.items in
    let ds = c.loop-pass.cells.items in
    let i = c.loop-pass.place in
    let inv = c.loop-pass.invariant in
    let none : into_iter_items c.loop-pass.pass-iterator ≡ [] = no_items _ (sym inv.ends ∙ c.in-None.ensures.steps.0) in
    let past : length ps ≤ i = none_left i ps (sym inv.rest ∙ none) in
    let over : length cs ≤ i = past_both ps cs i (ap cells_in gives ∙ c.requires.cells) past in
    inv.count ∙ raised_past i (map met_count cs) (let same = length-map cs met_count in omega (arith, same, over))

pub returns-clause-met : goal.returns-clause-met
returns-clause-met c =
    let ps = into_iter_items c.into_iter-pass-iterator.result in
    let gives : ps ≡ c.args.aborter.passes.items = c.into_iter-pass-iterator.ensures.into_iter_gives.0 in
    let cs = c.args.cells.now.items in
    let ds = c.loop-pass.cells.items in
    let i = c.loop-pass.place in
    let inv = c.loop-pass.invariant in
    let none : into_iter_items c.loop-pass.pass-iterator ≡ [] = no_items _ (sym inv.ends ∙ c.in-None.ensures.steps.0) in
    let past : length ps ≤ i = none_left i ps (sym inv.rest ∙ none) in
    let over : length cs ≤ i = past_both ps cs i (ap cells_in gives ∙ c.requires.cells) past in
    let n = c.args.aborter.number in
    inv.met ∙ (stepped_past i (map met_of cs) (with_each n (counts_in ps) (map met_of cs)) (sym (each_length n (counts_in ps) (map met_of cs))) (let same = length-map cs met_of in omega (arith, same, over))
    ∙ ap (λ (qs : List AborterPass). with_each n (counts_in qs) (map met_of cs)) gives)

pub returns-in_err-meet-clause-cells : goal.returns-in_err-meet-clause-cells
returns-in_err-meet-clause-cells c =
    let ps = into_iter_items c.into_iter-pass-iterator.result in
    let gives : ps ≡ c.args.aborter.passes.items = c.into_iter-pass-iterator.ensures.into_iter_gives.0 in
    let cs = c.args.cells.now.items in
    let ds = c.loop-pass.cells.items in
    let i = c.loop-pass.place in
    let inv = c.loop-pass.invariant in
    let s = c.in-Some-get_mut.cell.now in
    let there : slice_get ds i ≡ Some s = slice_get_read ds (length ds) i s refl (omega (arith, c.loop-pass.cells.ok.0, c.in-Some-get_mut.ensures.variant.0 refl)) c.in-Some-get_mut.ensures.value in
    let t = c.meet.new.self in
    let n = c.args.aborter.number in
    field_after spawn_cell ds i s t there c.meet.ensures.cell ∙ inv.cells

pub returns-in_err-meet-clause-split : goal.returns-in_err-meet-clause-split
returns-in_err-meet-clause-split c =
    let ps = into_iter_items c.into_iter-pass-iterator.result in
    let gives : ps ≡ c.args.aborter.passes.items = c.into_iter-pass-iterator.ensures.into_iter_gives.0 in
    let cs = c.args.cells.now.items in
    let ds = c.loop-pass.cells.items in
    let i = c.loop-pass.place in
    let inv = c.loop-pass.invariant in
    let s = c.in-Some-get_mut.cell.now in
    let there : slice_get ds i ≡ Some s = slice_get_read ds (length ds) i s refl (omega (arith, c.loop-pass.cells.ok.0, c.in-Some-get_mut.ensures.variant.0 refl)) c.in-Some-get_mut.ensures.value in
    let t = c.meet.new.self in
    let n = c.args.aborter.number in
    field_after split_count ds i s t there c.meet.ensures.rest.1 ∙ inv.split

pub returns-in_err-meet-clause-own : goal.returns-in_err-meet-clause-own
returns-in_err-meet-clause-own c =
    let ps = into_iter_items c.into_iter-pass-iterator.result in
    let gives : ps ≡ c.args.aborter.passes.items = c.into_iter-pass-iterator.ensures.into_iter_gives.0 in
    let cs = c.args.cells.now.items in
    let ds = c.loop-pass.cells.items in
    let i = c.loop-pass.place in
    let inv = c.loop-pass.invariant in
    let s = c.in-Some-get_mut.cell.now in
    let there : slice_get ds i ≡ Some s = slice_get_read ds (length ds) i s refl (omega (arith, c.loop-pass.cells.ok.0, c.in-Some-get_mut.ensures.variant.0 refl)) c.in-Some-get_mut.ensures.value in
    let t = c.meet.new.self in
    let n = c.args.aborter.number in
    field_after own_list ds i s t there (own_left s t c.in_err-meet.ensures.err.0) ∙ inv.own

pub returns-in_err-meet-clause-refused : goal.returns-in_err-meet-clause-refused
returns-in_err-meet-clause-refused c =
    let ps = into_iter_items c.into_iter-pass-iterator.result in
    let gives : ps ≡ c.args.aborter.passes.items = c.into_iter-pass-iterator.ensures.into_iter_gives.0 in
    let cs = c.args.cells.now.items in
    let ds = c.loop-pass.cells.items in
    let i = c.loop-pass.place in
    let inv = c.loop-pass.invariant in
    let s = c.in-Some-get_mut.cell.now in
    let there : slice_get ds i ≡ Some s = slice_get_read ds (length ds) i s refl (omega (arith, c.loop-pass.cells.ok.0, c.in-Some-get_mut.ensures.variant.0 refl)) c.in-Some-get_mut.ensures.value in
    let t = c.meet.new.self in
    let n = c.args.aborter.number in
    at_err c.from_residual.result (
      i,
      field_after met_of ds i s t there (ap (map brief) c.in_err-meet.ensures.err.1) ∙ (inv.met ∙ (sym (each_part n i (counts_in ps) (map met_of cs))
          ∙ ap (λ (qs : List AborterPass). with_each n (take i (counts_in qs)) (map met_of cs)) gives)),
    )

pub returns-then-out_of_memory-clause-refused : goal.returns-then-out_of_memory-clause-refused
returns-then-out_of_memory-clause-refused c = (0, refl)
