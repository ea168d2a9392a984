use Rattle.std.proofs.Common.{◌≡◌, ◌∙◌, ℕ, List, ap, arith, length, length-append, map, refl, replicate, subst, suc, sym}
use Rattle.std.proofs.lemmas.List.{length-map}
use Rattle.std.specs.Prelude.{[], ◌+◌, ◌∷◌}
use Rattle.beside_works.proofs.MeetLemmas.{later_none, later_one, new_more}
use Rattle.beside_works.proofs.NewLemmas.{at_err, next_index, raised_none, same_length}
use Rattle.beside_works.specs.Aborters.{AreNew, IsNew}
use Rattle.beside_works.specs.Counts.{later, raised}
use Rattle.beside_works.specs.declared.line.Aborter.{Aborter}
use Rattle.beside_works.specs.Views.{spawn_cell, split_count}
use Rattle.beside_works.proofs.meets.aborters_of.Goals as goal

pub loop-line-init : goal.loop-line-init
loop-line-init c = record {
  new = subst (λ (all : List Aborter). AreNew (map spawn_cell c.args.cells.now.items) (map split_count c.args.cells.now.items) 0 all) (sym c.new-all.ensures.items) tt;
  each = ap length c.new-all.ensures.items;
  number = refl;
  cells = refl;
  split = sym (later_none (map split_count c.args.cells.now.items));
  met = refl;
  own = refl;
}

pub loop-line-preserved : goal.loop-line-preserved
loop-line-preserved c =
    let i = c.loop-line._line-index in
    let first = c.args.cells.now.items in
    let all = c.loop-line.all.items in
    let a = c.in_ok-aborter.aborter in
    let inv = c.loop-line.invariant in
    let does = c.in_ok-aborter.ensures in
    let as_long : length c.loop-line.cells.items ≡ length (map split_count first) = same_length spawn_cell c.loop-line.cells.items first inv.cells ∙ sym (length-map first split_count) in
    let here : 0 + length all ≡ i = (let each = inv.each in omega (arith, each)) in
    let new : IsNew (map spawn_cell first) (map split_count first) i a = record {
      number = let one = c.in-Some.ensures in let two = does.first.0 in let three = inv.number in omega (arith, one, two, three);
      cells = does.cells ∙ inv.cells;
      places = does.places ∙ inv.split;
      counts = does.counts ∙ ap (λ (n : ℕ). replicate n 0) as_long;
      out_of_memory = does.first.1;
    } in
    record {
      new = subst (λ (all : List Aborter). AreNew (map spawn_cell first) (map split_count first) 0 all) (sym c.in_ok-add.ensures.ok)
          (new_more (map spawn_cell first) (map split_count first) 0 all a inv.new (subst (λ (k : ℕ). IsNew (map spawn_cell first) (map split_count first) k a) (sym here) new));
      each = let more = ap length c.in_ok-add.ensures.ok ∙ length-append all (a ∷ []) in let each = inv.each in omega (arith, more, each);
      number = let one = c.in-Some.ensures in let two = inv.number in omega (arith, one, two);
      cells = c.new.ensures.same ∙ inv.cells;
      split = does.split ∙ (ap (later 1) inv.split ∙ (later_one i (map split_count first) ∙ ap (λ (k : ℕ). later k (map split_count first)) (next_index i)));
      met = c.new.ensures.rest.0 ∙ inv.met;
      own = c.new.ensures.rest.1 ∙ inv.own;
    }

pub returns-clause-each : goal.returns-clause-each
returns-clause-each c =
    let each = c.loop-line.invariant.each in let past = c.loop-line-test.false in let below = c.loop-line.auto._line-index-end in
    omega (arith, each, past, below)

pub returns-clause-split : goal.returns-clause-split
returns-clause-split c =
    let whole : c.loop-line._line-index ≡ length c.args.lines.now = omega (arith, c.loop-line-test.false, c.loop-line.auto._line-index-end) in
    c.loop-line.invariant.split ∙ ap (λ (k : ℕ). later k (map split_count c.args.cells.now.items)) whole

pub returns-in_default-clause-cells : goal.returns-in_default-clause-cells
returns-in_default-clause-cells c = c.loop-line.invariant.cells

pub returns-in_default-clause-met : goal.returns-in_default-clause-met
returns-in_default-clause-met c = c.loop-line.invariant.met

pub returns-in_default-clause-own : goal.returns-in_default-clause-own
returns-in_default-clause-own c = c.loop-line.invariant.own

pub returns-in_default-clause-refused : goal.returns-in_default-clause-refused
returns-in_default-clause-refused c =
    let i = c.loop-line._line-index in
    let splits = map split_count c.args.cells.now.items in
    (i, 0, c.loop-line.invariant.split ∙ sym (raised_none (later i splits)))

pub returns-in_err-aborter-clause-cells : goal.returns-in_err-aborter-clause-cells
returns-in_err-aborter-clause-cells c = c.new.ensures.same ∙ c.loop-line.invariant.cells

pub returns-in_err-aborter-clause-met : goal.returns-in_err-aborter-clause-met
returns-in_err-aborter-clause-met c = c.new.ensures.rest.0 ∙ c.loop-line.invariant.met

pub returns-in_err-aborter-clause-own : goal.returns-in_err-aborter-clause-own
returns-in_err-aborter-clause-own c = c.new.ensures.rest.1 ∙ c.loop-line.invariant.own

pub returns-in_err-aborter-clause-refused : goal.returns-in_err-aborter-clause-refused
returns-in_err-aborter-clause-refused c =
    let i = c.loop-line._line-index in
    let splits = map split_count c.args.cells.now.items in
    let refused = c.in_err-aborter.ensures.refused in
    at_err c.from_residual.result (i, refused.0, refused.1 ∙ ap (raised refused.0) c.loop-line.invariant.split)

pub returns-in_err-add-clause-cells : goal.returns-in_err-add-clause-cells
returns-in_err-add-clause-cells c = c.new.ensures.same ∙ c.loop-line.invariant.cells

pub returns-in_err-add-clause-met : goal.returns-in_err-add-clause-met
returns-in_err-add-clause-met c = c.new.ensures.rest.0 ∙ c.loop-line.invariant.met

pub returns-in_err-add-clause-own : goal.returns-in_err-add-clause-own
returns-in_err-add-clause-own c = c.new.ensures.rest.1 ∙ c.loop-line.invariant.own

pub returns-in_err-add-clause-refused : goal.returns-in_err-add-clause-refused
returns-in_err-add-clause-refused c =
    let i = c.loop-line._line-index in
    let splits = map split_count c.args.cells.now.items in
    let split = c.in_ok-aborter.ensures.split ∙ (ap (later 1) c.loop-line.invariant.split ∙ later_one i splits) in
    at_err c.from_residual-in_err-add.result (suc i, 0, split ∙ sym (raised_none (later (suc i) splits)))
