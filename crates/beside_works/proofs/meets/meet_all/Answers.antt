use Rattle.std.proofs.Common.{◌≡◌, ◌∙◌, List, ap, arith, inl, inr, length, map, refl, subst, sym}
use Rattle.std.specs.Prelude.{ℕ, [], ◌∷◌}
use Rattle.std.specs.Vec.Iter.{into_iter_items}
use Rattle.beside_works.proofs.MeetLemmas.{later_more, later_none, no_items}
use Rattle.beside_works.proofs.NewLemmas.{at_err}
use Rattle.beside_works.specs.Aborters.{CanMeet, MetInPart, NoneOutOfMemory, with_all}
use Rattle.beside_works.specs.Counts.{later, met_count, met_of}
use Rattle.beside_works.specs.declared.line.Aborter.{Aborter}
use Rattle.beside_works.specs.Views.{spawn_cell}
use Rattle.beside_works.proofs.meets.meet_all.Goals as goal

pub loop-aborter-init : goal.loop-aborter-init
loop-aborter-init c =
    let gives = c.into_iter-aborter-iterator.ensures.into_iter_gives in
    record {
      ends = let one = gives.1 in let two = ap length gives.0 in omega (arith, one, two, c.args.aborters.ok.0);
      can = subst (λ (all : List Aborter). CanMeet (map spawn_cell c.args.cells.now.items) (map met_count c.args.cells.now.items) all) (sym gives.0) c.requires;
      cells = refl;
      split = refl;
      own = refl;
      count = refl;
      met = refl;
      part = λ news was. was;
      out_of_memory = λ none. none;
    }

pub meet_each-requires-clause-cells : goal.meet_each-requires-clause-cells
meet_each-requires-clause-cells c = (subst (λ (all : List Aborter). CanMeet (map spawn_cell c.loop-aborter.cells.items) (map met_count c.loop-aborter.cells.items) all) c.in-Some.ensures.steps.0 c.loop-aborter.invariant.can).0

pub meet_each-requires-clause-places : goal.meet_each-requires-clause-places
meet_each-requires-clause-places c = (subst (λ (all : List Aborter). CanMeet (map spawn_cell c.loop-aborter.cells.items) (map met_count c.loop-aborter.cells.items) all) c.in-Some.ensures.steps.0 c.loop-aborter.invariant.can).1.0

pub loop-aborter-preserved : goal.loop-aborter-preserved
loop-aborter-preserved c =
    let inv = c.loop-aborter.invariant in
    let does = c.in_ok-meet_each.ensures in
    let a = c.in-Some.aborter in
    let rest = into_iter_items c.next.new.self in
    let steps : into_iter_items c.loop-aborter.aborter-iterator ≡ a ∷ rest = c.in-Some.ensures.steps.0 in
    let can : CanMeet (map spawn_cell c.loop-aborter.cells.items) (map met_count c.loop-aborter.cells.items) (a ∷ rest) =
    subst (λ (all : List Aborter). CanMeet (map spawn_cell c.loop-aborter.cells.items) (map met_count c.loop-aborter.cells.items) all) steps inv.can in
    record {
      ends = let was = inv.ends in let gone = c.in-Some.ensures.steps.1 in let short = ap length steps in omega (arith, was, gone, short);
      can = subst (λ (ms : List ℕ). CanMeet (map spawn_cell c.meet_each.new.cells.items) ms rest) (sym does.count)
          (subst (λ ids. CanMeet ids (later 1 (map met_count c.loop-aborter.cells.items)) rest) (sym c.meet_each.ensures.cells) can.1.1);
      cells = c.meet_each.ensures.cells ∙ inv.cells;
      split = c.meet_each.ensures.split ∙ inv.split;
      own = c.meet_each.ensures.own ∙ inv.own;
      count = ap (later (length rest)) does.count ∙ (later_more (length rest) (map met_count c.loop-aborter.cells.items)
          ∙ (ap (λ (all : List Aborter). later (length all) (map met_count c.loop-aborter.cells.items)) (sym steps) ∙ inv.count));
      met = ap (with_all rest) does.met ∙ (ap (λ (all : List Aborter). with_all all (map met_of c.loop-aborter.cells.items)) (sym steps) ∙ inv.met);
      part = λ news left. inv.part news (subst (λ (all : List Aborter). MetInPart all (map met_of c.loop-aborter.cells.items) news) (sym steps)
          (inr (subst (λ mss. MetInPart rest mss news) does.met left)));
      out_of_memory = λ none. inv.out_of_memory (subst (λ (all : List Aborter). NoneOutOfMemory all) (sym steps) (does.out_of_memory, none));
    }

pub returns-clause-count : goal.returns-clause-count
returns-clause-count c =
    let inv = c.loop-aborter.invariant in
    let gives = c.into_iter-aborter-iterator.ensures.into_iter_gives.0 in
    let none : into_iter_items c.loop-aborter.aborter-iterator ≡ [] = no_items _ (sym inv.ends ∙ c.in-None.ensures.steps.0) in
    sym (later_none (map met_count c.loop-aborter.cells.items)) ∙ (ap (λ (all : List Aborter). later (length all) (map met_count c.loop-aborter.cells.items)) (sym none)
    ∙ (inv.count ∙ ap (λ (all : List Aborter). later (length all) (map met_count c.args.cells.now.items)) gives))

pub returns-clause-met : goal.returns-clause-met
returns-clause-met c =
    let inv = c.loop-aborter.invariant in
    let gives = c.into_iter-aborter-iterator.ensures.into_iter_gives.0 in
    let none : into_iter_items c.loop-aborter.aborter-iterator ≡ [] = no_items _ (sym inv.ends ∙ c.in-None.ensures.steps.0) in
    ap (λ (all : List Aborter). with_all all (map met_of c.loop-aborter.cells.items)) (sym none)
    ∙ (inv.met ∙ ap (λ (all : List Aborter). with_all all (map met_of c.args.cells.now.items)) gives)

pub returns-clause-out_of_memory : goal.returns-clause-out_of_memory
returns-clause-out_of_memory c =
    let inv = c.loop-aborter.invariant in
    let gives = c.into_iter-aborter-iterator.ensures.into_iter_gives.0 in
    let none : into_iter_items c.loop-aborter.aborter-iterator ≡ [] = no_items _ (sym inv.ends ∙ c.in-None.ensures.steps.0) in
    subst (λ (all : List Aborter). NoneOutOfMemory all) gives (inv.out_of_memory (subst (λ (all : List Aborter). NoneOutOfMemory all) (sym none) tt))

pub returns-in_err-meet_each-clause-cells : goal.returns-in_err-meet_each-clause-cells
returns-in_err-meet_each-clause-cells c = c.meet_each.ensures.cells ∙ c.loop-aborter.invariant.cells

pub returns-in_err-meet_each-clause-split : goal.returns-in_err-meet_each-clause-split
returns-in_err-meet_each-clause-split c = c.meet_each.ensures.split ∙ c.loop-aborter.invariant.split

pub returns-in_err-meet_each-clause-own : goal.returns-in_err-meet_each-clause-own
returns-in_err-meet_each-clause-own c = c.meet_each.ensures.own ∙ c.loop-aborter.invariant.own

pub returns-in_err-meet_each-clause-refused : goal.returns-in_err-meet_each-clause-refused
returns-in_err-meet_each-clause-refused c =
    let gives = c.into_iter-aborter-iterator.ensures.into_iter_gives.0 in
    let news = map met_of c.meet_each.new.cells.items in
    at_err c.from_residual.result (subst (λ (all : List Aborter). MetInPart all (map met_of c.args.cells.now.items) news) gives
    (c.loop-aborter.invariant.part news (subst (λ (all : List Aborter). MetInPart all (map met_of c.loop-aborter.cells.items) news) (sym c.in-Some.ensures.steps.0) (inl c.in_err-meet_each.ensures.refused))))
