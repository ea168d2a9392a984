use Rattle.std.proofs.Common.{List, ap, arith, drop, length, map, rules, subst, sym, take, ◌++◌, ◌∙◌, ◌≡◌}
use Rattle.beside_works.proofs.NewLemmas.{whole_items}
use Rattle.beside_works.specs.Aborters.{AreNew, CanMeet}
use Rattle.beside_works.specs.Counts.{later, met_count}
use Rattle.beside_works.specs.declared.line.Aborter.{Aborter}
use Rattle.tests_beside.proofs.MetLemmas.{all_can, all_met, same_number}
use Rattle.beside_works.specs.Views.{spawn_cell, split_count}
use Rattle.tests_beside.proofs.aborters.abort_all.Goals as goal

pub meet_all-requires : goal.meet_all-requires
meet_all-requires g c =
    let first = c.args.cells.now.items in
    let all = c.in_ok-aborters.aborters in
    let news = c.run_aborters.new.aborters in
    let cells = c.aborters_of.new.cells.items in
    let same : c.as_mut_slice.result.now ≡ all.items = search rules in
    let whole : take all.len (news ++ drop (length news) all.items) ≡ news =
    whole_items news all.items all.len (same_number c.args.lines.now c.as_mut_slice.result.now news c.run_aborters.ensures ∙ ap length same) (omega (arith, all.ok.0)) in
    subst (λ (bs : List Aborter). CanMeet (map spawn_cell cells) (map met_count cells) bs) (sym whole)
    (all_can first cells c.args.lines.now c.as_mut_slice.result.now news c.requires c.aborters_of.ensures.cells c.aborters_of.ensures.met
    (subst (λ (olds : List Aborter). AreNew (map spawn_cell first) (map split_count first) 0 olds) (sym same) c.in_ok-aborters.ensures.new) c.run_aborters.ensures)

pub returns : goal.returns
returns g c =
    let all = c.in_ok-aborters.aborters in
    let news = c.run_aborters.new.aborters in
    let cells = c.aborters_of.new.cells.items in
    let same : c.as_mut_slice.result.now ≡ all.items = search rules in
    let whole : take all.len (news ++ drop (length news) all.items) ≡ news =
    whole_items news all.items all.len (same_number c.args.lines.now c.as_mut_slice.result.now news c.run_aborters.ensures ∙ ap length same) (omega (arith, all.ok.0)) in
    all_met c.args.cells.now.items cells _ c.args.lines.now c.as_mut_slice.result.now news c.requires c.in_ok-aborters.ensures.split c.aborters_of.ensures.met (ap length same ∙ c.in_ok-aborters.ensures.each)
    c.run_aborters.ensures c.meet_all.ensures.split (c.in_ok-meet_all.ensures.count ∙ ap (λ (bs : List Aborter). later (length bs) (map met_count cells)) whole)
