use Rattle.std.proofs.Common.{List, ap, arith, drop, length, rules, subst, sym, take, ◌++◌, ◌∙◌, ◌≡◌}
use Rattle.beside_main.proofs.AllMetLemmas.{same_number}
use Rattle.beside_works.proofs.NewLemmas.{whole_items}
use Rattle.beside_works.specs.Aborters.{HaveRun}
use Rattle.beside_works.specs.declared.line.Aborter.{Aborter}
use Rattle.beside_main.proofs.report.run_all.Goals as goal

pub returns : goal.returns
returns g c =
    let all = c.args.aborters in
    let news = c.run_aborters.new.aborters in
    let same : c.as_mut_slice.result.now ≡ all.items = search rules in
    let whole : take all.len (news ++ drop (length news) all.items) ≡ news =
    whole_items news all.items all.len (same_number c.args.lines.now c.as_mut_slice.result.now news c.run_aborters.ensures ∙ ap length same) (omega (arith, all.ok.0)) in
    subst (λ (bs : List Aborter). HaveRun c.args.lines.now all.items bs) (sym whole) (subst (λ (olds : List Aborter). HaveRun c.args.lines.now olds news) same c.run_aborters.ensures)
