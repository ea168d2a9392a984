use Rattle.std.proofs.Common.{List, ℕ, refl, rules, subst}
use Rattle.std.proofs.lemmas.Option.{slice_get_read}
use Rattle.beside_works.proofs.RunLemmas.{both_have, one_has}
use Rattle.beside_works.specs.Aborters.{HasRun, HaveRun}
use Rattle.beside_works.proofs.threads.+fn-run_aborters-join_mut+arg2+fn-run_aborters-join_mut+arg3+run_aborters.Goals as goal

pub returns-in-Some : goal.returns-in-Some
returns-in-Some g t c =
    let item = c.in-Some.ensures.item in
    one_has c.args.lines.now c.args.aborters.now c.in-Some.aborter.now c.run.new.self c.if-aborters-lt2.true (slice_get_read c.args.aborters.now _ 0 c.in-Some.aborter.now refl item.3.0 item.1)
    (subst (λ (line : List ℕ). HasRun line c.in-Some.aborter.now c.run.new.self) c.line_at-line.ensures c.run.ensures)

pub returns : goal.returns
returns g t c =
    let front : HaveRun c.args.lines.now c.split_at_mut-front.result.0.now c.front-1.given.0 = search rules in
    let back : HaveRun c.args.lines.now c.split_at_mut-front.result.1.now c.back-1.given.0 = search rules in
    rw c.split_at_mut-front.ensures.value (both_have c.args.lines.now _ _ _ _ front back)
