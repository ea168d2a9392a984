-- The name alone names no number.
use Rattle.choice_run.proofs.WordLemmas.{alone, mapped_none}
use Rattle.choice_run.proofs.read.named.Goals as goal
use Rattle.std.proofs.Common.{ap, rules}
use Rattle.std.specs.Prelude.{None, length, map, ◌∷◌, ◌≡◌}

pub returns-in_err-number : goal.returns-in_err-number
returns-in_err-number c =
    let short : length c.in-Some.rest.now ≡ 0 = search rules in
    let ends = mapped_none (λ w. w.now) c.in-Some.rest.now short in
    let said : map (λ w. w.now) c.args.words.now ≡ c.in-Some.word.now.now ∷ map (λ w. w.now) c.in-Some.rest.now = ap (map (λ w. w.now)) c.in-Some.ensures.cases.0 in
    let same : c.in-Some.word.now.now ≡ c.args.name.now = search rules in
    let none : c.from_residual.result ≡ None = search rules in
    rw none (alone c.args.name.now c.in-Some.word.now.now c.args.most (map (λ w. w.now) c.args.words.now) (map (λ w. w.now) c.in-Some.rest.now) said same ends)
