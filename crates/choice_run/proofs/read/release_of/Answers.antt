-- What follows `release` are its numbers.
use Rattle.choice_run.proofs.WordLemmas.{mapped_some, released}
use Rattle.choice_run.proofs.read.release_of.Goals as goal
use Rattle.std.proofs.Common.{ap, rules, ◌∙◌}
use Rattle.std.specs.Prelude.{codes, false, length, map, ◌==◌, ◌∷◌, ◌≡◌}

pub returns : goal.returns
returns c =
    let said : map (λ w. w.now) c.args.words.now ≡ c.in-Some.word.now.now ∷ map (λ w. w.now) c.in-Some.rest.now = ap (map (λ w. w.now)) c.in-Some.ensures.cases.0 in
    let same : c.in-Some.word.now.now ≡ codes "release" = search rules in
    let long : (length c.in-Some.rest.now == 0) ≡ false = search rules in
    let some = mapped_some (λ w. w.now) c.in-Some.rest.now long in
    released (map (λ w. w.now) c.args.words.now) (map (λ w. w.now) c.in-Some.rest.now) c.numbers.result (said ∙ ap (λ w. w ∷ map (λ w. w.now) c.in-Some.rest.now) same) some c.numbers.ensures
