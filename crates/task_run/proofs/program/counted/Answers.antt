use Rattle.std.proofs.Common.{◌≡◌, sym, ◌∙◌, arith}
use Rattle.std.proofs.lemmas.Fmt.{decimal_injective}
use Rattle.task_run.proofs.program.counted.Goals as goal

pub returns-in_default : goal.returns-in_default
returns-in_default c = λ n some few is.
    let most = c.requires in
    let none = c.if-number-gt0.false in
    let same : c.in-Some.number ≡ n = decimal_injective c.in-Some.number n (omega (arith, none)) (omega (arith, few, most)) (sym c.in-Some.ensures.0 ∙ is) in
    absurd (omega (arith, same, some, none))
