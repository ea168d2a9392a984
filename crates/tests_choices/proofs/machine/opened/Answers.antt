use Rattle.std.proofs.Common.{arith}
use Rattle.tests_choices.proofs.machine.opened.Goals as goal

pub returns-clause-few : goal.returns-clause-few
returns-clause-few g c = let none = c.in-Ok.ensures.numbers in λ opened. omega (arith, none)
