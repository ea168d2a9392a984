use Rattle.std.proofs.Common.{arith}
use Rattle.tests_choices.proofs.GoingLemmas.{only_to}
use Rattle.tests_choices.proofs.machine.goes_only.Goals as goal

pub go_only-requires-clause-few : goal.go_only-requires-clause-few
go_only-requires-clause-few g c = λ opened. let few = c.requires.few opened in omega (arith, few)

pub returns : goal.returns
returns g c = only_to c.args.machine.now c.in-Ok.only c.go_only.new.self c.requires.kept c.in-Ok.ensures
