use Rattle.std.proofs.Common.{arith}
use Rattle.tests_choices.proofs.GoingLemmas.{comes_to}
use Rattle.tests_choices.proofs.machine.went.Goals as goal

pub go-requires-clause-few : goal.go-requires-clause-few
go-requires-clause-few g c = λ opened. let few = c.requires.few opened in omega (arith, few)

pub returns : goal.returns
returns g c = comes_to c.args.machine.now c.args.choice.now c.in-Ok.went c.go.new.self c.requires.kept c.in-Ok.ensures
