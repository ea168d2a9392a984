-- A start in a scope that takes no call changes nothing.
use Rattle.tests_serve.proofs.ScopeLemmas.{nothing_taken}
use Rattle.std.proofs.Common.{arith, refl, subst, sym}
use Rattle.machine_data.specs.declared.records.Turn.TheVariants as turn
use Rattle.tests_serve.proofs.scope.refused.Goals as goal

pub start-requires-clause-order : goal.start-requires-clause-order
start-requires-clause-order c = (turn.Main, c.requires.ready.order)

pub start-requires-clause-given : goal.start-requires-clause-given
start-requires-clause-given c = let few = c.requires.ready.few in omega (arith, few)

pub start-requires-clause-few : goal.start-requires-clause-few
start-requires-clause-few c = let few = c.requires.full.few in omega (arith, few)

pub returns-clause-ready : goal.returns-clause-ready
returns-clause-ready c = rw (nothing_taken _ _ _ _ _ c.requires.full c.start.ensures.begins.refuses).0 c.requires.ready

pub returns-clause-full : goal.returns-clause-full
returns-clause-full c = rw (nothing_taken _ _ _ _ _ c.requires.full c.start.ensures.begins.refuses).1 c.requires.full
