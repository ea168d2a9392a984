-- What is kept of the number is asked to end.
use Rattle.std.proofs.Common.{ap, refl, sym, ◌∙◌}
use Rattle.std.specs.Prelude.{Some}
use Rattle.task_nursery.proofs.KeptLemmas.{are_asked, was_one}
use Rattle.task_nursery.proofs.nursery.abort_at.Goals as goal

pub abort-requires-clause-spawned : goal.abort-requires-clause-spawned
abort-requires-clause-spawned g c = was_one c.args.children.now c.args.number c.in-Some.kept.now c.args.store.now.state c.requires.of c.in-Some.ensures

pub returns-in-Some-clause-state : goal.returns-in-Some-clause-state
returns-in-Some-clause-state g c = rw (sym c.in-Some.ensures) c.abort.ensures.state

pub returns-in-Some-clause-of : goal.returns-in-Some-clause-of
returns-in-Some-clause-of g c = rw (ap (λ store. store.state) c.abort.ensures.state) (are_asked c.args.children.now (Some c.in-Some.kept.now) c.args.store.now.state c.requires.of)

pub returns-in-None-clause-state : goal.returns-in-None-clause-state
returns-in-None-clause-state g c = rw (sym c.in-None.ensures) refl
