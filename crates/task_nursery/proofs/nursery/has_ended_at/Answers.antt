-- What is kept of the number says whether it has ended.
use Rattle.std.proofs.Common.{ap, sym, ◌∙◌}
use Rattle.std.specs.Option.{option_map_or}
use Rattle.std.specs.Prelude.{Option, false}
use Rattle.task_nursery.proofs.KeptLemmas.{was_one}
use Rattle.task_nursery.specs.Children.{has_ended}
use Rattle.task_nursery.specs.declared.children.Kept.{Kept}
use Rattle.task_nursery.proofs.nursery.has_ended_at.Goals as goal

pub has_ended-requires-clause-spawned : goal.has_ended-requires-clause-spawned
has_ended-requires-clause-spawned g c = was_one c.args.children.now c.args.number c.in-Some.kept.now c.args.store.now.state c.requires.of c.in-Some.ensures

pub returns-in-Some-clause-answer : goal.returns-in-Some-clause-answer
returns-in-Some-clause-answer g c =
    c.has_ended.ensures.answer ∙ ap (λ (o : Option Kept). option_map_or (has_ended c.args.store.now.state.core) o false) c.in-Some.ensures

pub returns-in-None-clause-answer : goal.returns-in-None-clause-answer
returns-in-None-clause-answer g c = ap (λ (o : Option Kept). option_map_or (has_ended c.args.store.now.state.core) o false) c.in-None.ensures
