-- No child is to be looked at, so none has ended.
use Rattle.std.proofs.Common.{arith, refl}
use Rattle.task_nursery.proofs.TallyLemmas.{none_has_ended}
use Rattle.task_nursery.proofs.nursery.first_ended.Goals as goal

pub returns-then-not-has_results-clause-first : goal.returns-then-not-has_results-clause-first
returns-then-not-has_results-clause-first g c =
    let same = c.if-running-calls.true in
    none_has_ended c.args.store.now.state.core c.args.children.now c.args.running.now c.args.calls c.requires.tallies (omega (arith, same)) (c.if-not-has_results.ensures.none refl)
