-- Those before this place were asked to end.
use Rattle.std.proofs.Common.{ap, arith, get_or, length, refl, subst, sym, ◌∙◌, ◌<◌}
use Rattle.task_nursery.proofs.KeptLemmas.{those_next}
use Rattle.task_nursery.specs.Numbers.{numbered}
use Rattle.task_nursery.proofs.nursery.abort_all.Goals as goal

pub running-preserved : goal.running-preserved
running-preserved g c =
    let ns = c.args.running.now in
    let within : c.running.at < length ns = c.running-test.true in
    let core = ap (λ store. store.state.core) c.abort_at.ensures.state in
    record {
      within = omega (arith, within);
      core = rw core (those_next (numbered c.args.children.now) ns c.running.at c.running.store.state.core within ∙ c.running.invariant.core);
      rest = rw c.abort_at.ensures.state (rw c.running.invariant.rest refl);
      of = c.abort_at.ensures.of;
      order = λ d p in_turn. c.abort_at.ensures.order d p (c.running.invariant.order d p in_turn);
      hosts = c.abort_at.ensures.hosts;
    }
