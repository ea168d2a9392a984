-- A poll that yields leaves a run that goes on.
use Rattle.std.proofs.Common.{ap, arith, ◌∙◌}
use Rattle.std.specs.Prelude.{Ok}
use Rattle.tests_surface.proofs.polls.polled_by_steps.Goals as goal
use Rattle.task_loop.proofs.BeginLemmas.{may_again}
use Rattle.task_loop.specs.RunPolls.{may_poll}
use Rattle.task_loop.specs.declared.poll_methods.RunPoll.{RunPoll}

pub polls-preserved : goal.polls-preserved
polls-preserved g c =
    let polled = rw c.in-Ok-Yielded.is at c.poll.ensures.polls in
    let few = polled.has.numbers in
    let so_far = c.polls.invariant.given in
    record {
      may = may_again _ _ _ _ _ 1 c.polls.invariant.may c.poll.ensures.keeps polled.has (polled.unfinished ∙ ap (λ (q : RunPoll). may_poll (Ok q)) c.in-Ok-Yielded.field-0-is) (omega (arith, few, so_far));
      given = omega (arith, few, so_far);
      few = omega arith;
    }
