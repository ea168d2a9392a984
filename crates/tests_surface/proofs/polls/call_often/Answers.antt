-- Each start gives two numbers.
use Rattle.std.proofs.Common.{arith}
use Rattle.tests_surface.proofs.DriveLemmas.{begun_given}
use Rattle.tests_surface.proofs.polls.call_often.Goals as goal
use Rattle.task_loop.proofs.StartLemmas.{start_current}

pub start_call_concurrent-requires-clause-order : goal.start_call_concurrent-requires-clause-order
start_call_concurrent-requires-clause-order g c = (c.requires.order.0, c.calls.invariant.order c.requires.order.0 c.requires.order.1)

pub calls-preserved : goal.calls-preserved
calls-preserved g c =
    let more = begun_given _ _ _ _ _ _ _ c.in-Ok.ensures.does.starts in
    let so_far = c.calls.invariant.given in
    record {
      order = λ p in_turn. c.start_call_concurrent.ensures.keeps.order p (c.calls.invariant.order p in_turn);
      given = omega (arith, more, so_far);
      current = start_current _ _ _ _ _ _ _ c.calls.invariant.current c.in-Ok.ensures.does.starts;
      hosts = c.start_call_concurrent.ensures.keeps.works g.H.HostWork.course c.calls.invariant.hosts;
      groups = c.start_call_concurrent.ensures.keeps.asked c.calls.invariant.groups;
      few = omega arith;
    }
