-- What was read runs, and its running thread is at an op.
use Rattle.tests_hosts.proofs.MidwayLemmas.{is_running_in}
use Rattle.tests_hosts.proofs.midway.running.Goals as goal
use Rattle.std.proofs.Common.{arith}
use Rattle.task_run.proofs.HeadlineLemmas.{runnable_read}

pub drive-requires-clause-runnable : goal.drive-requires-clause-runnable
drive-requires-clause-runnable g c = runnable_read _ _ c.in-Ok.ensures.answer

pub returns-clause-running : goal.returns-clause-running
returns-clause-running g c =
    let x = runnable_read _ _ c.in-Ok.ensures.answer in
    let one = c.drive.ensures.one in
    let asks = c.if-not-is_asking.false in
    is_running_in c.in-Ok.scenario.component c.drive.new.store.state 0 x.component c.drive.ensures.order (c.is_asking.ensures.runs asks) (c.is_asking.ensures.fresh asks) (omega (arith, one))
