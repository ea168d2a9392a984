-- What was read runs, and its running thread is at an op.
use Rattle.tests_surface.proofs.AskLemmas.{home_of, is_running_in}
use Rattle.tests_surface.proofs.instance_calls.running.Goals as goal
use Rattle.std.proofs.Common.{arith}
use Rattle.task_run.proofs.HeadlineLemmas.{runnable_read}

pub drive-requires-clause-runnable : goal.drive-requires-clause-runnable
drive-requires-clause-runnable g c = runnable_read _ _ c.in-Ok.ensures.answer

pub drive-requires-clause-free : goal.drive-requires-clause-free
drive-requires-clause-free g c = c.new_store-store.ensures.free

pub returns-clause-running : goal.returns-clause-running
returns-clause-running g c =
    let x = runnable_read _ _ c.in-Ok.ensures.answer in
    let s = c.drive.new.store.state in
    let two = c.drive.ensures.two in
    let below = c.requires.instance in
    let asks = c.if-not-is_asking.false in
    is_running_in c.in-Ok.scenario.component s c.args.instance.index x.component c.drive.ensures.order (c.is_asking.ensures.runs asks)
    (home_of c.args.instance.index s c.args.paused (c.is_asking.ensures.fresh asks) (c.is_asking.ensures.paused asks)) (omega (arith, two, below))

pub returns-clause-few : goal.returns-clause-few
returns-clause-few g c = let given = c.drive.ensures.given in omega (arith, given)
