-- Main answers or waits.
use Rattle.serve_main.proofs.StepLemmas.{answer_stepped, wait_stepped}
use Rattle.serve_main.proofs.steps.rest.Goals as goal
use Rattle.std.proofs.Common.{refl}

pub returns-then-main : goal.returns-then-main
returns-then-main g c =
    let m = c.args.main.now in
    let s = c.args.access.now.store.now in
    record { step = answer_stepped g.H.HostWork.course c.args.component.now m m s s c.requires.may refl refl c.if-main.true }

pub returns-else-main : goal.returns-else-main
returns-else-main g c =
    let m = c.args.main.now in
    let s = c.args.access.now.store.now in
    record { step = wait_stepped g.H.HostWork.course c.args.component.now m m s s c.requires.may refl refl c.requires.undue c.requires.none c.requires.busy c.if-main.false }
