-- What the main that is watched does is what its watcher does.
use Rattle.std.proofs.Common.{ap, subst, sym}
use Rattle.host_watch.proofs.WatchLemmas.{failed_outside, may_inside, step_backed, step_thread, step_traps, step_work, stepped_outside}
use Rattle.host_watch.proofs.mains.WatchedMainMainTask.step.Goals as goal

pub step-requires : goal.step-requires
step-requires g c = record { may = may_inside g.M.MainTask.says g.H.HostWork.course c.args.component.now c.args.self.now c.args.access.now.store.now c.requires.may }

pub a_start_shows_its_thread-requires : goal.a_start_shows_its_thread-requires
a_start_shows_its_thread-requires g c =
    let says = g.M.MainTask.says in
    let main = c.args.self.now.main in
    rw (c.made-before.ensures, c.made-after.ensures)
    (step_thread c.args.component.now (says.script main) c.in-Ok.step (says.part main) (says.part c.step.new.self) c.args.access.now.store.now.state.core c.step.new.access.store.now.state.core c.in-Ok.ensures.steps.steps)

pub a_spawn_shows_its_work-requires : goal.a_spawn_shows_its_work-requires
a_spawn_shows_its_work-requires g c =
    let says = g.M.MainTask.says in
    let main = c.args.self.now.main in
    rw (c.made-before.ensures, c.made-after.ensures)
    (step_work c.args.component.now (says.script main) c.in-Ok.step (says.part main) (says.part c.step.new.self) c.args.access.now.store.now.state.core c.step.new.access.store.now.state.core c.in-Ok.ensures.steps.steps)

pub a_finish_or_quiet_was_due-requires : goal.a_finish_or_quiet_was_due-requires
a_finish_or_quiet_was_due-requires g c =
    let says = g.M.MainTask.says in
    let main = c.args.self.now.main in
    step_backed c.args.component.now (says.script main) c.in-Ok.step c.has_results-returned.result c.has_interesting-interesting.result (says.part main) (says.part c.step.new.self) c.args.access.now.store.now.state.core c.step.new.access.store.now.state.core c.has_results-returned.ensures.none c.has_interesting-interesting.ensures c.in-Ok.ensures.steps.steps

pub only_a_refused_start_traps-requires : goal.only_a_refused_start_traps-requires
only_a_refused_start_traps-requires g c =
    let says = g.M.MainTask.says in
    let main = c.args.self.now.main in
    rw (c.trapped-was_trapped.ensures, c.trapped.ensures)
    (step_traps c.args.component.now (says.script main) c.in-Ok.step (says.part main) (says.part c.step.new.self) c.args.access.now.store.now.state.core c.step.new.access.store.now.state.core c.in-Ok.ensures.steps.steps)

pub returns-in-Ok-clause-steps : goal.returns-in-Ok-clause-steps
returns-in-Ok-clause-steps g c =
    stepped_outside g.M.MainTask.says g.H.HostWork.course c.args.component.now c.in-Ok.step c.args.self.now (record { main = c.step.new.self }) c.args.access.now.store.now c.step.new.access.store.now c.in-Ok.ensures.steps

pub returns-in-Err-clause-steps : goal.returns-in-Err-clause-steps
returns-in-Err-clause-steps g c =
    failed_outside g.M.MainTask.says g.H.HostWork.course c.args.component.now c.in-Err.error c.args.self.now (record { main = c.step.new.self }) c.args.access.now.store.now c.step.new.access.store.now c.in-Err.ensures.steps
