-- A start that isn't made traps the store.
use Rattle.task_loop.proofs.CallStartLemmas.{keeps_trapped, stops_unmade}
use Rattle.task_loop.proofs.call.Func.start_call_concurrent.Goals as goal

pub returns-in-Err : goal.returns-in-Err
returns-in-Err g c =
    let s = c.args.store.now in
    let mid = c.start_untrapped.new.store in
    let t = c.set_trapped.new.self in
    let trapped = c.set_trapped.ensures in
    record {
      does = stops_unmade s mid t trapped.rest trapped.told g.G.TaskGroupHook.listens c.in-Err.e c.in-Err.ensures.does;
      keeps = keeps_trapped s mid t trapped.rest trapped.told c.args.component.now c.in-Err.ensures.keeps;
    }
