use Rattle.std.proofs.Common.{refl}
use Rattle.task_loop.proofs.StartLemmas.{finish_holds, finish_keeps}
use Rattle.task_loop.proofs.call.Func.finish_call_concurrent.Goals as goal
use Rattle.task_store.specs.Hosts.{held_by}

pub returns-clause-keeps : goal.returns-clause-keeps
returns-clause-keeps g c component =
    let s = c.args.store.now in
    let k = c.args.call.now.thread in
    let t = c.finish_call.new.w in
    let r = c.finish_call.result in
    let finishes = c.finish_call.ensures.finishes in
    record {
      order = c.finish_call.ensures.order component;
      works = λ course h. finish_holds (held_by course s) k s.state t r finishes h;
      asked = λ is. finish_keeps k s.state t r finishes is;
      hook = refl;
      rest = refl;
    }
