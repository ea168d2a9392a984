use Rattle.std.proofs.Common.{subst, sym}
use Rattle.tests_surface.proofs.LendLemmas.{runs_lending}
use Rattle.tests_surface.proofs.instance_calls.lend.Goals as goal
use Rattle.ops_calls.specs.HostOps.{IsRunningIn}
use Rattle.core_primitives.specs.StateView.{StateView, call_of}

pub returns : goal.returns
returns c =
    let s = c.args.store.now.state in
    record {
      running = λ d runs. subst (λ (t : StateView). IsRunningIn d t) (sym c.set_call_context.ensures.new) (runs_lending d s (call_of s c.task_of.result) c.args.borrows runs);
    }
