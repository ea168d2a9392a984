use Rattle.std.proofs.Common.{subst, sym}
use Rattle.ops_turns.proofs.StretchLemmas.{computed_run, computed_same}
use Rattle.ops_turns.proofs.turns.compute.Goals as goal
use Rattle.ops_turns.specs.StepResult.{turn_of}
use Rattle.ops_turns.specs.Turn.{CoreInOrder}
use Rattle.ops_turns.specs.declared.made.StepResult.{StepResult}

pub stretch-requires-clause-order : goal.stretch-requires-clause-order
stretch-requires-clause-order g c = subst (λ (q : StepResult). CoreInOrder c.args.component.now (turn_of q) (g.W.View.view c.args.w.now).core) c.in-Computes.is c.requires.order

pub returns-in-Computes-clause-ok : goal.returns-in-Computes-clause-ok
returns-in-Computes-clause-ok g c =
    let e = c.stretch.ensures in
    rw c.in-Computes.is
    (computed_run c.args.component.now c.in-Computes.thread (g.W.View.view c.args.w.now) c.args.trace.now.labels c.args.added (g.W.View.view c.stretch.new.w) c.stretch.new.trace.labels c.args.steps c.stretch.result e.few e.on e.computes)

pub returns-in_default-clause-ok : goal.returns-in_default-clause-ok
returns-in_default-clause-ok g c =
    computed_same c.args.component.now (turn_of c.args.stepped) (g.W.View.view c.args.w.now) c.args.trace.now.labels c.args.added c.args.steps c.requires.few
