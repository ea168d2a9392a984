use Rattle.std.proofs.Common.{ap, sym, ◌∙◌}
use Rattle.run_trace.specs.Traced.{Traced}
use Rattle.ops_turns.proofs.made.put.Goals as goal

pub returns-clause-in_trace : goal.returns-clause-in_trace
returns-clause-in_trace c = (ap (λ (t : Traced). t.labels) c.push.ensures, sym c.result_of-stepped.ensures.turn)

pub returns-clause-spare : goal.returns-clause-spare
returns-clause-spare c = ap (λ (t : Traced). t.spare) c.push.ensures
