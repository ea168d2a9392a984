use Rattle.std.proofs.Common.{refl, subst}
use Rattle.std.specs.Prelude.{Option, ℕ}
use Rattle.trace_machine.proofs.MachineLemmas.{kept_last}
use Rattle.trace_machine.proofs.machine.keep_order.Goals as goal
use Rattle.trace_machine.specs.Machines.{HoldsLast, held_in}

pub returns-in-None : goal.returns-in-None
returns-in-None c = (subst (λ (o : Option ℕ). HoldsLast o c.args.held.now c.args.held.now) c.in-None.ensures refl, c.requires)

pub returns-in-Some : goal.returns-in-Some
returns-in-Some c = kept_last c.in-Some.thread (held_in c.args.label) c.args.held.now c.add.new.self c.in-Some.ensures c.add.result c.add.ensures.ok
