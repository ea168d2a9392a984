use Rattle.machine_data.specs.declared.outcome.Outcome.{Outcome}
use Rattle.machine_rules.specs.Outcome.{open_outcome}
use Rattle.std.proofs.Common.{ap, sym, ◌∙◌}
use Rattle.std.specs.Prelude.{Bool, Option, false}
use Rattle.trace_machine.proofs.StepLemmas.{said_idle, said_open}
use Rattle.trace_machine.proofs.machine.Machine.outcome.Goals as goal
use Rattle.trace_machine.specs.Machines.{or_at_rest}

pub returns-in-Some : goal.returns-in-Some
returns-in-Some c = ap (λ (o : Option Outcome). or_at_rest o c.args.self.now c.args.used_up) c.in-Some.ensures

pub returns-then-is_over : goal.returns-then-is_over
returns-then-is_over c = said_idle c.args.self.now c.requires c.in_default.ensures c.is_over.result c.is_over.ensures.rests c.args.used_up c.if-is_over.true

pub returns-then-used_up : goal.returns-then-used_up
returns-then-used_up c = ap (λ (b : Bool). open_outcome false b) (sym c.if-used_up.true) ∙ said_open c.args.self.now c.requires c.in_default.ensures c.is_over.result c.is_over.ensures.rests c.args.used_up c.if-is_over.false

pub returns : goal.returns
returns c = ap (λ (b : Bool). open_outcome false b) (sym c.if-used_up.false) ∙ said_open c.args.self.now c.requires c.in_default.ensures c.is_over.result c.is_over.ensures.rests c.args.used_up c.if-is_over.false
