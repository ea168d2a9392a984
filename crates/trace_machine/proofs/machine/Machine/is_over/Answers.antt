use Rattle.machine_data.specs.declared.records.Turn.TheVariants as turn
use Rattle.std.proofs.Common.{ap, sym, ◌∙◌}
use Rattle.laws_states.specs.Order.{is_open}
use Rattle.trace_machine.proofs.StepLemmas.{rest_is, unfinished}
use Rattle.trace_machine.proofs.machine.Machine.is_over.Goals as goal

pub returns-in-Over-clause-rests : goal.returns-in-Over-clause-rests
returns-in-Over-clause-rests c opened = absurd (let over = ap is_open (sym c.requires.turn ∙ c.in-Over.is) in let bad = sym opened ∙ over in cc)

pub returns-clause-over : goal.returns-clause-over
returns-clause-over c over = absurd (let opened = unfinished c.args.self.now c.args.self.now.turn c.in_default.not-Over in let bad = sym (ap is_open c.requires.turn ∙ over) ∙ opened in cc)

pub returns-clause-rests : goal.returns-clause-rests
returns-clause-rests c opened = rest_is c.args.self.now c.requires opened c.traps_on_idle-trap_on_idle.result c.traps_on_idle-trap_on_idle.ensures c.is_idle.result c.is_idle.ensures
