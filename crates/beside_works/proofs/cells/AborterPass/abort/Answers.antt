use Rattle.std.proofs.Common.{◌∙◌}
use Rattle.beside_works.proofs.SharedLemmas.{aborts_after, met_after, name_after, splits_after, written}
use Rattle.task_abort.specs.Cells.{view_of}
use Rattle.task_abort.specs.declared.log.PhaseCall.TheVariants.{Abort}
use Rattle.beside_works.proofs.cells.AborterPass.abort.Goals as goal

pub invariant_of-self-2-clause-named : goal.invariant_of-self-2-clause-named
invariant_of-self-2-clause-named c = name_after Abort (view_of c.args.self.now.pass) (view_of c.abort-phase.new.pass) c.abort-phase.result _ c.abort-phase.ensures.call c.args.self.now.named

pub invariant_of-self-2-clause-unsplit : goal.invariant_of-self-2-clause-unsplit
invariant_of-self-2-clause-unsplit c = splits_after Abort (view_of c.args.self.now.pass) (view_of c.abort-phase.new.pass) c.abort-phase.result _ c.abort-phase.ensures.call c.args.self.now.unsplit

pub invariant_of-self-2-clause-apart : goal.invariant_of-self-2-clause-apart
invariant_of-self-2-clause-apart c = met_after Abort (view_of c.args.self.now.pass) (view_of c.abort-phase.new.pass) c.abort-phase.result _ c.abort-phase.ensures.call c.args.self.now.apart

pub invariant_of-self-2-clause-aborts : goal.invariant_of-self-2-clause-aborts
invariant_of-self-2-clause-aborts c =
    aborts_after (view_of c.args.self.now.pass) (view_of c.abort-phase.new.pass) c.abort-phase.result _ c.args.self.now.found.items _ c.abort-phase.ensures.call c.args.self.now.named c.args.self.now.aborts
    (written c.args.self.now.found.items c.add.new.list.items c.len-last.result _ _ c.in_ok-add.ensures.ok (c.len-last.ensures ∙ c.args.self.now.found.ok.0))

pub returns-clause-found : goal.returns-clause-found
returns-clause-found c = written c.args.self.now.found.items c.add.new.list.items c.len-last.result _ _ c.in_ok-add.ensures.ok (c.len-last.ensures ∙ c.args.self.now.found.ok.0)
