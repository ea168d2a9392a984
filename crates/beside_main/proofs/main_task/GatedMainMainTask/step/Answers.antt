use Rattle.std.proofs.Common.{ap}
use Rattle.beside_main.proofs.GateLemmas.{gate_fails, gate_stepped, may_script}
use Rattle.beside_main.specs.declared.main_task.GatedMain.{GatedMain}
use Rattle.beside_main.proofs.main_task.GatedMainMainTask.step.Goals as goal

pub step-requires : goal.step-requires
step-requires g c = record { may = may_script g.H.HostWork.course c.args.component.now c.args.self.now c.args.access.now.store.now c.requires.may }

pub returns-in-Ok-clause-steps : goal.returns-in-Ok-clause-steps
returns-in-Ok-clause-steps g c =
    gate_stepped g.H.HostWork.course c.args.component.now c.in-Ok.step c.args.self.now c.note.new.self c.step.new.self c.args.access.now.store.now c.step.new.access.store.now (ap (λ (m : GatedMain _). m.script) c.note.ensures)
    c.in-Ok.ensures.steps

pub returns-in-Err-clause-steps : goal.returns-in-Err-clause-steps
returns-in-Err-clause-steps g c =
    gate_fails g.H.HostWork.course c.args.component.now c.in-Err.error c.args.self.now c.step.new.self c.args.access.now.store.now c.step.new.access.store.now c.in-Err.ensures.steps
