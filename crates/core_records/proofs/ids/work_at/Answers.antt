use Rattle.core_records.proofs.StandLemmas.{shown_here, shown_nowhere}
use Rattle.core_records.proofs.ids.work_at.Goals as goal
use Rattle.core_records.proofs.Core.{seen, work_number}
use Rattle.core_records.specs.declared.{work_records.WorkRecord.WorkRecord}

pub returns-in-Some : goal.returns-in-Some
unfolding seen work_number
returns-in-Some c = shown_here (λ (w : WorkRecord). w.number) (λ (w : WorkRecord). w.work) c.args.parts.now.works c.new.result.rep c.new.result.serial c.args.place c.in-Some.serial c.new.ensures.rep c.new.ensures.serial c.in-Some.ensures

pub returns-in-None : goal.returns-in-None
unfolding seen work_number
returns-in-None c = shown_nowhere (λ (w : WorkRecord). w.number) (λ (w : WorkRecord). w.work) c.args.parts.now.works c.new-in-None.result.rep c.new-in-None.result.serial c.args.place c.new-in-None.ensures.rep c.in-None.ensures
