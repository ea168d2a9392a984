use Rattle.core_records.proofs.StandLemmas.{shown_here, shown_nowhere}
use Rattle.core_records.proofs.ids.set_at.Goals as goal
use Rattle.core_records.proofs.Core.{seen, set_number}
use Rattle.core_records.specs.declared.{set_records.WaitSet.WaitSet}

pub returns-in-Some : goal.returns-in-Some
unfolding seen set_number
returns-in-Some c = shown_here (λ (x : WaitSet). x.number) (λ (x : WaitSet). x.set) c.args.parts.now.sets c.new.result.rep c.new.result.serial c.args.place c.in-Some.serial c.new.ensures.rep c.new.ensures.serial c.in-Some.ensures

pub returns-in-None : goal.returns-in-None
unfolding seen set_number
returns-in-None c = shown_nowhere (λ (x : WaitSet). x.number) (λ (x : WaitSet). x.set) c.args.parts.now.sets c.new-in-None.result.rep c.new-in-None.result.serial c.args.place c.new-in-None.ensures.rep c.in-None.ensures
