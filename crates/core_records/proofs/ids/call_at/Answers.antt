use Rattle.core_records.proofs.StandLemmas.{shown_here, shown_nowhere}
use Rattle.core_records.proofs.ids.call_at.Goals as goal
use Rattle.core_records.proofs.Core.{call_number, seen}
use Rattle.core_records.specs.declared.{call_records.GuestTask.GuestTask}

pub returns-in-Some : goal.returns-in-Some
unfolding seen call_number
returns-in-Some c = shown_here (λ (g : GuestTask). g.number) (λ (g : GuestTask). g.call) c.args.parts.now.calls c.new.result.rep c.new.result.serial c.args.place c.in-Some.serial c.new.ensures.rep c.new.ensures.serial c.in-Some.ensures

pub returns-in-None : goal.returns-in-None
unfolding seen call_number
returns-in-None c = shown_nowhere (λ (g : GuestTask). g.number) (λ (g : GuestTask). g.call) c.args.parts.now.calls c.new-in-None.result.rep c.new-in-None.result.serial c.args.place c.new-in-None.ensures.rep c.in-None.ensures
