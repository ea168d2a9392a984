use Rattle.core_records.proofs.StandLemmas.{shown_here, shown_nowhere}
use Rattle.core_records.proofs.ids.thread_at.Goals as goal
use Rattle.core_records.proofs.Core.{seen, thread_number}
use Rattle.core_records.specs.declared.{thread_records.GuestThread.GuestThread}

pub returns-in-Some : goal.returns-in-Some
unfolding seen thread_number
returns-in-Some c = shown_here (λ (g : GuestThread). g.number) (λ (g : GuestThread). g.thread) c.args.parts.now.threads c.new.result.rep c.new.result.serial c.args.place c.in-Some.serial c.new.ensures.rep c.new.ensures.serial c.in-Some.ensures

pub returns-in-None : goal.returns-in-None
unfolding seen thread_number
returns-in-None c = shown_nowhere (λ (g : GuestThread). g.number) (λ (g : GuestThread). g.thread) c.args.parts.now.threads c.new-in-None.result.rep c.new-in-None.result.serial c.args.place c.new-in-None.ensures.rep c.in-None.ensures
