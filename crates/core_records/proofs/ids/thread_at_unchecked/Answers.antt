use Rattle.core_records.proofs.StandLemmas.{number_placed, shown_here}
use Rattle.core_records.proofs.ids.thread_at_unchecked.Goals as goal
use Rattle.core_records.proofs.Core.{seen, thread_number}
use Rattle.core_records.specs.declared.{thread_records.GuestThread.GuestThread}

pub serial_unchecked-requires : goal.serial_unchecked-requires
serial_unchecked-requires c = number_placed (λ (g : GuestThread). g.number) (λ (g : GuestThread). g.thread) c.args.parts.now.threads c.args.place c.requires

pub returns : goal.returns
unfolding seen thread_number
returns c = shown_here (λ (g : GuestThread). g.number) (λ (g : GuestThread). g.thread) c.args.parts.now.threads c.new.result.rep c.new.result.serial c.args.place c.serial_unchecked.result c.new.ensures.rep c.new.ensures.serial c.serial_unchecked.ensures
