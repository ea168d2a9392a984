use Rattle.core_records.proofs.StandLemmas.{number_placed, shown_here}
use Rattle.core_records.proofs.ids.call_at_unchecked.Goals as goal
use Rattle.core_records.proofs.Core.{call_number, seen}
use Rattle.core_records.specs.declared.{call_records.GuestTask.GuestTask}

pub serial_unchecked-requires : goal.serial_unchecked-requires
serial_unchecked-requires c = number_placed (λ (g : GuestTask). g.number) (λ (g : GuestTask). g.call) c.args.parts.now.calls c.args.place c.requires

pub returns : goal.returns
unfolding seen call_number
returns c = shown_here (λ (g : GuestTask). g.number) (λ (g : GuestTask). g.call) c.args.parts.now.calls c.new.result.rep c.new.result.serial c.args.place c.serial_unchecked.result c.new.ensures.rep c.new.ensures.serial c.serial_unchecked.ensures
