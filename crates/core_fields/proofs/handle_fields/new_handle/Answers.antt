use Rattle.core_fields.proofs.handle_fields.new_handle.Goals as goal
use Rattle.core_records.proofs.Core.{ap, Named, named_of, new_handle, next_handle, Option, option_map_or, ◌∙◌}
use Rattle.machine_data.specs.Core.{NameTable}
use Rattle.core_records.proofs.HandleReads.{next_given}

pub returns-in-Some : goal.returns-in-Some
unfolding new_handle
returns-in-Some c =
    c.next_handle.ensures.handle ∙ (next_given named_of c.in-Some.entry.now.handles c.next_handle.ensures.whole
    ∙ ap (λ (o : Option (NameTable Named)). option_map_or (λ (t : NameTable Named). next_handle t t.freed) o 1) c.in-Some.ensures.handles)

pub returns-in-None : goal.returns-in-None
unfolding new_handle
returns-in-None c = ap (λ (o : Option (NameTable Named)). option_map_or (λ (t : NameTable Named). next_handle t t.freed) o 1) c.in-None.ensures.handles
