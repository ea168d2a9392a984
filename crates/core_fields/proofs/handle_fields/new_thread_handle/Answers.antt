use Rattle.core_fields.proofs.handle_fields.new_thread_handle.Goals as goal
use Rattle.core_records.proofs.Core.{ap, new_thread_handle, next_handle, Option, option_map_or, ℕ, ◌∙◌}
use Rattle.machine_data.specs.Core.{NameTable}
use Rattle.core_records.proofs.HandleReads.{next_given}
use Rattle.core_records.specs.Instances.{thread_of as thread_named}

pub returns-in-Some : goal.returns-in-Some
unfolding new_thread_handle
returns-in-Some c =
    c.next_handle.ensures.handle ∙ (next_given thread_named c.in-Some.entry.now.thread_handles c.next_handle.ensures.whole
    ∙ ap (λ (o : Option (NameTable ℕ)). option_map_or (λ (t : NameTable ℕ). next_handle t t.freed) o 1) c.in-Some.ensures.thread_handles)

pub returns-in-None : goal.returns-in-None
unfolding new_thread_handle
returns-in-None c = ap (λ (o : Option (NameTable ℕ)). option_map_or (λ (t : NameTable ℕ). next_handle t t.freed) o 1) c.in-None.ensures.thread_handles
