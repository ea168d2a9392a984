use Rattle.core_counts.proofs.member_counts.threads.Goals as goal
use Rattle.core_records.proofs.Core.{count_by, is_of, is_some, IsSoundCore, None, Option, Placed, refl, seen, size-records, Some, sym, thread_key, ◌∙◌, ◌≡◌}
use Rattle.core_records.specs.declared.{single.Single.Single, thread_records.GuestThread.GuestThread}

-- each entry is a thread
is_thread : (o : Option (Placed (Single GuestThread))) → is_of thread_key o ≡ is_some o
is_thread None = refl
is_thread (Some p) = refl

pub returns : goal.returns
unfolding IsSoundCore seen
returns c = c.len.ensures.len ∙ sym (size-records thread_key c.args.parts.now.threads.places c.requires.tables.threads.apart ∙ (λ i. count_by (λ o. is_thread o i) c.args.parts.now.threads.places))
