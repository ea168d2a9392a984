use Rattle.tests_runs.proofs.AccessLemmas.{few_given}
use Rattle.tests_runs.proofs.access.a_host_spawns_works_and_changes_its_value_by_an_accessor.Goals as goal

pub with-first-requires : goal.with-first-requires
with-first-requires g c = record { callable = rw c.set-slot.ensures (λ p same. rw same (few_given _ c.new_store-store.ensures.state)) }
