use Rattle.core_makes.proofs.indexes.make_wait_chain.Goals as goal
use Rattle.core_records.proofs.Core.{ap, List, refl, seen, Spot}
use Rattle.core_records.proofs.LinkLemmas.{wait_made_sound}
use Rattle.table_lists.specs.declared.ordered_lists.OrderKey.{OrderKey}
use Rattle.core_makes.proofs.MakeLemmas.{nothing_made, spot_made}

pub returns-in-Ok : goal.returns-in-Ok
unfolding seen
returns-in-Ok c = spot_made (wait_made_sound c.args.parts.now c.requires _ _ _ c.in-Ok.ensures.made refl) refl c.in-Ok.ensures.made

pub returns-in-Err : goal.returns-in-Err
returns-in-Err c = nothing_made c.requires (ap (λ (l : List (Spot OrderKey)). record c.args.parts.now { waits = l }) c.in-Err.ensures.err)
