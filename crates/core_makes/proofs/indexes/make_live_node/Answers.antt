use Rattle.core_makes.proofs.indexes.make_live_node.Goals as goal
use Rattle.core_records.proofs.Core.{ap, List, refl, seen, Spot}
use Rattle.core_records.specs.declared.{work_records.LiveWork.LiveWork}
use Rattle.core_records.proofs.LinkLemmas.{live_made_sound}
use Rattle.core_makes.proofs.MakeLemmas.{nothing_made, spot_made}

pub returns-in-Ok : goal.returns-in-Ok
unfolding seen
returns-in-Ok c = spot_made (live_made_sound c.args.parts.now c.requires _ _ _ c.in-Ok.ensures.made refl) refl c.in-Ok.ensures.made

pub returns-in-Err : goal.returns-in-Err
returns-in-Err c = nothing_made c.requires (ap (λ (l : List (Spot LiveWork)). record c.args.parts.now { polled = l }) c.in-Err.ensures.err)
