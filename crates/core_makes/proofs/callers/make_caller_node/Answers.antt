use Rattle.core_makes.proofs.CallerLemmas.{caller_made_seen, caller_made_sound}
use Rattle.core_makes.proofs.callers.make_caller_node.Goals as goal
use Rattle.core_records.proofs.Core.{ap, List, refl, Spot}
use Rattle.core_records.specs.declared.{thread_records.Follower.Follower}
use Rattle.core_makes.proofs.MakeLemmas.{nothing_made, spot_made}

pub returns-in-Ok : goal.returns-in-Ok
returns-in-Ok c = spot_made (caller_made_sound c.args.parts.now c.requires _ _ _ c.in-Ok.ensures.made refl) (caller_made_seen c.args.parts.now c.requires _ _ _ c.in-Ok.ensures.made refl) c.in-Ok.ensures.made

pub returns-in-Err : goal.returns-in-Err
returns-in-Err c = nothing_made c.requires (ap (λ (l : List (Spot Follower)). record c.args.parts.now { behind = l }) c.in-Err.ensures.err)
