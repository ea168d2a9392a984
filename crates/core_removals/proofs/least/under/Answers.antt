use Rattle.core_records.proofs.Core.{seen, thread_of, UnderOf, ◌∙◌}
use Rattle.core_places.proofs.TargetLemmas.{under_is}
use Rattle.core_removals.proofs.ChainLemmas.{chain_live, under_least, under_live}
use Rattle.core_removals.proofs.least.under.Goals as goal

pub least-requires-clause-live : goal.least-requires-clause-live
least-requires-clause-live c = let a = c.args.parts.now in chain_live a c.requires.sound (UnderOf (thread_of (seen a) c.args.thread)) _ (under_is a c.requires.sound _ _ _ c.thread_there-found.result.now c.thread_there-found.ensures.number c.thread_there-found.ensures.item)

pub returns-clause-is : goal.returns-clause-is
returns-clause-is c = let a = c.args.parts.now in c.least.ensures.is ∙ under_least a c.requires.sound c.least.ensures.links _ _ (under_is a c.requires.sound _ _ _ c.thread_there-found.result.now c.thread_there-found.ensures.number c.thread_there-found.ensures.item)

pub returns-clause-live : goal.returns-clause-live
returns-clause-live c = under_live c.args.parts.now c.requires.sound _ _ (returns-clause-is c)
