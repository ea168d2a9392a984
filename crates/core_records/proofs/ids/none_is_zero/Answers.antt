use Rattle.core_records.proofs.Core.{seen}
use Rattle.core_records.proofs.TrackedLemmas.{known_above_zero}
use Rattle.core_records.proofs.HomeLemmas.{no_call, no_set, no_thread, no_work}
use Rattle.core_records.proofs.ids.none_is_zero.Goals as goal

pub returns-clause-threads : goal.returns-clause-threads
returns-clause-threads c = no_thread c.args.parts.now c.requires

pub returns-clause-calls : goal.returns-clause-calls
returns-clause-calls c = no_call c.args.parts.now c.requires

pub returns-clause-sets : goal.returns-clause-sets
returns-clause-sets c = no_set c.args.parts.now c.requires

pub returns-clause-works : goal.returns-clause-works
returns-clause-works c = no_work c.args.parts.now c.requires

pub returns-clause-groups : goal.returns-clause-groups
unfolding seen
returns-clause-groups c = known_above_zero c.args.parts.now.ended.items _ c.args.parts.now.made.groups
