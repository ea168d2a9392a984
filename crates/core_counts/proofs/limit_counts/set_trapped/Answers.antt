use Rattle.core_records.proofs.Core.{IsSoundCore, seen}
use Rattle.core_counts.proofs.EndedLemmas.{ends_fit}
use Rattle.core_counts.proofs.TrapLemmas.{groups_within, trapped_seen, trapped_sound}
use Rattle.core_counts.proofs.limit_counts.set_trapped.Goals as goal

pub end_groups-requires : goal.end_groups-requires
end_groups-requires c = ends_fit c.args.parts.now c.requires

pub overflow_sub-parts : goal.overflow_sub-parts
overflow_sub-parts c = groups_within c.args.parts.now c.requires

pub returns-clause-sound : goal.returns-clause-sound
unfolding IsSoundCore
returns-clause-sound c = trapped_sound c.args.parts.now c.requires c.end_groups.new.ended c.end_groups.ensures.items c.end_groups.ensures.room

pub returns-clause-new : goal.returns-clause-new
unfolding seen
returns-clause-new c = trapped_seen c.args.parts.now c.requires c.end_groups.new.ended c.end_groups.ensures.items c.end_groups.ensures.room
