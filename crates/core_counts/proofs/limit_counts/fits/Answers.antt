use Rattle.core_counts.proofs.limit_counts.fits.Goals as goal
use Rattle.core_counts.proofs.RoomLemmas.{has_room, no_room}
use Rattle.core_records.proofs.Core.{fits, seen}
use Rattle.core_records.proofs.KeptLemmas.{used_is}

pub returns-then-entries-parts : goal.returns-then-entries-parts
unfolding fits seen
returns-then-entries-parts c = has_room _ _ _ _ (used_is c.args.parts.now c.requires) c.if-entries-parts.true

pub returns-else-entries-parts : goal.returns-else-entries-parts
unfolding fits seen
returns-else-entries-parts c = no_room _ _ _ c.if-entries-parts.false
