use Rattle.core_counts.proofs.LimitLemmas.{capacity_sound}
use Rattle.core_counts.proofs.settings.set_capacity.Goals as goal
use Rattle.core_records.proofs.Core.{refl, seen}

pub returns-clause-sound : goal.returns-clause-sound
returns-clause-sound c = capacity_sound c.args.parts.now c.requires.sound c.args.entries c.requires.few

pub returns-clause-new : goal.returns-clause-new
unfolding seen
returns-clause-new c = refl
