use Rattle.core_counts.proofs.EndedLemmas.{forgotten_seen, forgotten_sound}
use Rattle.core_counts.proofs.endings.forget_ended.Goals as goal

pub returns-clause-sound : goal.returns-clause-sound
returns-clause-sound c = forgotten_sound c.args.parts.now c.requires c.clear.new.self c.clear.ensures.items c.clear.ensures.capacity

pub returns-clause-new : goal.returns-clause-new
returns-clause-new c = forgotten_seen c.args.parts.now c.requires c.clear.new.self c.clear.ensures.items
