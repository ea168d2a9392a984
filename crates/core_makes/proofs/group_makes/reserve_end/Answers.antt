use Rattle.core_records.proofs.Core.{arith}
use Rattle.core_makes.proofs.GroupPushLemmas.{group_counts, roomy_seen, roomy_sound}
use Rattle.core_makes.proofs.group_makes.reserve_end.Goals as goal

pub overflow_add-more : goal.overflow_add-more
overflow_add-more c = let few = group_counts c.args.parts.now c.requires.sound c.requires.room in let one = few.1 in omega arith

pub returns-in-Ok-clause-sound : goal.returns-in-Ok-clause-sound
returns-in-Ok-clause-sound c = roomy_sound c.args.parts.now c.requires.sound c.reserve.new.self c.in-Ok.ensures.items c.in-Ok.ensures.capacity

pub returns-in-Ok-clause-seen : goal.returns-in-Ok-clause-seen
returns-in-Ok-clause-seen c = roomy_seen c.args.parts.now c.requires.sound c.reserve.new.self c.in-Ok.ensures.items c.in-Ok.ensures.capacity

pub returns-in-Ok-clause-room : goal.returns-in-Ok-clause-room
returns-in-Ok-clause-room c = let long = c.reserve.new.self.ok.0 in let fits = c.in-Ok.ensures.ok in omega (arith, long, fits)

pub returns-in-Err-clause-sound : goal.returns-in-Err-clause-sound
returns-in-Err-clause-sound c = roomy_sound c.args.parts.now c.requires.sound c.reserve.new.self c.in-Err.ensures.items c.in-Err.ensures.capacity

pub returns-in-Err-clause-seen : goal.returns-in-Err-clause-seen
returns-in-Err-clause-seen c = roomy_seen c.args.parts.now c.requires.sound c.reserve.new.self c.in-Err.ensures.items c.in-Err.ensures.capacity
