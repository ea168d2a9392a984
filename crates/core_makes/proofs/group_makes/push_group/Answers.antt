use Rattle.core_records.proofs.Core.{arith}
use Rattle.core_makes.proofs.GroupPushLemmas.{group_counts, group_seen, group_sound}
use Rattle.core_makes.proofs.group_makes.push_group.Goals as goal

pub overflow_add-parts : goal.overflow_add-parts
overflow_add-parts c = let few = group_counts c.args.parts.now c.requires.sound c.requires.room in let one = few.0 in omega arith

pub overflow_add-parts-in-Ok : goal.overflow_add-parts-in-Ok
overflow_add-parts-in-Ok c = let few = group_counts c.args.parts.now c.requires.sound c.requires.room in let one = few.1 in omega arith

pub returns-in-Ok-clause-sound : goal.returns-in-Ok-clause-sound
returns-in-Ok-clause-sound c = group_sound c.args.parts.now c.requires.sound c.args.entry c.push.new.self c.in-Ok.ensures.pushed c.requires.end_room c.in-Ok.ensures.sound

pub returns-in-Ok-clause-new : goal.returns-in-Ok-clause-new
returns-in-Ok-clause-new c = group_seen c.args.parts.now c.requires.sound c.args.entry c.push.new.self c.in-Ok.ensures.pushed
