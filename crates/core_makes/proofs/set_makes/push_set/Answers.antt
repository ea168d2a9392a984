use Rattle.core_makes.proofs.SetAddLemmas.{set_core, set_named, set_sound, set_tags, used_few}
use Rattle.core_makes.proofs.set_makes.push_set.Goals as goal
use Rattle.core_records.proofs.Core.{arith, refl, seen, ◌+◌, ◌<◌, ◌^◌}

pub overflow_add-parts-in-Ok : goal.overflow_add-parts-in-Ok
overflow_add-parts-in-Ok c = let few : c.args.parts.now.kept.used + 1 < 2 ^ 64 = used_few c.args.parts.now c.requires.sound c.requires.room in omega arith

pub returns-in-Ok-clause-sound : goal.returns-in-Ok-clause-sound
returns-in-Ok-clause-sound c = set_sound c.args.parts.now c.requires.sound c.args.set c.requires.next.number c.push.new.self c.in-Ok.ensures.pushed c.in-Ok.ensures.sound c.requires.next.loose c.requires.next.members c.requires.next.entries

pub returns-in-Ok-clause-set : goal.returns-in-Ok-clause-set
returns-in-Ok-clause-set c = set_named c.args.parts.now c.requires.sound c.args.set c.requires.next.number c.push.new.self c.in-Ok.ensures.pushed c.in-Ok.id c.in-Ok.ensures.rep c.in-Ok.ensures.serial

pub returns-in-Ok-clause-new : goal.returns-in-Ok-clause-new
unfolding seen
returns-in-Ok-clause-new c =
    record {
      core = set_core c.args.parts.now c.requires.sound c.args.set c.requires.next.number c.push.new.self c.in-Ok.ensures.pushed;
      current = refl;
      tags = set_tags c.args.parts.now c.requires.sound c.args.set c.requires.next.number c.push.new.self c.in-Ok.ensures.pushed;
    }
