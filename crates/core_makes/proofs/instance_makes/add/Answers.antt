use Rattle.core_makes.proofs.AddLemmas.{instance_seen, instance_sound, on_err, same_seen, same_sound}
use Rattle.core_makes.proofs.instance_makes.add.Goals as goal
use Rattle.core_records.proofs.Core.{refl}

pub returns-clause-sound : goal.returns-clause-sound
returns-clause-sound c = instance_sound c.args.parts.now _ refl c.new.ensures c.new-2.ensures _ c.in_ok-push.ensures.items c.requires.sound c.requires.loose c.requires.high c.requires.low

pub returns-clause-new : goal.returns-clause-new
returns-clause-new c = instance_seen c.args.parts.now _ refl c.new.ensures c.new-2.ensures _ c.in_ok-push.ensures.items

pub returns-in_err-push-clause-sound : goal.returns-in_err-push-clause-sound
returns-in_err-push-clause-sound c = same_sound c.args.parts.now _ c.in_err-push.ensures.items c.requires.sound

pub returns-in_err-push-clause-err : goal.returns-in_err-push-clause-err
returns-in_err-push-clause-err c = on_err c.from_residual.result (same_seen c.args.parts.now _ c.in_err-push.ensures.items)
