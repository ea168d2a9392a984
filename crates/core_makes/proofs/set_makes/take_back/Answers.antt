use Rattle.core_makes.proofs.UndoLemmas.{set_deletes}
use Rattle.core_makes.proofs.set_makes.take_back.Goals as goal

pub unreachable-requires : goal.unreachable-requires
unreachable-requires c = set_deletes c.args.parts.now c.requires.sound c.args.set c.requires.live _ c.in-Err.ensures.answer
