use Rattle.core_records.proofs.Core.{seen, sym, ◌∙◌}
use Rattle.core_removals.proofs.LiveLemmas.{live_opened_sound}
use Rattle.core_removals.proofs.work_marks.open_live.Goals as goal

pub returns-in-Ok-clause-sound : goal.returns-in-Ok-clause-sound
returns-in-Ok-clause-sound c = live_opened_sound c.args.parts.now c.make_live_chain.new.parts c.in-Ok.ensures.sound c.in-Ok.ensures.only (sym c.is_some.ensures ∙ c.if-is_some.false) c.in-Ok.chain c.in-Ok.ensures.made

pub returns-in-Ok-clause-seen : goal.returns-in-Ok-clause-seen
unfolding seen
returns-in-Ok-clause-seen c = c.in-Ok.ensures.seen
