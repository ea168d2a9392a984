use Rattle.core_makes.proofs.MarkLemmas.{high_opened_seen, high_opened_sound}
use Rattle.core_makes.proofs.mark_makes.open_high.Goals as goal
use Rattle.core_records.proofs.Core.{sym, ◌∙◌}

pub returns-in-Ok-clause-sound : goal.returns-in-Ok-clause-sound
returns-in-Ok-clause-sound c = high_opened_sound c.args.parts.now c.make_mark_chain.new.parts c.requires c.in-Ok.ensures.sound c.in-Ok.ensures.only c.in-Ok.chain c.in-Ok.ensures.made (sym c.is_some.ensures ∙ c.if-is_some.false)

pub returns-in-Ok-clause-seen : goal.returns-in-Ok-clause-seen
returns-in-Ok-clause-seen c = high_opened_seen c.args.parts.now c.make_mark_chain.new.parts c.requires c.in-Ok.ensures.sound c.in-Ok.ensures.only c.in-Ok.chain c.in-Ok.ensures.made (sym c.is_some.ensures ∙ c.if-is_some.false) ∙ c.in-Ok.ensures.seen
