use Rattle.core_fields.proofs.GroupLemmas.{known_above, known_below}
use Rattle.core_fields.proofs.groups.is_tracked.Goals as goal
use Rattle.std.proofs.Common.{ap, arith, ◌∙◌}
use Rattle.core_records.proofs.Core.{has}

pub returns-then-group-parts : goal.returns-then-group-parts
returns-then-group-parts c = known_above c.args.parts.now c.requires.sound c.args.group c.requires.record c.if-group-parts.true

pub returns : goal.returns
returns c =
    c.has_ended.ensures
    ∙ (ap (has c.args.group) c.as_slice.ensures.value ∙ known_below c.args.parts.now c.requires.sound c.args.group c.requires.record (omega (arith, c.if-group-parts.false)))
