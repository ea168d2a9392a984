use Rattle.core_records.proofs.Core.{deletion_refused, Err, IsSoundCore, item_of, Ok, ResourceTableError, Result, sym, ◌∙◌, ◌≡◌}
use Rattle.core_records.specs.declared.{call_records.TaskGroup.TaskGroup}
use Rattle.core_makes.proofs.group_makes.drop_group.Goals as goal

pub unreachable-requires : goal.unreachable-requires
unfolding IsSoundCore
unreachable-requires c =
    let both : ◌≡◌ {A = Result TaskGroup ResourceTableError} (Ok c.args.group) (Err c.in-Err.field-0) =
    c.requires.item ∙ sym (deletion_refused item_of c.args.parts.now.groups c.args.id.rep c.args.id.serial c.in-Err.field-0 c.in-Err.ensures.answer (c.requires.sound.tables.groups.childless c.args.id.rep)) in
    absurd (cc)
