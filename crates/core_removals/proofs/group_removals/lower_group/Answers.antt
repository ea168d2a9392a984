use Rattle.std.proofs.Common.{is_ok}
use Rattle.core_removals.proofs.WorkLemmas.{is_there}
use Rattle.core_removals.proofs.group_removals.lower_group.Goals as goal
use Rattle.core_records.proofs.Core.{ap, not, sym, ◌∙◌}

pub overflow_sub-counted : goal.overflow_sub-counted
overflow_sub-counted c =
    let one = is_there c.args.group (c.is_none.ensures ∙ ap not c.if-is_none.false) in
    c.requires.some one.0 c.group_unchecked.result.1 one.1 (c.group_unchecked.ensures.number ∙ (c.requires.named one.0 one.1).0) (c.group_unchecked.result.0.rep, (c.group_unchecked.result.0.serial, c.group_unchecked.ensures.item))

pub get_mut_unchecked-requires : goal.get_mut_unchecked-requires
get_mut_unchecked-requires c = sym (ap is_ok c.group_unchecked.ensures.item)
