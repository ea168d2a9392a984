use Rattle.core_fields.proofs.GroupLemmas.{group_of_work, work_has_group}
use Rattle.std.proofs.Common.{if◌then◌else◌}
use Rattle.core_fields.proofs.work_fields.work_group.Goals as goal
use Rattle.core_records.proofs.Core.{ap, tracked_in, None, option_and_then, parts_of, seen, Some, some_if_tracked, sym, ◌∙◌}
use Rattle.core_records.proofs.ReadLemmas.{work_read}
use Rattle.machine_data.specs.declared.records.Work.{Work}

pub is_tracked-requires-clause-record : goal.is_tracked-requires-clause-record
is_tracked-requires-clause-record c = work_has_group c.args.parts.now c.requires c.args.work c.in-Some.entry.now c.in-Some.ensures.item c.in-Some-group.group c.in-Some-group.is

pub returns-then-is_tracked : goal.returns-then-is_tracked
returns-then-is_tracked c =
    let a = c.args.parts.now in
    let g = c.in-Some-group.group in
    ap (λ b. if b then Some g else None) (sym c.if-is_tracked.true ∙ c.is_tracked.ensures)
    ∙ group_of_work a c.requires c.args.work (Some g) c.in-Some.entry.now.work (work_read a c.requires c.args.work c.in-Some.entry.now c.in-Some.ensures.item) c.in-Some-group.is

pub returns-else-is_tracked : goal.returns-else-is_tracked
returns-else-is_tracked c =
    let a = c.args.parts.now in
    let g = c.in-Some-group.group in
    ap (λ b. if b then Some g else None) (sym c.if-is_tracked.false ∙ c.is_tracked.ensures)
    ∙ group_of_work a c.requires c.args.work (Some g) c.in-Some.entry.now.work (work_read a c.requires c.args.work c.in-Some.entry.now c.in-Some.ensures.item) c.in-Some-group.is

pub returns-in-None-group : goal.returns-in-None-group
returns-in-None-group c =
    let a = c.args.parts.now in
    group_of_work a c.requires c.args.work None c.in-Some.entry.now.work (work_read a c.requires c.args.work c.in-Some.entry.now c.in-Some.ensures.item) c.in-None-group.is

pub returns-in-None : goal.returns-in-None
unfolding seen
returns-in-None c = ap (λ o. option_and_then (some_if_tracked (tracked_in (parts_of c.args.parts.now))) (option_and_then (λ (v : Work). v.group) o)) c.in-None.ensures.is
