use Rattle.std.proofs.Common.{subst}
use Rattle.std.specs.Prelude.{Some}
use Rattle.task_group.proofs.GroupLemmas.{told-append}
use Rattle.task_group.proofs.groups.Groups.visit_at_once.Goals as goal
use Rattle.task_group.specs.Counts.{Counts}
use Rattle.task_group.specs.Groups.{notice_at}
use Rattle.task_group.specs.Listeners.{ToldListeners}
use Rattle.machine_data.specs.declared.records.NoticeKind.TheVariants as notice

pub returns-clause-told : goal.returns-clause-told
returns-clause-told g c = λ yes.
    let live = c.tell_at_once.ensures.groups.0 in
    told-append _ _ c.args.self.now.listeners c.tell_at_once.new.self.listeners c.leave.new.self.listeners (c.tell_at_once.ensures.told c.if-not-tell_at_once.false)
    (subst (λ (m : Counts). ToldListeners (notice_at m notice.Exit (Some c.args.id)) c.tell_at_once.new.self.listeners c.leave.new.self.listeners) live c.leave.ensures.told)
