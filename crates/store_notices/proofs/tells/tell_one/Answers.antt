use Rattle.std.proofs.Common.{subst, sym}
use Rattle.std.specs.Prelude.{List}
use Rattle.store_notices.proofs.MoveLemmas.{as_hook, one_none, one_some, quiet_hook}
use Rattle.task_group.proofs.GroupLemmas.{told-none}
use Rattle.task_group.specs.Listeners.{ToldListeners}
use Rattle.machine_data.specs.declared.records.Notice.{Notice}
use Rattle.store_notices.proofs.tells.tell_one.Goals as goal

pub returns-then-group-eq0-clause-told : goal.returns-then-group-eq0-clause-told
returns-then-group-eq0-clause-told g c =
    let l = c.args.listeners.now in
    subst (λ (ns : List Notice). ToldListeners ns l l) (sym (one_none c.args.kind c.args.group c.if-group-eq0.true)) (told-none l)

pub returns-then-group-eq0-clause-hook : goal.returns-then-group-eq0-clause-hook
returns-then-group-eq0-clause-hook g c = quiet_hook _ c.args.listeners.now

pub returns-clause-told : goal.returns-clause-told
returns-clause-told g c =
    subst (λ (ns : List Notice). ToldListeners ns c.args.listeners.now c.tell.new.self) (sym (one_some c.args.kind c.args.group c.if-group-eq0.false)) c.tell.ensures.told

pub returns-clause-hook : goal.returns-clause-hook
returns-clause-hook g c = as_hook c.tell.result c.args.listeners.now c.tell.new.self c.tell.ensures.told c.tell.ensures.answer
