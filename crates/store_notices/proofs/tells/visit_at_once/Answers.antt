use Rattle.store_notices.proofs.MoveLemmas.{hook_is_ok_then, with_hook_ok}
use Rattle.std.proofs.Common.{[], ◌∙◌, ◌∷◌}
use Rattle.machine_data.specs.declared.records.NoticeKind.TheVariants as notice
use Rattle.machine_rules.specs.Notices.{told_of}
use Rattle.store_notices.proofs.tells.visit_at_once.Goals as goal

-- entering it told no hook, as there is none
pub leave-requires : goal.leave-requires
leave-requires g c = (c.tell_word.ensures.told c.if-tell_word.true).same_hook ∙ c.requires

pub returns-then-tell_word-clause-told : goal.returns-then-tell_word-clause-told
returns-then-tell_word-clause-told g c = λ yes.
    let e = c.tell_word.ensures in
    let a = c.args.listeners.now in
    let b = c.tell_word.new.self in
    hook_is_ok_then (told_of notice.Enter c.args.group ∷ []) (told_of notice.Exit c.args.group ∷ []) a b c.leave.new.listeners
    (with_hook_ok _ a b (e.told c.if-tell_word.true) (e.hook_is_ok c.if-tell_word.true)) c.leave.ensures

pub returns-clause-none : goal.returns-clause-none
returns-clause-none g c = λ no. c.tell_word.ensures.none c.if-tell_word.false
