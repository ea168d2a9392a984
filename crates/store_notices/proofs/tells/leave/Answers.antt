use Rattle.store_notices.proofs.MoveLemmas.{with_hook_ok, unhooked_hook_is_ok}
use Rattle.std.proofs.Common.{sym, ◌∙◌}
use Rattle.store_notices.proofs.tells.leave.Goals as goal

pub returns-then-tell_word : goal.returns-then-tell_word
returns-then-tell_word g c =
    let e = c.tell_word.ensures in
    with_hook_ok _ c.args.listeners.now c.tell_word.new.self (e.told c.if-tell_word.true) (e.hook_is_ok c.if-tell_word.true)

pub returns : goal.returns
returns g c = rw (sym (c.tell_word.ensures.none c.if-tell_word.false)) (unhooked_hook_is_ok _ c.tell_word.new.self c.tell.new.self (rw (c.tell_word.ensures.none c.if-tell_word.false) c.requires) c.tell.ensures.told)
