use Rattle.store_notices.proofs.MoveLemmas.{hook_is_ok_same, with_hook_ok, none_told, switched_in, switched_none, switched_out}
use Rattle.store_notices.proofs.tells.switch_at_once.Goals as goal

pub returns-then-old-new-clause-told : goal.returns-then-old-new-clause-told
returns-then-old-new-clause-told g c = λ yes.
    let l = c.args.listeners.now in
    hook_is_ok_same _ _ l l (switched_none c.args.old c.args.new c.if-old-new.true) (none_told l)

pub returns-then-new-eq0-clause-told : goal.returns-then-new-eq0-clause-told
returns-then-new-eq0-clause-told g c = λ yes.
    let e = c.tell_word.ensures in
    let a = c.args.listeners.now in
    let b = c.tell_word.new.self in
    hook_is_ok_same _ _ a b (switched_out c.args.old c.args.new c.if-old-new.false c.if-new-eq0.true) (with_hook_ok _ a b (e.told yes) (e.hook_is_ok yes))

pub returns-then-old-eq0-clause-told : goal.returns-then-old-eq0-clause-told
returns-then-old-eq0-clause-told g c = λ yes.
    let e = c.tell_word-then-old-eq0.ensures in
    let a = c.args.listeners.now in
    let b = c.tell_word-then-old-eq0.new.self in
    hook_is_ok_same _ _ a b (switched_in c.args.old c.args.new c.if-old-new.false c.if-old-eq0.true) (with_hook_ok _ a b (e.told yes) (e.hook_is_ok yes))
