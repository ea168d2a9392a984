use Rattle.store_notices.proofs.MoveLemmas.{far_failed, far_same, far_two, quiet_far, single_one, switched_none, switched_some}
use Rattle.store_notices.specs.Moves.{one}
use Rattle.machine_data.specs.declared.records.NoticeKind.TheVariants as notice
use Rattle.store_notices.proofs.tells.switch.Goals as goal

pub returns-then-old-new : goal.returns-then-old-new
returns-then-old-new g c = quiet_far _ _ c.args.listeners.now (switched_none c.args.old c.args.new c.if-old-new.true)

pub returns-in_err-tell_one : goal.returns-in_err-tell_one
returns-in_err-tell_one g c =
    let o = c.args.old in
    let n = c.args.new in
    let a = c.args.listeners.now in
    let b = c.tell_one.new.listeners in
    let r = c.from_residual.result in
    far_same _ _ r a b (switched_some o n c.if-old-new.false)
    (far_failed (one notice.Exit o) (one notice.Enter n) r a b c.from_residual.ensures.0 (single_one notice.Exit o) c.tell_one.ensures.told c.in_err-tell_one.ensures.hook.failed c.tell_one.ensures.hook.hook)

pub returns : goal.returns
returns g c =
    let o = c.args.old in
    let n = c.args.new in
    let a = c.args.listeners.now in
    let b = c.tell_one.new.listeners in
    let d = c.tell_one-2.new.listeners in
    far_same _ _ c.tell_one-2.result a d (switched_some o n c.if-old-new.false)
    (far_two (one notice.Exit o) (one notice.Enter n) c.tell_one-2.result a b d c.tell_one.ensures.told c.in_ok-tell_one.ensures.hook.hook_is_ok c.tell_one.ensures.hook.hook
    (single_one notice.Enter n) c.tell_one-2.ensures.told c.tell_one-2.ensures.hook)
