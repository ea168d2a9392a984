use Rattle.store_notices.proofs.MoveLemmas.{as_hook, hook_is_ok_told, far_stopped, far_then, one_as_far, quiet_far, single_told, stops_single}
use Rattle.std.proofs.Common.{ap, refl}
use Rattle.std.specs.Prelude.{[], ◌∷◌}
use Rattle.store_notices.proofs.MoveLemmas.{far_same}
use Rattle.machine_data.specs.declared.records.NoticeKind.TheVariants as notice
use Rattle.machine_rules.specs.Notices.{around, told_of}
use Rattle.store_notices.proofs.tells.visit.Goals as goal

pub returns-in-None : goal.returns-in-None
returns-in-None g c = quiet_far _ _ c.args.listeners.now (ap around c.in-None.is)

pub returns-in_err-tell-in-Some : goal.returns-in_err-tell-in-Some
returns-in_err-tell-in-Some g c =
    let n = c.in-Some.group in
    let a = c.args.listeners.now in
    let b = c.tell.new.self in
    let r = c.from_residual.result in
    far_same _ _ r a b (ap around c.in-Some.is)
    (far_stopped (told_of notice.Enter n ∷ []) (told_of notice.Exit n ∷ []) r a b c.from_residual.ensures.0 (stops_single _ a b (single_told notice.Enter n) c.tell.ensures.told (c.in_err-tell-in-Some.ensures.answer.0 refl)) c.tell.ensures.told.same_hook)

pub returns-in_ok-tell-in-Some : goal.returns-in_ok-tell-in-Some
returns-in_ok-tell-in-Some g c =
    let n = c.in-Some.group in
    let a = c.args.listeners.now in
    let b = c.tell.new.self in
    let d = c.tell-in-Some.new.self in
    far_same _ _ c.tell-in-Some.result a d (ap around c.in-Some.is)
    (far_then (told_of notice.Enter n ∷ []) (told_of notice.Exit n ∷ []) c.tell-in-Some.result a b d (hook_is_ok_told _ a b c.tell.ensures.told (λ err. let lacks = c.in_ok-tell-in-Some.ensures.answer.1 err in cc)) c.tell.ensures.told.same_hook
    (one_as_far _ c.tell-in-Some.result b d (single_told notice.Exit n) c.tell-in-Some.ensures.told (as_hook c.tell-in-Some.result b d c.tell-in-Some.ensures.told c.tell-in-Some.ensures.answer)))
