use Rattle.std.proofs.Common.{[], ap, refl, arith, sym, ◌∙◌}
use Rattle.std.specs.FinMap as finite
use Rattle.task_group.proofs.CountLemmas.{keys-empty}
use Rattle.task_group.proofs.GroupLemmas.{finish_more, finish_done, failed_is, still_hook_is_ok, told-none}
use Rattle.task_group.proofs.groups.finish_each.Goals as goal

pub loop-number-init : goal.loop-number-init
loop-number-init g c = ([], refl, told-none c.args.listeners.now, λ e. refl, λ e. absurd (cc))

pub loop-number-preserved-then-is_err : goal.loop-number-preserved-then-is_err
loop-number-preserved-then-is_err g c =
    let inv = c.loop-number.invariant in
    let more = finish_more _ _ inv.0 _ _ inv.1 inv.2 c.in-Some.number _ _ c.in-Some.ensures.numbers c.tell.ensures.told in
    let err = c.tell.ensures.answer.0 (sym c.is_err.ensures.value ∙ c.if-is_err.true) in
    (more.0, more.1, more.2, λ e. absurd (cc), λ e. let before = inv.2.errors in omega (arith, err, before))

pub loop-number-preserved : goal.loop-number-preserved
loop-number-preserved g c =
    let inv = c.loop-number.invariant in
    let more = finish_more _ _ inv.0 _ _ inv.1 inv.2 c.in-Some.number _ _ c.in-Some.ensures.numbers c.tell.ensures.told in
    let same = still_hook_is_ok _ _ c.tell.ensures.told (λ err. let is = c.tell.ensures.answer.1 err in let was = c.is_err.ensures.value in let no = c.if-is_err.false in absurd (cc)) in
    (more.0, more.1, more.2, λ e. same ∙ inv.3 e, λ e. let before = inv.4 e in omega (arith, same, before))

pub returns-clause-told : goal.returns-clause-told
returns-clause-told g c =
    let inv = c.loop-number.invariant in
    finish_done _ _ inv.0 _ _ inv.1 inv.2 (c.in_default.ensures.numbers ∙ ap finite.keys c.in_default.ensures.none ∙ keys-empty)

pub returns-clause-failed : goal.returns-clause-failed
returns-clause-failed g c = let inv = c.loop-number.invariant in failed_is c.loop-number.hook_is_ok c.args.listeners.now c.loop-number.listeners inv.3 inv.4
