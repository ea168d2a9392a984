use Rattle.std.proofs.Common.{arith, refl, sym, ◌∙◌}
use Rattle.store_notices.proofs.MoveLemmas.{finished_all, finished_more}
use Rattle.task_group.proofs.GroupLemmas.{still_hook_is_ok, told-none}
use Rattle.store_notices.proofs.tells.tell_finishes.Goals as goal
use Rattle.store_notices.proofs.tells.tell_finishes.Goals.{else-is_err, then-is_err}

pub loop-number-init : goal.loop-number-init
loop-number-init g c = record { told = told-none c.args.listeners.now; same = λ yes. refl; failed = λ no. absurd (cc) }

pub loop-number-preserved : goal.loop-number-preserved
loop-number-preserved g c =
    let inv = c.loop-number.invariant in
    let told = finished_more c.args.ended.now c.loop-number.number-index _ c.loop-number-test.true c.args.listeners.now c.loop-number.listeners c.tell.new.self inv.told c.tell.ensures.told in
    elim c.if-is_err.branch [
      | then-is_err w ↦
          let err = c.tell.ensures.answer.0 (sym c.is_err.ensures.value ∙ w.if-is_err.true) in
          let before = inv.told.errors in
          record {
            told = told;
            same = λ yes. let hook_is_ok = w.hook_is_ok-is in absurd (cc);
            failed = λ no. omega (arith, err, before);
          }
      | else-is_err w ↦
          let lacks = c.is_err.ensures.value in
          let none = w.if-is_err.false in
          let hook_is_ok = still_hook_is_ok _ _ c.tell.ensures.told (λ err. let is = c.tell.ensures.answer.1 err in cc) in
          record {
            told = told;
            same = λ yes. hook_is_ok ∙ inv.same (sym w.hook_is_ok-is ∙ yes);
            failed = λ no. let before = inv.failed (sym w.hook_is_ok-is ∙ no) in omega (arith, hook_is_ok, before);
          }
    ]

pub returns-then-hook_is_ok-clause-told : goal.returns-then-hook_is_ok-clause-told
returns-then-hook_is_ok-clause-told g c = finished_all c.args.ended.now c.loop-number.number-index (omega (arith, c.loop-number-test.false)) c.args.listeners.now c.loop-number.listeners c.loop-number.invariant.told

pub returns-then-hook_is_ok-clause-hook : goal.returns-then-hook_is_ok-clause-hook
returns-then-hook_is_ok-clause-hook g c = let inv = c.loop-number.invariant in record { failed = tt; hook_is_ok = inv.same c.if-hook_is_ok.true; hook = inv.told.same_hook }

pub returns-else-hook_is_ok-clause-told : goal.returns-else-hook_is_ok-clause-told
returns-else-hook_is_ok-clause-told g c = finished_all c.args.ended.now c.loop-number.number-index (omega (arith, c.loop-number-test.false)) c.args.listeners.now c.loop-number.listeners c.loop-number.invariant.told

pub returns-else-hook_is_ok-clause-hook : goal.returns-else-hook_is_ok-clause-hook
returns-else-hook_is_ok-clause-hook g c = let inv = c.loop-number.invariant in record { failed = inv.failed c.if-hook_is_ok.false; hook_is_ok = tt; hook = inv.told.same_hook }
