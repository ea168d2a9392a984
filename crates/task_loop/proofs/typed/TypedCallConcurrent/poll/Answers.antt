-- A poll starts the call, or finishes it.
use Rattle.std.proofs.Common.{ap, inl, inr, refl}
use Rattle.std.specs.Prelude.{Some}
use Rattle.task_loop.proofs.CallStartLemmas.{keeps_then}
use Rattle.task_loop.proofs.PolledLemmas.{polls_first, polls_on}
use Rattle.task_loop.proofs.typed.TypedCallConcurrent.poll.Goals as goal
use Rattle.task_loop.specs.declared.typed.TypedFuncCallConcurrent.{TypedFuncCallConcurrent}

pub returns-in-Some : goal.returns-in-Some
returns-in-Some g c = record {
  polls = (
    refl,
    polls_on _ _ _ _ _ _ _ c.in-Some.call.call (rw c.in-Some.is refl)
        (ap (λ (call : TypedFuncCallConcurrent g.row.P.Denot g.row.R.Denot). Some call.call) c.finish.ensures.call) c.finish.ensures.finishes,
  );
  keeps = c.finish.ensures.keeps c.args.component.now;
}

pub returns-in-Ok : goal.returns-in-Ok
returns-in-Ok g c =
    let s = c.args.store.now in
    let mid = c.start_with.new.store in
    let t = c.finish-answer.new.store in
    record {
      polls = (
        refl,
        polls_first _ _ _ _ _ _ _ (rw c.in_default.is refl)
            (inl (record {
              call = c.in-Ok.call.call;
              is_kept = ap (λ (call : TypedFuncCallConcurrent g.row.P.Denot g.row.R.Denot). Some call.call) c.finish-answer.ensures.call;
              began = mid;
              start = c.in-Ok.ensures.does;
              finishes = c.finish-answer.ensures.finishes;
            })),
      );
      keeps = keeps_then c.args.component.now s mid t c.in-Ok.ensures.keeps (c.finish-answer.ensures.keeps c.args.component.now);
    }

pub returns-in-Err : goal.returns-in-Err
returns-in-Err g c = record {
  polls = (
    refl,
    polls_first _ _ _ _ _ _ _ (rw c.in_default.is refl)
        (inr (record { why = c.in-Err.e; shown = refl; none = rw c.in_default.is refl; start = c.in-Err.ensures.does })),
  );
  keeps = c.in-Err.ensures.keeps;
}
