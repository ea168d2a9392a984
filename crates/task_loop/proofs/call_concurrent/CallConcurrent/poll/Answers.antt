-- A poll starts the call, or finishes it.
use Rattle.std.proofs.Common.{ap, inl, inr, refl, subst}
use Rattle.std.specs.Prelude.{List, Ok, Some, ℕ}
use Rattle.task_loop.proofs.CallStartLemmas.{keeps_then}
use Rattle.task_loop.proofs.PolledLemmas.{polls_first, polls_on}
use Rattle.task_loop.proofs.call_concurrent.CallConcurrent.poll.Goals as goal
use Rattle.task_loop.specs.CallStarts.{StartsOrStops}
use Rattle.task_loop.specs.LoopCalls.{callee_of}

pub returns-in-Some : goal.returns-in-Some
returns-in-Some g c = record {
  polls = (refl, polls_on _ _ _ _ _ _ _ c.in-Some.call c.in-Some.is (ap Some c.finish.ensures.call) c.finish.ensures.finishes);
  keeps = c.finish.ensures.keeps c.args.component.now;
}

pub returns-in-Ok : goal.returns-in-Ok
returns-in-Ok g c =
    let s = c.args.store.now in
    let mid = c.start_call_concurrent.new.store in
    let t = c.finish-answer.new.store in
    let start =
    subst
    (λ (words : List ℕ). StartsOrStops g.G.TaskGroupHook.listens c.args.component.now (callee_of c.args.self.now.func) words s (Ok c.in-Ok.call) mid)
    c.as_slice.ensures.value c.in-Ok.ensures.does in
    record {
      polls = (
        refl,
        polls_first _ _ _ _ _ _ _ c.in_default.is
            (inl (record {
              call = c.in-Ok.call;
              is_kept = ap Some c.finish-answer.ensures.call;
              began = mid;
              start = start;
              finishes = c.finish-answer.ensures.finishes;
            })),
      );
      keeps = keeps_then c.args.component.now s mid t c.in-Ok.ensures.keeps (c.finish-answer.ensures.keeps c.args.component.now);
    }

pub returns-in-Err : goal.returns-in-Err
returns-in-Err g c =
    let s = c.args.store.now in
    let t = c.start_call_concurrent.new.store in
    record {
      polls = (
        refl,
        polls_first _ _ _ _ _ _ _ c.in_default.is (inr (record { why = c.in-Err.e; shown = refl; none = c.in_default.is; start = c.in-Err.ensures.does })),
      );
      keeps = c.in-Err.ensures.keeps;
    }
