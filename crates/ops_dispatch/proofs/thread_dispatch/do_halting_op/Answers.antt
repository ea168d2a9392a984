use Rattle.ops_dispatch.proofs.thread_dispatch.do_halting_op.Goals as goal
use Rattle.ops_dispatch.specs.Rules.{halts_here, promotes_here, resumes_here}
use Rattle.std.proofs.Common.{ap, sym}
use Rattle.std.specs.Prelude.{false, true, ℕ}
use Rattle.machine_data.specs.declared.label.ThreadLabel.TheVariants as thread_label
use Rattle.machine_data.specs.declared.op.ThreadOp.TheVariants as thread_op
use Rattle.ops_guests.proofs.DoesLemmas.{does_rule}
use Rattle.ops_guests.specs.Does.{SameNames}
use Rattle.machine_rules.specs.Threads.{thread_rule}
use Rattle.core_primitives.specs.StateView.{thread_of}

pub returns-in-Suspend : goal.returns-in-Suspend
returns-in-Suspend g c =
    let s = g.W.View.view c.args.w.now in
    let t = g.W.View.view c.halts.new.w in
    let n = thread_of s c.args.thread in
    record {
      does = λ comp. rw c.in-Suspend.is (does_rule SameNames (halts_here false (thread_label.Suspend c.number-number.result)) (λ d n ch s. thread_rule d comp n s thread_op.Suspend) c.args.thread s t c.halts.result c.halts.ensures.does
          (λ d ch. ap (λ (k : ℕ). halts_here false (thread_label.Suspend k) d n ch s.core) (sym c.number-number.ensures)));
    }

pub returns-in-Yield : goal.returns-in-Yield
returns-in-Yield g c =
    let s = g.W.View.view c.args.w.now in
    let t = g.W.View.view c.halts-in-Yield.new.w in
    let n = thread_of s c.args.thread in
    record {
      does = λ comp. rw c.in-Yield.is (does_rule SameNames (halts_here true (thread_label.Yield c.number-number.result)) (λ d n ch s. thread_rule d comp n s thread_op.Yield) c.args.thread s t c.halts-in-Yield.result c.halts-in-Yield.ensures.does
          (λ d ch. ap (λ (k : ℕ). halts_here true (thread_label.Yield k) d n ch s.core) (sym c.number-number.ensures)));
    }

pub returns-in-SuspendThenResume : goal.returns-in-SuspendThenResume
returns-in-SuspendThenResume g c =
    let s = g.W.View.view c.args.w.now in
    let t = g.W.View.view c.resumes.new.w in
    let n = thread_of s c.args.thread in
    record {
      does = λ comp. rw c.in-SuspendThenResume.is (does_rule SameNames (resumes_here false c.in-SuspendThenResume.other (thread_label.SuspendThenResume c.number-number.result)) (λ d n ch s. thread_rule d comp n s (thread_op.SuspendThenResume c.in-SuspendThenResume.other)) c.args.thread s t c.resumes.result c.resumes.ensures.does
          (λ d ch. ap (λ (k : ℕ). resumes_here false c.in-SuspendThenResume.other (thread_label.SuspendThenResume k) d n ch s.core) (sym c.number-number.ensures)));
    }

pub returns-in-YieldThenResume : goal.returns-in-YieldThenResume
returns-in-YieldThenResume g c =
    let s = g.W.View.view c.args.w.now in
    let t = g.W.View.view c.resumes-in-YieldThenResume.new.w in
    let n = thread_of s c.args.thread in
    record {
      does = λ comp. rw c.in-YieldThenResume.is (does_rule SameNames (resumes_here true c.in-YieldThenResume.other (thread_label.YieldThenResume c.number-number.result)) (λ d n ch s. thread_rule d comp n s (thread_op.YieldThenResume c.in-YieldThenResume.other)) c.args.thread s t c.resumes-in-YieldThenResume.result c.resumes-in-YieldThenResume.ensures.does
          (λ d ch. ap (λ (k : ℕ). resumes_here true c.in-YieldThenResume.other (thread_label.YieldThenResume k) d n ch s.core) (sym c.number-number.ensures)));
    }

pub returns-in-SuspendThenPromote : goal.returns-in-SuspendThenPromote
returns-in-SuspendThenPromote g c =
    let s = g.W.View.view c.args.w.now in
    let t = g.W.View.view c.promotes.new.w in
    let n = thread_of s c.args.thread in
    record {
      does = λ comp. rw c.in-SuspendThenPromote.is (does_rule SameNames (promotes_here false c.in-SuspendThenPromote.other (thread_label.SuspendThenPromote c.number-number.result)) (λ d n ch s. thread_rule d comp n s (thread_op.SuspendThenPromote c.in-SuspendThenPromote.other)) c.args.thread s t c.promotes.result c.promotes.ensures.does
          (λ d ch. ap (λ (k : ℕ). promotes_here false c.in-SuspendThenPromote.other (thread_label.SuspendThenPromote k) d n ch s.core) (sym c.number-number.ensures)));
    }

pub returns-in-YieldThenPromote : goal.returns-in-YieldThenPromote
returns-in-YieldThenPromote g c =
    let s = g.W.View.view c.args.w.now in
    let t = g.W.View.view c.promotes-in-YieldThenPromote.new.w in
    let n = thread_of s c.args.thread in
    record {
      does = λ comp. rw c.in-YieldThenPromote.is (does_rule SameNames (promotes_here true c.in-YieldThenPromote.other (thread_label.YieldThenPromote c.number-number.result)) (λ d n ch s. thread_rule d comp n s (thread_op.YieldThenPromote c.in-YieldThenPromote.other)) c.args.thread s t c.promotes-in-YieldThenPromote.result c.promotes-in-YieldThenPromote.ensures.does
          (λ d ch. ap (λ (k : ℕ). promotes_here true c.in-YieldThenPromote.other (thread_label.YieldThenPromote k) d n ch s.core) (sym c.number-number.ensures)));
    }
