use Rattle.std.proofs.Common.{refl, true, false}
use Rattle.ops_guests.proofs.CodeLemmas.{code_waits_picks, finds_core, reopened_unqueued, waits_core}
use Rattle.ops_guests.proofs.codes.code_waits.Goals as goal
use Rattle.machine_rules.specs.Ends.{code_finds, code_waits}
use Rattle.core_primitives.specs.StateView.{thread_of}

pub put_high-requires-clause-unqueued : goal.put_high-requires-clause-unqueued
put_high-requires-clause-unqueued g c = let v = g.W.View.view in reopened_unqueued c.args.thread (v c.args.w.now) (v c.stop_reopened.new.w) c.requires.running c.stop_reopened.ensures

pub returns-then-finds-clause-picks : goal.returns-then-finds-clause-picks
returns-then-finds-clause-picks g c =
    let v = g.W.View.view in
    let s = v c.args.w.now in
    code_waits_picks c.args.thread c.task_of.result c.in-Some.set _ c.args.handle _ true c.args.label (code_finds (thread_of s c.args.thread)) s (v c.stop_reopened.new.w) (v c.put_high.new.w) c.instance_of-instance.ensures c.in-Some.ensures.is c.task_of.ensures.is c.has_event_for-finds.ensures c.if-finds.true (λ y held d. refl)
    (finds_core c.args.thread c.in-Some.set s (v c.stop_reopened.new.w) (v c.put_high.new.w) c.put_high.ensures) c.stop_reopened.ensures c.requires.silent

pub returns-else-finds-clause-picks : goal.returns-else-finds-clause-picks
returns-else-finds-clause-picks g c =
    let v = g.W.View.view in
    let s = v c.args.w.now in
    code_waits_picks c.args.thread c.task_of.result c.in-Some.set _ c.args.handle _ false c.args.label (code_waits (thread_of s c.args.thread)) s (v c.stop_reopened.new.w) (v c.set_place.new.self) c.instance_of-instance.ensures c.in-Some.ensures.is c.task_of.ensures.is c.has_event_for-finds.ensures c.if-finds.false (λ y held d. refl)
    (waits_core c.args.thread c.in-Some.set s (v c.stop_reopened.new.w) (v c.arrive.new.self) (v c.set_place.new.self) c.arrive.ensures c.set_place.ensures) c.stop_reopened.ensures c.requires.silent
