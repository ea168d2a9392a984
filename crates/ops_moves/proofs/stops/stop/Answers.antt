use Rattle.ops_moves.proofs.StopLemmas.{newest_unqueued, no_switch_queued, stop_ends, stop_passes, stop_resumes}
use Rattle.ops_moves.proofs.stops.stop.Goals as goal

pub returns-in-Some : goal.returns-in-Some
returns-in-Some g c = stop_passes c.args.foot c.in-Some.thread c.foot_of-below.result _ _ c.in-Some.ensures.is c.foot_of-below.ensures.is c.pass_callers.ensures

pub returns-in_default-pop_newest_caller : goal.returns-in_default-pop_newest_caller
returns-in_default-pop_newest_caller g c = let v = g.W.View.view in stop_ends c.args.foot (v c.args.w.now) _ c.in_default.ensures.is c.in_default-pop_newest_caller.ensures.is c.in_default-pop_newest_caller.ensures.new

pub resume_newest-requires-clause-switch : goal.resume_newest-requires-clause-switch
resume_newest-requires-clause-switch g c = no_switch_queued c.args.foot _ _ _ c.in_default.ensures.is c.pop_newest_caller.ensures.new

pub resume_callers-requires-clause-unqueued : goal.resume_callers-requires-clause-unqueued
resume_callers-requires-clause-unqueued g c =
    let p = c.in-Some-pop_newest_caller in
    newest_unqueued c.args.foot p.newest (g.W.View.view c.args.w.now) _ _ c.in_default.ensures.is p.ensures.is p.ensures.new c.resume_newest.ensures c.requires.may.unqueued

pub returns : goal.returns
returns g c =
    let p = c.in-Some-pop_newest_caller in
    stop_resumes c.args.foot p.newest (g.W.View.view c.args.w.now) _ _ _ c.in_default.ensures.is p.ensures.is p.ensures.new c.resume_newest.ensures c.resume_callers.ensures
