use Rattle.std.proofs.Common.{subst, sym}
use Rattle.std.specs.Prelude.{◌<◌}
use Rattle.core_primitives.specs.StateView.{StateView, call_of}
use Rattle.machine_data.specs.declared.records.Place.TheVariants as place
use Rattle.ops_guests.proofs.LeaveLemmas.{check_under, checked_explicit, checked_its, restored_explicit, restored_its, restored_runs, restored_under}
use Rattle.ops_guests.proofs.RunLemmas.{checked_stands}
use Rattle.ops_guests.proofs.leaves.leave_direct.Goals as goal

pub leave_to-requires-clause-running : goal.leave_to-requires-clause-running
leave_to-requires-clause-running g c = restored_runs c.args.thread (g.W.View.view c.args.w.now) _ c.requires.running c.restore.ensures

pub leave_to-requires-clause-under : goal.leave_to-requires-clause-under
leave_to-requires-clause-under g c = restored_under c.args.thread c.in-Some.below (g.W.View.view c.args.w.now) _ c.restore.ensures c.in-Some.ensures.is

pub leave_to-requires-2-clause-running : goal.leave_to-requires-2-clause-running
leave_to-requires-2-clause-running g c = checked_stands c.args.thread place.Running _ (g.W.View.view c.args.w.now) _ c.requires.running c.check.ensures

pub leave_to-requires-2-clause-under : goal.leave_to-requires-2-clause-under
leave_to-requires-2-clause-under g c = check_under c.args.thread c.in-Some.below _ (g.W.View.view c.args.w.now) _ c.requires.running c.check.ensures c.in-Some.ensures.is

pub leave_to-requires-clause-task : goal.leave_to-requires-clause-task
leave_to-requires-clause-task g c = record {
  named = subst (λ (x : StateView). 0 < call_of x c.args.call) (sym c.restore.ensures) c.requires.named;
  is = restored_its c.args.thread c.args.call (g.W.View.view c.args.w.now) _ c.requires.call c.restore.ensures;
}

pub leave_to-requires-2-clause-task : goal.leave_to-requires-2-clause-task
leave_to-requires-2-clause-task g c = record {
  named = subst (λ (x : StateView). 0 < call_of x c.args.call) (sym c.check.ensures) c.requires.named;
  is = checked_its c.args.thread c.args.call (g.W.View.view c.args.w.now) _ c.requires.call _ c.check.ensures;
}

pub leave_to-requires-clause-known : goal.leave_to-requires-clause-known
leave_to-requires-clause-known g c = restored_explicit c.args.thread c.explicit_unchecked-explicit.result (g.W.View.view c.args.w.now) _ c.explicit_unchecked-explicit.ensures c.restore.ensures

pub leave_to-requires-2-clause-known : goal.leave_to-requires-2-clause-known
leave_to-requires-2-clause-known g c = checked_explicit c.args.thread c.explicit_unchecked-explicit.result (g.W.View.view c.args.w.now) _ c.explicit_unchecked-explicit.ensures _ c.check.ensures
