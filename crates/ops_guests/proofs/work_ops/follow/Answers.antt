use Rattle.ops_guests.proofs.WorkLemmas.{staged_blocked, staged_entries, unblocked_is}
use Rattle.std.proofs.Common.{ap, sym, ◌∙◌}
use Rattle.machine_rules.specs.Works.{followed}
use Rattle.core_primitives.specs.Names.{work_caller_in}
use Rattle.core_primitives.specs.StateView.{on_core, work_of}
use Rattle.core_primitives.specs.declared.names.WorkCallerId.{WorkCallerId}
use Rattle.ops_guests.proofs.work_ops.follow.Goals as goal

pub push_host-requires-clause-unqueued : goal.push_host-requires-clause-unqueued
push_host-requires-clause-unqueued g c = staged_entries c.args.work _ (g.W.View.view c.args.w.now) _ c.set_stage-in-Async.ensures c.requires.unqueued c.requires.blocked

pub unblock-requires-clause-unqueued : goal.unblock-requires-clause-unqueued
unblock-requires-clause-unqueued g c = staged_blocked c.args.work _ (g.W.View.view c.args.w.now) _ c.set_stage-in-Sync.ensures c.requires.unqueued c.requires.blocked

pub returns-in-Sync : goal.returns-in-Sync
returns-in-Sync g c =
    let s = g.W.View.view c.args.w.now in
    unblocked_is c.args.work _ s (g.W.View.view c.set_stage-in-Sync.new.self) _ c.set_stage-in-Sync.ensures c.unblock.ensures
    ∙ ap (λ (k : WorkCallerId). on_core (followed (work_caller_in s.tags k) (work_of s c.args.work)) s) (sym c.in-Sync.is)
