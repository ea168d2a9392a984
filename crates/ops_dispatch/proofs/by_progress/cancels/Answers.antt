use Rattle.ops_dispatch.proofs.CancelLemmas.{awaits_at, behind_at, cancel_fresh, cancel_shows}
use Rattle.ops_dispatch.proofs.GoesLemmas.{does_op, same_op}
use Rattle.ops_dispatch.proofs.by_progress.cancels.Goals as goal
use Rattle.ops_dispatch.specs.Continues.{cancels_here}
use Rattle.std.proofs.Common.{ap, sym}
use Rattle.ops_subtasks.specs.Refused.{mode_of}
use Rattle.ops_subtasks.specs.Rules.{cancels_from, goes_on_from}
use Rattle.machine_data.specs.Read.{op_progress_of}
use Rattle.machine_data.specs.declared.records.OpProgress.{OpProgress}
use Rattle.machine_data.specs.declared.records.OpProgress.TheVariants as op_progress
use Rattle.ops_guests.proofs.DoesLemmas.{does_rule, same_rest}
use Rattle.ops_guests.specs.Does.{KeepsRest, SameNames}
use Rattle.ops_guests.specs.Works.{KeepsTold}
use Rattle.machine_rules.specs.Cancels.{cancel_rule}
use Rattle.machine_rules.specs.Finish.{SomeHost}
use Rattle.core_primitives.specs.Names.{subtask_in}
use Rattle.core_primitives.specs.StateView.{thread_of}

pub returns-in-Some : goal.returns-in-Some
returns-in-Some g c =
    let s = g.W.View.view c.args.w.now in
    let t = g.W.View.view c.go_on_cancelling.new.w in
    let n = thread_of s c.args.thread in
    let m = mode_of c.args.sync in
    let h = c.args.handle in
    let far = behind_at (op_progress_of n s.core) (subtask_in s.tags c.in-Some.subtask) (sym c.in-Some.ensures) in
    let did = does_rule SameNames (goes_on_from m (op_progress.Cancels (subtask_in s.tags c.in-Some.subtask))) (cancels_here m h) c.args.thread s t _ c.go_on_cancelling.ensures.does
    (λ d k. ap (λ (f : OpProgress). cancel_rule d m n h s.core f) far) in
    record { does = same_op KeepsTold (cancels_here m h) c.args.thread s t _ (cancel_shows m n SomeHost h s.core (op_progress_of n s.core)) c.requires.runner.current did (same_rest s t did.kept).0 }

pub returns-in-Some-awaiting : goal.returns-in-Some-awaiting
returns-in-Some-awaiting g c =
    let s = g.W.View.view c.args.w.now in
    let t = g.W.View.view c.go_on_awaiting.new.w in
    let n = thread_of s c.args.thread in
    let m = mode_of c.args.sync in
    let h = c.args.handle in
    let far = awaits_at (op_progress_of n s.core) (subtask_in s.tags c.in-Some-awaiting.subtask) (sym c.in-Some-awaiting.ensures) in
    let did = does_rule SameNames (goes_on_from m (op_progress.AwaitsEnd (subtask_in s.tags c.in-Some-awaiting.subtask))) (cancels_here m h) c.args.thread s t _ c.go_on_awaiting.ensures.does
    (λ d k. ap (λ (f : OpProgress). cancel_rule d m n h s.core f) far) in
    record { does = same_op KeepsTold (cancels_here m h) c.args.thread s t _ (cancel_shows m n SomeHost h s.core (op_progress_of n s.core)) c.requires.runner.current did (same_rest s t did.kept).0 }

pub returns : goal.returns
returns g c =
    let s = g.W.View.view c.args.w.now in
    let t = g.W.View.view c.cancel.new.w in
    let n = thread_of s c.args.thread in
    let m = mode_of c.args.sync in
    let h = c.args.handle in
    let did = does_rule KeepsRest (cancels_from m op_progress.Fresh h) (cancels_here m h) c.args.thread s t _ c.cancel.ensures.does
    (λ d k. cancel_fresh m n d h s.core (op_progress_of n s.core) (sym c.in_default.ensures) (sym c.in_default-awaiting.ensures)) in
    record { does = does_op KeepsTold (cancels_here m h) c.args.thread s t _ (cancel_shows m n SomeHost h s.core (op_progress_of n s.core)) c.requires.runner.current KeepsRest did did.kept.0 did.kept.1 c.cancel.ensures.thread }
