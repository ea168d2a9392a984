use Rattle.std.proofs.Common.{Some, refl, ◌∙◌}
use Rattle.beside_works.proofs.SharedLemmas.{listed_after, met_after, name_after, round_kept, splits_after, written}
use Rattle.task_abort.specs.Cells.{view_of}
use Rattle.task_abort.specs.Staged.{made}
use Rattle.task_abort.specs.declared.log.PhaseCall.TheVariants.{PollFuture}
use Rattle.beside_works.proofs.cells.SharedSpawn.poll.Goals as goal

pub invariant_of-self-2-clause-first : goal.invariant_of-self-2-clause-first
invariant_of-self-2-clause-first c = name_after PollFuture (view_of c.args.self.now.pass) (view_of c.phase-found.new.pass) c.phase-found.result _ c.phase-found.ensures.call c.args.self.now.first

pub invariant_of-self-2-clause-splits : goal.invariant_of-self-2-clause-splits
invariant_of-self-2-clause-splits c = splits_after PollFuture (view_of c.args.self.now.pass) (view_of c.phase-found.new.pass) c.phase-found.result _ c.phase-found.ensures.call c.args.self.now.splits

pub invariant_of-self-2-clause-met_each : goal.invariant_of-self-2-clause-met_each
invariant_of-self-2-clause-met_each c = met_after PollFuture (view_of c.args.self.now.pass) (view_of c.phase-found.new.pass) c.phase-found.result _ c.phase-found.ensures.call c.args.self.now.met_each

pub invariant_of-self-2-clause-listed : goal.invariant_of-self-2-clause-listed
invariant_of-self-2-clause-listed c =
    listed_after PollFuture (view_of c.args.self.now.pass) (view_of c.phase-found.new.pass) c.phase-found.result c.args.self.now.calls.items _ (made PollFuture (Some c.phase-found.result)) c.phase-found.ensures.call c.args.self.now.listed refl
    (written c.args.self.now.calls.items c.add.new.list.items c.len-last.result _ _ c.in_ok-add.ensures.ok (c.len-last.ensures ∙ c.args.self.now.calls.ok.0))

pub returns-clause-round : goal.returns-clause-round
returns-clause-round c = λ n round. round_kept PollFuture (view_of c.args.self.now.pass) (view_of c.phase-found.new.pass) c.phase-found.result n c.phase-found.ensures.call round
