use Rattle.std.proofs.Common.{None, Some, [], ap, subst, ◌++◌, ◌∙◌, ◌∷◌}
use Rattle.futures.specs.declared.task.Poll.{Poll}
use Rattle.beside_works.proofs.SharedLemmas.{listed_after, met_after, name_after, round_kept, splits_after, told_complete, told_pending, written}
use Rattle.task_abort.specs.Cells.{TellsComplete, view_of}
use Rattle.task_abort.specs.Staged.{made}
use Rattle.task_abort.specs.declared.log.CallMade.{CallMade}
use Rattle.task_abort.specs.declared.log.PhaseCall.TheVariants.{PollHandle}
use Rattle.machine_data.specs.declared.statuses.Phase.TheVariants.{Complete}
use Rattle.beside_works.proofs.cells.SharedSpawn.poll_handle.Goals as goal

pub invariant_of-self-in-Ready-clause-first : goal.invariant_of-self-in-Ready-clause-first
invariant_of-self-in-Ready-clause-first c = name_after PollHandle (view_of c.args.self.now.pass) (view_of c.poll_handle-poll.new.pass) c.poll_handle-poll.ensures.call.0 _ c.poll_handle-poll.ensures.call.1 c.args.self.now.first

pub invariant_of-self-in-Ready-clause-splits : goal.invariant_of-self-in-Ready-clause-splits
invariant_of-self-in-Ready-clause-splits c = splits_after PollHandle (view_of c.args.self.now.pass) (view_of c.poll_handle-poll.new.pass) c.poll_handle-poll.ensures.call.0 _ c.poll_handle-poll.ensures.call.1 c.args.self.now.splits

pub invariant_of-self-in-Ready-clause-met_each : goal.invariant_of-self-in-Ready-clause-met_each
invariant_of-self-in-Ready-clause-met_each c = met_after PollHandle (view_of c.args.self.now.pass) (view_of c.poll_handle-poll.new.pass) c.poll_handle-poll.ensures.call.0 _ c.poll_handle-poll.ensures.call.1 c.args.self.now.met_each

pub invariant_of-self-in-Ready-clause-listed : goal.invariant_of-self-in-Ready-clause-listed
invariant_of-self-in-Ready-clause-listed c =
    listed_after PollHandle (view_of c.args.self.now.pass) (view_of c.poll_handle-poll.new.pass) c.poll_handle-poll.ensures.call.0 c.args.self.now.calls.items _ (made PollHandle (Some Complete)) c.poll_handle-poll.ensures.call.1 c.args.self.now.listed
    (told_complete (view_of c.args.self.now.pass).own.name c.poll_handle-poll.ensures.call.0 (subst (λ (p : Poll (Unit {0})). TellsComplete c.poll_handle-poll.ensures.call.0 p) c.in-Ready.is c.poll_handle-poll.ensures.call.2))
    (written c.args.self.now.calls.items c.add.new.list.items c.len-last.result _ _ c.in_ok-add.ensures.ok (c.len-last.ensures ∙ c.args.self.now.calls.ok.0))

pub invariant_of-self-in_default-clause-first : goal.invariant_of-self-in_default-clause-first
invariant_of-self-in_default-clause-first c = name_after PollHandle (view_of c.args.self.now.pass) (view_of c.poll_handle-poll.new.pass) c.poll_handle-poll.ensures.call.0 _ c.poll_handle-poll.ensures.call.1 c.args.self.now.first

pub invariant_of-self-in_default-clause-splits : goal.invariant_of-self-in_default-clause-splits
invariant_of-self-in_default-clause-splits c = splits_after PollHandle (view_of c.args.self.now.pass) (view_of c.poll_handle-poll.new.pass) c.poll_handle-poll.ensures.call.0 _ c.poll_handle-poll.ensures.call.1 c.args.self.now.splits

pub invariant_of-self-in_default-clause-met_each : goal.invariant_of-self-in_default-clause-met_each
invariant_of-self-in_default-clause-met_each c = met_after PollHandle (view_of c.args.self.now.pass) (view_of c.poll_handle-poll.new.pass) c.poll_handle-poll.ensures.call.0 _ c.poll_handle-poll.ensures.call.1 c.args.self.now.met_each

pub invariant_of-self-in_default-clause-listed : goal.invariant_of-self-in_default-clause-listed
invariant_of-self-in_default-clause-listed c =
    listed_after PollHandle (view_of c.args.self.now.pass) (view_of c.poll_handle-poll.new.pass) c.poll_handle-poll.ensures.call.0 c.args.self.now.calls.items _ (made PollHandle None) c.poll_handle-poll.ensures.call.1 c.args.self.now.listed
    (told_pending (view_of c.args.self.now.pass).own.name c.poll_handle-poll.ensures.call.0 (subst (λ (p : Poll (Unit {0})). TellsComplete c.poll_handle-poll.ensures.call.0 p) c.in_default.is c.poll_handle-poll.ensures.call.2))
    (c.in_ok-add.ensures.ok ∙ ap (λ (m : CallMade). c.args.self.now.calls.items ++ m ∷ []) c.unanswered.ensures)

pub returns-in-Ready-clause-round : goal.returns-in-Ready-clause-round
returns-in-Ready-clause-round c = λ n round. round_kept PollHandle (view_of c.args.self.now.pass) (view_of c.poll_handle-poll.new.pass) c.poll_handle-poll.ensures.call.0 n c.poll_handle-poll.ensures.call.1 round

pub returns-in_default-clause-round : goal.returns-in_default-clause-round
returns-in_default-clause-round c = λ n round. round_kept PollHandle (view_of c.args.self.now.pass) (view_of c.poll_handle-poll.new.pass) c.poll_handle-poll.ensures.call.0 n c.poll_handle-poll.ensures.call.1 round
