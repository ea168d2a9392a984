use Rattle.std.proofs.Common.{Some, refl, ◌∙◌}
use Rattle.beside_works.proofs.SharedLemmas.{listed_after, met_after, name_after, round_kept, splits_after, written}
use Rattle.task_abort.specs.Cells.{view_of}
use Rattle.task_abort.specs.Staged.{made}
use Rattle.task_abort.specs.declared.log.PhaseCall.TheVariants.{Finish}
use Rattle.beside_works.proofs.cells.SharedSpawn.finish.Goals as goal

pub invariant_of-self-in-Some-clause-first : goal.invariant_of-self-in-Some-clause-first
invariant_of-self-in-Some-clause-first c = name_after Finish (view_of c.args.self.now.pass) (view_of c.finish-found.new.pass) c.finish-found.result _ c.finish-found.ensures.call c.args.self.now.first

pub invariant_of-self-in-Some-clause-splits : goal.invariant_of-self-in-Some-clause-splits
invariant_of-self-in-Some-clause-splits c = splits_after Finish (view_of c.args.self.now.pass) (view_of c.finish-found.new.pass) c.finish-found.result _ c.finish-found.ensures.call c.args.self.now.splits

pub invariant_of-self-in-Some-clause-met_each : goal.invariant_of-self-in-Some-clause-met_each
invariant_of-self-in-Some-clause-met_each c = met_after Finish (view_of c.args.self.now.pass) (view_of c.finish-found.new.pass) c.finish-found.result _ c.finish-found.ensures.call c.args.self.now.met_each

pub invariant_of-self-in-Some-clause-listed : goal.invariant_of-self-in-Some-clause-listed
invariant_of-self-in-Some-clause-listed c =
    listed_after Finish (view_of c.args.self.now.pass) (view_of c.finish-found.new.pass) c.finish-found.result c.args.self.now.calls.items _ (made Finish (Some c.finish-found.result)) c.finish-found.ensures.call c.args.self.now.listed refl
    (written c.args.self.now.calls.items c.add.new.list.items c.len-last.result _ _ c.in_ok-add.ensures.ok (c.len-last.ensures ∙ c.args.self.now.calls.ok.0))

pub returns-in-Some-clause-round : goal.returns-in-Some-clause-round
returns-in-Some-clause-round c = λ n round. round_kept Finish (view_of c.args.self.now.pass) (view_of c.finish-found.new.pass) c.finish-found.result n c.finish-found.ensures.call round
