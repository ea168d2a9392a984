use Rattle.std.proofs.Common.{ap, map, ◌∙◌, sym}
use Rattle.beside_works.proofs.SharedLemmas.{met_more}
use Rattle.task_abort.specs.Cells.{view_of}
use Rattle.task_abort.specs.Staged.{told}
use Rattle.task_abort.specs.declared.log.HandleCaller.{HandleCaller}
use Rattle.beside_works.proofs.cells.SharedSpawn.meet.Goals as goal

pub invariant_of-self-2-clause-first : goal.invariant_of-self-2-clause-first
invariant_of-self-2-clause-first c = ap (λ (d : HandleCaller). d.name) c.meet.ensures.met.own ∙ c.args.self.now.first

pub invariant_of-self-2-clause-splits : goal.invariant_of-self-2-clause-splits
invariant_of-self-2-clause-splits c = ap (λ (d : HandleCaller). d.splits) c.meet.ensures.met.own ∙ c.args.self.now.splits

pub invariant_of-self-2-clause-listed : goal.invariant_of-self-2-clause-listed
invariant_of-self-2-clause-listed c = c.args.self.now.listed ∙ ap (λ (d : HandleCaller). map told d.calls) (sym c.meet.ensures.met.own)

pub invariant_of-self-2-clause-met_each : goal.invariant_of-self-2-clause-met_each
invariant_of-self-2-clause-met_each c =
    met_more (view_of c.args.self.now.pass) (view_of c.args.other.pass) (view_of c.meet.new.pass) c.args.self.now.met.items c.add.new.list.items _ c.args.other.place c.meet.ensures.met c.args.self.now.met_each c.args.other.apart c.args.other.named c.args.other.unsplit c.args.other.aborts c.requires.order c.in_ok-add.ensures.ok
