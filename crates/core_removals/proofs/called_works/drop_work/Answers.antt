use Rattle.core_records.proofs.Core.{arith, deletion_refused, IsSoundCore, item_of, subst, ℕ, ◌<◌}
use Rattle.core_records.specs.declared.{work_records.WorkRecord.WorkRecord}
use Rattle.core_records.proofs.KindLemmas.{refused_number}
use Rattle.core_records.proofs.ReadLemmas.{work_shown}
use Rattle.core_removals.proofs.called_works.drop_work.Goals as goal

pub unreachable-requires : goal.unreachable-requires
unfolding IsSoundCore
unreachable-requires c =
    let a = c.args.parts.now in
    let zero = refused_number (λ (w : WorkRecord). w.number) (λ (w : WorkRecord). w.work) a.works c.args.new.rep c.args.new.serial _ (deletion_refused item_of a.works c.args.new.rep c.args.new.serial _ c.in-Err.ensures.answer (c.requires.sound.tables.works.childless c.args.new.rep)) in
    let live = subst (λ (n : ℕ). 0 < n) (work_shown a c.args.new) c.requires.work in
    omega arith
