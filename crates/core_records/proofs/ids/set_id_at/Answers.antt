use Rattle.core_records.proofs.StandLemmas.{shown_kept, shown_none, shown_other}
use Rattle.core_records.proofs.ids.set_id_at.Goals as goal
use Rattle.core_records.proofs.Core.{IsSoundCore, seen, set_number}
use Rattle.core_records.specs.declared.{set_records.WaitSet.WaitSet}

pub returns-then-item-number : goal.returns-then-item-number
unfolding seen IsSoundCore
returns-then-item-number c =
    let a = c.args.parts.now in
    shown_kept (λ (x : WaitSet). x.number) (λ (x : WaitSet). x.set) a.sets 0 0 a.made.sets c.requires.sound.tables.sets c.args.place c.args.number c.in-Some.item.now c.in-Some.ensures c.if-item-number.true _ c.set_at.ensures

pub returns-else-item-number : goal.returns-else-item-number
unfolding seen IsSoundCore set_number
returns-else-item-number c =
    let a = c.args.parts.now in
    shown_other (λ (x : WaitSet). x.number) (λ (x : WaitSet). x.set) a.sets c.nowhere.result.rep c.nowhere.result.serial a.made.sets c.requires.sound.tables.sets c.args.place c.args.number c.requires.stands c.nowhere.ensures c.in-Some.item.now c.in-Some.ensures c.if-item-number.false

pub returns-in-None : goal.returns-in-None
unfolding seen IsSoundCore set_number
returns-in-None c =
    let a = c.args.parts.now in
    shown_none (λ (x : WaitSet). x.number) (λ (x : WaitSet). x.set) a.sets c.nowhere-in-None.result.rep c.nowhere-in-None.result.serial a.made.sets c.requires.sound.tables.sets c.args.place c.args.number c.requires.stands c.nowhere-in-None.ensures c.in-None.ensures
