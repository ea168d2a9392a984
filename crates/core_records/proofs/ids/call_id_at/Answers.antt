use Rattle.core_records.proofs.StandLemmas.{shown_kept, shown_none, shown_other}
use Rattle.core_records.proofs.ids.call_id_at.Goals as goal
use Rattle.core_records.proofs.Core.{call_number, IsSoundCore, seen}
use Rattle.core_records.specs.declared.{call_records.GuestTask.GuestTask}

pub returns-then-item-number : goal.returns-then-item-number
unfolding seen IsSoundCore
returns-then-item-number c =
    let a = c.args.parts.now in
    shown_kept (λ (g : GuestTask). g.number) (λ (g : GuestTask). g.call) a.calls 0 0 a.made.threads c.requires.sound.tables.calls c.args.place c.args.number c.in-Some.item.now c.in-Some.ensures c.if-item-number.true _ c.call_at.ensures

pub returns-else-item-number : goal.returns-else-item-number
unfolding seen IsSoundCore call_number
returns-else-item-number c =
    let a = c.args.parts.now in
    shown_other (λ (g : GuestTask). g.number) (λ (g : GuestTask). g.call) a.calls c.nowhere.result.rep c.nowhere.result.serial a.made.threads c.requires.sound.tables.calls c.args.place c.args.number c.requires.stands c.nowhere.ensures c.in-Some.item.now c.in-Some.ensures c.if-item-number.false

pub returns-in-None : goal.returns-in-None
unfolding seen IsSoundCore call_number
returns-in-None c =
    let a = c.args.parts.now in
    shown_none (λ (g : GuestTask). g.number) (λ (g : GuestTask). g.call) a.calls c.nowhere-in-None.result.rep c.nowhere-in-None.result.serial a.made.threads c.requires.sound.tables.calls c.args.place c.args.number c.requires.stands c.nowhere-in-None.ensures c.in-None.ensures
