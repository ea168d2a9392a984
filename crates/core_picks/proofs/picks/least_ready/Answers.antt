use Rattle.core_places.proofs.FirstLemmas.{first_held, none_held}
use Rattle.core_places.proofs.MemberPickLemmas.{least_call, least_work, no_work_ready}
use Rattle.core_places.proofs.ReadyLemmas.{call_held, none_ready, ready_calls_live, ready_works_live, work_held}
use Rattle.core_picks.proofs.picks.least_ready.Goals as goal

pub first-requires : goal.first-requires
first-requires c = ready_works_live c.args.parts.now c.requires.sound c.args.set.rep c.args.set.serial c.set_there-found.result.now c.set_there-found.ensures.item

pub first-requires-in-None : goal.first-requires-in-None
first-requires-in-None c = ready_calls_live c.args.parts.now c.requires.sound c.args.set.rep c.args.set.serial c.set_there-found.result.now c.set_there-found.ensures.item

pub returns-in-Some-clause-some : goal.returns-in-Some-clause-some
returns-in-Some-clause-some c =
    let holds = first_held c.args.parts.now.ready_works c.set_there-found.result.now.ready_works c.in-Some.field-0-0 c.in-Some.order_key c.in-Some.ensures.linked c.in-Some.ensures.entry in
    work_held c.args.parts.now c.requires.sound c.args.set.rep c.args.set.serial c.set_there-found.result.now c.set_there-found.ensures.item c.in-Some.order_key holds _ _ c.set_there-found.ensures.number c.work_at.ensures

pub returns-in-Some-first-clause-some : goal.returns-in-Some-first-clause-some
returns-in-Some-first-clause-some c =
    let holds = first_held c.args.parts.now.ready_calls c.set_there-found.result.now.ready_calls c.in-Some-first.field-0-0 c.in-Some-first.order_key c.in-Some-first.ensures.linked c.in-Some-first.ensures.entry in
    call_held c.args.parts.now c.requires.sound c.args.set.rep c.args.set.serial c.set_there-found.result.now c.set_there-found.ensures.item c.in-Some-first.order_key holds _ _ c.set_there-found.ensures.number c.call_at.ensures

pub returns-in-None-first-clause-none : goal.returns-in-None-first-clause-none
returns-in-None-first-clause-none c =
    none_ready c.args.parts.now c.requires.sound c.args.set.rep c.args.set.serial c.set_there-found.result.now c.set_there-found.ensures.item
    (none_held c.args.parts.now.ready_calls c.set_there-found.result.now.ready_calls c.in-None-first.ensures.sound c.in-None-first.ensures.entry)
    (none_held c.args.parts.now.ready_works c.set_there-found.result.now.ready_works c.in-None.ensures.sound c.in-None.ensures.entry)
    _ c.set_there-found.ensures.number

pub returns-in-Some-clause-least : goal.returns-in-Some-clause-least
returns-in-Some-clause-least c w item =
    let holds = first_held c.args.parts.now.ready_works c.set_there-found.result.now.ready_works c.in-Some.field-0-0 c.in-Some.order_key c.in-Some.ensures.linked c.in-Some.ensures.entry in
    least_work c.args.parts.now c.requires.sound c.args.set.rep c.args.set.serial c.set_there-found.result.now c.set_there-found.ensures.item _ c.set_there-found.ensures.number c.in-Some.order_key holds c.in-Some.ensures.sound c.in-Some.ensures.linked c.in-Some.ensures.least c.work_at.result c.work_at.ensures w item

pub returns-in-Some-first-clause-least : goal.returns-in-Some-first-clause-least
returns-in-Some-first-clause-least c =
    let holds = first_held c.args.parts.now.ready_calls c.set_there-found.result.now.ready_calls c.in-Some-first.field-0-0 c.in-Some-first.order_key c.in-Some-first.ensures.linked c.in-Some-first.ensures.entry in (
      no_work_ready c.args.parts.now c.requires.sound c.args.set.rep c.args.set.serial c.set_there-found.result.now c.set_there-found.ensures.item _ c.set_there-found.ensures.number
          (none_held c.args.parts.now.ready_works c.set_there-found.result.now.ready_works c.in-None.ensures.sound c.in-None.ensures.entry),
      λ g item. least_call c.args.parts.now c.requires.sound c.args.set.rep c.args.set.serial c.set_there-found.result.now c.set_there-found.ensures.item _ c.set_there-found.ensures.number c.in-Some-first.order_key holds c.in-Some-first.ensures.sound c.in-Some-first.ensures.linked c.in-Some-first.ensures.least c.call_at.result c.call_at.ensures g item,
    )
