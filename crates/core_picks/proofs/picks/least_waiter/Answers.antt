use Rattle.core_places.proofs.FirstLemmas.{first_held, none_held}
use Rattle.core_places.proofs.PickLemmas.{least_waiter}
use Rattle.core_places.proofs.WaiterLemmas.{no_waiter, waiter_held, waiters_live}
use Rattle.core_picks.proofs.picks.least_waiter.Goals as goal

pub first-requires : goal.first-requires
first-requires c = waiters_live c.args.parts.now c.requires.sound c.args.set.rep c.args.set.serial c.set_there-found.result.now c.set_there-found.ensures.item

pub returns-in-Some-clause-some : goal.returns-in-Some-clause-some
returns-in-Some-clause-some c =
    let holds = first_held c.args.parts.now.places c.set_there-found.result.now.waiters c.in-Some.field-0-0 c.in-Some.order_key c.in-Some.ensures.linked c.in-Some.ensures.entry in
    (waiter_held c.args.parts.now c.requires.sound c.args.set.rep c.args.set.serial c.set_there-found.result.now c.set_there-found.ensures.item c.in-Some.order_key holds _ _ c.set_there-found.ensures.number c.thread_at.ensures).0

pub returns-in-Some-clause-live : goal.returns-in-Some-clause-live
returns-in-Some-clause-live c =
    let holds = first_held c.args.parts.now.places c.set_there-found.result.now.waiters c.in-Some.field-0-0 c.in-Some.order_key c.in-Some.ensures.linked c.in-Some.ensures.entry in
    (waiter_held c.args.parts.now c.requires.sound c.args.set.rep c.args.set.serial c.set_there-found.result.now c.set_there-found.ensures.item c.in-Some.order_key holds _ _ c.set_there-found.ensures.number c.thread_at.ensures).1

pub returns-in-None-clause-none : goal.returns-in-None-clause-none
returns-in-None-clause-none c =
    no_waiter c.args.parts.now c.requires.sound c.args.set.rep c.args.set.serial c.set_there-found.result.now c.set_there-found.ensures.item _ c.set_there-found.ensures.number
    (none_held c.args.parts.now.places c.set_there-found.result.now.waiters c.in-None.ensures.sound c.in-None.ensures.entry)

pub returns-in-Some-clause-least : goal.returns-in-Some-clause-least
returns-in-Some-clause-least c =
    let a = c.args.parts.now in
    let holds = first_held a.places c.set_there-found.result.now.waiters c.in-Some.field-0-0 c.in-Some.order_key c.in-Some.ensures.linked c.in-Some.ensures.entry in
    least_waiter a c.requires.sound c.args.set.rep c.args.set.serial c.set_there-found.result.now c.set_there-found.ensures.item c.in-Some.order_key holds c.in-Some.ensures.sound c.in-Some.ensures.linked c.in-Some.ensures.least _ c.set_there-found.ensures.number c.thread_at.result c.thread_at.ensures
