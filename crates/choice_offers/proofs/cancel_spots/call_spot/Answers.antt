use Rattle.choice_offers.proofs.cancel_spots.call_spot.Goals as goal
use Rattle.core_primitives.specs.StateView.{thread_of}
use Rattle.laws_choices.specs.Offers.{call_offer}
use Rattle.std.proofs.Common.{ap, sym, ◌∙◌}

pub returns-in-Call : goal.returns-in-Call
returns-in-Call c =
    let s = c.args.core.now in
    let n = thread_of s c.args.thread in
    ((c.no_spot.ensures n).0, (c.no_spot.ensures n).1 ∙ ap (call_offer n s.core) (sym c.in-Call.is))

pub returns-in-CallSync : goal.returns-in-CallSync
returns-in-CallSync c =
    let s = c.args.core.now in
    let n = thread_of s c.args.thread in
    ((c.no_spot-in-CallSync.ensures n).0, (c.no_spot-in-CallSync.ensures n).1 ∙ ap (call_offer n s.core) (sym c.in-CallSync.is))

pub returns-in-CallHost : goal.returns-in-CallHost
returns-in-CallHost c =
    let s = c.args.core.now in
    let n = thread_of s c.args.thread in
    ((c.no_spot-in-CallHost.ensures n).0, (c.no_spot-in-CallHost.ensures n).1 ∙ ap (call_offer n s.core) (sym c.in-CallHost.is))

pub returns-in-CallSyncHost : goal.returns-in-CallSyncHost
returns-in-CallSyncHost c =
    let s = c.args.core.now in
    let n = thread_of s c.args.thread in
    ((c.no_spot-in-CallSyncHost.ensures n).0, (c.no_spot-in-CallSyncHost.ensures n).1 ∙ ap (call_offer n s.core) (sym c.in-CallSyncHost.is))

pub returns-in-Drop : goal.returns-in-Drop
returns-in-Drop c =
    let s = c.args.core.now in
    let n = thread_of s c.args.thread in
    ((c.no_spot-in-Drop.ensures n).0, (c.no_spot-in-Drop.ensures n).1 ∙ ap (call_offer n s.core) (sym c.in-Drop.is))
