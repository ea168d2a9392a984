use Rattle.core_lists.proofs.MemberLists.{waiters_listed}
use Rattle.core_lists.proofs.WalkedLists.{lists_added}
use Rattle.core_lists.proofs.members.list_waiters.Goals as goal
use Rattle.core_places.proofs.WaiterLemmas.{waiters_live}
use Rattle.core_primitives.specs.StateView.{set_of, thread_of}
use Rattle.core_records.proofs.Core.{seen}
use Rattle.laws_choices.specs.Offers.{waiters_of}

pub add_threads-requires : goal.add_threads-requires
add_threads-requires c = waiters_live c.args.parts.now c.requires.sound c.args.set.rep c.args.set.serial c.set_there-found.result.now c.set_there-found.ensures.item

pub returns : goal.returns
returns c =
    let a = c.args.parts.now in
    lists_added (λ id. thread_of (seen a) id) c.add_threads.result (waiters_of (set_of (seen a) c.args.set) (seen a).core) _ c.clear.new.self.items c.add_threads.new.list.items c.clear.ensures.items
    (waiters_listed a c.requires.sound c.args.set.rep c.args.set.serial c.set_there-found.result.now c.set_there-found.ensures.item c.add_threads.ensures.links _ c.set_there-found.ensures.number)
    c.add_threads.ensures.added
