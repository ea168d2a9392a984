use Rattle.core_lists.proofs.MemberLists.{members_listed}
use Rattle.core_lists.proofs.WalkedLists.{lists_added, on_ok}
use Rattle.core_lists.proofs.members.list_members.Goals as goal
use Rattle.core_lists.specs.Chains.{calls_in, works_in}
use Rattle.core_lists.specs.Listed.{ready_of}
use Rattle.core_places.proofs.ReadyLemmas.{ready_calls_live, ready_works_live}
use Rattle.core_primitives.specs.Names.{subtask_in}
use Rattle.core_primitives.specs.StateView.{set_of}
use Rattle.core_records.proofs.Core.{ap, append_assoc, map, seen, ◌++◌, ◌∙◌}

pub add_works-requires : goal.add_works-requires
add_works-requires c = ready_works_live c.args.parts.now c.requires.sound c.args.set.rep c.args.set.serial c.set_there-found.result.now c.set_there-found.ensures.item

pub add_calls-requires : goal.add_calls-requires
add_calls-requires c = ready_calls_live c.args.parts.now c.requires.sound c.args.set.rep c.args.set.serial c.set_there-found.result.now c.set_there-found.ensures.item

pub returns : goal.returns
returns c =
    let a = c.args.parts.now in
    let g = c.set_there-found.result.now in
    lists_added (λ id. subtask_in (seen a).tags id) c.add_calls.result (ready_of (set_of (seen a) c.args.set) (seen a).core) (works_in a g.ready_works ++ calls_in a g.ready_calls) c.clear.new.self.items c.add_calls.new.list.items c.clear.ensures.items
    (members_listed a c.requires.sound c.args.set.rep c.args.set.serial g c.set_there-found.ensures.item c.add_calls.ensures.links c.add_works.ensures.links _ c.set_there-found.ensures.number)
    (on_ok c.add_calls.result (λ is. is ∙ (ap (λ l. l ++ calls_in a g.ready_calls) c.in_ok-add_works.ensures.added ∙ append_assoc (map (λ id. subtask_in (seen a).tags id) c.clear.new.self.items) (works_in a g.ready_works) (calls_in a g.ready_calls))) c.add_calls.ensures.added)
