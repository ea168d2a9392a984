use Rattle.choice_offers.proofs.ListingLemmas.{handles_listed, members_are_named, members_strict, sorted_is}
use Rattle.choice_offers.proofs.offered.members_of.Goals as goal
use Rattle.choice_offers.specs.Listings.{handle_or_none}
use Rattle.choice_offers.specs.declared.offered.NamedMember.{NamedMember}
use Rattle.core_primitives.specs.Names.{subtask_in}
use Rattle.core_primitives.specs.StateView.{set_of}
use Rattle.core_primitives.specs.declared.names.SubtaskId.{SubtaskId}
use Rattle.laws_choices.specs.Offers.{takes_of}
use Rattle.machine_data.specs.Read.{instance_of, subtask_at}
use Rattle.std.proofs.Common.{ap, ◌∙◌}
use Rattle.std.proofs.lemmas.List.Sorted.{All-permutation}
use Rattle.std.specs.Prelude.{List, Some, map, ◌≡◌}

pub returns-clause-handles : goal.returns-clause-handles
returns-clause-handles c = λ n there.
    let s = c.args.core.now in
    sorted_is (λ (m : NamedMember). m.handle) c.sort_members.new.list.items (takes_of n (set_of s c.args.set) s.core).members c.in_ok-list.list.items (members_strict n (set_of s c.args.set) s)
    (handles_listed s n c.args.set there c.requires.known c.ready_members.new.list.items c.in_ok-ready_members.ensures c.in_ok-list.list.items
    (c.in_ok-list.ensures.handles ∙ ap (λ (l : List SubtaskId). map (λ id. handle_or_none (subtask_in s.tags id) s.core) l) c.as_slice.ensures.value))
    c.sort_members.ensures.permutation c.in_ok-sort_members.ensures.order

pub returns-clause-named : goal.returns-clause-named
returns-clause-named c = λ n there.
    let s = c.args.core.now in
    All-permutation (λ (m : NamedMember). subtask_at (instance_of n s.core) m.handle s.core ≡ Some (subtask_in s.tags m.subtask)) c.in_ok-list.list.items c.sort_members.new.list.items c.sort_members.ensures.permutation
    (members_are_named s n c.args.set there c.requires.known c.ready_members.new.list.items c.in_ok-ready_members.ensures c.in_ok-list.list.items
    (c.in_ok-list.ensures.subtasks ∙ c.as_slice.ensures.value) c.in_ok-list.ensures.known)
