use Rattle.core_records.proofs.Core.{ap, is_some, work_of, ◌∙◌}
use Rattle.std.proofs.Common.{option_map}
use Rattle.core_removals.proofs.CountLemmas.{mapped_some, stands_walk}
use Rattle.core_removals.proofs.PollLemmas.{next_is}
use Rattle.core_removals.proofs.polls.has_more.Goals as goal
use Rattle.core_records.proofs.Core.{seen}

pub first_from-requires-clause-walk : goal.first_from-requires-clause-walk
first_from-requires-clause-walk c =
    stands_walk c.args.parts.now c.requires.sound c.args.node.index c.args.number c.requires.stands c.in-Some.chain c.in-Some.is c.no_node_is_twice.ensures c.nodes_have_values.ensures (option_map (λ e. (e.0.index, e.1)) c.next-after.result) c.next-after.ensures.entry

pub returns : goal.returns
returns c =
    let a = c.args.parts.now in
    c.is_some.ensures ∙ (mapped_some (λ id. work_of (seen a) id) c.first_from.result ∙ ap is_some (c.first_from.ensures ∙ next_is a c.requires.sound c.args.number c.in-Some.chain c.in-Some.is c.no_node_is_twice.ensures c.nodes_have_values.ensures))
