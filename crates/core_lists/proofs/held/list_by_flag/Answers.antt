use Rattle.core_lists.proofs.HeldLists.{listed_by_flag, none_by_flag}
use Rattle.core_lists.proofs.WalkedLists.{lists_added}
use Rattle.core_lists.proofs.held.list_by_flag.Goals as goal
use Rattle.core_primitives.specs.StateView.{thread_of}
use Rattle.core_records.proofs.Core.{HeldIn, Instance, Option, StartsIn, ap, map, option_map_or, seen, subst, sym, ◌==◌, ◌≡◌, IsPermutation}
use Rattle.core_removals.proofs.ChainLemmas.{chain_live}
use Rattle.core_removals.proofs.HeldLemmas.{held_chain, starts_chain}
use Rattle.machine_data.specs.Read.{backpressure_of}
use Rattle.machine_rules.specs.Ends.{held_by_flag}

pub add_admitted-requires-clause-held : goal.add_admitted-requires-clause-held
add_admitted-requires-clause-held c = chain_live c.args.parts.now c.requires (HeldIn c.args.instance) _ (held_chain c.args.parts.now c.args.instance _ c.in-Some.ensures.item)

pub add_admitted-requires-clause-starts : goal.add_admitted-requires-clause-starts
add_admitted-requires-clause-starts c = chain_live c.args.parts.now c.requires (StartsIn c.args.instance) _ (starts_chain c.args.parts.now c.args.instance _ c.in-Some.ensures.item)

pub returns-in-Some : goal.returns-in-Some
returns-in-Some c =
    let a = c.args.parts.now in
    let i = c.args.instance in
    let r = c.in-Some.found.now in
    let few : backpressure_of i (seen a).core ≡ r.instance.backpressure = ap (λ (o : Option Instance). option_map_or (λ (x : Instance). x.backpressure) o 0) (sym c.in-Some.ensures.is) in
    lists_added (λ id. thread_of (seen a) id) c.add_admitted.result (held_by_flag i (seen a).core) _ c.clear.new.self.items c.add_admitted.new.list.items c.clear.ensures.items
    (listed_by_flag a c.requires i c.add_admitted.ensures.links r.held r.starts (held_chain a i r c.in-Some.ensures.item) (starts_chain a i r c.in-Some.ensures.item) (r.instance.backpressure == 0) (ap (λ n. n == 0) few))
    c.add_admitted.ensures.added

pub returns-in-None : goal.returns-in-None
returns-in-None c =
    let a = c.args.parts.now in
    subst (λ l. IsPermutation (held_by_flag c.args.instance (seen a).core) (map (λ id. thread_of (seen a) id) l)) (sym c.clear.ensures.items) (none_by_flag a c.requires c.args.instance c.in-None.ensures.item)
