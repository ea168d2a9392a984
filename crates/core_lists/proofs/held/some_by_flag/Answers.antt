use Rattle.core_lists.proofs.HeldLists.{nobody_by_flag, some_by_flag}
use Rattle.core_lists.proofs.held.some_by_flag.Goals as goal
use Rattle.core_records.proofs.Core.{HeldIn, Instance, Option, StartsIn, ap, ap₂, is_nil, not, option_map_or, seen, sym, ◌&&◌, ◌==◌, ◌||◌, ◌∙◌, ◌≡◌}
use Rattle.core_removals.proofs.ChainLemmas.{chain_live}
use Rattle.core_removals.proofs.HeldLemmas.{held_chain, starts_chain}
use Rattle.core_removals.specs.Walks.{of_chain}
use Rattle.machine_data.specs.Read.{backpressure_of}

pub has_any-held-requires : goal.has_any-held-requires
has_any-held-requires c = chain_live c.args.parts.now c.requires (HeldIn c.args.instance) _ (held_chain c.args.parts.now c.args.instance _ c.in-Some.ensures.item)

pub has_any-starts-requires : goal.has_any-starts-requires
has_any-starts-requires c = chain_live c.args.parts.now c.requires (StartsIn c.args.instance) _ (starts_chain c.args.parts.now c.args.instance _ c.in-Some.ensures.item)

pub returns-in-Some : goal.returns-in-Some
returns-in-Some c =
    let a = c.args.parts.now in
    let i = c.args.instance in
    let r = c.in-Some.found.now in
    let few : backpressure_of i (seen a).core ≡ r.instance.backpressure = ap (λ (o : Option Instance). option_map_or (λ (x : Instance). x.backpressure) o 0) (sym c.in-Some.ensures.is) in
    ap₂ (λ b e. b || ((r.instance.backpressure == 0) && e)) c.has_any-held.ensures.is c.has_any-starts.ensures.is
    ∙ (ap (λ k. not (is_nil (of_chain a r.held)) || ((k == 0) && not (is_nil (of_chain a r.starts)))) (sym few)
    ∙ some_by_flag a c.requires i c.has_any-held.ensures.links r.held r.starts (held_chain a i r c.in-Some.ensures.item) (starts_chain a i r c.in-Some.ensures.item))

pub returns-in-None : goal.returns-in-None
returns-in-None c = nobody_by_flag c.args.parts.now c.requires c.args.instance c.in-None.ensures.item
