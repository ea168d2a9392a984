use Rattle.core_records.proofs.Core.{ap₂, HeldIn, StartsIn, ◌||◌, ◌∙◌}
use Rattle.core_removals.proofs.ChainLemmas.{chain_live}
use Rattle.core_removals.proofs.HeldLemmas.{any_held, either_nil, held_chain, held_members, nobody_held, starts_chain}
use Rattle.core_removals.proofs.admissions.has_held.Goals as goal
use Rattle.core_removals.specs.Walks.{of_chain}

pub has_any-held-requires : goal.has_any-held-requires
has_any-held-requires c = chain_live c.args.parts.now c.requires (HeldIn c.args.instance) _ (held_chain c.args.parts.now c.args.instance _ c.in-Some.ensures.item)

pub has_any-starts-requires : goal.has_any-starts-requires
has_any-starts-requires c = chain_live c.args.parts.now c.requires (StartsIn c.args.instance) _ (starts_chain c.args.parts.now c.args.instance _ c.in-Some.ensures.item)

pub returns-in-Some : goal.returns-in-Some
returns-in-Some c =
    let a = c.args.parts.now in
    let r = c.in-Some.found.now in
    ap₂ (λ b d. b || d) c.has_any-held.ensures.is c.has_any-starts.ensures.is
    ∙ (either_nil (of_chain a r.held) (of_chain a r.starts)
    ∙ any_held a c.requires c.args.instance _ (held_members a c.requires c.has_any-held.ensures.links c.args.instance _ _ (held_chain a c.args.instance r c.in-Some.ensures.item) (starts_chain a c.args.instance r c.in-Some.ensures.item)))

pub returns-in-None : goal.returns-in-None
returns-in-None c = let a = c.args.parts.now in any_held a c.requires c.args.instance _ (nobody_held a c.requires c.args.instance c.in-None.ensures.item)
