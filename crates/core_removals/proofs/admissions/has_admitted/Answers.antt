use Rattle.core_records.proofs.Core.{ap, ap₂, false, HeldIn, Instance, is_nil, not, Option, option_map_or, seen, StartsIn, sym, true, ◌&&◌, ◌==◌, ◌||◌, ◌∙◌, ◌≡◌}
use Rattle.machine_data.specs.Read.{backpressure_of, may_not_enter}
use Rattle.core_removals.proofs.AdmitLemmas.{any_open, any_shut}
use Rattle.core_removals.proofs.ChainLemmas.{chain_live}
use Rattle.core_removals.proofs.HeldLemmas.{held_chain, held_members, listed_members, nobody_held, some_held, starts_chain}
use Rattle.core_removals.proofs.admissions.has_admitted.Goals as goal
use Rattle.core_removals.specs.Walks.{of_chain}

pub some_admitted-requires-clause-live : goal.some_admitted-requires-clause-live
some_admitted-requires-clause-live c = chain_live c.args.parts.now c.requires (HeldIn c.args.instance) _ (held_chain c.args.parts.now c.args.instance _ c.in-Some.ensures.item)

pub has_any-held-requires : goal.has_any-held-requires
has_any-held-requires c = chain_live c.args.parts.now c.requires (HeldIn c.args.instance) _ (held_chain c.args.parts.now c.args.instance _ c.in-Some.ensures.item)

pub has_any-starts-requires : goal.has_any-starts-requires
has_any-starts-requires c = chain_live c.args.parts.now c.requires (StartsIn c.args.instance) _ (starts_chain c.args.parts.now c.args.instance _ c.in-Some.ensures.item)

pub returns-then-found : goal.returns-then-found
returns-then-found c =
    let a = c.args.parts.now in
    let i = c.args.instance in
    let r = c.in-Some.found.now in
    let h = held_chain a i r c.in-Some.ensures.item in
    let d = starts_chain a i r c.in-Some.ensures.item in
    let shut : may_not_enter i (seen a).core ≡ true = ap (λ (o : Option Instance). option_map_or (λ (x : Instance). x.do_not_enter) o false) (sym c.in-Some.ensures.is) ∙ c.if-found.true in
    c.some_admitted.ensures.is
    ∙ (sym (any_shut i (seen a).core (of_chain a r.held) (of_chain a r.starts) (listed_members a c.requires c.some_admitted.ensures.links false i _ h).are (listed_members a c.requires c.some_admitted.ensures.links true i _ d).are shut)
    ∙ some_held a c.requires i _ (held_members a c.requires c.some_admitted.ensures.links i _ _ h d))

pub returns-else-found : goal.returns-else-found
returns-else-found c =
    let a = c.args.parts.now in
    let i = c.args.instance in
    let r = c.in-Some.found.now in
    let h = held_chain a i r c.in-Some.ensures.item in
    let d = starts_chain a i r c.in-Some.ensures.item in
    let links = c.has_any-held.ensures.links in
    let entered : may_not_enter i (seen a).core ≡ false = ap (λ (o : Option Instance). option_map_or (λ (x : Instance). x.do_not_enter) o false) (sym c.in-Some.ensures.is) ∙ c.if-found.false in
    let few : backpressure_of i (seen a).core ≡ r.instance.backpressure = ap (λ (o : Option Instance). option_map_or (λ (x : Instance). x.backpressure) o 0) (sym c.in-Some.ensures.is) in
    ap₂ (λ b e. b || ((r.instance.backpressure == 0) && e)) c.has_any-held.ensures.is c.has_any-starts.ensures.is
    ∙ (ap (λ k. not (is_nil (of_chain a r.held)) || ((k == 0) && not (is_nil (of_chain a r.starts)))) (sym few)
    ∙ (sym (any_open i (seen a).core (of_chain a r.held) (of_chain a r.starts) (listed_members a c.requires links false i _ h).are (listed_members a c.requires links true i _ d).are entered)
    ∙ some_held a c.requires i _ (held_members a c.requires links i _ _ h d)))

pub returns-in-None : goal.returns-in-None
returns-in-None c = let a = c.args.parts.now in some_held a c.requires c.args.instance _ (nobody_held a c.requires c.args.instance c.in-None.ensures.item)
