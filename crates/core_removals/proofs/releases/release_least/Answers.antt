use Rattle.core_records.proofs.Core.{[], admitted_permute, ap, entries, false, HeldIn, Instance, Option, option_map_or, refl, released, seen, StartsIn, sym, true, ◌||◌, ◌∙◌, ◌≡◌}
use Rattle.std.specs.Prelude.{nat_lt}
use Rattle.core_removals.proofs.ChainLemmas.{chain_live}
use Rattle.core_removals.proofs.HeldLemmas.{held_chain, nobody_held, starts_chain}
use Rattle.core_removals.proofs.HeldOrderLemmas.{none_in_chain, none_order}
use Rattle.core_removals.proofs.releases.release_least.Goals as goal
use Rattle.core_removals.specs.Walks.{of_chain, of_node}

pub first-requires : goal.first-requires
first-requires c = chain_live c.args.parts.now c.requires.sound (HeldIn c.args.instance) c.in-Some.found.now.held (held_chain c.args.parts.now c.args.instance c.in-Some.found.now c.in-Some.ensures.item)

pub first-requires-else-is_some : goal.first-requires-else-is_some
first-requires-else-is_some c = chain_live c.args.parts.now c.requires.sound (StartsIn c.args.instance) c.in-Some.found.now.starts (starts_chain c.args.parts.now c.args.instance c.in-Some.found.now c.in-Some.ensures.item)

pub release_some-requires-clause-held : goal.release_some-requires-clause-held
release_some-requires-clause-held c = held_chain c.args.parts.now c.args.instance c.in-Some.found.now c.in-Some.ensures.item

pub release_some-requires-clause-starts : goal.release_some-requires-clause-starts
release_some-requires-clause-starts c = starts_chain c.args.parts.now c.args.instance c.in-Some.found.now c.in-Some.ensures.item

pub release_some-requires-clause-kept_out : goal.release_some-requires-clause-kept_out
release_some-requires-clause-kept_out c = ap (λ (o : Option Instance). option_map_or (λ (x : Instance). x.do_not_enter) o false || nat_lt 0 (option_map_or (λ (x : Instance). x.backpressure) o 0)) (sym c.in-Some.ensures.is)

pub returns-in_default-clause-picks : goal.returns-in_default-clause-picks
unfolding released
returns-in_default-clause-picks c = let a = c.args.parts.now in ([], (tt, (admitted_permute c.args.instance (seen a).core [] (nobody_held a c.requires.sound c.args.instance c.in_default.ensures.item), refl)))

pub returns-else-is_some-kept_out-clause-picks : goal.returns-else-is_some-kept_out-clause-picks
unfolding released
returns-else-is_some-kept_out-clause-picks c =
    let a = c.args.parts.now in
    let i = c.args.instance in
    let r = c.in-Some.found.now in
    let kept = ap (λ (o : Option Instance). option_map_or (λ (x : Instance). x.do_not_enter) o false || nat_lt 0 (option_map_or (λ (x : Instance). x.backpressure) o 0)) (sym c.in-Some.ensures.is) in
    let held : of_chain a r.held ≡ [] = none_in_chain (λ e. of_node a e.0) (entries a.places r.held) c.first.result true c.first.ensures.entry (sym c.is_some.ensures ∙ c.if-is_some.false) refl in
    let nobody = none_order a c.requires.sound c.first.ensures.sound i r.held r.starts (held_chain a i r c.in-Some.ensures.item) (starts_chain a i r c.in-Some.ensures.item) held c.is_some-else-is_some.result _ kept c.if-is_some-kept_out.false
    (λ off. none_in_chain (λ e. of_node a e.0) (entries a.places r.starts) c.first-else-is_some.result true c.first-else-is_some.ensures.entry (sym c.is_some-else-is_some.ensures ∙ off) refl) in
    ([], (tt, (nobody, refl)))
