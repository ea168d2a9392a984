use Rattle.core_lists.proofs.HeldLists.{all_by_counter, none_by_counter, passing_by_counter}
use Rattle.core_lists.proofs.WalkedLists.{lists_added}
use Rattle.core_lists.proofs.held.list_by_counter.Goals as goal
use Rattle.core_primitives.specs.StateView.{thread_of}
use Rattle.core_records.proofs.Core.{HeldIn, Instance, IsPermutation, Option, StartsIn, ap, false, map, option_map_or, seen, subst, sym, true, ◌∙◌, ◌≡◌}
use Rattle.core_removals.proofs.ChainLemmas.{chain_live}
use Rattle.core_removals.proofs.HeldLemmas.{held_chain, starts_chain}
use Rattle.machine_data.specs.Read.{may_not_enter}
use Rattle.machine_rules.specs.Task.{held_by_counter}

pub add_all_passing-requires-clause-live : goal.add_all_passing-requires-clause-live
add_all_passing-requires-clause-live c = chain_live c.args.parts.now c.requires (HeldIn c.args.instance) _ (held_chain c.args.parts.now c.args.instance _ c.in-Some.ensures.item)

pub add_admitted-requires-clause-held : goal.add_admitted-requires-clause-held
add_admitted-requires-clause-held c = chain_live c.args.parts.now c.requires (HeldIn c.args.instance) _ (held_chain c.args.parts.now c.args.instance _ c.in-Some.ensures.item)

pub add_admitted-requires-clause-starts : goal.add_admitted-requires-clause-starts
add_admitted-requires-clause-starts c = chain_live c.args.parts.now c.requires (StartsIn c.args.instance) _ (starts_chain c.args.parts.now c.args.instance _ c.in-Some.ensures.item)

pub returns-then-found : goal.returns-then-found
returns-then-found c =
    let a = c.args.parts.now in
    let i = c.args.instance in
    let r = c.in-Some.found.now in
    let shut : may_not_enter i (seen a).core ≡ true = ap (λ (o : Option Instance). option_map_or (λ (x : Instance). x.do_not_enter) o false) (sym c.in-Some.ensures.is) ∙ c.if-found.true in
    lists_added (λ id. thread_of (seen a) id) c.add_all_passing.result (held_by_counter i (seen a).core) _ c.clear.new.self.items c.add_all_passing.new.list.items c.clear.ensures.items
    (passing_by_counter a c.requires i c.add_all_passing.ensures.links r.held r.starts (held_chain a i r c.in-Some.ensures.item) (starts_chain a i r c.in-Some.ensures.item) shut)
    c.add_all_passing.ensures.added

pub returns-else-found : goal.returns-else-found
returns-else-found c =
    let a = c.args.parts.now in
    let i = c.args.instance in
    let r = c.in-Some.found.now in
    let clear : may_not_enter i (seen a).core ≡ false = ap (λ (o : Option Instance). option_map_or (λ (x : Instance). x.do_not_enter) o false) (sym c.in-Some.ensures.is) ∙ c.if-found.false in
    lists_added (λ id. thread_of (seen a) id) c.add_admitted.result (held_by_counter i (seen a).core) _ c.clear.new.self.items c.add_admitted.new.list.items c.clear.ensures.items
    (all_by_counter a c.requires i c.add_admitted.ensures.links r.held r.starts (held_chain a i r c.in-Some.ensures.item) (starts_chain a i r c.in-Some.ensures.item) clear)
    c.add_admitted.ensures.added

pub returns-in-None : goal.returns-in-None
returns-in-None c =
    let a = c.args.parts.now in
    subst (λ l. IsPermutation (held_by_counter c.args.instance (seen a).core) (map (λ id. thread_of (seen a) id) l)) (sym c.clear.ensures.items) (none_by_counter a c.requires c.args.instance c.in-None.ensures.item)
