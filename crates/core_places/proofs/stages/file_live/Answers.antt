use Rattle.core_records.proofs.Core.{IsSome, List, list_of, None, Option, option_map, refiled_free, Refiles, Refiles-linked, Refiles-removed, Refiles-twice, Some, Spot, subst, sym, ℕ, ◌≡◌}
use Rattle.std.specs.Option.{IfSome}
use Rattle.core_records.specs.declared.{work_records.LiveWork.LiveWork}
use Rattle.core_places.proofs.RiseLemmas.{Rises-linked, Rises-removed}
use Rattle.core_places.proofs.stages.file_live.Goals as goal

-- the chain is live when the node is out
still_live : (old out : List (Spot LiveWork)) (n k : ℕ) (o : Option ℕ) → Refiles old out n None → o ≡ Some k → IfSome o (λ c. IsSome (list_of old c)) → IsSome (list_of out k)
still_live old out n k o re is live = re.live k (subst (λ (o : Option ℕ). IfSome o (λ c. IsSome (list_of old c))) is live)

pub put_in_order-requires-clause-chain : goal.put_in_order-requires-clause-chain
put_in_order-requires-clause-chain c = still_live c.args.links.now c.remove.new.self c.args.node.index c.in-Some.chain c.args.chain (Refiles-removed c.args.links.now c.remove.new.self c.args.node.index c.no_node_is_twice.ensures c.requires.made c.remove.ensures.links) c.in-Some.is c.requires.live

pub put_in_order-requires-clause-free : goal.put_in_order-requires-clause-free
put_in_order-requires-clause-free c = refiled_free c.args.links.now c.remove.new.self c.args.node.index c.requires.made (Refiles-removed c.args.links.now c.remove.new.self c.args.node.index c.no_node_is_twice.ensures c.requires.made c.remove.ensures.links)

pub returns-in-Some-clause-links : goal.returns-in-Some-clause-links
returns-in-Some-clause-links c =
    let out = Refiles-removed c.args.links.now c.remove.new.self c.args.node.index c.no_node_is_twice.ensures c.requires.made c.remove.ensures.links in
    subst (λ (o : Option ℕ). Refiles c.args.links.now c.put_in_order.new.links c.args.node.index (option_map (λ k. (k, c.args.work)) o)) (sym c.in-Some.is)
    (Refiles-twice c.args.links.now c.remove.new.self c.put_in_order.new.links c.args.node.index None (Some (c.in-Some.chain, c.args.work)) out
    (Refiles-linked c.remove.new.self c.put_in_order.new.links c.in-Some.chain c.args.node.index c.args.work _ (still_live c.args.links.now c.remove.new.self c.args.node.index c.in-Some.chain c.args.chain out c.in-Some.is c.requires.live) (out.made c.args.node.index c.requires.made) c.put_in_order.ensures.links))

pub returns-in-Some-clause-rising : goal.returns-in-Some-clause-rising
returns-in-Some-clause-rising c o rises =
    let out = Refiles-removed c.args.links.now c.remove.new.self c.args.node.index c.no_node_is_twice.ensures c.requires.made c.remove.ensures.links in
    Rises-linked c.remove.new.self c.put_in_order.new.links c.args.node.index c.in-Some.chain c.args.work _ (still_live c.args.links.now c.remove.new.self c.args.node.index c.in-Some.chain c.args.chain out c.in-Some.is c.requires.live) (out.made c.args.node.index c.requires.made) c.put_in_order.ensures.links c.put_in_order.ensures.order o
    (Rises-removed c.args.links.now c.remove.new.self c.args.node.index c.no_node_is_twice.ensures c.requires.made c.remove.ensures.links o rises)

pub returns-in_default-clause-links : goal.returns-in_default-clause-links
returns-in_default-clause-links c =
    subst (λ (o : Option ℕ). Refiles c.args.links.now c.remove.new.self c.args.node.index (option_map (λ k. (k, c.args.work)) o)) (sym c.in_default.is)
    (Refiles-removed c.args.links.now c.remove.new.self c.args.node.index c.no_node_is_twice.ensures c.requires.made c.remove.ensures.links)

pub returns-in_default-clause-rising : goal.returns-in_default-clause-rising
returns-in_default-clause-rising c o rises = Rises-removed c.args.links.now c.remove.new.self c.args.node.index c.no_node_is_twice.ensures c.requires.made c.remove.ensures.links o rises
