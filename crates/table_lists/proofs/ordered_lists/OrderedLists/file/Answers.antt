use Rattle.std.proofs.Common.{◌≡◌, IsSome, None, Some, subst, sym, true}
use Rattle.table_lists.proofs.OrderedLemmas.{AreOrdered-linked, AreOrdered-removed}
use Rattle.table_lists.proofs.ordered_lists.OrderedLists.file.Goals as goal
use Rattle.table_lists.proofs.Refilings.{Refiles-linked, Refiles-removed, Refiles-twice, refiled_free}
use Rattle.table_lists.specs.Index.{Refiles}
use Rattle.table_links.specs.Links.{is_made, list_of}

pub put-requires-clause-chain : goal.put-requires-clause-chain
put-requires-clause-chain c =
    (Refiles-removed c.self.inside.links c.take_out.new.links c.args.node.index c.no_node_is_twice.ensures (subst (λ l. is_made l c.args.node.index ≡ true) (sym c.self.view_is) c.requires.made) c.take_out.ensures).live c.args.chain (subst (λ l. IsSome (list_of l c.args.chain)) (sym c.self.view_is) c.requires.live)

pub put-requires-clause-free : goal.put-requires-clause-free
put-requires-clause-free c =
    refiled_free c.self.inside.links c.take_out.new.links c.args.node.index (subst (λ l. is_made l c.args.node.index ≡ true) (sym c.self.view_is) c.requires.made) (Refiles-removed c.self.inside.links c.take_out.new.links c.args.node.index c.no_node_is_twice.ensures (subst (λ l. is_made l c.args.node.index ≡ true) (sym c.self.view_is) c.requires.made) c.take_out.ensures)

pub put-requires-clause-order : goal.put-requires-clause-order
put-requires-clause-order c =
    AreOrdered-removed c.self.inside.links c.take_out.new.links c.args.node.index c.no_node_is_twice.ensures (subst (λ l. is_made l c.args.node.index ≡ true) (sym c.self.view_is) c.requires.made) c.take_out.ensures c.self.invariant c.args.chain

pub invariant_of-self : goal.invariant_of-self
invariant_of-self c =
    let out = Refiles-removed c.self.inside.links c.take_out.new.links c.args.node.index c.no_node_is_twice.ensures (subst (λ l. is_made l c.args.node.index ≡ true) (sym c.self.view_is) c.requires.made) c.take_out.ensures in
    AreOrdered-linked c.take_out.new.links c.put.new.links c.args.node.index c.args.chain c.args.order_key _ (out.live c.args.chain (subst (λ l. IsSome (list_of l c.args.chain)) (sym c.self.view_is) c.requires.live)) (out.made c.args.node.index (subst (λ l. is_made l c.args.node.index ≡ true) (sym c.self.view_is) c.requires.made)) c.put.ensures.links (λ _. c.put.ensures.order)
    (AreOrdered-removed c.self.inside.links c.take_out.new.links c.args.node.index c.no_node_is_twice.ensures (subst (λ l. is_made l c.args.node.index ≡ true) (sym c.self.view_is) c.requires.made) c.take_out.ensures c.self.invariant)

pub returns : goal.returns
returns c =
    let out = Refiles-removed c.self.inside.links c.take_out.new.links c.args.node.index c.no_node_is_twice.ensures (subst (λ l. is_made l c.args.node.index ≡ true) (sym c.self.view_is) c.requires.made) c.take_out.ensures in
    subst (λ l. Refiles l c.put.new.links c.args.node.index (Some (c.args.chain, c.args.order_key))) c.self.view_is (Refiles-twice c.self.inside.links c.take_out.new.links c.put.new.links c.args.node.index None (Some (c.args.chain, c.args.order_key)) out
    (Refiles-linked c.take_out.new.links c.put.new.links c.args.chain c.args.node.index c.args.order_key _ (out.live c.args.chain (subst (λ l. IsSome (list_of l c.args.chain)) (sym c.self.view_is) c.requires.live)) (out.made c.args.node.index (subst (λ l. is_made l c.args.node.index ≡ true) (sym c.self.view_is) c.requires.made)) c.put.ensures.links))
