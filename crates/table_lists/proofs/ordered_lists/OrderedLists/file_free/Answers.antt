use Rattle.std.proofs.Common.{◌≡◌, IsSome, Some, subst, sym, true}
use Rattle.table_lists.proofs.OrderedLemmas.{AreOrdered-linked}
use Rattle.table_lists.proofs.ordered_lists.OrderedLists.file_free.Goals as goal
use Rattle.table_lists.proofs.Refilings.{Refiles-linked}
use Rattle.table_lists.specs.Index.{Refiles}
use Rattle.table_links.proofs.ReadLemmas.{made_free}
use Rattle.table_links.specs.Links.{is_free, list_of}

pub put-requires-clause-order : goal.put-requires-clause-order
put-requires-clause-order c = c.self.invariant c.args.chain

pub invariant_of-self : goal.invariant_of-self
invariant_of-self c =
    let live = subst (λ l. IsSome (list_of l c.args.chain)) (sym c.self.view_is) c.requires.live in
    let made = made_free c.self.inside.links c.args.node.index (subst (λ l. is_free l c.args.node.index ≡ true) (sym c.self.view_is) c.requires.free) in
    AreOrdered-linked c.self.inside.links c.put.new.links c.args.node.index c.args.chain c.args.order_key _ live made c.put.ensures.links (λ _. c.put.ensures.order) c.self.invariant

pub returns : goal.returns
returns c =
    let live = subst (λ l. IsSome (list_of l c.args.chain)) (sym c.self.view_is) c.requires.live in
    let made = made_free c.self.inside.links c.args.node.index (subst (λ l. is_free l c.args.node.index ≡ true) (sym c.self.view_is) c.requires.free) in
    subst (λ l. Refiles l c.put.new.links c.args.node.index (Some (c.args.chain, c.args.order_key))) c.self.view_is (Refiles-linked c.self.inside.links c.put.new.links c.args.chain c.args.node.index c.args.order_key _ live made c.put.ensures.links)
