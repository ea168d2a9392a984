use Rattle.std.proofs.Common.{◌≡◌, subst, sym, true}
use Rattle.table_links.specs.Links.{is_made}
use Rattle.table_lists.proofs.OrderedLemmas.{AreOrdered-removed}
use Rattle.table_lists.proofs.ordered_lists.OrderedLists.remove.Goals as goal

pub invariant_of-self : goal.invariant_of-self
invariant_of-self c = AreOrdered-removed c.self.inside.links c.take_out.new.links c.args.node.index c.no_node_is_twice.ensures (subst (λ l. is_made l c.args.node.index ≡ true) (sym c.self.view_is) c.requires) c.take_out.ensures c.self.invariant
