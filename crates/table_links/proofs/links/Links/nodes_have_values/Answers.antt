use Rattle.std.proofs.Common.{subst}
use Rattle.table_links.specs.Links.{AreLinked, entries}
use Rattle.table_links.specs.Rings.{next_names, previous_names, roles_in}
use Rattle.table_links.proofs.Seen.{AreLinked-shown}
use Rattle.table_links.proofs.links.Links.nodes_have_values.Goals as goal

pub returns : goal.returns
returns g c = subst (λ l. AreLinked l c.args.chain (entries l c.args.chain)) c.self.view_is (AreLinked-shown (next_names c.self.inside.cells.items) (previous_names c.self.inside.cells.items) (roles_in c.self.inside.cells.items) c.self.invariant.rings c.args.chain)
