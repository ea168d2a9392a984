use Rattle.std.proofs.Common.{ap}
use Rattle.table_links.specs.Rings.{shown, next_names, roles_in}
use Rattle.table_links.proofs.links.Links.new.Goals as goal

pub returns : goal.returns
unfolding shown
returns g c = ap (λ cs. shown (next_names cs) (roles_in cs)) c.new.ensures.items
