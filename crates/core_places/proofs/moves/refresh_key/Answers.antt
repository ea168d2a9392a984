use Rattle.core_records.proofs.Core.{Option, option_map, Refiles, Refiles-removed, subst, sym, ℕ}
use Rattle.core_places.proofs.moves.refresh_key.Goals as goal

pub returns-in-None-clause-links : goal.returns-in-None-clause-links
returns-in-None-clause-links c =
    subst (λ (o : Option ℕ). Refiles c.args.links.now c.remove.new.self c.args.node.index (option_map (λ k. (k, c.args.order_key)) o)) (sym c.in-None.is)
    (Refiles-removed c.args.links.now c.remove.new.self c.args.node.index c.no_node_is_twice.ensures c.requires.made c.remove.ensures)
