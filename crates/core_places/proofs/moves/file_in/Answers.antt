use Rattle.core_records.proofs.Core.{ap, free_unlinked, Option, option_map, Refiles, refl, subst, sym, ℕ}
use Rattle.core_places.proofs.moves.file_in.Goals as goal
use Rattle.table_links.specs.Links.{removed_by}

pub file_free-requires-clause-free : goal.file_free-requires-clause-free
file_free-requires-clause-free c = free_unlinked c.args.links.now c.args.node.index c.requires.unlinked c.requires.made

pub returns-in-None-clause-links : goal.returns-in-None-clause-links
returns-in-None-clause-links c =
    subst (λ (o : Option ℕ). Refiles c.args.links.now c.args.links.now c.args.node.index (option_map (λ k. (k, c.args.order_key)) o)) (sym c.in-None.is)
    (record { here = c.requires.unlinked; others = λ n other. refl; made = λ n made. made; live = λ k live. live })

pub returns-in-None-clause-left : goal.returns-in-None-clause-left
returns-in-None-clause-left c none = ap (λ o. removed_by c.args.node.index o c.args.links.now) (sym c.requires.unlinked)
