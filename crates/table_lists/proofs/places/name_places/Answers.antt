use Rattle.std.proofs.Common.{rules}
use Rattle.std.proofs.lemmas.List.Edits.{map_over_more}
use Rattle.std.proofs.lemmas.List.{take_all, drop_all}
use Rattle.table_lists.proofs.places.name_places.Goals as goal

pub loop-index-preserved : goal.loop-index-preserved
loop-index-preserved g c = search (rules, map_over_more (g.H.Holders.place_of c.args.holders.now))

pub returns : goal.returns
returns g c = search (rules, take_all, drop_all)
