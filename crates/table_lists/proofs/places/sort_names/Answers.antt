use Rattle.std.proofs.Common.{rules}
use Rattle.std.proofs.lemmas.List.Sorted.{IsNonDecreasingBy-from_sort_by_key}
use Rattle.table_lists.proofs.places.sort_names.Goals as goal

pub returns-clause-rises : goal.returns-clause-rises
returns-clause-rises g c = IsNonDecreasingBy-from_sort_by_key (g.H.Holders.number_of c.args.holders.now) _ c.sort_unstable_by_key.ensures.sorted (λ a r q k. search rules)
