use Rattle.choice_offers.proofs.CountLemmas.{counts_permute, permuted_counts}
use Rattle.choice_offers.proofs.fitting.is_permutation.Goals as goal
use Rattle.std.proofs.Common.{sym, ◌∙◌}

pub returns : goal.returns
returns c = (
  λ on. counts_permute c.args.list.now c.args.order.now (sym c.same_counts.ensures ∙ on),
  λ p. c.same_counts.ensures ∙ permuted_counts c.args.list.now c.args.order.now p,
)
