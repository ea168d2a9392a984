use Rattle.core_counts.proofs.ResultLemmas.{get-given}
use Rattle.core_counts.proofs.result_counts.has_results.Goals as goal
use Rattle.core_records.proofs.Core.{IsSome, seen, subst, sym, ◌∙◌}

pub returns-clause-none : goal.returns-clause-none
unfolding seen
returns-clause-none c less call = get-given c.args.parts.now.results call ∙ c.has_given.ensures.none less call

pub returns-clause-some : goal.returns-clause-some
unfolding seen
returns-clause-some c more =
    let there = c.has_given.ensures.some more in
    (there.0, subst IsSome (sym (get-given c.args.parts.now.results there.0)) there.1)
