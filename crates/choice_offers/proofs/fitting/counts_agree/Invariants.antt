use Rattle.choice_offers.proofs.fitting.counts_agree.Given as goal
use Rattle.std.proofs.Common.{count_by, take, ◌==◌, ◌≡◌}
use Rattle.std.specs.List.{list_all}

abbrev pub invariant-loop-number : goal.invariant-loop-number
invariant-loop-number l = l.agree ≡ list_all (λ n. count_by (λ m. m == n) l.list == count_by (λ m. m == n) l.order) (take l.number-index l.list)
