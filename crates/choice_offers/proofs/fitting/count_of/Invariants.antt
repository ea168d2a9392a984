use Rattle.std.proofs.Common.{◌≡◌, ◌==◌, ◌≤◌, count_by, take}
use Rattle.choice_offers.proofs.fitting.count_of.Given as goal

abbrev pub invariant-loop-one : goal.invariant-loop-one
invariant-loop-one l = record {
  same : l.count ≡ count_by (λ m. m == l.number) (take l.one-index l.list);
  few : l.count ≤ l.one-index;
}
