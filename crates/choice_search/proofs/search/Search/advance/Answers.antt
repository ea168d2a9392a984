use Rattle.choice_search.proofs.search.Search.advance.Goals as goal
use Rattle.std.proofs.Common.{arith, inl, inr, refl}

pub returns-then-self-count : goal.returns-then-self-count
returns-then-self-count c = record { after = inr (refl, (refl, (c.if-count-lt18446744073709551615.true, c.if-self-count.true))); rest = refl }
