-- The run of a way was made, and the next way comes.
use Rattle.choice_offers.specs.Choices.{chosen_of}
use Rattle.choice_offers.specs.declared.choice.Choice.{Choice}
use Rattle.choice_search.proofs.StepLemmas.{at_next_way, first_parts}
use Rattle.choice_search.proofs.search.Search.first_run.Goals as goal
use Rattle.choice_search.specs.Searching.{Makes}
use Rattle.std.proofs.Common.{arith, subst}
use Rattle.std.specs.Prelude.{List, map}

pub overflow_add-self : goal.overflow_add-self
overflow_add-self c = let more = c.requires.more in omega (arith, more)

pub make-requires : goal.make-requires
make-requires c = c.requires.searches.asks

pub returns : goal.returns
returns c = first_parts c.args.self.now c.make.new.self c.requires.searches c.requires.more c.in_ok-part.part
    (subst (λ (cs : List Choice). Makes (at_next_way c.args.self.now) c.args.self.now.way (map chosen_of cs) c.in_ok-part.part c.make.new.self) c.new.ensures.items c.in_ok-part.ensures)
