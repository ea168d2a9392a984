-- The run of a branch's next choice was made, and the place after it comes.
use Rattle.choice_search.proofs.StepLemmas.{asks_on, mid_same, tree_parts}
use Rattle.choice_search.proofs.search.Search.branch_run.Goals as goal

pub advance-requires : goal.advance-requires
advance-requires c = c.requires.place

pub make-requires : goal.make-requires
make-requires c = asks_on c.args.self.now c.advance.new.self (mid_same c.args.self.now c.advance.new.self c.args.run c.advance.ensures) c.requires.searches.asks

pub returns : goal.returns
returns c =
    tree_parts c.args.self.now c.advance.new.self c.make.new.self c.requires.searches c.args.run c.requires.next.0 c.requires.next.1 c.advance.ensures c.requires.last c.in_ok-part.part c.in_ok-part.ensures
