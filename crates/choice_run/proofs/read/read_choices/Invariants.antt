use Rattle.choice_offers.specs.Choices.{chosen_of}
use Rattle.choice_run.proofs.LoopLemmas.{HasRead}
use Rattle.choice_run.proofs.read.read_choices.Given as goal
use Rattle.std.specs.Prelude.{length, map}

-- the lines so far say the choices so far
abbrev pub invariant-loop-line : goal.invariant-loop-line
invariant-loop-line l = HasRead l.fn.text l.fn.first l.number l.rest (map chosen_of l.choices.items)

abbrev pub decreases-loop-line : goal.decreases-loop-line
decreases-loop-line l = length l.rest
