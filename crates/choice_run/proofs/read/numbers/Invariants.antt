use Rattle.choice_run.proofs.NumberLemmas.{AreTaken}
use Rattle.choice_run.proofs.read.numbers.Given as goal
use Rattle.std.specs.Prelude.{map}

abbrev pub invariant-loop-word : goal.invariant-loop-word
invariant-loop-word l = AreTaken (map (λ w. w.now) l.words) l.word-index l.list
