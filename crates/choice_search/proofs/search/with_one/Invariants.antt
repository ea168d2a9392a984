use Rattle.choice_search.proofs.search.with_one.Given as goal
use Rattle.std.specs.Prelude.{take, ◌≡◌}

-- the choices so far are copied
abbrev pub invariant-loop-choice : goal.invariant-loop-choice
invariant-loop-choice l = l.list.items ≡ take l.choice-index l.choices
