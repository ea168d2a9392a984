use Rattle.choice_search.proofs.search.Search.go_on.Given as goal
use Rattle.choice_search.specs.Searching.{Searches}

-- all that is sought is still ahead
abbrev pub invariant-runs : goal.invariant-runs
invariant-runs l = Searches l.fn.self l.self
