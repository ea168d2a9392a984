-- A way that isn't begun is next, or else a branch.
use Rattle.choice_search.proofs.search.Search.part.Goals as goal
use Rattle.choice_search.specs.Numbered.{most}
use Rattle.choice_search.specs.Ways.{host_ways}
use Rattle.machine_data.specs.declared.component.HostDef.{HostDef}
use Rattle.std.proofs.Common.{subst}
use Rattle.std.specs.Prelude.{List, ℕ, ◌<◌, ◌≤◌}

pub first_run-requires-clause-searches : goal.first_run-requires-clause-searches
first_run-requires-clause-searches c = c.requires

pub first_run-requires-clause-more : goal.first_run-requires-clause-more
first_run-requires-clause-more c =
    let s = c.args.self.now in
    subst (λ (ds : List HostDef). s.way < most (host_ways s.asked.polls ds)) c.as_slice.ensures.value (subst (λ (n : ℕ). s.way < n) c.ways.ensures c.if-self-ways.true)

pub tree_run-requires-clause-searches : goal.tree_run-requires-clause-searches
tree_run-requires-clause-searches c = c.requires

pub tree_run-requires-clause-last : goal.tree_run-requires-clause-last
tree_run-requires-clause-last c =
    let s = c.args.self.now in
    subst (λ (ds : List HostDef). most (host_ways s.asked.polls ds) ≤ s.way) c.as_slice.ensures.value (subst (λ (n : ℕ). n ≤ s.way) c.ways.ensures c.if-self-ways.false)

pub tree_run-requires-clause-place : goal.tree_run-requires-clause-place
tree_run-requires-clause-place c = c.has_place.ensures c.if-has_place.true
