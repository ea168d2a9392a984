use Rattle.core_records.proofs.Core.{entries, has, IsLinks, IsSome, IsSoundCore, length, list_of, seen, true, ℕ, ◌≡◌}
use Rattle.core_removals.proofs.releases.release_both.Given as goal
use Rattle.core_removals.specs.Held.{Releases, is_admitted}
use Rattle.core_removals.specs.Merged.{merged, of_both}

abbrev pub invariant-loop-node : goal.invariant-loop-node
invariant-loop-node l = record {
  sound : IsSoundCore l.parts;
  links : IsLinks l.parts.places;
  chain : IsSome (list_of l.parts.places l.chain);
  other : IsSome (list_of l.parts.places l.other);
  walk : Releases l.instance (seen l.fn.parts) (of_both l.fn.parts l.chain l.other) l.parts (merged (entries l.parts.places l.chain) (entries l.parts.places l.other));
  admitted : (n : ℕ) → has n (of_both l.parts l.chain l.other) ≡ true → is_admitted l.instance (seen l.fn.parts).core n ≡ true;
}

abbrev pub decreases-loop-node : goal.decreases-loop-node
decreases-loop-node l = length (merged (entries l.parts.places l.chain) (entries l.parts.places l.other))
