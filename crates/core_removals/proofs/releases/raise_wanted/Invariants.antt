use Rattle.core_primitives.specs.Preferences.{preference}
use Rattle.core_primitives.specs.StateView.{thread_number}
use Rattle.core_records.proofs.Core.{IsSoundCore, map, on_core, seen, ℕ, ◌≡◌}
use Rattle.core_removals.proofs.releases.raise_wanted.Given as goal
use Rattle.core_removals.specs.Held.{AreHeldUnqueued, raised}
use Rattle.core_removals.specs.Walks.{at_place}
use Rattle.std.specs.Prelude.{drop}

abbrev pub invariant-loop-index : goal.invariant-loop-index
invariant-loop-index l = record {
  sound : IsSoundCore l.parts;
  again : on_core (raised l.instance (map (thread_number (seen l.fn.parts).tags) (drop l.index l.fn.parts.wanted.held.items))) (seen l.parts) ≡ on_core (raised l.instance (preference (seen l.fn.parts)).held) (seen l.fn.parts);
  free : AreHeldUnqueued l.instance (seen l.parts).core;
  places : (r : ℕ) → at_place l.parts r ≡ at_place l.fn.parts r;
}
