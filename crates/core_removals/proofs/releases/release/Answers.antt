use Rattle.core_records.proofs.Core.{ap, seen, sym, ◌==◌, ◌∙◌}
use Rattle.core_removals.proofs.RaisedLemmas.{least_released, no_items}
use Rattle.core_removals.proofs.ReleaseLemmas.{held_unqueued}
use Rattle.core_removals.proofs.releases.release.Goals as goal

pub release_least-requires-clause-unqueued : goal.release_least-requires-clause-unqueued
release_least-requires-clause-unqueued c n held = held_unqueued c.args.instance n (seen c.args.parts.now).core c.requires.placed held

pub release_wanted-requires-clause-unqueued : goal.release_wanted-requires-clause-unqueued
release_wanted-requires-clause-unqueued c n held = held_unqueued c.args.instance n (seen c.args.parts.now).core c.requires.placed held

pub returns-then-is_empty-clause-new : goal.returns-then-is_empty-clause-new
returns-then-is_empty-clause-new c = least_released c.args.parts.now c.requires.sound c.args.instance _ (no_items c.args.parts.now.wanted.held.items (ap (λ n. n == 0) (sym c.args.parts.now.wanted.held.ok.0) ∙ (sym c.is_empty.ensures ∙ c.if-is_empty.true))) c.release_least.ensures.picks
