use Rattle.core_records.proofs.Core.{advanced, ap, moved_to, on_core, seen, thread_of, ◌+◌, ◌∙◌}
use Rattle.core_places.proofs.step_states.advance.Goals as goal

pub returns-clause-new : goal.returns-clause-new
unfolding advanced
returns-clause-new c = let a = c.args.parts.now in c.move_to.ensures.new ∙ ap (λ p. on_core (moved_to (thread_of (seen a) c.args.thread) (p + 1)) (seen a)) c.position-at.ensures
