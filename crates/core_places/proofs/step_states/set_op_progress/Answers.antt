use Rattle.core_records.proofs.Core.{ap, on_core, seen, set_op_progress, sym, thread_of, ◌∙◌}
use Rattle.core_places.proofs.step_states.set_op_progress.Goals as goal

pub returns-clause-new : goal.returns-clause-new
returns-clause-new c = c.put_there.ensures.new ∙ ap (λ h. on_core (set_op_progress (thread_of (seen c.args.parts.now) c.args.thread) h) (seen c.args.parts.now)) (sym c.op_progress_from_id-named.ensures.is)
