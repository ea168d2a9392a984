use Rattle.core_records.proofs.Core.{ap, change-change_same, OpProgress, moved_to, on_thread, seen, set_op_progress, set_position, sym, Thread, thread_of, ◌∙◌}
use Rattle.core_places.proofs.step_states.move_to.Goals as goal

pub returns-clause-new : goal.returns-clause-new
unfolding moved_to set_op_progress set_position on_thread
returns-clause-new c =
    let s = seen c.args.parts.now in
    let n = thread_of s c.args.thread in
    c.put_op.ensures.new
    ∙ sym (ap (λ m. record s { core = record s.core { threads = m } }) (change-change_same s.core.threads n (λ (t : Thread). record t { op_progress = OpProgress.Fresh }) (λ (t : Thread). record t { position = c.args.position })))
