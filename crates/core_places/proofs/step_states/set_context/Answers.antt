use Rattle.core_records.proofs.Core.{ap, change-change_same, on_core, on_thread, seen, StateView, thread_of, ◌∙◌}
use Rattle.core_primitives.specs.Context.{with_context}
use Rattle.core_places.proofs.step_states.set_context.Goals as goal
use Rattle.core_places.specs.Moved.{to_op, with_registers}

pub returns-clause-new : goal.returns-clause-new
unfolding with_context on_thread
returns-clause-new c =
    let s = seen c.args.parts.now in
    let n = thread_of s c.args.thread in
    c.put_op.ensures.new
    ∙ (ap (λ (v : StateView). on_core (on_thread (thread_of v c.args.thread) (to_op c.args.position)) v) c.write_registers.ensures.new
    ∙ ap (λ m. record s { core = record s.core { threads = m } }) (change-change_same s.core.threads n (to_op c.args.position) (with_registers c.args.registers.now)))
