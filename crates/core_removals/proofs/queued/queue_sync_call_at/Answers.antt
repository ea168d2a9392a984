use Rattle.core_records.proofs.Core.{ap, AtPlace, parts_of, StateView, subst, sym, thread_of, ThreadOf, ℕ, ◌∙◌}
use Rattle.core_records.proofs.HomeLemmas.{thread_at_place}
use Rattle.core_removals.proofs.queued.queue_sync_call_at.Goals as goal

pub queue_work-requires-clause-caller : goal.queue_work-requires-clause-caller
queue_work-requires-clause-caller c =
    let b = c.new_work_nodes.new.parts in
    subst (λ (m : ℕ). AtPlace (parts_of b) m (ThreadOf c.number.result)) (sym c.rep.ensures)
    (subst (λ (n : ℕ). AtPlace (parts_of b) c.args.thread.rep (ThreadOf n)) (ap (λ (v : StateView). thread_of v c.args.thread) c.in-Ok.ensures.seen ∙ sym c.number.ensures) (thread_at_place b c.in-Ok.ensures.sound c.args.thread))

pub queue_work-requires-clause-nodes : goal.queue_work-requires-clause-nodes
queue_work-requires-clause-nodes c = record { loose = c.in-Ok.ensures.loose; high = c.in-Ok.ensures.high; live = c.in-Ok.ensures.live }
