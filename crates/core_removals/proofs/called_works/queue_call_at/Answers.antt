use Rattle.core_records.proofs.Core.{ap, AtPlace, parts_of, StateView, subst, sym, thread_of, ThreadOf, ℕ, ◌∙◌}
use Rattle.core_records.proofs.HomeLemmas.{thread_at_place, thread_within}
use Rattle.core_removals.proofs.called_works.queue_call_at.Goals as goal

pub call_work-requires-clause-there : goal.call_work-requires-clause-there
call_work-requires-clause-there c = thread_within c.new_work_nodes.new.parts c.in-Ok.ensures.sound c.args.thread c.in-Some.entry.now c.in-Some.ensures.item

pub call_work-requires-clause-caller : goal.call_work-requires-clause-caller
call_work-requires-clause-caller c =
    let b = c.new_work_nodes.new.parts in
    subst (λ (m : ℕ). AtPlace (parts_of b) m (ThreadOf c.number.result)) (sym c.rep.ensures)
    (subst (λ (n : ℕ). AtPlace (parts_of b) c.args.thread.rep (ThreadOf n)) (ap (λ (v : StateView). thread_of v c.args.thread) c.in-Ok.ensures.seen ∙ sym c.number.ensures) (thread_at_place b c.in-Ok.ensures.sound c.args.thread))

pub call_work-requires-clause-nodes : goal.call_work-requires-clause-nodes
call_work-requires-clause-nodes c = record { loose = c.in-Ok.ensures.loose; high = c.in-Ok.ensures.high; live = c.in-Ok.ensures.live }
