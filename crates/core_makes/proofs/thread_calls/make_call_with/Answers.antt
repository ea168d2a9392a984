use Rattle.core_records.proofs.Core.{ap, AtPlace, parts_of, StateView, subst, sym, thread_of, ThreadOf, ℕ, ◌∙◌}
use Rattle.core_makes.proofs.thread_calls.make_call_with.Goals as goal
use Rattle.core_records.proofs.HomeLemmas.{thread_at_place}

pub add_call_with_thread_outlined-requires-clause-caller : goal.add_call_with_thread_outlined-requires-clause-caller
add_call_with_thread_outlined-requires-clause-caller c =
    let b = c.prepare_outlined.new.parts in
    subst (λ (m : ℕ). AtPlace (parts_of b) m (ThreadOf c.number.result)) (sym c.rep.ensures)
    (subst (λ (n : ℕ). AtPlace (parts_of b) c.args.thread.rep (ThreadOf n)) (ap (λ (v : StateView). thread_of v c.args.thread) c.in-Ok.ensures.seen ∙ sym c.number.ensures) (thread_at_place b c.in-Ok.ensures.sound c.args.thread))
