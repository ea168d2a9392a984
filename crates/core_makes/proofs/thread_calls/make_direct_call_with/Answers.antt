use Rattle.core_records.proofs.Core.{ap, AtPlace, parts_of, StateView, subst, sym, thread_of, ThreadOf, ℕ, ◌∙◌}
use Rattle.core_makes.proofs.thread_calls.make_direct_call_with.Goals as goal
use Rattle.core_records.proofs.HomeLemmas.{thread_at_place}

pub add_named_call-requires-clause-caller : goal.add_named_call-requires-clause-caller
add_named_call-requires-clause-caller c =
    let b = c.prepare.new.parts in
    subst (λ (m : ℕ). AtPlace (parts_of b) m (ThreadOf c.args.number)) (sym c.rep.ensures)
    (subst (λ (n : ℕ). AtPlace (parts_of b) c.args.thread.rep (ThreadOf n)) (ap (λ (v : StateView). thread_of v c.args.thread) c.in-Ok.ensures.seen ∙ sym c.requires.named) (thread_at_place b c.in-Ok.ensures.sound c.args.thread))
