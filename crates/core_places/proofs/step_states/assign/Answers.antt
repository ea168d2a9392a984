use Rattle.core_records.proofs.Core.{advanced, ap, assigned, Core, moved_to, seen, set_register, sym, thread_of, ℕ, ◌+◌, ◌∙◌}
use Rattle.core_places.proofs.StepLemmas.{answered, position_kept}
use Rattle.core_places.proofs.step_states.assign.Goals as goal

pub returns-clause-new : goal.returns-clause-new
unfolding assigned advanced
returns-clause-new c =
    let a = seen c.args.parts.now in
    let n = thread_of a c.args.thread in
    c.put_answer.ensures.new
    ∙ ap (λ (s : Core). record a { core = s })
    (answered n c.args.register c.args.value (c.position-at.result + 1) a.core
    ∙ ap (λ (p : ℕ). moved_to n (p + 1) (set_register n c.args.register c.args.value a.core)) (c.position-at.ensures ∙ sym (position_kept n c.args.register c.args.value a.core)))
