-- The work at its place is asked whether it is over.
use Rattle.store_works.proofs.KeptLemmas.{asked_same, lent, phase_there}
use Rattle.store_works.proofs.kept.HostWorks.poll_handle.Goals as goal
use Rattle.std.proofs.Common.{refl, sym, ◌∙◌}
use Rattle.store_works.specs.Joined.{joined_phase}

pub returns-clause-answer : goal.returns-clause-answer
returns-clause-answer g c =
    let course = g.H.HostWork.course in
    let kept = c.args.self.now in
    let at = c.in-Some.ensures.some in
    let w = c.in-Some-get_index_mut.joined.now in
    let unique = c.in-Some-get_index_mut.ensures.unique in
    let phase = phase_there course kept c.args.number c.in-Some.place at.0 unique at.1 w c.poll_handle.new.self kept.next (lent course kept c.args.number c.in-Some.place at.0 unique at.1 w c.in-Some-get_index_mut.ensures.value) (joined_phase w) refl in
    (λ ready. sym phase ∙ c.poll_handle.ensures.answer.0 ready, λ complete. c.poll_handle.ensures.answer.1 (phase ∙ complete))

pub returns-clause-held : goal.returns-clause-held
returns-clause-held g c =
    let course = g.H.HostWork.course in
    let kept = c.args.self.now in
    let at = c.in-Some.ensures.some in
    let w = c.in-Some-get_index_mut.joined.now in
    let unique = c.in-Some-get_index_mut.ensures.unique in
    asked_same course kept c.args.number c.in-Some.place at.0 unique at.1 w c.poll_handle.new.self kept.next (lent course kept c.args.number c.in-Some.place at.0 unique at.1 w c.in-Some-get_index_mut.ensures.value) c.poll_handle.ensures.work c.poll_handle.ensures.phase
