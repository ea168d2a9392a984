use Rattle.core_counts.proofs.LimitLemmas.{limit_sound}
use Rattle.core_counts.proofs.settings.set_handle_limit.Goals as goal
use Rattle.core_records.proofs.Core.{ap, HandleCounter, IsSoundCore, seen, subst, sym}

pub returns-clause-sound : goal.returns-clause-sound
returns-clause-sound c =
    subst (λ (k : HandleCounter). IsSoundCore (record c.args.parts.now { counter = k })) (sym c.set_limit.ensures)
    (limit_sound c.args.parts.now c.requires.sound c.args.handles)

pub returns-clause-new : goal.returns-clause-new
unfolding seen
returns-clause-new c = ap (λ (k : HandleCounter). seen (record c.args.parts.now { counter = k })) c.set_limit.ensures
