use Rattle.std.proofs.Common.{arith, sym, ap, ◌∙◌}
use Rattle.std.specs.FinMap as finite
use Rattle.task_group.proofs.CountLemmas.{sound-remove, keys-pop, live_in-empty, emptied, if_none}
use Rattle.task_group.proofs.counts.Counts.pop_first.Goals as goal

pub returns-in_err-number-clause-none : goal.returns-in_err-number-clause-none
returns-in_err-number-clause-none c =
    if_none _ _ (live_in-empty _ (emptied c.self.inside.counts.entries c.pop_first.new.self.entries (λ h. c.in_err-number.ensures.variant.1 h) (omega (arith, c.in_err-number.ensures.len))))

pub invariant_of-self-2 : goal.invariant_of-self-2
invariant_of-self-2 c = sound-remove c.self.inside.counts.entries _ _ _ c.in_ok-number.number c.self.invariant c.in_ok-number.ensures.updates.0 c.in_ok-number.ensures.ordered

pub returns-clause-numbers : goal.returns-clause-numbers
returns-clause-numbers c =
    ap finite.keys (sym c.self.view_is)
    ∙ keys-pop c.self.inside.counts.entries c.pop_first.new.self.entries _ c.in_ok-number.ensures.removal c.self.invariant.ordered c.in_ok-number.ensures.ordered
