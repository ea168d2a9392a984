use Rattle.std.proofs.Common.{rules, sym, ap, subst}
use Rattle.task_abort.specs.Rule.{Knows}
use Rattle.task_abort.proofs.SplitLemmas.{kept_split, knows_left, knows_right}
use Rattle.task_abort.proofs.cell.JoinHandle.split_pass.Goals as goal

pub split_seat-seat-requires : goal.split_seat-seat-requires
split_seat-seat-requires c = (search rules, search rules, λ s kept at. kept_split _ s.words s.views kept _ (at, c.args.pass.now.alive))

pub invariant_of-pass-clause-knows : goal.invariant_of-pass-clause-knows
invariant_of-pass-clause-knows c = subst Knows (sym (ap (λ m. m.0) c.split_seat-seat.ensures.2)) (knows_left _ c.args.pass.now.knows)

pub invariant_of-result-clause-knows : goal.invariant_of-result-clause-knows
invariant_of-result-clause-knows c = subst Knows (sym (ap (λ m. m.0) c.split_seat-seat.ensures.4)) (knows_right _ c.args.pass.now.knows)
