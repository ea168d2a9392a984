use Rattle.std.proofs.Common.{rules, ap, subst, ◌∙◌}
use Rattle.task_abort.specs.declared.log.PassView.{PassView}
use Rattle.task_abort.specs.Rule.{Settles}
use Rattle.task_abort.proofs.MeetLemmas.{join_keeps, settle_keeps, meets}
use Rattle.task_abort.proofs.cell.JoinHandle.meet.Goals as goal

pub join_seat-requires : goal.join_seat-requires
join_seat-requires c = (
  search rules,
  search rules,
  search rules,
  search rules,
  λ s kept at other there. join_keeps s.words s.views kept _ _ _ _ (at, c.args.pass.now.alive) c.args.other.alive other there c.args.pass.now.knows c.args.other.knows,
)

pub load-requires : goal.load-requires
load-requires c = (search rules, search rules, settle_keeps _ _ _ (ap (λ m. m.0.spent) c.join_seat.ensures.2 ∙ c.args.pass.now.alive))

pub returns-clause-met : goal.returns-clause-met
returns-clause-met c = let P : PassView → Type 0 = λ z. Settles z c.load.new.seat.me.0 in meets _ _ _ (subst P (ap (λ m. m.0) c.join_seat.ensures.2) c.load.ensures.2.1)
