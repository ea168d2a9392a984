use Rattle.choice_offers.proofs.TestLemmas.{blocking_none, blocking_opens}
use Rattle.choice_offers.proofs.op_spots.blocking_exit_spot.Goals as goal
use Rattle.core_primitives.specs.StateView.{thread_of}
use Rattle.laws_choices.specs.Offers.{releases, tells}
use Rattle.machine_rules.specs.Ends.{held_by_flag}
use Rattle.std.proofs.Common.{ap₂, sym, ◌∙◌}
use Rattle.std.specs.Prelude.{ℕ}

pub returns-then-not-passes_after_return : goal.returns-then-not-passes_after_return
returns-then-not-passes_after_return c =
    let s = c.args.core.now in
    let n = thread_of s c.args.thread in
    ((c.no_spot.ensures n).0, (c.no_spot.ensures n).1 ∙ blocking_none n s.core (sym c.passes_after_return.ensures ∙ c.if-not-passes_after_return.true))

pub returns : goal.returns
returns c =
    let s = c.args.core.now in
    let n = thread_of s c.args.thread in
    let opened = c.opens.ensures n _ (c.tells-told.ensures n) in (
      opened.0,
      opened.1
          ∙ (ap₂ (λ (i k : ℕ). releases (held_by_flag i s.core) (tells k s.core)) c.instance_of.ensures c.task_of.ensures.is
          ∙ blocking_opens n s.core (sym c.passes_after_return.ensures ∙ c.if-not-passes_after_return.false)),
    )
