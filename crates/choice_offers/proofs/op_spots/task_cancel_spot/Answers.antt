use Rattle.choice_offers.proofs.TestLemmas.{cancel_ended, cancel_tells, cancel_undelivered}
use Rattle.choice_offers.proofs.op_spots.task_cancel_spot.Goals as goal
use Rattle.core_primitives.specs.StateView.{thread_of}
use Rattle.laws_choices.specs.Offers.{tells}
use Rattle.machine_data.specs.Read.{cancel_was_delivered, has_ended, task_of}
use Rattle.std.proofs.Common.{ap, rules, ◌∙◌}
use Rattle.std.specs.Prelude.{false, true, ℕ, ◌≡◌}

pub returns-then-not-cancel_was_delivered : goal.returns-then-not-cancel_was_delivered
returns-then-not-cancel_was_delivered c =
    let s = c.args.core.now in
    let n = thread_of s c.args.thread in
    let delivered : cancel_was_delivered (task_of n s.core) s.core ≡ false = search rules in
    ((c.no_spot.ensures n).0, (c.no_spot.ensures n).1 ∙ cancel_undelivered n s.core delivered)

pub returns-then-is_some : goal.returns-then-is_some
returns-then-is_some c =
    let s = c.args.core.now in
    let n = thread_of s c.args.thread in
    let delivered : cancel_was_delivered (task_of n s.core) s.core ≡ true = search rules in
    let ended : has_ended (task_of n s.core) s.core ≡ true = search rules in
    ((c.no_spot-then-is_some.ensures n).0, (c.no_spot-then-is_some.ensures n).1 ∙ cancel_ended n s.core delivered ended)

pub returns : goal.returns
returns c =
    let s = c.args.core.now in
    let n = thread_of s c.args.thread in
    let delivered : cancel_was_delivered (task_of n s.core) s.core ≡ true = search rules in
    let ended : has_ended (task_of n s.core) s.core ≡ false = search rules in
    ((c.tells.ensures n).0, (c.tells.ensures n).1 ∙ (ap (λ (k : ℕ). tells k s.core) c.task_of-call.ensures.is ∙ cancel_tells n s.core delivered ended))
