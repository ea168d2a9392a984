use Rattle.choice_offers.proofs.TestLemmas.{starting_none, starting_tells}
use Rattle.choice_offers.proofs.take_spots.starting_spot.Goals as goal
use Rattle.core_primitives.specs.StateView.{thread_of}
use Rattle.laws_choices.specs.Offers.{tells}
use Rattle.machine_data.specs.Read.{task_of}
use Rattle.machine_rules.specs.Takes.{starting_is_published}
use Rattle.std.proofs.Common.{ap, rules, ◌∙◌}
use Rattle.std.specs.Prelude.{false, true, ℕ, ◌≡◌}

pub returns-then-starting_is_published : goal.returns-then-starting_is_published
returns-then-starting_is_published c =
    let s = c.args.core.now in
    let n = thread_of s c.args.thread in
    let told : starting_is_published (task_of n s.core) s.core ≡ true = search rules in
    ((c.no_spot.ensures n).0, (c.no_spot.ensures n).1 ∙ starting_none (task_of n s.core) s.core told)

pub returns-else-starting_is_published : goal.returns-else-starting_is_published
returns-else-starting_is_published c =
    let s = c.args.core.now in
    let n = thread_of s c.args.thread in
    let told : starting_is_published (task_of n s.core) s.core ≡ false = search rules in
    ((c.tells.ensures n).0, (c.tells.ensures n).1 ∙ (ap (λ (k : ℕ). tells k s.core) c.task_of-call.ensures.is ∙ starting_tells (task_of n s.core) s.core told))
