use Rattle.choice_offers.proofs.TestLemmas.{start_explicit, start_limit, start_tells}
use Rattle.choice_offers.proofs.take_spots.start_spot.Goals as goal
use Rattle.core_primitives.specs.StateView.{thread_of}
use Rattle.laws_choices.specs.Offers.{start_offer, tells}
use Rattle.machine_data.specs.Read.{admits, at_handle_limit, is_explicit}
use Rattle.machine_data.specs.declared.records.Why.TheVariants as why
use Rattle.std.proofs.Common.{ap, rules, sym, ◌∙◌}
use Rattle.std.specs.Prelude.{false, true, ℕ, ◌≡◌}

pub returns-then-is_explicit : goal.returns-then-is_explicit
returns-then-is_explicit c =
    let s = c.args.core.now in
    let n = thread_of s c.args.thread in
    let admitted : admits n s.core why.Start ≡ true = search rules in
    let explicit : is_explicit n s.core ≡ true = search rules in
    ((c.no_spot.ensures n).0, (c.no_spot.ensures n).1 ∙ (start_explicit n s.core explicit ∙ sym (ap (start_offer n s.core) admitted)))

pub returns-then-at_handle_limit : goal.returns-then-at_handle_limit
returns-then-at_handle_limit c =
    let s = c.args.core.now in
    let n = thread_of s c.args.thread in
    let admitted : admits n s.core why.Start ≡ true = search rules in
    let explicit : is_explicit n s.core ≡ false = search rules in
    let limit : at_handle_limit s.core ≡ true = search rules in
    ((c.no_spot-then-at_handle_limit.ensures n).0, (c.no_spot-then-at_handle_limit.ensures n).1 ∙ (start_limit n s.core explicit limit ∙ sym (ap (start_offer n s.core) admitted)))

pub returns : goal.returns
returns c =
    let s = c.args.core.now in
    let n = thread_of s c.args.thread in
    let admitted : admits n s.core why.Start ≡ true = search rules in
    let explicit : is_explicit n s.core ≡ false = search rules in
    let limit : at_handle_limit s.core ≡ false = search rules in
    ((c.tells.ensures n).0, (c.tells.ensures n).1 ∙ (ap (λ (k : ℕ). tells k s.core) c.task_of.ensures.is ∙ (start_tells n s.core explicit limit ∙ sym (ap (start_offer n s.core) admitted))))
