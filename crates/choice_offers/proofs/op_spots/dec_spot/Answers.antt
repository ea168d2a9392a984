use Rattle.choice_offers.proofs.CodeLemmas.{dec_none}
use Rattle.choice_offers.proofs.op_spots.dec_spot.Goals as goal
use Rattle.core_primitives.specs.StateView.{thread_of}
use Rattle.laws_choices.specs.Offers.{dec_offer, nothing, releases}
use Rattle.machine_data.specs.Read.{backpressure_of, instance_of}
use Rattle.machine_rules.specs.Task.{held_by_counter}
use Rattle.std.proofs.Common.{ap, sym, ◌∙◌}
use Rattle.std.specs.Prelude.{ℕ, ◌≡◌}

pub returns-then-backpressure-eq1 : goal.returns-then-backpressure-eq1
returns-then-backpressure-eq1 c =
    let s = c.args.core.now in
    let n = thread_of s c.args.thread in
    let one : backpressure_of (instance_of n s.core) s.core ≡ 1 = ap (λ (i : ℕ). backpressure_of i s.core) (sym c.instance_of-instance.ensures) ∙ (sym c.backpressure.ensures ∙ c.if-backpressure-eq1.true) in
    let opened = c.opens.ensures n nothing (c.no_spot.ensures n) in
    (opened.0, opened.1 ∙ (ap (λ (i : ℕ). releases (held_by_counter i s.core) nothing) c.instance_of-instance.ensures ∙ sym (ap (dec_offer n s.core) one)))

pub returns-else-backpressure-eq1 : goal.returns-else-backpressure-eq1
returns-else-backpressure-eq1 c =
    let s = c.args.core.now in
    let n = thread_of s c.args.thread in
    let same = c.backpressure.ensures ∙ ap (λ (i : ℕ). backpressure_of i s.core) c.instance_of-instance.ensures in (
      (c.no_spot-else-backpressure-eq1.ensures n).0,
      (c.no_spot-else-backpressure-eq1.ensures n).1 ∙ dec_none n s.core (backpressure_of (instance_of n s.core) s.core) (λ one. c.if-backpressure-eq1.false (same ∙ one)),
    )
