use Rattle.choice_offers.proofs.op_spots.code_exit_spot.Goals as goal
use Rattle.core_primitives.specs.StateView.{thread_of}
use Rattle.laws_choices.specs.Offers.{nothing, releases, unless}
use Rattle.machine_data.specs.Read.{foot_of, instance_of}
use Rattle.machine_rules.specs.Ends.{held_by_flag, leaves_no_result, passes_after_stop}
use Rattle.std.proofs.Common.{ap, ap₂, sym, ◌∙◌}
use Rattle.std.specs.Prelude.{Bool, false, not, true, ℕ, ◌≡◌}

pub returns-then-not-passes_after_stop : goal.returns-then-not-passes_after_stop
returns-then-not-passes_after_stop c =
    let s = c.args.core.now in
    let n = thread_of s c.args.thread in
    let i = instance_of n s.core in
    let passes : passes_after_stop i (foot_of n s.core) (held_by_flag i s.core) s.core ≡ false =
    ap₂ (λ (j f : ℕ). passes_after_stop j f (held_by_flag j s.core) s.core) (sym c.instance_of-instance.ensures) (sym c.foot_of.ensures.is) ∙ (sym c.passes_after_stop.ensures ∙ c.if-not-passes_after_stop.true) in (
      (c.no_spot.ensures n).0,
      (c.no_spot.ensures n).1 ∙ sym (ap (λ (b : Bool). unless (not b) (unless (leaves_no_result n s.core) (releases (held_by_flag i s.core) nothing))) passes),
    )

pub returns-then-leaves_no_result : goal.returns-then-leaves_no_result
returns-then-leaves_no_result c =
    let s = c.args.core.now in
    let n = thread_of s c.args.thread in
    let i = instance_of n s.core in
    let passes : passes_after_stop i (foot_of n s.core) (held_by_flag i s.core) s.core ≡ true =
    ap₂ (λ (j f : ℕ). passes_after_stop j f (held_by_flag j s.core) s.core) (sym c.instance_of-instance.ensures) (sym c.foot_of.ensures.is) ∙ (sym c.passes_after_stop.ensures ∙ c.if-not-passes_after_stop.false) in (
      (c.no_spot-then-leaves_no_result.ensures n).0,
      (c.no_spot-then-leaves_no_result.ensures n).1
          ∙ sym (ap (λ (b : Bool). unless (not b) (unless (leaves_no_result n s.core) (releases (held_by_flag i s.core) nothing))) passes
          ∙ ap (λ (b : Bool). unless b (releases (held_by_flag i s.core) nothing)) (sym c.leaves_no_result.ensures ∙ c.if-leaves_no_result.true)),
    )

pub returns : goal.returns
returns c =
    let s = c.args.core.now in
    let n = thread_of s c.args.thread in
    let i = instance_of n s.core in
    let passes : passes_after_stop i (foot_of n s.core) (held_by_flag i s.core) s.core ≡ true =
    ap₂ (λ (j f : ℕ). passes_after_stop j f (held_by_flag j s.core) s.core) (sym c.instance_of-instance.ensures) (sym c.foot_of.ensures.is) ∙ (sym c.passes_after_stop.ensures ∙ c.if-not-passes_after_stop.false) in
    let opened = c.opens.ensures n nothing (c.no_spot-2.ensures n) in (
      opened.0,
      opened.1
          ∙ (ap (λ (j : ℕ). releases (held_by_flag j s.core) nothing) c.instance_of-instance.ensures
          ∙ sym (ap (λ (b : Bool). unless (not b) (unless (leaves_no_result n s.core) (releases (held_by_flag i s.core) nothing))) passes
          ∙ ap (λ (b : Bool). unless b (releases (held_by_flag i s.core) nothing)) (sym c.leaves_no_result.ensures ∙ c.if-leaves_no_result.false))),
    )
