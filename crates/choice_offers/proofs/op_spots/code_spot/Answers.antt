use Rattle.choice_offers.proofs.CodeLemmas.{code_big, code_by, kind_none}
use Rattle.choice_offers.proofs.op_spots.code_spot.Goals as goal
use Rattle.core_primitives.specs.StateView.{set_if_any, set_of, thread_of}
use Rattle.laws_choices.specs.Offers.{nothing, of_found, releases}
use Rattle.machine_data.specs.Read.{instance_of, set_at}
use Rattle.machine_rules.specs.Ends.{held_by_flag}
use Rattle.std.proofs.Common.{ap, refl, rules, sym, ◌∙◌}
use Rattle.std.specs.Prelude.{None, Option, Some, ℕ, ◌%◌, ◌/◌, ◌≡◌}

pub returns-then-code-gt4294967295 : goal.returns-then-code-gt4294967295
returns-then-code-gt4294967295 c =
    let s = c.args.core.now in
    let n = thread_of s c.args.thread in
    ((c.no_spot.ensures n).0, (c.no_spot.ensures n).1 ∙ code_big n s.core c.args.code c.if-code-gt4294967295.true)

pub returns-in-1 : goal.returns-in-1
returns-in-1 c =
    let s = c.args.core.now in
    let n = thread_of s c.args.thread in
    let opened = c.opens.ensures n nothing (c.no_spot-in-1.ensures n) in
    (opened.0, opened.1 ∙ (ap (λ (i : ℕ). releases (held_by_flag i s.core) nothing) c.instance_of-instance.ensures ∙ code_by n s.core c.args.code 1 c.if-code-gt4294967295.false c.in-1.is))

pub returns-in-Some : goal.returns-in-Some
returns-in-Some c =
    let s = c.args.core.now in
    let n = thread_of s c.args.thread in
    let named : Some (set_of s c.in-Some.field-0) ≡ set_at (instance_of n s.core) (c.args.code / 16) s.core =
    ap (set_if_any s) (sym c.in-Some.is) ∙ (c.set_named.ensures.is ∙ ap (λ (i : ℕ). set_at i (c.args.code / 16) s.core) c.instance_of-instance.ensures) in
    let opened = c.opens-in-Some.ensures n nothing (c.no_spot-in-Some.ensures n) in (
      opened.0,
      opened.1
          ∙ (ap (λ (i : ℕ). releases (held_by_flag i s.core) nothing) c.instance_of-instance.ensures ∙ (ap (λ (o : Option ℕ). of_found o (λ x. releases (held_by_flag (instance_of n s.core) s.core) nothing)) named
          ∙ code_by n s.core c.args.code 2 c.if-code-gt4294967295.false c.in-2.is)),
    )

pub returns-in-None : goal.returns-in-None
returns-in-None c =
    let s = c.args.core.now in
    let n = thread_of s c.args.thread in
    let named : None ≡ set_at (instance_of n s.core) (c.args.code / 16) s.core =
    ap (set_if_any s) (sym c.in-None.is) ∙ (c.set_named.ensures.is ∙ ap (λ (i : ℕ). set_at i (c.args.code / 16) s.core) c.instance_of-instance.ensures) in
    ((c.no_spot-in-None.ensures n).0, (c.no_spot-in-None.ensures n).1 ∙ (ap (λ (o : Option ℕ). of_found o (λ x. releases (held_by_flag (instance_of n s.core) s.core) nothing)) named ∙ code_by n s.core c.args.code 2 c.if-code-gt4294967295.false c.in-2.is))

pub returns-in_default : goal.returns-in_default
returns-in_default c =
    let s = c.args.core.now in
    let n = thread_of s c.args.thread in
    let zero : c.args.code % 16 ≡ 0 → ⊥ = search rules in
    let one : c.args.code % 16 ≡ 1 → ⊥ = search rules in
    let two : c.args.code % 16 ≡ 2 → ⊥ = search rules in (
      (c.no_spot-in_default.ensures n).0,
      (c.no_spot-in_default.ensures n).1
          ∙ (kind_none n (held_by_flag (instance_of n s.core) s.core) s.core (c.args.code % 16) (c.args.code / 16) zero one two
          ∙ code_by n s.core c.args.code (c.args.code % 16) c.if-code-gt4294967295.false refl),
    )
