-- These histories are not EndsOnce, by computation.
use Rattle.std.proofs.Common.{T, arith, refl, subst, sym, ◌∙◌}
use Rattle.std.proofs.lemmas.List.Recursion.{is_count_by}
use Rattle.std.specs.Prelude.{List, [], false, if◌then◌else◌, count_by, Bool, ℕ, ◌+◌, ◌∷◌, ◌≡◌, ◌≤◌}
use Rattle.machine_data.specs.declared.records.Subtask.TheVariants as subtask
use Rattle.machine_rules.specs.History.{Moment}
use Rattle.machine_rules.specs.Once.{EndsOnce, hands_out_written, writes_end}
use Rattle.laws_examples.specs.Definitions.{the_definitions}
use Rattle.laws_examples.specs.Wrong.{cancelled_after_return, cancelling_late, returned_twice, returning_twice, steps_of}

abbrev counted : (Moment → Bool) → List Moment → ℕ
counted p [] = 0
counted p (m ∷ ms) = if p m then 1 + counted p ms else counted p ms

counted_is : (p : Moment → Bool) (ms : List Moment) → counted p ms ≡ count_by p ms
counted_is p ms = is_count_by (counted p) p refl (λ m ms. refl) ms

two_writes : counted (writes_end returning_twice.component (subtask.Guest 2)) returned_twice ≡ 2
unfolding the_definitions steps_of
two_writes = refl

not_twice : (n : ℕ) → n ≡ 2 → n ≤ 1 → ⊥
not_twice n is h = omega (is, h, arith)

pub return_over_return : EndsOnce returning_twice.component returned_twice → ⊥
return_over_return once =
    let p = writes_end returning_twice.component (subtask.Guest 2) in
    not_twice (count_by p returned_twice) (subst (λ (n : ℕ). n ≡ 2) (counted_is p returned_twice) two_writes) (once.written_once (subtask.Guest 2))

other_end : hands_out_written cancelling_late.component [] [] cancelled_after_return ≡ false
unfolding the_definitions steps_of
other_end = refl

pub cancel_over_return : EndsOnce cancelling_late.component cancelled_after_return → ⊥
cancel_over_return once = absurd (subst T (sym once.as_written ∙ other_end) tt)
