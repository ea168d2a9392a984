-- What is wanted comes before all else, so it is what is picked.
use Rattle.laws_choices.specs.Wanted.{WantedIsTaken, WantedIsWoken}
use Rattle.std.proofs.Common.{ap, cond, refl, sym, ◌∙◌, ◌≡◌, ◌⊎◌}
use Rattle.std.proofs.lemmas.Bool.{cases_eq, eq-eqb, eqb-true, ne_eqb}
use Rattle.std.specs.Prelude.{Bool, Option, Some, false, true, ℕ, ◌==◌}
use Rattle.machine_data.specs.Read.{same_subtask}
use Rattle.machine_data.specs.declared.records.Subtask.TheVariants as subtask
use Rattle.machine_data.specs.declared.records.Subtask.{Subtask}
use Rattle.machine_rules.specs.Picks.{member_or, subtask_before, waiter_or}

pub wanted_is_woken : WantedIsWoken
unfolding WantedIsWoken
wanted_is_woken p s w v first is waits = by (v == w) refl
  where
    o : Bool
    o = p.earlier v w

    before : cond (v == w) false (cond (v == v) true o) ≡ false
    before = ap (λ (x : Option ℕ). waiter_or x v w o) (sym is) ∙ first.first v waits

    by : (b : Bool) → (v == w) ≡ b → w ≡ v
    by true same = sym (eqb-true v w same)
    by false other =
        let never : true ≡ false = sym (ap (λ b. cond b false (cond (v == v) true o)) other ∙ ap (λ b. cond b true o) (eq-eqb v v refl)) ∙ before in
        absurd (cc)

same_itself : (sub : Subtask) → same_subtask sub sub ≡ true
same_itself (subtask.Guest k) = eq-eqb k k refl
same_itself (subtask.Host i) = eq-eqb i i refl

same_is : (sub other : Subtask) → same_subtask sub other ≡ true → sub ≡ other
same_is (subtask.Guest k) (subtask.Guest q) e = ap subtask.Guest (eqb-true k q e)
same_is (subtask.Guest k) (subtask.Host q) e = absurd (cc)
same_is (subtask.Host k) (subtask.Guest q) e = absurd (cc)
same_is (subtask.Host k) (subtask.Host q) e = ap subtask.Host (eqb-true k q e)

pub wanted_is_taken : WantedIsTaken
unfolding WantedIsTaken
wanted_is_taken p s instance handle sub first is ready = by (same_subtask sub first.member) refl
  where
    o : Bool
    o = subtask_before p.seats sub first.member

    before : cond (same_subtask sub first.member) false (cond (same_subtask sub sub) true o) ≡ false
    before = ap (λ (x : Option Subtask). member_or x sub first.member o) (sym is) ∙ first.first sub ready

    by : (b : Bool) → same_subtask sub first.member ≡ b → first.member ≡ sub
    by true same = sym (same_is sub first.member same)
    by false other =
        let never : true ≡ false = sym (ap (λ b. cond b false (cond (same_subtask sub sub) true o)) other ∙ ap (λ b. cond b true o) (same_itself sub)) ∙ before in
        absurd (cc)
