-- What is offered of an activation's end, by its code.
use Rattle.laws_choices.specs.Offers.{code_kind_offer, code_offer, dec_offer, nothing, unless}
use Rattle.laws_choices.specs.Offer.{Offer}
use Rattle.machine_data.specs.Core.{Core}
use Rattle.machine_data.specs.Read.{instance_of}
use Rattle.machine_rules.specs.Ends.{held_by_flag}
use Rattle.std.proofs.Common.{ap, arith, refl, sym, ◌∙◌}
use Rattle.std.proofs.lemmas.Bool.Decides.{nat_tests}
use Rattle.std.specs.Prelude.{Bool, List, false, nat_lt, suc, true, zero, ℕ, ◌%◌, ◌/◌, ◌<◌, ◌≡◌, ◌≤◌}

module _ (n : ℕ) (s : Core) (code : ℕ) where
  abbrev kind_offer : ℕ → Offer
  kind_offer k = code_kind_offer n (held_by_flag (instance_of n s) s) s k (code / 16)

  pub code_by : (kind : ℕ) → code ≤ 4294967295 → code % 16 ≡ kind → kind_offer kind ≡ code_offer n s code
  code_by kind small is =
      let fits : nat_lt 4294967295 code ≡ false = grind (arith, nat_tests) in
      sym (ap (λ (b : Bool). unless b (kind_offer (code % 16))) fits ∙ ap kind_offer is)

  pub code_big : 4294967295 < code → nothing ≡ code_offer n s code
  code_big big =
      let over : nat_lt 4294967295 code ≡ true = grind (arith, nat_tests) in
      sym (ap (λ (b : Bool). unless b (kind_offer (code % 16))) over)

-- no other kind offers anything
pub kind_none : (n : ℕ) (held : List ℕ) (s : Core) (kind rest : ℕ) → (kind ≡ 0 → ⊥) → (kind ≡ 1 → ⊥) → (kind ≡ 2 → ⊥) → nothing ≡ code_kind_offer n held s kind rest
kind_none n held s zero rest a b c = absurd (a refl)
kind_none n held s (suc zero) rest a b c = absurd (b refl)
kind_none n held s (suc (suc zero)) rest a b c = absurd (c refl)
kind_none n held s (suc (suc (suc k))) rest a b c = refl

-- no other backpressure either
pub dec_none : (n : ℕ) (s : Core) (backpressure : ℕ) → (backpressure ≡ 1 → ⊥) → nothing ≡ dec_offer n s backpressure
dec_none n s zero other = refl
dec_none n s (suc zero) other = absurd (other refl)
dec_none n s (suc (suc k)) other = refl
