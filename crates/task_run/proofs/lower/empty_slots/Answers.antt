use Rattle.std.proofs.Common.{◌≡◌, ◌≤◌, ◌<◌, ℕ, zero, suc, List, [], ◌∷◌, ◌++◌, length, refl, ap, sym, ◌∙◌, length-append, arith}
use Rattle.std.specs.Prelude.{replicate}
use Rattle.machine_data.specs.declared.component.Slot.{Slot}
use Rattle.machine_data.specs.declared.component.Slot.TheVariants as slot
use Rattle.task_run.proofs.lower.empty_slots.Goals as goal

replicate_last : (n : ℕ) (x : Slot) → replicate n x ++ x ∷ [] ≡ replicate (suc n) x
replicate_last zero x = refl
replicate_last (suc n) x = ap (λ (xs : List Slot). x ∷ xs) (replicate_last n x)

one_longer : (xs : List Slot) (x : Slot) → suc (length xs) ≡ length (xs ++ x ∷ [])
one_longer xs x = omega (arith, length-append xs (x ∷ []))

grows : (old new : List Slot) → old ≡ replicate (length old) slot.Empty → new ≡ old ++ slot.Empty ∷ [] → new ≡ replicate (length new) slot.Empty
grows old new same e =
    e ∙ ap (λ (xs : List Slot). xs ++ slot.Empty ∷ []) same ∙ replicate_last (length old) slot.Empty
    ∙ ap (λ (n : ℕ). replicate n slot.Empty) (one_longer old slot.Empty ∙ ap (λ (xs : List Slot). length xs) (sym e))

longer : (old new : List Slot) → length old < 16 → new ≡ old ++ slot.Empty ∷ [] → length new ≤ 16
longer old new few e = let more : length new ≡ suc (length old) = ap (λ (xs : List Slot). length xs) e ∙ sym (one_longer old slot.Empty) in omega (arith, more)

pub loop-slots-preserved : goal.loop-slots-preserved
loop-slots-preserved c = record {
  same = grows _ _ c.loop-slots.invariant.same c.in_ok-push.ensures.items;
  few = longer _ _ (omega (arith, c.loop-slots-test.true, c.len.ensures)) c.in_ok-push.ensures.items;
}

all_made : (slots : List Slot) → slots ≡ replicate (length slots) slot.Empty → 16 ≤ length slots → length slots ≤ 16 → slots ≡ replicate 16 slot.Empty
all_made slots same many few = let full : length slots ≡ 16 = omega arith in same ∙ ap (λ (n : ℕ). replicate n slot.Empty) full

pub returns : goal.returns
returns c = all_made c.loop-slots.slots.items c.loop-slots.invariant.same (omega (arith, c.loop-slots-test.false, c.len.ensures)) c.loop-slots.invariant.few
