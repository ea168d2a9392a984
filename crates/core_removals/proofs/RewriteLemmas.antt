-- One record of a table is written anew, with its number: what holds of each.
use Rattle.core_records.proofs.Core.{ap, Bool, cases_eq, cond, EachEntry, entry_of, entry_put, eq-eqb, false, found, found-with_entry, inl, inr, item_at, item_in, item_of, mapped, mapped-with_entry_same, ne_eqb, None, Ok, on_item, Option, place_at, place_at-with_entry, Placed, refl, same_Some, Some, SoundTable, subst, sym, Table, true, with_entry, ℕ, ◌==◌, ◌∙◌, ◌≡◌, ◌⊎◌}
use Rattle.core_records.specs.declared.{single.Single.Single}
use Rattle.core_queues.proofs.BareLemmas.{one_place}
use Rattle.core_records.proofs.KindLemmas.{item_stands}

module _ {T X : Type 0} (number : T → ℕ) (rec : T → X) (t : Table (Single T)) (made : ℕ) (sound : SoundTable (λ (e : Single T). Some (number e.item, rec e.item)) t made) (rep serial : ℕ) (g : T) (is : Ok g ≡ item_at item_of t rep serial) where
  stands : (p : Placed (Single T)) × ((place_at t rep ≡ Some p) × ((p.serial ≡ serial) × (p.entry ≡ entry_of g)))
  stands = item_stands number rec t made sound rep serial g is

  -- what holds of each holds of what is there
  pub each_there : (P : T → Type 0) → EachEntry P t → P g
  each_there P each = subst (λ (e : Single T). P e.item) stands.1.1.1 (each rep stands.0 stands.1.0)

  -- as far as a function sees that does not see the write
  pub rewritten_alike : (f : T → T) (h : T) → f h ≡ f g → mapped (on_item f) (with_entry rep (entry_of h) t) ≡ mapped (on_item f) t
  rewritten_alike f h same = mapped-with_entry_same (on_item f) t rep (entry_of h) stands.0 stands.1.0 (ap entry_of same ∙ sym (ap (on_item f) stands.1.1.1))

  module _ (h : T) (P Q : T → Type 0) (new : P g → Q h) (others : (x : T) → (number x ≡ number g → ⊥) → P x → Q x) where
    pub each_rewritten : EachEntry P t → EachEntry Q (with_entry rep (entry_of h) t)
    each_rewritten each r q there = by_place (cases_eq r rep)
      where
        at : (b : Bool) → (r == rep) ≡ b → cond b (entry_put (entry_of h) (place_at t r)) (place_at t r) ≡ Some q
        at b same = ap (λ c. cond c (entry_put (entry_of h) (place_at t r)) (place_at t r)) (sym same) ∙ (sym (place_at-with_entry t rep r (entry_of h)) ∙ there)

        by_place : (r ≡ rep) ⊎ (r ≡ rep → ⊥) → Q q.entry.item
        by_place (inl here) =
            let one : Some (record stands.0 { entry = entry_of h }) ≡ Some q = ap (entry_put (entry_of h)) (sym stands.1.0 ∙ ap (place_at t) (sym here)) ∙ at true (eq-eqb r rep here) in
            subst (λ (x : Placed (Single T)). Q x.entry.item) (same_Some _ q one) (new (each_there P each))
        by_place (inr other) =
            let old = at false (ne_eqb r rep other) in
            others q.entry.item (λ same. other (one_place number rec t made sound r rep q stands.0 old stands.1.0 (same ∙ sym (ap (λ (e : Single T). number e.item) stands.1.1.1)))) (each r q old)

-- What is written is found by the id.
pub item_written : {T : Type 0} (t : Table (Single T)) (rep serial : ℕ) (g h : T) → Ok g ≡ item_at item_of t rep serial → Ok h ≡ item_at item_of (with_entry rep (entry_of h) t) rep serial
item_written {T} t rep serial g h is =
    sym (ap (item_in item_of) (found-with_entry t rep rep serial (entry_of h) ∙ ap (λ (b : Bool). cond b (entry_put (entry_of h) (found t rep serial)) (found t rep serial)) (eq-eqb rep rep refl)) ∙ by (found t rep serial) is)
  where
    by : (o : Option (Placed (Single T))) → Ok g ≡ item_in item_of o → item_in item_of (entry_put (entry_of h) o) ≡ Ok h
    by None is = absurd (cc)
    by (Some q) is = refl
