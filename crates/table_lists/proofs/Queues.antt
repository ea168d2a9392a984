-- The machine's primitives on its queues, said of rows.
use Rattle.std.proofs.Common.{◌≡◌, ◌||◌, ℕ, Bool, true, false, cond, List, [], ◌∷◌, refl, sym, ap, ap₂}
use Rattle.std.specs.List.{list_any}
use Rattle.table_lists.specs.Rows.{less_by}
use Rattle.machine_data.specs.Core.{Core}
use Rattle.machine_data.specs.Moves.{has_entry, less, unqueued}
use Rattle.machine_data.specs.Read.{is_entry_of}
use Rattle.machine_data.specs.Write.{set_high, set_low}
use Rattle.machine_data.specs.declared.records.Entry.{Entry}

less_none : (u : Entry → Bool) (es : List Entry) → list_any u es ≡ false → less_by u es ≡ es
less_none u [] none = refl
less_none u (e ∷ es) none = by (u e) none (less_none u es)
  where
    by : (b : Bool) → (b || list_any u es) ≡ false → (list_any u es ≡ false → less_by u es ≡ es) → cond b es (e ∷ less_by u es) ≡ e ∷ es
    by true none rest = absurd (cc)
    by false none rest = ap (λ (l : List Entry). e ∷ l) (rest none)

pub less_is : (n : ℕ) (es : List Entry) → less n es ≡ less_by (is_entry_of n) es
less_is n [] = refl
less_is n (e ∷ es) = ap (λ (l : List Entry). cond (is_entry_of n e) es (e ∷ l)) (less_is n es)

-- where low has no entry of a thread that has one at high, both lists are without it
pub unqueued_both : (n : ℕ) (s : Core) → (has_entry n s.queues.high ≡ true → less_by (is_entry_of n) s.queues.low ≡ s.queues.low) → unqueued n s ≡ set_low (less_by (is_entry_of n) s.queues.low) (set_high (less_by (is_entry_of n) s.queues.high) s)
unfolding unqueued set_low set_high
unqueued_both n s apart = by (has_entry n s.queues.high) refl apart
  where
    by : (b : Bool) → has_entry n s.queues.high ≡ b → (b ≡ true → less_by (is_entry_of n) s.queues.low ≡ s.queues.low) → (cond b (set_high (less n s.queues.high) s) (set_low (less n s.queues.low) s)) ≡ set_low (less_by (is_entry_of n) s.queues.low) (set_high (less_by (is_entry_of n) s.queues.high) s)
    by true is apart = ap₂ (λ (high low : List Entry). set_low low (set_high high s)) (less_is n s.queues.high) (sym (apart refl))
    by false is apart = ap₂ (λ (high low : List Entry). set_low low (set_high high s)) (sym (less_none (is_entry_of n) s.queues.high is)) (less_is n s.queues.low)
