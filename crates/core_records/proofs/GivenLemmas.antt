-- A handle that a table gives or takes back, as the machine's tables have it.
use Rattle.core_records.proofs.Core.{[], ap, ap₂, arith, Bool, cases_eq, change, changed, cond, drop, eq-eqb, false, get, get-insert, get-remove, giving, handle_table, Handles, held_by, inl, inr, insert, less_one, List, live_in, named_by, nat_cmp_total, ne_eqb, next_handle, None, Option, option_and_then, option_map, Records, records_by, refl, size, size-insert_new, size-remove_present, Some, sum_by-insert, sym, taking, true, unsigned_tied, value_in, with_held, ℕ, ◌+◌, ◌==◌, ◌∙◌, ◌∷◌, ◌≡◌, ◌⊎◌}
use Rattle.task_handles.specs.Handles.{IsWhole, without}
use Rattle.machine_data.specs.Core.{NameTable}
use Rattle.std.specs.FinMap as map
use Rattle.task_handles.specs.Handles.{next_handle as given_next}
use Rattle.core_records.proofs.HandleLemmas.{get-records_by, records_by-insert, records_by-remove}
use Rattle.core_records.proofs.HandleReads.{next_given}

less_same : (fs : List ℕ) → drop 1 fs ≡ less_one fs
less_same [] = refl
less_same (h ∷ hs) = refl

module _ {X Y : Type 0} (f : X → Y) (t : Handles X) where
  pub table_given : (x : X) → IsWhole t → handle_table f (with_held x t) ≡ giving (f x) (handle_table f t)
  table_given x whole =
      ap₂ (λ m fs. record { live = m; freed = fs })
      (records_by-insert f t.live (given_next t) x ∙ ap (λ n. insert (records_by f t.live) n (f x)) (next_given f t whole))
      (less_same t.freed)

  pub table_taken : (h : ℕ) → handle_table f (without h t) ≡ taking h (handle_table f t)
  table_taken h = ap (λ m. record { live = m; freed = h ∷ t.freed }) (records_by-remove f t.live h)

  pub held_given : (x : X) (h : ℕ) → held_by (with_held x t) h ≡ cond (h == given_next t) (Some x) (held_by t h)
  held_given x h = map.get-insert nat_cmp_total t.live (given_next t) x h ∙ ap (λ b. cond b (Some x) (held_by t h)) (unsigned_tied h (given_next t))

  pub held_taken : (g h : ℕ) → held_by (without g t) h ≡ cond (h == g) None (held_by t h)
  held_taken g h = map.get-remove nat_cmp_total t.live g h ∙ ap (λ b. cond b None (held_by t h)) (unsigned_tied h g)

  -- the handle that is given is free in the machine's table too
  pub free_given : IsWhole t → held_by t (given_next t) ≡ None → get (handle_table f t).live (next_handle (handle_table f t) t.freed) ≡ None
  free_given whole free =
      ap (get (records_by f t.live)) (sym (next_given f t whole)) ∙ (get-records_by f t.live (given_next t) ∙ ap (option_map f) free)

module _ {Y : Type 0} (tables : Records (NameTable Y)) (i : ℕ) (t : NameTable Y) (at : get tables i ≡ Some t) where
  pub one_changed : (g : NameTable Y → NameTable Y) → change i g tables ≡ insert tables i (g t)
  unfolding change
  one_changed g = ap (changed tables i g) at

  live_changed : (g : NameTable Y → NameTable Y) → live_in (change i g tables) + size t.live ≡ live_in tables + size (g t).live
  live_changed g =
      let law = sum_by-insert (λ (u : NameTable Y). size u.live) tables i (g t) in
      let was : value_in (λ (u : NameTable Y). size u.live) (get tables i) ≡ size t.live = ap (value_in (λ (u : NameTable Y). size u.live)) at in
      let is : live_in (change i g tables) ≡ live_in (insert tables i (g t)) = ap live_in (one_changed g) in
      omega arith

  pub live_given : (y : Y) → get t.live (next_handle t t.freed) ≡ None → live_in (change i (giving y) tables) ≡ live_in tables + 1
  live_given y new =
      let law = live_changed (giving y) in
      let more : size (giving y t).live ≡ size t.live + 1 = size-insert_new t.live (next_handle t t.freed) y new in
      omega arith

  pub live_taken : (h : ℕ) (y : Y) → get t.live h ≡ Some y → live_in (change i (taking h) tables) + 1 ≡ live_in tables
  live_taken h y live =
      let law = live_changed (taking h) in
      let less : size (taking h t).live + 1 ≡ size t.live = size-remove_present t.live h y live in
      omega arith

  named_at : (g : NameTable Y → NameTable Y) (j h : ℕ) → named_by (change i g tables) j h ≡ cond (j == i) (get (g t).live h) (named_by tables j h)
  named_at g j h = ap (option_and_then (λ (u : NameTable Y). get u.live h)) (ap (λ m. get m j) (one_changed g) ∙ get-insert tables i (g t) j) ∙ by_test (j == i)
    where
      by_test : (b : Bool) → option_and_then (λ (u : NameTable Y). get u.live h) (cond b (Some (g t)) (get tables j)) ≡ cond b (get (g t).live h) (named_by tables j h)
      by_test true = refl
      by_test false = refl

  here : (j h : ℕ) → j ≡ i → named_by tables j h ≡ get t.live h
  here j h same = ap (option_and_then (λ (u : NameTable Y). get u.live h)) (ap (get tables) same ∙ at)

  -- what a handle named it names still
  pub names_on : (y : Y) → get t.live (next_handle t t.freed) ≡ None → (j h : ℕ) (z : Y) → named_by tables j h ≡ Some z → named_by (change i (giving y) tables) j h ≡ Some z
  names_on y new j h z named = named_at (giving y) j h ∙ by_table (cases_eq j i)
    where
      by_handle : j ≡ i → (h ≡ next_handle t t.freed) ⊎ (h ≡ next_handle t t.freed → ⊥) → get (giving y t).live h ≡ Some z
      by_handle same (inl given) = absurd (let none : ◌≡◌ {A = Option Y} None (Some z) = sym new ∙ (ap (get t.live) (sym given) ∙ (sym (here j h same) ∙ named)) in cc)
      by_handle same (inr other) = get-insert t.live (next_handle t t.freed) y h ∙ (ap (λ b. cond b (Some y) (get t.live h)) (ne_eqb h (next_handle t t.freed) other) ∙ (sym (here j h same) ∙ named))

      by_table : (j ≡ i) ⊎ (j ≡ i → ⊥) → cond (j == i) (get (giving y t).live h) (named_by tables j h) ≡ Some z
      by_table (inl same) = ap (λ b. cond b (get (giving y t).live h) (named_by tables j h)) (eq-eqb j i same) ∙ by_handle same (cases_eq h (next_handle t t.freed))
      by_table (inr other) = ap (λ b. cond b (get (giving y t).live h) (named_by tables j h)) (ne_eqb j i other) ∙ named

  -- and the new one names what it was given for
  pub names_new : (y : Y) → named_by (change i (giving y) tables) i (next_handle t t.freed) ≡ Some y
  names_new y =
      named_at (giving y) i (next_handle t t.freed)
      ∙ (ap (λ b. cond b (get (giving y t).live (next_handle t t.freed)) (named_by tables i (next_handle t t.freed))) (eq-eqb i i refl)
      ∙ (get-insert t.live (next_handle t t.freed) y (next_handle t t.freed) ∙ ap (λ b. cond b (Some y) (get t.live (next_handle t t.freed))) (eq-eqb (next_handle t t.freed) (next_handle t t.freed) refl)))

  -- what another handle named it names still
  pub names_left : (g : ℕ) (j h : ℕ) (z : Y) → (j ≡ i → h ≡ g → ⊥) → named_by tables j h ≡ Some z → named_by (change i (taking g) tables) j h ≡ Some z
  names_left g j h z other named = named_at (taking g) j h ∙ by_table (cases_eq j i)
    where
      by_table : (j ≡ i) ⊎ (j ≡ i → ⊥) → cond (j == i) (get (taking g t).live h) (named_by tables j h) ≡ Some z
      by_table (inl same) =
          ap (λ b. cond b (get (taking g t).live h) (named_by tables j h)) (eq-eqb j i same)
          ∙ (get-remove t.live g h ∙ (ap (λ b. cond b None (get t.live h)) (ne_eqb h g (other same)) ∙ (sym (here j h same) ∙ named)))
      by_table (inr differs) = ap (λ b. cond b (get (taking g t).live h) (named_by tables j h)) (ne_eqb j i differs) ∙ named
