-- What an insert and a removal change of a table.
use Rattle.std.proofs.Common.{◌≡◌, ℕ, zero, suc, ◌+◌, ◌-◌, ◌<◌, sym, ap, ◌∙◌, arith, cond, refl}
use Rattle.std.specs.Prelude.{Option, Some, None, is_some}
use Rattle.std.specs.Ordering.{nat_cmp}
use Rattle.std.specs.Cmp.{nat_cmp_total}
use Rattle.std.specs.FinMap as map
use Rattle.task_handles.specs.Handles.{Handles, next_handle, live_count, held_by, with_held, without}

positive : (n : ℕ) → (n ≡ 0 → ⊥) → 0 < n
positive zero h = absurd (h refl)
positive (suc n) h = omega arith

not_none : {X : Type 0} {x : X} → None ≡ Some x → ⊥
not_none e = cc

module _ {X : Type 0} where
  -- an insert of a handle that wasn't live makes one more live
  pub live_count-with_held : (x : X) (t : Handles X) → held_by t (next_handle t) ≡ None → live_count (with_held x t) ≡ live_count t + 1
  live_count-with_held x t free = map.len-insert nat_cmp_total t.live (next_handle t) x ∙ ap (λ (o : Option X). cond (is_some o) (live_count t) (live_count t + 1)) free

  -- a removal of a live handle makes one fewer live
  pub live_count-without : (handle : ℕ) (t : Handles X) (x : X) → held_by t handle ≡ Some x → live_count (without handle t) ≡ live_count t - 1
  live_count-without handle t x held = map.len-remove nat_cmp_total t.live handle ∙ ap (λ (o : Option X). cond (is_some o) (live_count t - 1) (live_count t)) held

  not_live_at : (t : Handles X) (handle : ℕ) (x : X) → held_by t handle ≡ Some x → live_count t ≡ 0 → map.get (map.empty {X = X} {R = nat_cmp}) handle ≡ Some x
  not_live_at t handle x held none = ap (λ m. map.get m handle) (sym (map.empty_of_len t.live none)) ∙ held

  -- a table with a live handle counts at least one
  pub live_count_positive : (t : Handles X) (handle : ℕ) (x : X) → held_by t handle ≡ Some x → 0 < live_count t
  live_count_positive t handle x held = positive (live_count t) (λ none. absurd (not_none (sym (map.get-empty nat_cmp handle) ∙ not_live_at t handle x held none)))
