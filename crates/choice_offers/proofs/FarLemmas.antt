-- What is offered by how far the thread has come in its op.
use Rattle.core_primitives.specs.Live.{kept_in}
use Rattle.core_primitives.specs.Names.{op_progress_in}
use Rattle.core_primitives.specs.StateView.{Tags}
use Rattle.core_primitives.specs.declared.names.OpProgressId.TheVariants as far
use Rattle.core_primitives.specs.declared.names.OpProgressId.{OpProgressId}
use Rattle.core_primitives.specs.declared.names.SubtaskId.{SubtaskId}
use Rattle.laws_choices.specs.Offers.{cancel_offer, wait_offer}
use Rattle.machine_data.specs.Core.{Core}
use Rattle.machine_data.specs.declared.records.OpProgress.TheVariants as op_progress
use Rattle.machine_data.specs.Maps.{Records, get}
use Rattle.std.proofs.Common.{ap, arith, refl, subst, sym, ◌∙◌}
use Rattle.std.specs.Prelude.{Bool, None, Option, Some, false, if◌then◌else◌, is_some, option_map, suc, true, zero, ℕ, ◌<◌, ◌≡◌}
use Rattle.task_table.specs.declared.id.TableId.{TableId}
use Rattle.task_wait.specs.declared.keys.SetKey.{SetKey}

-- a wait begins, unless it was resumed inside it
pub wait_begins : (n h : ℕ) (s : Core) (tags : Tags) (p : OpProgressId) → ((set : TableId SetKey) → p ≡ far.Waits set → ⊥) → wait_offer n h s op_progress.Fresh ≡ wait_offer n h s (op_progress_in tags p)
wait_begins n h s tags (far.Waits set) other = absurd (other set refl)
wait_begins n h s tags far.Fresh other = refl
wait_begins n h s tags (far.Calls sub) other = refl
wait_begins n h s tags (far.Answered v) other = refl
wait_begins n h s tags (far.Cancels sub) other = refl
wait_begins n h s tags (far.AwaitsEnd sub) other = refl
wait_begins n h s tags far.Suspends other = refl
wait_begins n h s tags far.Yields other = refl

-- and so does a cancel
pub cancel_begins : (n h : ℕ) (s : Core) (tags : Tags) (p : OpProgressId) → ((sub : SubtaskId) → p ≡ far.Cancels sub → ⊥) → ((sub : SubtaskId) → p ≡ far.AwaitsEnd sub → ⊥) → cancel_offer n h s op_progress.Fresh ≡ cancel_offer n h s (op_progress_in tags p)
cancel_begins n h s tags (far.Waits set) other end = refl
cancel_begins n h s tags far.Fresh other end = refl
cancel_begins n h s tags (far.Calls sub) other end = refl
cancel_begins n h s tags (far.Answered v) other end = refl
cancel_begins n h s tags (far.Cancels sub) other end = absurd (other sub refl)
cancel_begins n h s tags (far.AwaitsEnd sub) other end = absurd (end sub refl)
cancel_begins n h s tags far.Suspends other end = refl
cancel_begins n h s tags far.Yields other end = refl

-- what is there has a number, as nothing has the number 0
pub there_positive : {X : Type 0} (m : Records X) (n : ℕ) → get m 0 ≡ None → is_some (get m n) ≡ true → 0 < n
there_positive {X} m zero none is = absurd (let never : false ≡ true = sym (ap (λ (o : Option X). is_some o) none) ∙ is in cc)
there_positive m (suc n) none is = omega arith

-- so has what is read of a number whose record is there
pub read_positive : {X : Type 0} (m : Records X) (o : Option ℕ) (y : ℕ) → get m 0 ≡ None → ((x : ℕ) → o ≡ Some x → is_some (get m x) ≡ true) →
    Some y ≡ option_map (λ x. kept_in m x) o → 0 < y
read_positive m None y none there is = absurd (cc)
read_positive m (Some x) y none there is =
    let kept : kept_in m x ≡ x = ap (λ (b : Bool). if b then x else 0) (there x refl) in
    subst (λ (k : ℕ). 0 < k) (sym (same y (kept_in m x) is ∙ kept)) (there_positive m x none (there x refl))
  where
    same : (a b : ℕ) → Some a ≡ Some b → a ≡ b
    same a b e = cc
