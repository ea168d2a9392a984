-- What is offered of a subtask's join, and of the task event that a thread is given.
use Rattle.core_primitives.specs.Live.{live_join}
use Rattle.laws_choices.specs.Offers.{join_done_offer, join_to_offer, nothing, of_found, unless, wakes, wakes_in, wakes_new}
use Rattle.machine_data.specs.Core.{Core}
use Rattle.machine_data.specs.Read.{event_of, instance_of, is_watched, join_of, set_at}
use Rattle.machine_data.specs.declared.records.Join.{Join}
use Rattle.machine_data.specs.declared.records.Subtask.{Subtask}
use Rattle.machine_data.specs.declared.statuses.Status.{Status}
use Rattle.ops_moves.specs.Idle.{IsJoinThere}
use Rattle.std.proofs.Common.{ap, refl, sym, ◌∙◌}
use Rattle.std.specs.Prelude.{Bool, None, Option, Some, false, if◌then◌else◌, is_some, suc, true, zero, ℕ, ◌≡◌}

-- as contracts see the join of a subtask whose set is there
pub joined_live : (sub : Subtask) (s : Core) → IsJoinThere sub s → wakes_in (live_join (join_of sub s) s) s ≡ wakes_in (join_of sub s) s
joined_live sub s there = by (join_of sub s) refl
  where
    by : (j : Join) → join_of sub s ≡ j → wakes_in (live_join j s) s ≡ wakes_in j s
    by Join.Nowhere is = refl
    by (Join.Watched n) is = refl
    by (Join.Set x) is = ap (λ (b : Bool). wakes (if b then x else 0) s) (there x is)

-- which joins are a thread's own set
pub watched_live : (j : Join) (s : Core) → is_watched (live_join j s) ≡ is_watched j
watched_live Join.Nowhere s = refl
watched_live (Join.Watched n) s = refl
watched_live (Join.Set x) s = refl

module _ (sub : Subtask) (s : Core) (x : Option ℕ) where
  pub watched_none : is_watched (join_of sub s) ≡ true → nothing ≡ join_done_offer sub s x
  watched_none is = sym (ap (λ (b : Bool). unless b (wakes_new (event_of sub s) x s)) is)

  pub no_event : is_watched (join_of sub s) ≡ false → is_some (event_of sub s) ≡ false → nothing ≡ join_done_offer sub s x
  no_event apart none = by (event_of sub s) x none ∙ sym (ap (λ (b : Bool). unless b (wakes_new (event_of sub s) x s)) apart)
    where
      by : (e : Option Status) (y : Option ℕ) → is_some e ≡ false → nothing ≡ wakes_new e y s
      by None y is = refl
      by (Some e) y is = absurd (cc)

pub wakes_joined : (sub : Subtask) (s : Core) (x : ℕ) → is_watched (join_of sub s) ≡ false → is_some (event_of sub s) ≡ true → wakes x s ≡ join_done_offer sub s (Some x)
wakes_joined sub s x apart some = by (event_of sub s) some ∙ sym (ap (λ (b : Bool). unless b (wakes_new (event_of sub s) (Some x) s)) apart)
  where
    by : (e : Option Status) → is_some e ≡ true → wakes x s ≡ wakes_new e (Some x) s
    by None none = absurd (cc)
    by (Some e) there = refl

-- ---- A join

module _ (n : ℕ) (s : Core) (sub : Subtask) where
  no_new : (b : Bool) (e : Option Status) → nothing ≡ unless b (wakes_new e None s)
  no_new true e = refl
  no_new false None = refl
  no_new false (Some e) = refl

  -- to no set
  pub join_zero : (y : ℕ) → y ≡ 0 → nothing ≡ join_to_offer n y s sub
  join_zero zero is = no_new (is_watched (join_of sub s)) (event_of sub s)
  join_zero (suc y) is = absurd (cc)

  -- to what is no set
  pub join_unnamed : (y : ℕ) → (y ≡ 0 → ⊥) → None ≡ set_at (instance_of n s) y s → nothing ≡ join_to_offer n y s sub
  join_unnamed zero some is = absurd (some refl)
  join_unnamed (suc y) some is = ap (λ (o : Option ℕ). of_found o (λ x. join_done_offer sub s (Some x))) is

  pub join_named_set : (x y : ℕ) → (y ≡ 0 → ⊥) → Some x ≡ set_at (instance_of n s) y s → join_done_offer sub s (Some x) ≡ join_to_offer n y s sub
  join_named_set x zero some is = absurd (some refl)
  join_named_set x (suc y) some is = ap (λ (o : Option ℕ). of_found o (λ x. join_done_offer sub s (Some x))) is
