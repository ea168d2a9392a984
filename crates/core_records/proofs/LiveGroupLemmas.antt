-- Which groups of a core are live and tracked, by the records of its groups.
use Rattle.std.proofs.Common.{[], ap, arith, Bool, false, filter, inl, inr, List, map, nat_lt, refl, subst, suc, sym, true, zero, ℕ, ◌<◌, ◌∙◌, ◌∷◌, ◌≡◌, ◌&&◌, ◌||◌}
use Rattle.std.proofs.lemmas.Bool.{cases_lt}
use Rattle.std.specs.Prelude.{is_some, None, Option, Some, vec_capacity, ◌≤◌, ◌⊎◌}
use Rattle.table_lists.specs.Members.{has}
use Rattle.core_records.proofs.Core.{AreEnded, found_record, get-records, group_key, HasNumber, is_tracked, IsMembers-numbers, IsSoundCore, tracked_of, numbers, number_in, record_at, records, SoundTable}
use Rattle.core_records.proofs.TrackedLemmas.{has_filter, known_has}
use Rattle.core_records.specs.declared.{parts.CoreParts.CoreParts}
use Rattle.task_table.proofs.RecordLemmas.{found_record_at}

abbrev pub live_groups : CoreParts → List ℕ
live_groups a = filter (nat_lt a.finished) (numbers (records group_key a.groups.places))

module _ (a : CoreParts) (sound : IsSoundCore a) where
  abbrev live : List ℕ
  live = live_groups a

  pub ended_are : AreEnded a.ended.items (vec_capacity a.ended) live a.made.groups
  unfolding IsSoundCore
  ended_are = sound.ended

  pub groups_sound : SoundTable group_key a.groups a.made.groups
  unfolding IsSoundCore
  groups_sound = sound.tables.groups

  -- it is live where it has a record, and its number is above those that a trap finished
  pub live_found : (n : ℕ) → has n live ≡ (is_some (found_record group_key n a.groups.places) && nat_lt a.finished n)
  live_found n =
      has_filter (nat_lt a.finished) n (numbers (records group_key a.groups.places))
      ∙ ap (λ b. b && nat_lt a.finished n) ((IsMembers-numbers (records group_key a.groups.places)).are n ∙ ap is_some (get-records group_key a.groups.places n))

  -- each that is live was made
  pub live_within : (n : ℕ) → has n live ≡ true → (0 < n) × (n ≤ a.made.groups)
  live_within n there = (above n (sym (live_found n) ∙ there), below (cases_lt a.made.groups n))
    where
      no_record : {X : Type 0} (o : Option ℕ) (b : Bool) → o ≡ None → (is_some o && b) ≡ true → X
      no_record None b none is = absurd (cc)
      no_record (Some j) b none is = absurd (cc)

      above : (m : ℕ) → (is_some (found_record group_key m a.groups.places) && nat_lt a.finished m) ≡ true → 0 < m
      above zero is = no_record (found_record group_key 0 a.groups.places) (nat_lt a.finished 0) groups_sound.above_zero is
      above (suc m) is = omega arith

      below : (a.made.groups < n) ⊎ (n ≤ a.made.groups) → n ≤ a.made.groups
      below (inl more) = no_record (found_record group_key n a.groups.places) (nat_lt a.finished n) (groups_sound.later n more) (sym (live_found n) ∙ there)
      below (inr less) = less

  pub known_within : (n : ℕ) → is_tracked a.ended.items live n ≡ true → (0 < n) × (n ≤ a.made.groups)
  known_within n is = by (has n a.ended.items) refl is
    where
      by : (b : Bool) → has n a.ended.items ≡ b → (b || has n live) ≡ true → (0 < n) × (n ≤ a.made.groups)
      by true there is = ended_are.within n there
      by false out is = live_within n is

  -- it is tracked if it is live or has ended
  pub known_is : (n : ℕ) → has n (tracked_of a.ended.items live a.made.groups) ≡ is_tracked a.ended.items live n
  known_is n = known_has a.ended.items live a.made.groups n (known_within n)

  pub numbers_above_zero : (n : ℕ) → has n (numbers (records group_key a.groups.places)) ≡ true → 0 < n
  numbers_above_zero zero there =
      let never : true ≡ false = sym there ∙ ((IsMembers-numbers (records group_key a.groups.places)).are 0 ∙ ap is_some (get-records group_key a.groups.places 0 ∙ groups_sound.above_zero)) in
      absurd (cc)
  numbers_above_zero (suc m) there = omega arith

  -- no group has the number 0
  pub zero_unknown : has 0 (tracked_of a.ended.items live a.made.groups) ≡ false
  zero_unknown = by (has 0 (tracked_of a.ended.items live a.made.groups)) refl
    where
      by : (b : Bool) → has 0 (tracked_of a.ended.items live a.made.groups) ≡ b → b ≡ false
      by true is = let more = (known_within 0 (sym (known_is 0) ∙ is)).0 in absurd (omega (arith, more))
      by false is = refl

  module _ (g place : ℕ) (record_of : HasNumber group_key a.groups place g) (some : 0 < g) where
    -- a group that has a record is live where its number is above those that a trap finished
    pub live_there : has g live ≡ nat_lt a.finished g
    live_there = live_found g ∙ ap (λ o. is_some o && nat_lt a.finished g) (by (record_at group_key a.groups.places place) refl record_of)
      where
        calls : Option (ℕ × ℕ) → ℕ
        calls None = 0
        calls (Some e) = e.1

        by : (o : Option (ℕ × ℕ)) → record_at group_key a.groups.places place ≡ o → number_in o ≡ g → found_record group_key g a.groups.places ≡ Some (calls o)
        by None at is = absurd (let more = some in let same = is in omega (arith, more, same))
        by (Some e) at is = subst (λ n. found_record group_key n a.groups.places ≡ Some e.1) is (found_record_at group_key a.groups.places place e.0 e.1 groups_sound.apart at)
