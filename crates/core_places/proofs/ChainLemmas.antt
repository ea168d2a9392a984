-- The chains of the ready members of a set whose number was kept.
use Rattle.core_records.proofs.Core.{ap, arith, bare, Bool, cond, false, found_record, get, get-records, is_some, IsSoundCore, item_at, item_of, kept_in, None, Ok, Option, parts_of, ready_call_chain, ready_work_chain, Records, refl, seen, Set, set_key, Some, subst, sym, true, ℕ, ◌<◌, ◌∙◌, ◌≡◌}
use Rattle.core_records.specs.declared.{parts.CoreParts.CoreParts, set_records.WaitSet.WaitSet, single.Single.Single}
use Rattle.core_records.proofs.KindLemmas.{absent, item_stands}
use Rattle.core_places.proofs.FiledLemmas.{kept_under}
use Rattle.core_queues.proofs.BareLemmas.{number_positive}
use Rattle.core_queues.proofs.CallerLemmas.{none_as}

-- a number that is kept, above 0, is the one that is there
kept_positive : {X : Type 0} (m : Records X) (n : ℕ) → 0 < kept_in m n → kept_in m n ≡ n
kept_positive m n more = by (is_some (get m n)) refl
  where
    by : (b : Bool) → is_some (get m n) ≡ b → kept_in m n ≡ n
    by true is = ap (λ b. cond b n 0) is
    by false is = absurd (let zero : kept_in m n ≡ 0 = ap (λ b. cond b n 0) is in omega (arith, more, zero))

module _ (a : CoreParts) (sound : IsSoundCore a) (x : ℕ) where
  set_gone : (m : ℕ) → m ≡ 0 → m ≡ kept_in (seen a).core.sets x → found_record set_key x a.sets.places ≡ None
  unfolding seen IsSoundCore
  set_gone m zero is = by (found_record set_key x a.sets.places) refl
    where
      by : (o : Option Set) → found_record set_key x a.sets.places ≡ o → found_record set_key x a.sets.places ≡ None
      by None there = there
      by (Some s) there =
          let kept : kept_in (seen a).core.sets x ≡ x = ap (λ o. cond (is_some o) x 0) (get-records set_key a.sets.places x ∙ there) in
          absent s (sym sound.tables.sets.above_zero ∙ (ap (λ n. found_record set_key n a.sets.places) (sym zero ∙ (is ∙ kept)) ∙ there))

  module _ (rep serial : ℕ) (g : WaitSet) (at : Ok g ≡ item_at item_of a.sets rep serial) (m : ℕ) (named : g.number ≡ m) (is : m ≡ kept_in (seen a).core.sets x) where
    same_number : g.number ≡ x
    unfolding IsSoundCore
    same_number =
        let one = item_stands (λ (x : WaitSet). x.number) (λ (x : WaitSet). x.set) a.sets a.made.sets sound.tables.sets rep serial g at in
        let positive : 0 < g.number = subst (λ (e : Single WaitSet). 0 < e.item.number) one.1.1.1 (number_positive (λ (x : WaitSet). x.number) (λ (x : WaitSet). x.set) a.sets a.made.sets sound.tables.sets rep one.0 one.1.0) in
        named ∙ (is ∙ kept_positive (seen a).core.sets x (subst (λ n. 0 < n) (named ∙ is) positive))

    pub ready_calls_is : ready_call_chain (bare (parts_of a)) x ≡ Some g.ready_calls
    unfolding IsSoundCore
    ready_calls_is = ap (ready_call_chain (bare (parts_of a))) (sym same_number) ∙ kept_under (λ (x : WaitSet). x.number) (λ (x : WaitSet). x.set) (λ (x : WaitSet). x.ready_calls) a.sets a.made.sets sound.tables.sets rep serial g at

    pub ready_works_is : ready_work_chain (bare (parts_of a)) x ≡ Some g.ready_works
    unfolding IsSoundCore
    ready_works_is = ap (ready_work_chain (bare (parts_of a))) (sym same_number) ∙ kept_under (λ (x : WaitSet). x.number) (λ (x : WaitSet). x.set) (λ (x : WaitSet). x.ready_works) a.sets a.made.sets sound.tables.sets rep serial g at

  pub ready_calls_none : (m : ℕ) → m ≡ 0 → m ≡ kept_in (seen a).core.sets x → ready_call_chain (bare (parts_of a)) x ≡ None
  ready_calls_none m zero is = none_as (λ (x : WaitSet). x.number) (λ (x : WaitSet). x.set) (λ (x : WaitSet). x.ready_calls) x a.sets.places (set_gone m zero is)

  pub ready_works_none : (m : ℕ) → m ≡ 0 → m ≡ kept_in (seen a).core.sets x → ready_work_chain (bare (parts_of a)) x ≡ None
  ready_works_none m zero is = none_as (λ (x : WaitSet). x.number) (λ (x : WaitSet). x.set) (λ (x : WaitSet). x.ready_works) x a.sets.places (set_gone m zero is)
