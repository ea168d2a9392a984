-- How many members a set has, as the number that is kept, where something leaves one set for another.
use Rattle.core_records.proofs.Core.{ap, ap₂, arith, bare, bare_call, bare_work, Bool, Call, call_key, cond, core_of, count_by-le-length, entries_for, eq-eqb, false, found_record_at, get, get-records, is_in_set, IsSetKept, IsSome, IsSoundCore, item_at, item_of, Join, key_in, length, length-map, mapped, members_of, number_of, Ok, on_item, Option, parts_of, place_at, Placed, placed_as, refl, seen, set_key, set_of, SetKey, size, Some, SoundTable, subst, sym, Table, TableId, true, Work, work_key, ℕ, ◌+◌, ◌-◌, ◌<◌, ◌==◌, ◌^◌, ◌∙◌, ◌≡◌, ◌≤◌}
use Rattle.core_records.specs.declared.{parts.CoreParts.CoreParts, set_records.WaitSet.WaitSet, single.Single.Single}
use Rattle.core_records.proofs.KindLemmas.{item_number, item_stands}
use Rattle.core_records.proofs.ReadLemmas.{set_shown}
use Rattle.core_places.proofs.AlikeLemmas.{number_of_alike}
use Rattle.core_places.proofs.EntryLemmas.{is_the, rejoined_alike, rejoined_each, rejoined_sound}
use Rattle.core_places.proofs.FitLemmas.{records_fit}
use Rattle.core_places.proofs.PutLemmas.{recount, set_is_the}
use Rattle.core_places.specs.Moved.{Alike, joined_set, rejoined, set_named, uncounted}
use Rattle.core_queues.proofs.BareLemmas.{number_positive}

-- something is in a set just where the set is that of its join
pub in_is : (n : ℕ) (j : Join) → is_in_set n j ≡ is_the n (joined_set j)
in_is n (Join.Set x) = refl
in_is n Join.Nowhere = refl
in_is n (Join.Watched m) = refl

module _ (a : CoreParts) (sound : IsSoundCore a) (was is : Option ℕ) (from to : TableId SetKey) (from_is : set_of (seen a) from ≡ set_named was (seen a).core) (to_is : set_of (seen a) to ≡ set_named is (seen a).core) where
  abbrev pub sets_less : Table (Single WaitSet)
  sets_less = rejoined (λ n. n - 1) from.rep from.serial a.sets

  abbrev pub sets_now : Table (Single WaitSet)
  sets_now = rejoined (λ n. n + 1) to.rep to.serial sets_less

  less_sound : SoundTable set_key sets_less a.made.sets
  unfolding IsSoundCore
  less_sound = rejoined_sound (λ n. n - 1) a.sets a.made.sets sound.tables.sets from.rep from.serial

  less_alike : Alike uncounted sets_less a.sets
  unfolding IsSoundCore
  less_alike = rejoined_alike (λ n. n - 1) a.sets a.made.sets sound.tables.sets from.rep from.serial

  pub sets_alike : Alike uncounted sets_now a.sets
  sets_alike = rejoined_alike (λ n. n + 1) sets_less a.made.sets less_sound to.rep to.serial ∙ less_alike

  pub sets_sound : SoundTable set_key sets_now a.made.sets
  sets_sound = rejoined_sound (λ n. n + 1) sets_less a.made.sets less_sound to.rep to.serial

  module _ (r : ℕ) (p : Placed (Single WaitSet)) (at : place_at a.sets r ≡ Some p) where
    set_positive : 0 < p.entry.item.number
    unfolding IsSoundCore
    set_positive = number_positive (λ (x : WaitSet). x.number) (λ (x : WaitSet). x.set) a.sets a.made.sets sound.tables.sets r p at

    set_there : IsSome (get (seen a).core.sets p.entry.item.number)
    unfolding IsSoundCore seen
    set_there = subst IsSome (sym (get-records set_key a.sets.places p.entry.item.number ∙ found_record_at set_key a.sets.places r p.entry.item.number p.entry.item.set sound.tables.sets.apart (ap (key_in set_key) at))) refl

    pub set_was : IsSetKept (core_of (bare (parts_of a))) p.entry.item
    unfolding IsSoundCore
    set_was = sound.whole.counted.sets r p at

    from_number : (p.entry.item.number == number_of set_key a.sets from.rep from.serial) ≡ is_the p.entry.item.number was
    from_number = ap (λ m. p.entry.item.number == m) (sym (set_shown a from) ∙ from_is) ∙ set_is_the was (seen a).core p.entry.item.number set_positive set_there

    to_number : (p.entry.item.number == number_of set_key sets_less to.rep to.serial) ≡ is_the p.entry.item.number is
    to_number = ap (λ m. p.entry.item.number == m) (number_of_alike uncounted set_key (λ e. refl) sets_less a.sets less_alike to.rep to.serial ∙ (sym (set_shown a to) ∙ to_is)) ∙ set_is_the is (seen a).core p.entry.item.number set_positive set_there

  module _ (some : (n : ℕ) → is_the n was ≡ true → 1 ≤ members_of n (core_of (bare (parts_of a)))) where
    -- a set that something leaves has a member
    pub less_fits : (x : WaitSet) → Ok x ≡ item_at item_of a.sets from.rep from.serial → 1 ≤ x.members
    unfolding IsSoundCore
    less_fits x is_x =
        let one = item_stands (λ (x : WaitSet). x.number) (λ (x : WaitSet). x.set) a.sets a.made.sets sound.tables.sets from.rep from.serial x is_x in
        let p = one.0 in
        let n = p.entry.item.number in
        let named : n ≡ number_of set_key a.sets from.rep from.serial = ap (λ (e : Single WaitSet). e.item.number) one.1.1.1 ∙ sym (item_number (λ (x : WaitSet). x.number) (λ (x : WaitSet). x.set) a.sets from.rep from.serial x is_x) in
        let counted = some n (sym (from_number from.rep p one.1.0) ∙ eq-eqb n (number_of set_key a.sets from.rep from.serial) named) in
        let kept = (set_was from.rep p one.1.0).members in
        let entry : p.entry.item.members ≡ x.members = ap (λ (e : Single WaitSet). e.item.members) one.1.1.1 in
        omega (arith, counted, kept, entry)

    -- each set's number is what is counted now
    pub members_kept : (now : ℕ → ℕ) → ((n : ℕ) → now n + cond (is_the n was) 1 0 ≡ members_of n (core_of (bare (parts_of a))) + cond (is_the n is) 1 0) → (r : ℕ) (q : Placed (Single WaitSet)) → place_at sets_now r ≡ Some q → (q.entry.item.members ≡ now q.entry.item.number) × (q.entry.item.entries ≡ entries_for q.entry.item.number (core_of (bare (parts_of a))))
    unfolding IsSoundCore
    members_kept now law r q at =
        let more = rejoined_each (λ n. n + 1) sets_less a.made.sets less_sound to.rep to.serial r q at in
        let less = rejoined_each (λ n. n - 1) a.sets a.made.sets sound.tables.sets from.rep from.serial r more.1.0 more.1.1.0 in
        let p = less.1.0 in
        let x = p.entry.item in
        let one : more.0 ≡ record x { members = cond (x.number == number_of set_key a.sets from.rep from.serial) (x.members - 1) x.members } =
        sym more.1.1.1.0 ∙ (less.1.1.1.1 ∙ ap (λ (y : WaitSet). record y { members = cond (y.number == number_of set_key a.sets from.rep from.serial) (y.members - 1) y.members }) (sym less.1.1.1.0)) in
        let kept = set_was r p less.1.1.0 in
        subst (λ (y : WaitSet). (y.members ≡ now y.number) × (y.entries ≡ entries_for y.number (core_of (bare (parts_of a)))))
        (sym (more.1.1.1.1 ∙ ap (λ (y : WaitSet). record y { members = cond (y.number == number_of set_key sets_less to.rep to.serial) (y.members + 1) y.members }) one)) (
          ap₂ (λ (b d : Bool). cond d (cond b (x.members - 1) x.members + 1) (cond b (x.members - 1) x.members)) (from_number r p less.1.1.0) (to_number r p less.1.1.0)
              ∙ (ap (λ (m : ℕ). cond (is_the x.number is) (cond (is_the x.number was) (m - 1) m + 1) (cond (is_the x.number was) (m - 1) m)) kept.members
              ∙ recount (is_the x.number was) (is_the x.number is) (members_of x.number (core_of (bare (parts_of a)))) (now x.number) (law x.number) (some x.number)),
          kept.entries,
        )

  -- few things are in a set
  few_members : (n : ℕ) → members_of n (core_of (bare (parts_of a))) + 1 < 2 ^ 64
  unfolding IsSoundCore size mapped
  few_members n =
      let s = core_of (bare (parts_of a)) in
      let calls = count_by-le-length (λ (e : ℕ × Call). is_in_set n e.1.join) s.calls.list in
      let works = count_by-le-length (λ (e : ℕ × Work). is_in_set n e.1.join) s.works.list in
      let fit_calls : length s.calls.list ≤ length a.calls.places = subst (λ (k : ℕ). length s.calls.list ≤ k) (length-map a.calls.places (placed_as (on_item bare_call))) (records_fit call_key (bare (parts_of a)).calls.places) in
      let fit_works : length s.works.list ≤ length a.works.places = subst (λ (k : ℕ). length s.works.list ≤ k) (length-map a.works.places (placed_as (on_item bare_work))) (records_fit work_key (bare (parts_of a)).works.places) in
      let places_calls = sound.tables.calls.table.places_fit in
      let places_works = sound.tables.works.table.places_fit in
      omega (arith, calls, works, fit_calls, fit_works, places_calls, places_works)

  pub more_fits : (x : WaitSet) → Ok x ≡ item_at item_of sets_less to.rep to.serial → x.members + 1 < 2 ^ 64
  unfolding IsSoundCore
  more_fits x is_x =
      let one = item_stands (λ (x : WaitSet). x.number) (λ (x : WaitSet). x.set) sets_less a.made.sets less_sound to.rep to.serial x is_x in
      let was = rejoined_each (λ n. n - 1) a.sets a.made.sets sound.tables.sets from.rep from.serial to.rep one.0 one.1.0 in
      let p = was.1.0 in
      let kept = (set_was to.rep p was.1.1.0).members in
      let few = few_members p.entry.item.number in
      let same : p.entry.item.members ≡ was.0.members = ap (λ (y : WaitSet). y.members) was.1.1.1.0 in
      let now : one.0.entry.item.members ≡ cond (was.0.number == number_of set_key a.sets from.rep from.serial) (was.0.members - 1) was.0.members = ap (λ (y : WaitSet). y.members) was.1.1.1.1 in
      let entry : one.0.entry.item.members ≡ x.members = ap (λ (e : Single WaitSet). e.item.members) one.1.1.1 in
      let fewer = smaller (was.0.number == number_of set_key a.sets from.rep from.serial) was.0.members in
      omega (arith, kept, few, same, now, entry, fewer)
    where
      smaller : (b : Bool) (n : ℕ) → cond b (n - 1) n ≤ n
      smaller true n = omega arith
      smaller false n = omega arith
