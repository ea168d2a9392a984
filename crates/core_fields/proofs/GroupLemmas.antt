-- Whether a group is tracked, by what is kept of those that have ended.
use Rattle.std.proofs.Common.{[], ap, arith, Bool, false, if◌then◌else◌, inl, inr, List, nat_lt, not, refl, subst, sym, true, ℕ, ◌<◌, ◌==◌, ◌∙◌, ◌∷◌, ◌≡◌, ◌||◌}
use Rattle.std.proofs.lemmas.Bool.{cases_eq, eq-eqb, ne_eqb}
use Rattle.std.specs.List.{list_any}
use Rattle.std.specs.Option.{option_and_then, option_map}
use Rattle.std.specs.Prelude.{None, Option, Some, ◌≤◌}
use Rattle.core_fields.specs.Groups.{HasGroup}
use Rattle.machine_data.specs.declared.records.Work.{Work}
use Rattle.core_records.proofs.Core.{Call, call_group, call_key, bare, bare_call, get, has, HasNumber, HostTaskKey, if_tracked, IsCallNamed, is_tracked, IsSoundCore, IsWorkNamed, item_at, item_of, tracked_in, tracked_work_group, Ok, parts_of, Placed, place_at, seen, some_if_tracked, TableId, work_group, work_of}
use Rattle.core_records.proofs.HomeLemmas.{work_names}
use Rattle.core_records.proofs.TrackedLemmas.{or_false}
use Rattle.core_records.proofs.LiveGroupLemmas.{known_is, live_there, zero_unknown}
use Rattle.core_records.specs.declared.{call_records.GuestTask.GuestTask, parts.CoreParts.CoreParts, single.Single.Single, work_records.WorkRecord.WorkRecord}
use Rattle.core_fields.proofs.CallPlaceLemmas.{call_named, group_at}

same_way : (m n : ℕ) → (m == n) ≡ (n == m)
same_way m n = elim (cases_eq m n) [
  | inl same ↦ eq-eqb m n same ∙ sym (eq-eqb n m (sym same))
  | inr other ↦ ne_eqb m n other ∙ sym (ne_eqb n m (λ is. other (sym is)))
]

-- a test of each number against one, and of that one against each
pub flipped : (g : ℕ) (ns : List ℕ) → list_any (λ m. m == g) ns ≡ has g ns
flipped g [] = refl
flipped g (n ∷ ns) = ap (λ b. b || list_any (λ m. m == g) ns) (same_way n g) ∙ ap (λ b. (g == n) || b) (flipped g ns)

module _ (a : CoreParts) (sound : IsSoundCore a) (g : ℕ) (there : HasGroup g a) where
  -- above the groups that a trap finished each is known that has a record
  pub known_above : a.finished < g → true ≡ has g (tracked_in (parts_of a))
  known_above more =
      let is : nat_lt a.finished g ≡ true = grind (arith, more) in
      sym (known_is a sound g ∙ (ap (λ b. has g a.ended.items || b) (live_there a sound g there.0 there.1.0 there.1.1 ∙ is) ∙ or_true (has g a.ended.items)))
    where
      or_true : (b : Bool) → (b || true) ≡ true
      or_true true = refl
      or_true false = refl

  -- of the others those are that have ended since it was last asked
  pub known_below : g ≤ a.finished → has g a.ended.items ≡ has g (tracked_in (parts_of a))
  known_below less =
      let is : nat_lt a.finished g ≡ false = grind (arith, less) in
      sym (known_is a sound g ∙ (ap (λ b. has g a.ended.items || b) (live_there a sound g there.0 there.1.0 there.1.1 ∙ is) ∙ or_false (has g a.ended.items)))

-- ---- Of a thread and of a work

module _ (a : CoreParts) (sound : IsSoundCore a) where
  pub call_has_group : (place n : ℕ) (is_at : HasNumber call_key a.calls place n) (some : 0 < n) (r : GuestTask) →
      Some r ≡ option_and_then (λ (p : Placed (Single GuestTask)). item_of p.entry) (place_at a.calls place) → HasGroup r.call.group a
  call_has_group place n is_at some r is = let named = call_named a place n is_at some sound r is in (r.group, (named.group, named.positive))

  pub work_has_group : (id : TableId HostTaskKey) (w : WorkRecord) → Ok w ≡ item_at item_of a.works id.rep id.serial → (g : ℕ) → w.work.group ≡ Some g → HasGroup g a
  work_has_group id w is g of = let named = (work_names a sound id w is).group g of in (w.group, named)

  -- what names no thread is of no group
  pub none_known : 0 ≡ if_tracked (tracked_in (parts_of a)) 0
  none_known = zero_if (has 0 (tracked_in (parts_of a)))
    where
      zero_if : (b : Bool) → ◌≡◌ {A = ℕ} 0 (if b then 0 else 0)
      zero_if true = refl
      zero_if false = refl

  -- the group of a work
  pub group_of_work : (id : TableId HostTaskKey) (o : Option ℕ) (w : Work) → Some w ≡ get (seen a).core.works (work_of (seen a) id) → w.group ≡ o → option_and_then (some_if_tracked (tracked_in (parts_of a))) o ≡ tracked_work_group (work_of (seen a) id) (seen a)
  unfolding seen
  group_of_work id o w is of = sym (ap (λ p. option_and_then (some_if_tracked (tracked_in (parts_of a))) (option_and_then (λ (v : Work). v.group) p)) (sym is) ∙ ap (option_and_then (some_if_tracked (tracked_in (parts_of a)))) of)
