-- How many entries a set has, as the number that is kept.
use Rattle.core_records.proofs.Core.{ap, arith, Bool, cases_eq, cond, Delivery, entry_of, entry_put, eq-eqb, Err, false, OpProgress, inl, inr, is_inside_wait, IsSoundCore, item_at, item_in, None, length, ◌≤◌, item_of, keeps_set, mapped-with_entry_same, ne_eqb, number_of, Ok, on_item, Option, option_map_or, Place, place_at, place_at-with_entry, Placed, refl, ResourceTableError, Result, same_Some, set_key, slice_get_past, Some, SoundTable, standing, sym, Table, Thread, true, Why, with_entry, ℕ, ◌==◌, ◌||◌, ◌∙◌, ◌≡◌, ◌⊎◌}
use Rattle.std.proofs.lemmas.List.{length-set}
use Rattle.task_table.specs.Table.{found, of_serial}
use Rattle.core_records.specs.declared.{parts.CoreParts.CoreParts, set_records.WaitSet.WaitSet, single.Single.Single}
use Rattle.core_records.proofs.KindLemmas.{item_number, item_stands, refused_number, table_written}
use Rattle.core_places.specs.Moved.{Alike, entry_set, recounted, rejoined, resumed_set, rewritten, rewritten_by, uncounted}
use Rattle.core_queues.proofs.BareLemmas.{number_positive, one_place}

-- nothing is past the end
pub refused_past : (t : Table (Single WaitSet)) (rep serial : ℕ) → length t.places ≤ 4294967295 → 4294967295 ≤ rep → Err ResourceTableError.NotPresent ≡ item_at item_of t rep serial
unfolding found
refused_past t rep serial few past = ap (λ (o : Option (Placed (Single WaitSet))). item_in item_of (of_serial serial o)) (sym none)
  where
    none : place_at t rep ≡ None
    none = ap (λ (o : Option (Option (Placed (Single WaitSet)))). standing o) (slice_get_past t.places rep (omega (arith, few, past)))

pub no_set_there : (a : CoreParts) → IsSoundCore a → (serial : ℕ) → number_of set_key a.sets 4294967295 serial ≡ 0
unfolding IsSoundCore
no_set_there a sound serial = refused_number (λ (x : WaitSet). x.number) (λ (x : WaitSet). x.set) a.sets 4294967295 serial ResourceTableError.NotPresent (refused_past a.sets 4294967295 serial sound.tables.sets.table.places_fit (omega arith))

-- an id past the end names no set, so that a write of its set leaves all as it is
pub none_past : (f : ℕ → ℕ) (t : Table (Single WaitSet)) (rep serial : ℕ) → length t.places ≤ 4294967295 → 4294967295 ≤ rep → t ≡ recounted f rep serial t
none_past f t rep serial few past = ap (λ (o : Result WaitSet ResourceTableError). rewritten_by (λ x. record x { entries = f x.entries }) rep o t) (refused_past t rep serial few past)

-- the option is this number
abbrev pub is_the : ℕ → Option ℕ → Bool
is_the x o = option_map_or (λ y. x == y) o false

-- a thread has an entry for a set just where the set is that of its place
pub keeps_is : (x : ℕ) (t : Thread) (p : Place) → keeps_set x t p ≡ is_the x (entry_set p t.op_progress)
keeps_is x t (Place.Waiting y b) = refl
keeps_is x t Place.Running = refl
keeps_is x t Place.New = refl
keeps_is x t (Place.Under n) = refl
keeps_is x t (Place.Behind n) = refl
keeps_is x t (Place.Blocked sub) = refl
keeps_is x t Place.Suspended = refl
keeps_is x t (Place.Held Why.Start) = refl
keeps_is x t (Place.Held Why.Resumption) = refl
keeps_is x t (Place.Held (Why.Delivery (Delivery.Set y))) = refl
keeps_is x t (Place.Held (Why.Delivery Delivery.Yield)) = refl
keeps_is x t (Place.Held (Why.Delivery Delivery.Cancel)) = refl
keeps_is x t (Place.Ready m Why.Start) = refl
keeps_is x t (Place.Ready m (Why.Delivery (Delivery.Set y))) = by (x == y)
  where
    by : (b : Bool) → (b || false) ≡ b
    by true = refl
    by false = refl
keeps_is x t (Place.Ready m (Why.Delivery Delivery.Yield)) = refl
keeps_is x t (Place.Ready m (Why.Delivery Delivery.Cancel)) = refl
keeps_is x t (Place.Ready m Why.Resumption) = by t.op_progress
  where
    by : (h : OpProgress) → is_inside_wait x h ≡ is_the x (resumed_set h)
    by (OpProgress.Waits y) = refl
    by OpProgress.Fresh = refl
    by (OpProgress.Calls sub) = refl
    by (OpProgress.Answered v) = refl
    by (OpProgress.Cancels sub) = refl
    by (OpProgress.AwaitsEnd sub) = refl
    by OpProgress.Suspends = refl
    by OpProgress.Yields = refl

-- ---- The table of sets with another number

module _ (f : WaitSet → WaitSet) (blind : (x : WaitSet) → uncounted (f x) ≡ uncounted x) (t : Table (Single WaitSet)) (made : ℕ) (sound : SoundTable set_key t made) (rep serial : ℕ) where
  abbrev SetResult : Type 0
  SetResult = Result WaitSet ResourceTableError

  rewritten_alike : Alike uncounted (rewritten f rep serial t) t
  rewritten_alike = by (item_at item_of t rep serial) refl
    where
      by : (o : SetResult) → item_at item_of t rep serial ≡ o → Alike uncounted (rewritten_by f rep o t) t
      by (Err e) is = refl
      by (Ok x) is =
          let one = item_stands (λ (x : WaitSet). x.number) (λ (x : WaitSet). x.set) t made sound rep serial x (sym is) in
          mapped-with_entry_same (on_item uncounted) t rep (entry_of (f x)) one.0 one.1.0 (ap entry_of (blind x) ∙ sym (ap (on_item uncounted) one.1.1.1))

  rewritten_sound : SoundTable set_key (rewritten f rep serial t) made
  rewritten_sound = by (item_at item_of t rep serial) refl
    where
      by : (o : SetResult) → item_at item_of t rep serial ≡ o → SoundTable set_key (rewritten_by f rep o t) made
      by (Err e) is = sound
      by (Ok x) is = table_written (λ (x : WaitSet). x.number) (λ (x : WaitSet). x.set) t made sound rep serial x (sym is) (f x) (ap (λ (y : WaitSet). y.number) (blind x))

  -- each set is as before, but for the one that is named
  rewritten_each : (r : ℕ) (q : Placed (Single WaitSet)) → place_at (rewritten f rep serial t) r ≡ Some q → (x : WaitSet) × ((p : Placed (Single WaitSet)) × ((place_at t r ≡ Some p) × ((p.entry.item ≡ x) × (q.entry.item ≡ cond (x.number == number_of set_key t rep serial) (f x) x))))
  rewritten_each r q at = by (item_at item_of t rep serial) refl at
    where
      by_place : (x : WaitSet) → Ok x ≡ item_at item_of t rep serial → (r ≡ rep) ⊎ (r ≡ rep → ⊥) → place_at (with_entry rep (entry_of (f x)) t) r ≡ Some q → (y : WaitSet) × ((p : Placed (Single WaitSet)) × ((place_at t r ≡ Some p) × ((p.entry.item ≡ y) × (q.entry.item ≡ cond (y.number == number_of set_key t rep serial) (f y) y))))
      by_place x is (inl here) at =
          let one = item_stands (λ (x : WaitSet). x.number) (λ (x : WaitSet). x.set) t made sound rep serial x is in
          let named = item_number (λ (x : WaitSet). x.number) (λ (x : WaitSet). x.set) t rep serial x is in
          let put : Some (record one.0 { entry = entry_of (f x) }) ≡ Some q =
          ap (entry_put (entry_of (f x))) (sym one.1.0 ∙ ap (place_at t) (sym here))
          ∙ (ap (λ b. cond b (entry_put (entry_of (f x)) (place_at t r)) (place_at t r)) (sym (eq-eqb r rep here)) ∙ (sym (place_at-with_entry t rep r (entry_of (f x))) ∙ at)) in
          (x, (one.0, (ap (place_at t) here ∙ one.1.0, (ap (λ (e : Single WaitSet). e.item) one.1.1.1, sym (ap (λ (p : Placed (Single WaitSet)). p.entry.item) (same_Some _ q put)) ∙ ap (λ b. cond b (f x) x) (sym (eq-eqb x.number (number_of set_key t rep serial) (sym named)))))))
      by_place x is (inr other) at =
          let one = item_stands (λ (x : WaitSet). x.number) (λ (x : WaitSet). x.set) t made sound rep serial x is in
          let named = item_number (λ (x : WaitSet). x.number) (λ (x : WaitSet). x.set) t rep serial x is in
          let there : place_at t r ≡ Some q = ap (λ b. cond b (entry_put (entry_of (f x)) (place_at t r)) (place_at t r)) (sym (ne_eqb r rep other)) ∙ (sym (place_at-with_entry t rep r (entry_of (f x))) ∙ at) in
          let differ : q.entry.item.number ≡ number_of set_key t rep serial → ⊥ = λ same. other (one_place (λ (x : WaitSet). x.number) (λ (x : WaitSet). x.set) t made sound r rep q one.0 there one.1.0 (same ∙ (named ∙ sym (ap (λ (e : Single WaitSet). e.item.number) one.1.1.1)))) in
          (q.entry.item, (q, (there, (refl, ap (λ b. cond b (f q.entry.item) q.entry.item) (sym (ne_eqb q.entry.item.number (number_of set_key t rep serial) differ))))))

      by : (o : SetResult) → item_at item_of t rep serial ≡ o → place_at (rewritten_by f rep o t) r ≡ Some q → (x : WaitSet) × ((p : Placed (Single WaitSet)) × ((place_at t r ≡ Some p) × ((p.entry.item ≡ x) × (q.entry.item ≡ cond (x.number == number_of set_key t rep serial) (f x) x))))
      by (Err e) is at =
          let zero = refused_number (λ (x : WaitSet). x.number) (λ (x : WaitSet). x.set) t rep serial e (sym is) in
          let positive = number_positive (λ (x : WaitSet). x.number) (λ (x : WaitSet). x.set) t made sound r q at in
          (q.entry.item, (q, (at, (refl, ap (λ b. cond b (f q.entry.item) q.entry.item) (sym (ne_eqb q.entry.item.number (number_of set_key t rep serial) (λ same. omega (arith, positive, same, zero))))))))
      by (Ok x) is at = by_place x (sym is) (cases_eq r rep) at

module _ (f : ℕ → ℕ) (t : Table (Single WaitSet)) (made : ℕ) (sound : SoundTable set_key t made) (rep serial : ℕ) where
  -- another number of entries
  pub recounted_alike : Alike uncounted (recounted f rep serial t) t
  recounted_alike = rewritten_alike (λ x. record x { entries = f x.entries }) (λ x. refl) t made sound rep serial

  pub recounted_sound : SoundTable set_key (recounted f rep serial t) made
  recounted_sound = rewritten_sound (λ x. record x { entries = f x.entries }) (λ x. refl) t made sound rep serial

  pub recounted_each : (r : ℕ) (q : Placed (Single WaitSet)) → place_at (recounted f rep serial t) r ≡ Some q → (x : WaitSet) × ((p : Placed (Single WaitSet)) × ((place_at t r ≡ Some p) × ((p.entry.item ≡ x) × (q.entry.item ≡ record x { entries = cond (x.number == number_of set_key t rep serial) (f x.entries) x.entries }))))
  recounted_each r q at =
      let one = rewritten_each (λ x. record x { entries = f x.entries }) (λ x. refl) t made sound rep serial r q at in
      (one.0, (one.1.0, (one.1.1.0, (one.1.1.1.0, one.1.1.1.1 ∙ inside one.0 (one.0.number == number_of set_key t rep serial)))))
    where
      inside : (x : WaitSet) (b : Bool) → cond b (record x { entries = f x.entries }) x ≡ record x { entries = cond b (f x.entries) x.entries }
      inside x true = refl
      inside x false = refl

  -- another number of members
  pub rejoined_alike : Alike uncounted (rejoined f rep serial t) t
  rejoined_alike = rewritten_alike (λ x. record x { members = f x.members }) (λ x. refl) t made sound rep serial

  pub rejoined_sound : SoundTable set_key (rejoined f rep serial t) made
  rejoined_sound = rewritten_sound (λ x. record x { members = f x.members }) (λ x. refl) t made sound rep serial

  pub rejoined_each : (r : ℕ) (q : Placed (Single WaitSet)) → place_at (rejoined f rep serial t) r ≡ Some q → (x : WaitSet) × ((p : Placed (Single WaitSet)) × ((place_at t r ≡ Some p) × ((p.entry.item ≡ x) × (q.entry.item ≡ record x { members = cond (x.number == number_of set_key t rep serial) (f x.members) x.members }))))
  rejoined_each r q at =
      let one = rewritten_each (λ x. record x { members = f x.members }) (λ x. refl) t made sound rep serial r q at in
      (one.0, (one.1.0, (one.1.1.0, (one.1.1.1.0, one.1.1.1.1 ∙ inside one.0 (one.0.number == number_of set_key t rep serial)))))
    where
      inside : (x : WaitSet) (b : Bool) → cond b (record x { members = f x.members }) x ≡ record x { members = cond b (f x.members) x.members }
      inside x true = refl
      inside x false = refl

-- a write of a set leaves the table as long as it was
pub recounted_length : (f : ℕ → ℕ) (rep serial : ℕ) (t : Table (Single WaitSet)) → length (recounted f rep serial t).places ≡ length t.places
unfolding with_entry
recounted_length f rep serial t = by (item_at item_of t rep serial)
  where
    by : (r : Result WaitSet ResourceTableError) → length (rewritten_by (λ x. record x { entries = f x.entries }) rep r t).places ≡ length t.places
    by (Ok x) = length-set t.places rep _
    by (Err e) = refl
