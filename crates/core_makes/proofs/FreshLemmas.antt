-- A number that was not made yet: no record names it, so that nothing is filed or counted under it.
use Rattle.core_records.proofs.Core.{[], ap, ap₂, AreApart, arith, BlockedOn, Bool, cond, Delivery, EachEntry, eq-eqb, false, found_record, HeldIn, op_progress_target, OpProgress, is_delivery_for, is_in_set, is_inside_wait, is_resumption, IsNamedAt, IsTable, Join, join_target, keeps_set, key_in, Kinds, List, nat_lt, ne_eqb, next_place, None, none_in_records, Option, passing, Place, place_at, place_at-pushed, place_target, Placed, pushed, PutsRecord, PutsRecord-pushed, ready_in, record_at, records, refl, same_Some, Some, Status, subst, sym, Table, Thread, true, UnderOf, WaitsOn, Where, where_at, Why, why_target, ℕ, ◌&&◌, ◌<◌, ◌==◌, ◌||◌, ◌∙◌, ◌∷◌, ◌≡◌, ◌≤◌, StartsIn, held_list}
use Rattle.machine_rules.specs.Places.{is_for_start}
use Rattle.core_records.specs.declared.{single.Single.Single}
use Rattle.core_records.proofs.KeptLemmas.{any_passing}

-- ---- What a new record is found by

module _ {T X Y : Type 0} (number : T → ℕ) (rec : T → X) (chain : T → Y) (t : Table (Single T)) where
  abbrev key : Single T → Option (ℕ × X)
  key e = Some (number e.item, rec e.item)

  abbrev chain_key : Single T → Option (ℕ × Y)
  chain_key e = Some (number e.item, chain e.item)

  record_as : (r n : ℕ) (y : Y) → record_at chain_key t.places r ≡ Some (n, y) → (x : X) × (record_at key t.places r ≡ Some (n, x))
  record_as r n y is = by_place (place_at t r) is
    where
      by_place : (o : Option (Placed (Single T))) → key_in chain_key o ≡ Some (n, y) → (x : X) × (key_in key o ≡ Some (n, x))
      by_place None is = absurd (cc)
      by_place (Some p) is = (rec p.entry.item, ap (λ (m : ℕ). Some (m, rec p.entry.item)) (ap (λ (e : ℕ × Y). e.0) (same_Some (number p.entry.item, chain p.entry.item) (n, y) is)))

  pub apart_as : AreApart key t.places → AreApart chain_key t.places
  apart_as apart = record { one_place = λ r s n x y at_r at_s. let a = record_as r n x at_r in let b = record_as s n y at_s in apart.one_place r s n a.0 b.0 a.1 b.1 }

  none_as : (n : ℕ) (ps : List (Option (Placed (Single T)))) → found_record key n ps ≡ None → found_record chain_key n ps ≡ None
  unfolding found_record
  none_as n [] none = refl
  none_as n (None ∷ ps) none = none_as n ps none
  none_as n (Some p ∷ ps) none = by_test (n == number p.entry.item) none (λ rest. none_as n ps rest)
    where
      by_test : (b : Bool) → cond b (Some (rec p.entry.item)) (found_record key n ps) ≡ None → (found_record key n ps ≡ None → found_record chain_key n ps ≡ None) → cond b (Some (chain p.entry.item)) (found_record chain_key n ps) ≡ None
      by_test true none more = absurd (cc)
      by_test false none more = more none

  module _ (g : T) (table : IsTable t) (apart : AreApart key t.places) (new : found_record key (number g) t.places ≡ None) where
    chain_puts : PutsRecord chain_key t.places (pushed (record { item = g }) t).places (number g) (chain g)
    chain_puts = PutsRecord-pushed chain_key t (record { item = g }) (number g) (chain g) table (apart_as apart) refl (none_as (number g) t.places new)

    -- the new one has its chain, and each other has what it had
    pub chain_new : found_record chain_key (number g) (pushed (record { item = g }) t).places ≡ Some (chain g)
    chain_new = chain_puts.found (number g) ∙ ap (λ b. cond b (Some (chain g)) (found_record chain_key (number g) t.places)) (eq-eqb (number g) (number g) refl)

    pub chain_other : (n : ℕ) → (n ≡ number g → ⊥) → found_record chain_key n (pushed (record { item = g }) t).places ≡ found_record chain_key n t.places
    chain_other n other = chain_puts.found n ∙ ap (λ b. cond b (Some (chain g)) (found_record chain_key n t.places)) (ne_eqb n (number g) other)

-- what holds of each entry and of the new one
pub each_more : {E : Type 0} (Good : E → Type 0) (t : Table (Single E)) (e : E) → IsTable t → EachEntry Good t → Good e → EachEntry Good (pushed (record { item = e }) t)
each_more {E} Good t e table each good rep q at = by_test (rep == next_place t) (sym (place_at-pushed t (record { item = e }) rep table) ∙ at)
  where
    by_test : (b : Bool) → cond b (Some (record { serial = t.given; parent = None; entry = record { item = e } })) (place_at t rep) ≡ Some q → Good q.entry.item
    by_test true is = subst (λ (z : Placed (Single E)). Good z.entry.item) (same_Some _ q is) good
    by_test false is = each rep q is

-- ---- Nothing is counted

module _ {E X : Type 0} (test : X → Bool) (key : E → Option (ℕ × X)) where
  pub none_passing : (ps : List (Option (Placed E))) → ((r : ℕ) (e : ℕ × X) → record_at key ps r ≡ Some e → test e.1 ≡ false) → passing test (records key ps) ≡ 0
  none_passing ps fails = zero_is (passing test (records key ps)) (any_passing test (records key ps) ∙ none_in_records (λ (e : ℕ × X). test e.1) key ps fails)
    where
      zero_is : (n : ℕ) → nat_lt 0 n ≡ false → n ≡ 0
      zero_is ℕ.zero is = refl
      zero_is (ℕ.suc n) is = absurd (let some : nat_lt 0 (ℕ.suc n) ≡ true = grind arith in cc)

-- ---- A set that was not made

abbrev set_in : Where → ℕ
set_in (WaitsOn z) = z
set_in _ = 0

module _ (k : Kinds) (n : ℕ) (new : k.made.sets < n) where
  not_new : (x : ℕ) → x ≤ k.made.sets → n ≡ x → ⊥
  not_new x early same = omega arith

  not_waits : (i : ℕ) (b : Bool) → cond b (StartsIn i) (HeldIn i) ≡ WaitsOn n → ⊥
  not_waits i true same = absurd (cc)
  not_waits i false same = absurd (cc)

  pub waits_on_none : (i : ℕ) (b : Bool) (x : Place) (rep : ℕ) → IsNamedAt k rep (place_target x) → where_at i b x ≡ Some (WaitsOn n) → ⊥
  waits_on_none i b Place.New rep at is = absurd (cc)
  waits_on_none i b (Place.Ready m w) rep at is = absurd (cc)
  waits_on_none i b Place.Running rep at is = absurd (cc)
  waits_on_none i b (Place.Under m) rep at is = absurd (let one = same_Some (UnderOf m) (WaitsOn n) is in cc)
  waits_on_none i b (Place.Behind m) rep at is = absurd (cc)
  waits_on_none i b (Place.Waiting y by_callback) rep at is = not_new y at.0 (sym (ap set_in (same_Some (WaitsOn y) (WaitsOn n) is)))
  waits_on_none i b (Place.Blocked sub) rep at is = absurd (let one = same_Some (BlockedOn sub) (WaitsOn n) is in cc)
  waits_on_none i b (Place.Held w) rep at is = not_waits i (b && is_for_start w) (same_Some (held_list i b w) (WaitsOn n) is)
  waits_on_none i b Place.Suspended rep at is = absurd (cc)

  pub none_ready : (e : Option Status) (j : Join) (rep : ℕ) → IsNamedAt k rep (join_target j) → ready_in e j ≡ Some n → ⊥
  none_ready None j rep at is = absurd (cc)
  none_ready (Some e) Join.Nowhere rep at is = absurd (cc)
  none_ready (Some e) (Join.Set x) rep at is = not_new x at.0 (sym (same_Some x n is))
  none_ready (Some e) (Join.Watched m) rep at is = absurd (cc)

  pub none_in : (j : Join) (rep : ℕ) → IsNamedAt k rep (join_target j) → is_in_set n j ≡ false
  none_in Join.Nowhere rep at = refl
  none_in (Join.Set x) rep at = ne_eqb n x (not_new x at.0)
  none_in (Join.Watched m) rep at = refl

  none_delivered : (w : Why) (rep : ℕ) → IsNamedAt k rep (why_target w) → is_delivery_for n w ≡ false
  none_delivered Why.Start rep at = refl
  none_delivered (Why.Delivery (Delivery.Set x)) rep at = ne_eqb n x (not_new x at.0)
  none_delivered (Why.Delivery Delivery.Yield) rep at = refl
  none_delivered (Why.Delivery Delivery.Cancel) rep at = refl
  none_delivered Why.Resumption rep at = refl

  none_inside : (h : OpProgress) (rep : ℕ) → IsNamedAt k rep (op_progress_target h) → is_inside_wait n h ≡ false
  none_inside OpProgress.Fresh rep at = refl
  none_inside (OpProgress.Waits x) rep at = ne_eqb n x (not_new x at.0)
  none_inside (OpProgress.Calls sub) rep at = refl
  none_inside (OpProgress.Answered v) rep at = refl
  none_inside (OpProgress.Cancels sub) rep at = refl
  none_inside (OpProgress.AwaitsEnd sub) rep at = refl
  none_inside OpProgress.Suspends rep at = refl
  none_inside OpProgress.Yields rep at = refl

  neither : (a b c : Bool) → a ≡ false → c ≡ false → (a || (b && c)) ≡ false
  neither a true c no_a no_c = ap₂ (λ (x y : Bool). x || (true && y)) no_a no_c
  neither a false c no_a no_c = ap (λ (x : Bool). x || false) no_a

  pub none_keeps : (t : Thread) (state_target op_target : ℕ) → IsNamedAt k state_target (place_target t.place) → IsNamedAt k op_target (op_progress_target t.op_progress) → keeps_set n t t.place ≡ false
  none_keeps t state_target op_target at far = by_place t.place at
    where
      by_place : (x : Place) → IsNamedAt k state_target (place_target x) → keeps_set n t x ≡ false
      by_place Place.New at = refl
      by_place (Place.Ready m w) at = neither (is_delivery_for n w) (is_resumption w) (is_inside_wait n t.op_progress) (none_delivered w state_target at) (none_inside t.op_progress op_target far)
      by_place Place.Running at = refl
      by_place (Place.Under m) at = refl
      by_place (Place.Behind m) at = refl
      by_place (Place.Waiting y by_callback) at = ne_eqb n y (not_new y at.0)
      by_place (Place.Blocked sub) at = refl
      by_place (Place.Held w) at = none_delivered w state_target at
      by_place Place.Suspended at = refl
