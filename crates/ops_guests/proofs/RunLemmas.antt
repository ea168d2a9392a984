-- What a thread that runs, or whose entry was taken, gives the moves beside it.
use Rattle.std.proofs.Common.{arith, ap, refl, subst, sym, ◌∙◌}
use Rattle.std.specs.Option.{option_map_or}
use Rattle.std.specs.Prelude.{Bool, None, Option, Some, [], false, suc, true, zero, ℕ, ◌+◌, ◌==◌, ◌≡◌, ◌≤◌}
use Rattle.task_table.specs.declared.id.TableId.{TableId}
use Rattle.task_wait.specs.declared.keys.ThreadKey.{ThreadKey}
use Rattle.machine_data.specs.Core.{Core}
use Rattle.machine_data.specs.Read.{callers_of, foot_from, foot_of, place_of, under_of}
use Rattle.machine_data.specs.Maps.{size}
use Rattle.machine_data.specs.declared.records.Place.{Place}
use Rattle.machine_data.specs.declared.records.Place.TheVariants as place
use Rattle.machine_data.specs.Moves.{checked, stopped}
use Rattle.ops_moves.specs.Stops.{MayStop}
use Rattle.ops_guests.proofs.BesideLemmas.{checked_stand, is_busy, stopped_stand, under_place}
use Rattle.ops_guests.specs.Running.{Stand}
use Rattle.machine_rules.proofs.StandLemmas.{Loose, by_number, callers_say, eq_refl, is_eq_of}
use Rattle.machine_rules.specs.Places.{HasPlace, entries, is_at_high, is_at_low, is_at_switch, is_behind_of, one_if, says, switch_entries, times}
use Rattle.core_primitives.specs.Apart.{IsApart, IsUnqueued}
use Rattle.core_primitives.specs.StateView.{StateView, on_core, thread_of}

-- ---- Down a strand

-- the thread n is so many steps above f
abbrev pub Above : Core → ℕ → ℕ → ℕ → Type 0
Above s zero f n = f ≡ n
Above s (suc k) f n = (x : ℕ) × ((place_of f s ≡ Some (place.Under x)) × Above s k x n)

-- f is the foot of a strand in which n is
abbrev pub IsFoot : Core → ℕ → ℕ → Type 0
IsFoot s f n = (k : ℕ) × Above s k f n

foot_below : (k : ℕ) (s : Core) (x n : ℕ) → IsFoot s x n → IsFoot s (foot_from k s x) n
foot_below zero s x n up = up
foot_below (suc k) s x n up = go (under_of x s) refl (λ y below. foot_below k s y n below)
  where
    go : (o : Option ℕ) → under_of x s ≡ o → ((y : ℕ) → IsFoot s y n → IsFoot s (foot_from k s y) n) → IsFoot s (option_map_or (foot_from k s) o x) n
    go None e more = up
    go (Some y) e more = more y (suc up.0, (x, (under_place x y s e, up.1)))

pub foot_is : (n : ℕ) (s : Core) → IsFoot s (foot_of n s) n
unfolding foot_of
foot_is n s = foot_below (size s.threads) s n n (0, refl)

-- who is under another one stays there
abbrev pub KeepsUnder : Core → Core → Type 0
KeepsUnder s t = (k x : ℕ) → place_of k s ≡ Some (place.Under x) → place_of k t ≡ Some (place.Under x)

above_kept : (k : ℕ) (s t : Core) (f n : ℕ) → KeepsUnder s t → Above s k f n → Above t k f n
above_kept zero s t f n keeps up = up
above_kept (suc k) s t f n keeps up = (up.0, (keeps f up.0 up.1.0, above_kept k s t up.0 n keeps up.1.1))

pub foot_kept : (s t : Core) (f n : ℕ) → KeepsUnder s t → IsFoot s f n → IsFoot t f n
foot_kept s t f n keeps up = (up.0, above_kept up.0 s t f n keeps up.1)

abbrev IsOnTop : ℕ → Core → Type 0
IsOnTop n s = (x : ℕ) → place_of n s ≡ Some (place.Under x) → ⊥

same_under : (x y : ℕ) (o : Option Place) → o ≡ Some (place.Under x) → o ≡ Some (place.Under y) → x ≡ y
same_under x y o a b = cc

-- two strands with one foot have one top
one_top : (j i : ℕ) (s : Core) (f n m : ℕ) → Above s j f n → Above s i f m → IsOnTop n s → IsOnTop m s → n ≡ m
one_top zero zero s f n m a b p q = sym a ∙ b
one_top zero (suc i) s f n m a b p q = absurd (p b.0 (subst (λ (k : ℕ). place_of k s ≡ Some (place.Under b.0)) a b.1.0))
one_top (suc j) zero s f n m a b p q = absurd (q a.0 (subst (λ (k : ℕ). place_of k s ≡ Some (place.Under a.0)) b a.1.0))
one_top (suc j) (suc i) s f n m a b p q = one_top j i s a.0 n m a.1.1 (subst (λ (k : ℕ). Above s i k m) (same_under b.0 a.0 (place_of f s) b.1.0 a.1.0) b.1.1) p q

busy_on_top : (n : ℕ) (q : Place) (s : Core) → is_busy q ≡ true → place_of n s ≡ Some q → IsOnTop n s
busy_on_top n q s busy at x under = not_busy (subst (λ (p : Place). is_busy p ≡ true) (same_place q (place.Under x) (sym at ∙ under)) busy)
  where
    same_place : (p r : Place) → Some p ≡ Some r → p ≡ r
    same_place p r e = cc

    not_busy : false ≡ true → ⊥
    not_busy e = cc

queued_on_top : (m : ℕ) (s : Core) → 1 ≡ says is_at_switch (place_of m s) → IsOnTop m s
queued_on_top m s e x under = none (e ∙ ap (says is_at_switch) under)
  where
    none : ◌≡◌ {A = ℕ} 1 0 → ⊥
    none h = omega (arith, h)

-- ---- A strand may stop

one_behind : (f g : ℕ) (o : Option Place) → (g == f) ≡ false → says (is_behind_of f) o + says (is_behind_of g) o ≤ 1
one_behind f g (Some (place.Behind h)) e = go (f == h) (g == h) refl refl
  where
    go : (a b : Bool) → (f == h) ≡ a → (g == h) ≡ b → one_if a + one_if b ≤ 1
    go true true p q = absurd (both (sym e ∙ subst (λ (k : ℕ). (k == f) ≡ true) (is_eq_of f h p ∙ sym (is_eq_of g h q)) (eq_refl f)))
      where
        both : false ≡ true → ⊥
        both e = cc
    go true false p q = omega arith
    go false true p q = omega arith
    go false false p q = omega arith
one_behind f g None e = omega arith
one_behind f g (Some place.New) e = omega arith
one_behind f g (Some (place.Ready m w)) e = omega arith
one_behind f g (Some place.Running) e = omega arith
one_behind f g (Some (place.Under c)) e = omega arith
one_behind f g (Some (place.Waiting x c)) e = omega arith
one_behind f g (Some (place.Blocked x)) e = omega arith
one_behind f g (Some (place.Held x)) e = omega arith
one_behind f g (Some place.Suspended) e = omega arith

one_place : (f : ℕ) (o : Option Place) → says (is_behind_of f) o + (says is_at_high o + says is_at_low o) ≤ 1
one_place f o = grind arith

-- where a thread is queued, as its place says
module _ (s : Core) where
  pub callers_queued : (f k : ℕ) → HasPlace k s → times k (callers_of f s) + (entries k s.queues.high + entries k s.queues.low) ≤ 1
  callers_queued f k h =
      let x = callers_say k f s h in
      let y = h.high in
      let z = h.low in
      let o = one_place f (place_of k s) in
      omega (arith, x, y, z, o)

  pub callers_alone : (f g k : ℕ) → (g == f) ≡ false → HasPlace k s → times k (callers_of f s) + times k (callers_of g s) ≤ 1
  callers_alone f g k e h =
      let x = callers_say k f s h in
      let y = callers_say k g s h in
      let o = one_behind f g (place_of k s) e in
      omega (arith, x, y, o)

module _ (n : ℕ) (q : Place) (s : Core) (st : Stand n q [] s) where
  own_loose : Loose n s
  own_loose = st.loose n (let x = ap one_if (eq_refl n) in omega (arith, x))

  other_placed : (k : ℕ) → (k == n) ≡ false → HasPlace k s
  other_placed k e = st.placed k (let x = ap one_if e in omega (arith, x))

  loose_queued : (f k : ℕ) → Loose k s → times k (callers_of f s) + (entries k s.queues.high + entries k s.queues.low) ≤ 1
  loose_queued f k l = let x = l.callers f in let y = l.high in let z = l.low in omega (arith, x, y, z)

  loose_alone : (f g k : ℕ) → Loose k s → times k (callers_of f s) + times k (callers_of g s) ≤ 1
  loose_alone f g k l = let x = l.callers f in let y = l.callers g in omega (arith, x, y)

  -- what is at switch is not the thread itself, and has its place
  switched : (m : ℕ) → s.queues.switch ≡ Some m → (m == n) ≡ false
  switched m at = by_number m n ((m == n) ≡ false) (λ e. absurd (none (sym own_loose.switch ∙ (ap (switch_entries n) at ∙ (ap (λ (k : ℕ). switch_entries n (Some k)) e ∙ ap one_if (eq_refl n)))))) (λ e. e)
    where
      none : ◌≡◌ {A = ℕ} 0 1 → ⊥
      none h = omega (arith, h)

  pub may_stop : (f : ℕ) → is_busy q ≡ true → IsFoot s f n → MayStop f s
  may_stop f busy foot = record {
    unqueued = λ k. by_number k n (times k (callers_of f s) + (entries k s.queues.high + entries k s.queues.low) ≤ 1) (λ e. subst (λ (j : ℕ). times j (callers_of f s) + (entries j s.queues.high + entries j s.queues.low) ≤ 1) (sym e) (loose_queued f n own_loose)) (λ e. callers_queued s f k (other_placed k e));
    alone = λ k g d. by_number k n (times k (callers_of f s) + times k (callers_of g s) ≤ 1) (λ e. subst (λ (j : ℕ). times j (callers_of f s) + times j (callers_of g s) ≤ 1) (sym e) (loose_alone f g n own_loose)) (λ e. callers_alone s f g k d (other_placed k e));
    apart = λ m at. by_number (foot_of m s) f ((foot_of m s == f) ≡ false) (λ e. absurd (not_one m at e)) (λ e. e);
  }
    where
      not_one : (m : ℕ) → s.queues.switch ≡ Some m → foot_of m s ≡ f → ⊥
      not_one m at e =
          let other = switched m at in
          let up = foot_is m s in
          let one = sym (ap one_if (eq_refl m)) ∙ (sym (ap (switch_entries m) at) ∙ (other_placed m other).switch) in
          differ (one_top foot.0 up.0 s f n m foot.1 (subst (λ (k : ℕ). Above s up.0 k m) e up.1) (busy_on_top n q s busy st.here) (queued_on_top m s one)) other
        where
          differ : n ≡ m → (m == n) ≡ false → ⊥
          differ same d = both (sym d ∙ (ap (λ (k : ℕ). k == n) (sym same) ∙ eq_refl n))
            where
              both : false ≡ true → ⊥
              both e = cc

  pub own_unqueued : IsUnqueued n s
  own_unqueued = record { high = own_loose.high; low = own_loose.low }

  pub own_apart : IsApart n s
  own_apart = record { unqueued = own_unqueued; switch = own_loose.switch; behind = own_loose.callers }

-- ---- As contracts see it

module _ (n : TableId ThreadKey) (q : Place) where
  pub stands_on : (f : Core → Core) (s t : StateView) → t ≡ on_core f s → Stand (thread_of s n) q [] (f s.core) → Stand (thread_of t n) q [] t.core
  stands_on f s t e st = subst (λ (v : StateView). Stand (thread_of v n) q [] v.core) (sym e) st

  pub foot_may_stop : (f : TableId ThreadKey) (s : StateView) → is_busy q ≡ true → Stand (thread_of s n) q [] s.core → thread_of s f ≡ foot_of (thread_of s n) s.core → MayStop (thread_of s f) s.core
  foot_may_stop f s busy st e = subst (λ (k : ℕ). MayStop k s.core) (sym e) (may_stop (thread_of s n) q s.core st (foot_of (thread_of s n) s.core) busy (foot_is (thread_of s n) s.core))

  pub stopped_stands : (f : TableId ThreadKey) (s t : StateView) → Stand (thread_of s n) q [] s.core → t ≡ on_core (stopped (thread_of s f)) s → Stand (thread_of t n) q [] t.core
  stopped_stands f s t st e = stands_on (stopped (thread_of s f)) s t e (stopped_stand (thread_of s n) q (thread_of s f) s.core st)

  pub stopped_unqueued : (f : TableId ThreadKey) (s t : StateView) → Stand (thread_of s n) q [] s.core → t ≡ on_core (stopped (thread_of s f)) s → IsUnqueued (thread_of t n) t.core
  stopped_unqueued f s t st e = own_unqueued (thread_of t n) q t.core (stopped_stands f s t st e)

  pub checked_stands : (i : ℕ) (s t : StateView) → Stand (thread_of s n) q [] s.core → t ≡ on_core (checked i) s → Stand (thread_of t n) q [] t.core
  checked_stands i s t st e = stands_on (checked i) s t e (checked_stand (thread_of s n) q i s.core st)
