-- Who is blocked on a subtask goes on as its event is set.
use Rattle.machine_rules.proofs.Machine.{ap, arith, blocked_on, Bool, Core, Delivery, false, Frees, get, get-change, inl, inr, is_at, is_blocked_on, is_callback_waiter, is_done_host, is_some, is_waiter, is_waiting_on, Join, join_of, Mark, nat_tests, None, numbers, on_call, on_work, Option, option_map_or, Place, place_of, published, push_high, put_high, refl, Scene, set_event, Some, Status, subst, Subtask, sym, Thread, true, unblocked, waits_by_callback, wake, wake_joined, wake_why, waken_by, WakesOne, Walk, Why, ℕ, ◌==◌, ◌∙◌, ◌≡◌}
use Rattle.machine_rules.proofs.{ChainLemmas.Keep, ChainLemmas.keep_stay, SayLemmas.found_none, StandLemmas.set_place_is, WalkMoves.ChosenIn, WalkMoves.IsBlocked, WalkMoves.Spares, WalkMoves.blocked_at, WalkMoves.evented, WalkMoves.published_shifts}

abbrev IsStuck : Subtask → ℕ → Core → Type 0
IsStuck sub n s = place_of n s ≡ Some (Place.Blocked sub)

blocked_none : (sub : Subtask) (n : ℕ) (s : Core) → blocked_on sub s ≡ None → IsStuck sub n s → ⊥
unfolding blocked_on numbers get
blocked_none sub n s none at = by (get s.threads n) refl
  where
    by : (o : Option Thread) → get s.threads n ≡ o → ⊥
    by None is = absurd (grind arith)
    by (Some r) is = found_none (λ k. is_at k s (is_blocked_on sub)) n r s.threads.list is (grind (arith, nat_tests)) none

put_stuck : (sub : Subtask) (n m : ℕ) (y : Why) (t : Core) → IsStuck sub n (put_high m y t) → IsStuck sub n t × ((n == m) ≡ false)
unfolding put_high push_high
put_stuck sub n m y t h = (grind (arith, nat_tests, set_place_is n m (Place.Ready Mark.High y) t), grind (arith, nat_tests, set_place_is n m (Place.Ready Mark.High y) t))

waken_stuck : (sub : Subtask) (n x m : ℕ) (b : Bool) (t : Core) → IsStuck sub n (waken_by b x m t) → IsStuck sub n t
waken_stuck sub n x m true t h = (put_stuck sub n m _ t h).0
waken_stuck sub n x m false t h = (put_stuck sub n m _ t h).0

woken_stuck : (sub : Subtask) (n : ℕ) (j : Join) (w : Option ℕ) (t : Core) → IsStuck sub n (wake_joined j w t) → IsStuck sub n t
unfolding wake
woken_stuck sub n (Join.Set x) None t h = h
woken_stuck sub n (Join.Set x) (Some m) t h = waken_stuck sub n x m (is_callback_waiter m t) t h
woken_stuck sub n _ w t h = h

-- where all are at the same places as in s
pub unblocked_stuck : (sub : Subtask) (s t : Core) → ((n : ℕ) → place_of n t ≡ place_of n s) → (o : Option ℕ) → blocked_on sub s ≡ o → (n : ℕ) →
    IsStuck sub n (unblocked o t) → (m : ℕ) × (IsStuck sub m t × ((n == m) ≡ false))
unblocked_stuck sub s t same None is n h = absurd (blocked_none sub n s is (sym (same n) ∙ h))
unblocked_stuck sub s t same (Some m) is n h = (m, (same m ∙ blocked_at sub s m is, (put_stuck sub n m _ _ h).1))

-- ---- Who waits on its set

woken_put : (x m : ℕ) (b : Bool) (u : Core) → is_some (place_of m u) ≡ true → place_of m (waken_by b x m u) ≡ Some (Place.Ready Mark.High (wake_why x b))
unfolding put_high push_high
woken_put x m true u there = grind (arith, nat_tests, set_place_is m m (Place.Ready Mark.High (Why.Delivery (Delivery.Set x))) u)
woken_put x m false u there = grind (arith, nat_tests, set_place_is m m (Place.Ready Mark.High Why.Resumption) u)

pub wakes_one : (x m : ℕ) (s : Core) → is_waiter x m s ≡ true → place_of m (wake x (Some m) s) ≡ Some (Place.Ready Mark.High (wake_why x (is_callback_waiter m s)))
unfolding wake
wakes_one x m s h = woken_put x m (is_callback_waiter m s) s (grind arith)

unblocked_kept : (sub : Subtask) (o : Option ℕ) (t : Core) (x m : ℕ) → IsBlocked sub o t → is_waiter x m t ≡ true → place_of m (unblocked o t) ≡ place_of m t
unfolding put_high push_high
unblocked_kept sub None t x m at h = refl
unblocked_kept sub (Some k) t x m at h = let b = at k refl in grind (arith, nat_tests, set_place_is m k (Place.Ready Mark.High Why.Resumption) t)

pub published_wakes : (sub : Subtask) (e : Status) (w : Option ℕ) (s : Core) → ChosenIn (join_of sub s) w s → Spares (join_of sub s) w s → (x : ℕ) →
    join_of sub s ≡ Join.Set x → WakesOne x (set_event sub (Some e) s) (published sub e w s)
unfolding published
published_wakes sub e None s chosen spare x is =
    inl (λ n. ap (λ (p : Option Place). option_map_or (is_waiting_on x) p false) ((evented sub (Some e) s).0 n) ∙ spare x is refl n)
published_wakes sub e (Some m) s chosen spare x is =
    let t = set_event sub (Some e) s in
    let u = unblocked (blocked_on sub s) t in
    let waits : is_waiter x m t ≡ true = ap (λ (p : Option Place). option_map_or (is_waiting_on x) p false) ((evented sub (Some e) s).0 m) ∙ chosen x is m refl in
    let kept = unblocked_kept sub (blocked_on sub s) t x m (λ j at. (evented sub (Some e) s).0 j ∙ blocked_at sub s j at) waits in
    inr (
      m,
      (
        waits,
        subst (λ (j : Join). place_of m (wake_joined j (Some m) u) ≡ Some (Place.Ready Mark.High (wake_why x (is_callback_waiter m t)))) (sym is)
            (wakes_one x m u (ap (λ (p : Option Place). option_map_or (is_waiting_on x) p false) kept ∙ waits)
            ∙ ap (λ (p : Option Place). Some (Place.Ready Mark.High (wake_why x (option_map_or waits_by_callback p false)))) kept),
      ),
    )

pub evented_join : (sub : Subtask) (e : Option Status) (s : Core) → join_of sub (set_event sub e s) ≡ join_of sub s
unfolding set_event on_call on_work
evented_join sub e s = grind (arith, nat_tests, get-change)

-- in the primitives of a step
pub published_frees : {a : Scene} {b t : Core} (sub : Subtask) (e : Status) (w : Option ℕ) (s : Core) → b.threads ≡ a.base.threads →
    is_done_host sub s ≡ true → ChosenIn (join_of sub s) w s → Spares (join_of sub s) w s → Keep a b (set_event sub (Some e) s) → Walk a (published sub e w s) t → Frees a t sub
unfolding published
published_frees {b = b} sub e w s home done chosen spare c d = record {
  unblocks = record {
    first = b;
    home = home;
    before = set_event sub (Some e) s;
    after = published sub e w s;
    stays = keep_stay c;
    shifts = published_shifts sub e w s done chosen;
    rest = d;
    freed = λ n h.
        unblocked_stuck sub s (set_event sub (Some e) s) (evented sub (Some e) s).0 (blocked_on sub s) refl n (woken_stuck sub n (join_of sub s) w _ h);
  };
  woken = λ x is. published_wakes sub e w s chosen spare x (sym (evented_join sub (Some e) s) ∙ is);
}
