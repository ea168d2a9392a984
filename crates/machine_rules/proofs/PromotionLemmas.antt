-- A promotion moves at most one entry, and keeps the order of all others.
use Rattle.machine_rules.proofs.Machine.{[], ap, arith, Bool, checked, CheckMovesOne, cond, Core, Entry, false, first_entry, first_in, has_entry, if◌then◌else◌, inl, inr, is_entry_of, is_some, less, List, Mark, may_not_suspend, nat_tests, None, not, on_thread, Option, promoted, promoted_first, promoted_unless, Promotes, PromotionMovesOne, refl, set_high, set_low, set_place, set_switch, Some, stand, Takes, true, unqueued, why_of, ℕ, ◌||◌, ◌∷◌, ◌≡◌, ◌⊎◌}

less_takes : (n : ℕ) (es : List Entry) → has_entry n es ≡ true → Takes n es (less n es)
less_takes n [] h = absurd (grind arith)
less_takes n (e ∷ es) h = by_test (is_entry_of n e) refl (less_takes n es) h
  where
    by_test : (b : Bool) → is_entry_of n e ≡ b → (has_entry n es ≡ true → Takes n es (less n es)) → (b || has_entry n es) ≡ true →
        Takes n (e ∷ es) (cond b es (e ∷ less n es))
    by_test true is rest h = record { front = []; back = es; before = grind (arith, nat_tests); after = refl }
    by_test false is rest h =
        let r = rest h in
        record { front = e ∷ r.front; back = r.back; before = ap (λ xs. e ∷ xs) r.before; after = ap (λ xs. e ∷ xs) r.after }

promoted_moves : (n : ℕ) (s : Core) → (has_entry n s.queues.high || has_entry n s.queues.low) ≡ true → s.queues.switch ≡ None →
    Promotes n s (promoted n s)
unfolding promoted unqueued set_switch set_place on_thread set_high set_low
promoted_moves n s h none = by_test (has_entry n s.queues.high) refl h
  where
    by_test : (b : Bool) → has_entry n s.queues.high ≡ b → (b || has_entry n s.queues.low) ≡ true →
        let u = if b then set_high (less n s.queues.high) s else set_low (less n s.queues.low) s in
        Promotes n s (set_switch (Some n) (stand n Mark.Switch (why_of n s) u))
    by_test true is h = record { none_stood = none; stands = refl; moved = inl (less_takes n s.queues.high is, refl) }
    by_test false is h = record { none_stood = none; stands = refl; moved = inr (refl, less_takes n s.queues.low h) }

pub promotion_moves_one : PromotionMovesOne
unfolding promoted_unless
promotion_moves_one n s h = by_switch s.queues.switch refl
  where
    by_switch : (o : Option ℕ) → s.queues.switch ≡ o →
        ((if is_some o then s else promoted n s) ≡ s) ⊎ Promotes n s (if is_some o then s else promoted n s)
    by_switch None is = inr (promoted_moves n s h is)
    by_switch (Some k) is = inl refl

first_is_entry : (i : ℕ) (s : Core) (n : ℕ) (es : List Entry) → first_in i s es ≡ Some n → has_entry n es ≡ true
first_is_entry i s n [] h = grind arith
first_is_entry i s n (e ∷ es) h = grind (arith, nat_tests, first_is_entry i s n es)

pub first_has_entry : (i : ℕ) (s : Core) (n : ℕ) → first_entry i s ≡ Some n → (has_entry n s.queues.high || has_entry n s.queues.low) ≡ true
unfolding first_entry
first_has_entry i s n h = grind (arith, first_is_entry i s n s.queues.high, first_is_entry i s n s.queues.low)

pub check_moves_one : CheckMovesOne
unfolding checked
check_moves_one i s = by_switch (not (may_not_suspend i s)) s.queues.switch refl
  where
    by_first : (o : Option ℕ) → first_entry i s ≡ o → s.queues.switch ≡ None →
        (promoted_first o s ≡ s) ⊎ ((n : ℕ) × Promotes n s (promoted_first o s))
    by_first None is none = inl refl
    by_first (Some n) is none = inr (n, promoted_moves n s (first_has_entry i s n is) none)

    by_switch : (a : Bool) (o : Option ℕ) → s.queues.switch ≡ o →
        let t = if a || is_some o then s else promoted_first (first_entry i s) s in (t ≡ s) ⊎ ((n : ℕ) × Promotes n s t)
    by_switch true o is = inl refl
    by_switch false None is = by_first (first_entry i s) refl is
    by_switch false (Some k) is = inl refl
