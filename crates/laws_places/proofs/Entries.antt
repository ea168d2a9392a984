-- Entries that are taken out, entries of works, and new threads, beside a busy thread.
use Rattle.laws_places.proofs.Laws.{[], add_thread, ap, arith, at_place, Bool, by_number, callers_of, Core, Drops, entries, entries-less, Entry, eq_refl, false, fresh_apart, get-insert, has_entry, HasPlace, if◌then◌else◌, is_behind_of, is_entry_of, is_fresh, Left, left_loose, left_placed, less, less_switch, List, Loose, Mark, moves_stand, nat_tests, next_entry, no_time, None, on_thread, one_if, Option, other_place, Place, place_of, popped, promoted, Queues, refl, remove_thread, removed_gone, removed_is, removed_loose, removed_placed, rest_of, says, set_high, set_low, set_place, set_switch, so_again, Some, Stand, subst, switch_adds, switch_entries, sym, T, Thread, times, true, unqueued, Untouched, Watch, Why, why_of, zero_one, ℕ, ◌+◌, ◌==◌, ◌∙◌, ◌∷◌, ◌≡◌, ◌≤◌}

-- ---- Entries are taken out

pub has_stands : (m : ℕ) (es : List Entry) → has_entry m es ≡ true → 1 ≤ entries m es
has_stands m es h = let x = entries-less m m es h in grind (arith, nat_tests)

none_stands : (m : ℕ) (es : List Entry) → has_entry m es ≡ false → entries m es ≡ 0
none_stands m [] h = refl
none_stands m (e ∷ es) h = grind (arith, nat_tests, none_stands m es)

less_same : (m : ℕ) (es : List Entry) → has_entry m es ≡ false → less m es ≡ es
less_same m [] h = refl
less_same m (e ∷ es) h = grind (arith, nat_tests, less_same m es)

less_own : (m : ℕ) (es : List Entry) → entries m es ≤ 1 → entries m (less m es) ≡ 0
less_own m es h = grind (arith, nat_tests, less_same m es, none_stands m es, entries-less m m es)

less_other : (k m : ℕ) (es : List Entry) → (k == m) ≡ false → entries k (less m es) ≡ entries k es
less_other k m es e = grind (arith, nat_tests, less_same m es, entries-less k m es)

-- From s to t all entries of m are gone, and nothing else changes.
pub record Cleared (m : ℕ) (s t : Core) : Type 0 where
  pub places : (k : ℕ) → place_of k t ≡ place_of k s
  pub left : (k : ℕ) → (k == m) ≡ false → Left k s t
  pub own : ((f : ℕ) → says (is_behind_of f) (place_of m s) ≡ 0) → Loose m t

has_one : (m : ℕ) (s : Core) → HasPlace m s → switch_entries m s.queues.switch + entries m s.queues.high + entries m s.queues.low ≤ 1
has_one m s h = grind arith

-- so it is where the queues say so
cleared : (m : ℕ) (s : Core) (q : Queues) → HasPlace m s → switch_entries m q.switch + entries m q.high + entries m q.low ≡ 0 →
    ((k : ℕ) → (k == m) ≡ false → Left k s (record s { queues = q })) → Cleared m s (record s { queues = q })
cleared m s q h none left = record {
  places = λ k. refl;
  left = left;
  own = λ free. let alone : (f : ℕ) → times m (callers_of f s) ≡ 0 = λ f. grind (arith, h.callers f, free f) in
      grind arith;
}

-- its entry is taken out, wherever it is
pub unqueued_cleared : (m : ℕ) (s : Core) → HasPlace m s → Cleared m s (set_switch (less_switch m s.queues.switch) (unqueued m s))
unfolding unqueued set_switch set_high set_low
unqueued_cleared m s h = go (has_entry m s.queues.high) refl
  where
    one : switch_entries m s.queues.switch + entries m s.queues.high + entries m s.queues.low ≤ 1
    one = has_one m s h

    go : (b : Bool) → has_entry m s.queues.high ≡ b → Cleared m s (set_switch (less_switch m s.queues.switch)
        (if b then set_high (less m s.queues.high) s else set_low (less m s.queues.low) s))
    go true e =
        cleared m s _ h (grind (arith, nat_tests, one, has_stands m s.queues.high, less_own m))
        (λ k o. grind (arith, nat_tests, less_other k m))
    go false e =
        cleared m s _ h (grind (arith, nat_tests, one, none_stands m s.queues.high, less_own m))
        (λ k o. grind (arith, nat_tests, less_other k m))

-- as an entry of a thread that is ready
ready_drops : (m : ℕ) (x : Mark) (w : Why) (s : Core) → HasPlace m s → place_of m s ≡ Some (Place.Ready x w) → s.queues.switch ≡ None →
    Drops m (Place.Ready x w) s (unqueued m s)
unfolding unqueued set_high set_low
ready_drops m x w s h at none = grind (arith, nat_tests, none_stands m, has_stands m, entries-less, less_same)

unqueued_switch : (m : ℕ) (s : Core) → (unqueued m s).queues.switch ≡ s.queues.switch
unfolding unqueued set_high set_low
unqueued_switch m s = grind arith

-- ---- The first entry of a mark

-- where the entry is first
abbrev pub First : Mark → Entry → Core → Type 0
First Mark.Switch e s = (n : ℕ) × ((s.queues.switch ≡ Some n) × (e ≡ Entry.Thread n))
First Mark.High e s = s.queues.high ≡ e ∷ rest_of s.queues.high
First Mark.Low e s = s.queues.low ≡ e ∷ rest_of s.queues.low

pub next_first : (s : Core) (x : Mark) (e : Entry) → next_entry s ≡ Some (x, e) → First x e s
unfolding next_entry
next_first s Mark.High e h = grind arith
next_first s Mark.Low e h = grind arith
next_first s Mark.Switch e h = let r = at_place (λ (n : ℕ). true) s.queues.switch (grind arith) in (r.0, (r.1.0, grind arith))

-- the entry of a thread leaves its mark
pub popped_cleared : (x : Mark) (m : ℕ) (s : Core) → First x (Entry.Thread m) s → HasPlace m s →
    Cleared m s (popped x s) × (1 ≤ switch_entries m s.queues.switch + entries m s.queues.high + entries m s.queues.low)
unfolding popped set_switch set_high set_low
popped_cleared Mark.Switch m s f h =
    (cleared m s _ h (grind (arith, nat_tests, has_one m s h)) (λ k o. grind (arith, nat_tests)), grind (arith, nat_tests))
popped_cleared Mark.High m s f h =
    let x = λ (k : ℕ). ap (entries k) f in
    (cleared m s _ h (grind (arith, nat_tests, has_one m s h, x m)) (λ k o. grind (arith, nat_tests, x k)), grind (arith, nat_tests, x m))
popped_cleared Mark.Low m s f h =
    let x = λ (k : ℕ). ap (entries k) f in
    (cleared m s _ h (grind (arith, nat_tests, has_one m s h, x m)) (λ k o. grind (arith, nat_tests, x k)), grind (arith, nat_tests, x m))

rest_same : (k : ℕ) (e : Entry) (es : List Entry) → es ≡ e ∷ rest_of es → is_entry_of k e ≡ false → entries k (rest_of es) ≡ entries k es
rest_same k e es is other = let x = ap (entries k) is in let y = ap one_if other in omega (arith, x, y)

-- that of a work leaves all threads'
pub popped_quiet : (x : Mark) (e : Entry) (s : Core) → First x e s → ((k : ℕ) → is_entry_of k e ≡ false) → Untouched s (popped x s)
unfolding popped set_switch set_high set_low
popped_quiet Mark.Switch e s f other = absurd (subst T (sym (sym (other f.0) ∙ (ap (is_entry_of f.0) f.1.1 ∙ eq_refl f.0))) tt)
popped_quiet Mark.High e s f other = let rest = λ (k : ℕ). rest_same k e s.queues.high f (other k) in grind (arith, rest)
popped_quiet Mark.Low e s f other = let rest = λ (k : ℕ). rest_same k e s.queues.low f (other k) in grind (arith, rest)

-- ---- An entry is promoted

pub promoted_stand : {P : ℕ → Watch} (n : ℕ) (q : Option Place) (m : ℕ) (x : Mark) (w : Why) (s : Core) → (m == n) ≡ false →
    place_of m s ≡ Some (Place.Ready x w) → s.queues.switch ≡ None → Stand P n q [] s → Stand P n q [] (promoted m s)
unfolding promoted set_switch set_place on_thread
promoted_stand {P = P} n q m x w s apart at none st =
    let d = ready_drops m x w s (st.placed m (no_time m n apart)) at none in
    moves_stand n q [] m (Place.Ready x w) (Place.Ready Mark.Switch (why_of m s)) s (unqueued m s) _ d
    (switch_adds m (why_of m s) (Place.Ready x w) (unqueued m s) (d.places m ∙ at) (unqueued_switch m s ∙ none)) at (no_time m n apart)
    (λ so watched. grind (arith, so_again (P m) Mark.Switch x w)) st

-- ---- A start is withdrawn

pub flipped : (n m : ℕ) → (m == n) ≡ false → (n == m) ≡ false
flipped n m e = grind (arith, nat_tests)

pub removed_fresh : (k m : ℕ) (s : Core) → is_fresh (place_of k s) ≡ true → is_fresh (place_of k (remove_thread m s)) ≡ true
removed_fresh k m s h = grind (arith, nat_tests, removed_is k m s)

pub withdrawn_stand : {P : ℕ → Watch} (n : ℕ) (q : Option Place) (m : ℕ) (s : Core) → (m == n) ≡ false → is_fresh (place_of m s) ≡ true →
    Stand P n q [] s → Stand P n q [] (remove_thread m (set_switch (less_switch m s.queues.switch) (unqueued m s)))
withdrawn_stand {P = P} n q m s apart fresh st = record {
  here = other_place n m u (flipped n m apart) ∙ (c.places n ∙ st.here);
  once = st.once;
  loose = λ k h. removed_loose k m u (by_number k m _ (λ e. subst (λ (j : ℕ). Loose j u) (sym e) own)
      (λ e. left_loose k s u (c.left k e) (st.loose k h)));
  there = λ k h. zero_one refl h;
  placed = λ k h. by_number k m _ (λ e. subst (λ (j : ℕ). HasPlace j (remove_thread m u)) (sym e) (removed_gone m u own))
      (λ e. removed_placed k m u e (left_placed k s u (c.left k e) (c.places k) (st.placed k h)));
  kept = λ k h. (refl, grind (arith, nat_tests, removed_is k m u, c.places k, (st.kept k h).1));
}
  where
    u : Core
    u = set_switch (less_switch m s.queues.switch) (unqueued m s)

    c : Cleared m s u
    c = unqueued_cleared m s (st.placed m (no_time m n apart))

    own : Loose m u
    own = c.own (fresh_apart (place_of m s) fresh)

-- ---- A thread more

-- it has the next number, which was no thread's, and behind which nobody was
pub added_stand : {P : ℕ → Watch} (n : ℕ) (q : Option Place) (t : Thread) (s : Core) → (n == s.made.threads + 1) ≡ false →
    t.place ≡ Place.New →
    Stand P n q [] s → Stand P n q [] (add_thread t s)
unfolding add_thread
added_stand {P = P} n q t s apart new st = record {
  here = added_other n apart ∙ st.here;
  once = st.once;
  loose =
      λ k h. let e : (k == s.made.threads + 1) ≡ false = by_number k n _ (λ e. grind (arith, e, apart)) (λ e. zero_one (no_time k n e) h) in
      let l = st.loose k h in grind (arith, nat_tests, get-insert, added_other k e);
  there = λ k h. zero_one refl h;
  placed = λ k h. by_number k (s.made.threads + 1) _ (λ e. subst (λ (j : ℕ). HasPlace j u) (sym e) own) (λ e. other k e (st.placed k h));
  kept = λ k h. (refl, grind (arith, nat_tests, added_other k, gone, here, (st.kept k h).1));
}
  where
    u : Core
    u = add_thread t s

    added_other : (k : ℕ) → (k == s.made.threads + 1) ≡ false → place_of k u ≡ place_of k s
    added_other k e = grind (arith, nat_tests, get-insert)

    here : place_of (s.made.threads + 1) u ≡ Some Place.New
    here = grind (arith, nat_tests, get-insert)

    before : HasPlace (s.made.threads + 1) s
    before = st.placed (s.made.threads + 1) (no_time (s.made.threads + 1) n (flipped (s.made.threads + 1) n apart))

    gone : place_of (s.made.threads + 1) s ≡ None
    gone = grind (arith, before.number)

    own : HasPlace (s.made.threads + 1) u
    own = grind (arith, nat_tests, get-insert)

    other : (k : ℕ) → (k == s.made.threads + 1) ≡ false → HasPlace k s → HasPlace k u
    other k e h = record {
      number = grind (arith, h.number, added_other k e);
      behind = λ f g. grind (arith, h.behind f, added_other k e);
      switch = grind (arith, h.switch, added_other k e);
      high = grind (arith, h.high, added_other k e);
      low = grind (arith, h.low, added_other k e);
      callers = λ f. grind (arith, nat_tests, get-insert, added_other k e, added_other f, h.callers f, h.behind (s.made.threads + 1), here);
    }
