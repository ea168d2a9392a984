-- Threads and their entries, counted; what the primitives that put a thread do to them.
use Rattle.machine_rules.proofs.Machine.{[], ap, arith, Bool, callers_of, cond, Core, entries, Entry, eq-eqb, eqb-false, eqb-true, false, get-change, has_entry, HasPlace, if◌then◌else◌, is_at_high, is_at_low, is_at_switch, is_at_wait, is_behind_of, is_blocked_on, is_entry_of, is_free, is_fresh, is_there, is_under, le_trans, less, List, Mark, nat_tests, newest, older, on_thread, one_if, Option, option_map, option_map_or, Place, place_of, push_high, push_low, put_high, put_low, refl, says, set_place, Some, subst, Subtask, switch_entries, sym, times, true, Why, ℕ, ◌++◌, ◌+◌, ◌==◌, ◌∙◌, ◌∷◌, ◌≡◌, ◌≢◌, ◌≤◌, ◌⊎◌}

-- ---- Numbers and lists

pub eq_refl : (n : ℕ) → (n == n) ≡ true
eq_refl n = eq-eqb n n refl

pub not_eq : (n m : ℕ) → (n == m) ≡ false → n ≢ m
not_eq n m e = eqb-false n m e

pub is_eq_of : (n m : ℕ) → (n == m) ≡ true → n ≡ m
is_eq_of n m e = eqb-true n m e

-- what holds where the numbers are one, and where they are two
pub by_number : (n m : ℕ) (P : Type 0) → (n ≡ m → P) → ((n == m) ≡ false → P) → P
by_number n m P same other = go (n == m) refl
  where
    go : (b : Bool) → (n == m) ≡ b → P
    go true e = same (is_eq_of n m e)
    go false e = other e

-- likewise, with what each says of a count
pub by_count : (n m : ℕ) (P : Type 0) → (n ≡ m → one_if (n == m) ≡ 1 → P) → ((n == m) ≡ false → one_if (n == m) ≡ 0 → P) → P
by_count n m P same other =
    by_number n m P (λ e. same e (ap (λ k. one_if (n == k)) (sym e) ∙ ap one_if (eq_refl n))) (λ e. other e (ap one_if e))

pub once_or_not : (n : ℕ) → n ≤ 1 → (n ≡ 0) ⊎ (n ≡ 1)
once_or_not n h = grind arith

pub entries-append : (n : ℕ) (es : List Entry) (e : Entry) → entries n (es ++ e ∷ []) ≡ entries n es + one_if (is_entry_of n e)
entries-append n [] e = omega arith
entries-append n (d ∷ es) e = omega (arith, entries-append n es e)

pub times-append : (n : ℕ) (ms : List ℕ) (m : ℕ) → times n (ms ++ m ∷ []) ≡ times n ms + one_if (n == m)
times-append n [] m = omega arith
times-append n (k ∷ ms) m = omega (arith, times-append n ms m)

pub times-newest : (k n : ℕ) (ns : List ℕ) → times k (n ∷ ns) ≡ times k (older n ns) + one_if (k == newest n ns)
times-newest k n [] = omega arith
times-newest k n (m ∷ ns) = omega (arith, times-newest k m ns)

-- the entries without the first one of n
pub entries-less : (k n : ℕ) (es : List Entry) → has_entry n es ≡ true → entries k (less n es) + one_if (k == n) ≡ entries k es
entries-less k n [] h = absurd (grind arith)
entries-less k n (e ∷ es) h = grind (arith, nat_tests, entries-less k n es)

-- ---- Places after a write

pub set_place_is : (k m : ℕ) (p : Place) (s : Core) →
    place_of k (set_place m p s) ≡ cond (k == m) (option_map (λ (q : Place). p) (place_of k s)) (place_of k s)
unfolding set_place on_thread
set_place_is k m p s = grind (arith, nat_tests, get-change)

pub place_written : (m : ℕ) (p q : Place) (s : Core) → place_of m s ≡ Some q → place_of m (set_place m p s) ≡ Some p
place_written m p q s h = grind (arith, nat_tests, set_place_is m m p s)

pub place_kept : (k m : ℕ) (p : Place) (s : Core) → (k == m) ≡ false → place_of k (set_place m p s) ≡ place_of k s
place_kept k m p s h = grind (arith, set_place_is k m p s)

pub set_place_there : (k m : ℕ) (p : Place) (s : Core) → is_there k (set_place m p s) ≡ is_there k s
set_place_there k m p s = grind (arith, set_place_is k m p s)

-- ---- Threads that have no entry and are among no callers

pub record Loose (n : ℕ) (s : Core) : Type 0 where
  pub number : is_there n s ≡ true → n ≤ s.made.threads
  pub switch : switch_entries n s.queues.switch ≡ 0
  pub high : entries n s.queues.high ≡ 0
  pub low : entries n s.queues.low ≡ 0
  pub callers : (f : ℕ) → times n (callers_of f s) ≡ 0

pub zero_one : {A : Type 0} {x : ℕ} → x ≡ 0 → x ≡ 1 → A
zero_one {A = A} h g = absurd (omega (arith, h, g))

-- who is among the callers of f is behind f
pub callers_say : (n f : ℕ) (s : Core) → HasPlace n s → times n (callers_of f s) ≤ says (is_behind_of f) (place_of n s)
callers_say n f s h = grind (arith, h.callers f)

-- ---- Who stays

-- From s to t the thread k has the entries that it had, and is behind whom it was; the same threads are there.
pub record Left (k : ℕ) (s t : Core) : Type 0 where
  pub made : s.made.threads ≤ t.made.threads
  pub there : (f : ℕ) → is_there f t ≡ is_there f s
  pub switch : switch_entries k t.queues.switch ≡ switch_entries k s.queues.switch
  pub high : entries k t.queues.high ≡ entries k s.queues.high
  pub low : entries k t.queues.low ≡ entries k s.queues.low
  pub callers : (f : ℕ) → times k (callers_of f t) ≡ times k (callers_of f s)

pub left_placed : (k : ℕ) (s t : Core) → Left k s t → place_of k t ≡ place_of k s → HasPlace k s → HasPlace k t
left_placed k s t q is h = record {
  number = λ e. le_trans (h.number (sym (q.there k) ∙ e)) q.made;
  behind = λ f e. le_trans (h.behind f (sym (ap (says (is_behind_of f)) is) ∙ e)) q.made;
  switch = grind arith;
  high = grind arith;
  low = grind arith;
  callers = λ f. grind (arith, q.there f, q.callers f, h.callers f);
}

pub left_loose : (k : ℕ) (s t : Core) → Left k s t → Loose k s → Loose k t
left_loose k s t q l = grind arith

-- ---- A state in which n and some others are loose, and all the rest have their places

-- what is watched of a thread: nothing, that it waits for its start or is gone, that it is under that one, or blocked on that subtask, or
-- where a thread inside a wait on that set is
pub data Watch : Type 0 where
  Nothing : Watch
  Awaits : Watch
  Covered : (over : ℕ) → Watch
  Stuck : (on : Subtask) → Watch
  Pauses : (on : ℕ) → Watch

abbrev pub is_watched : Watch → Bool
is_watched Nothing = false
is_watched _ = true

abbrev pub is_so : Watch → Option Place → Bool
is_so Nothing o = true
is_so Awaits o = is_fresh o
is_so (Covered m) o = option_map_or (is_under m) o false
is_so (Stuck sub) o = option_map_or (is_blocked_on sub) o false
is_so (Pauses x) o = option_map_or (is_at_wait x) o false

-- n is at q, or there is no such thread; what is watched is so
pub record Stand (P : ℕ → Watch) (n : ℕ) (q : Option Place) (xs : List ℕ) (s : Core) : Type 0 where
  pub here : place_of n s ≡ q
  pub once : (k : ℕ) → times k (n ∷ xs) ≤ 1
  pub loose : (k : ℕ) → times k (n ∷ xs) ≡ 1 → Loose k s
  pub there : (k : ℕ) → times k xs ≡ 1 → (p : Place) × (place_of k s ≡ Some p)
  pub placed : (k : ℕ) → times k (n ∷ xs) ≡ 0 → HasPlace k s
  pub kept : (k : ℕ) → is_watched (P k) ≡ true → (times k xs ≡ 0) × (is_so (P k) (place_of k s) ≡ true)

-- other threads may be watched
pub watching : {P Q : ℕ → Watch} (n : ℕ) (q : Option Place) (xs : List ℕ) (s : Core) →
    ((k : ℕ) → is_watched (Q k) ≡ true → (times k xs ≡ 0) × (is_so (Q k) (place_of k s) ≡ true)) → Stand P n q xs s → Stand Q n q xs s
watching n q xs s kept st =
    record { here = st.here; once = st.once; loose = st.loose; there = st.there; placed = st.placed; kept = kept }

abbrev pub nobody : ℕ → Watch
nobody k = Nothing

-- x where the numbers are one, else nothing
abbrev pub gain : ℕ → ℕ → ℕ → ℕ
gain k m x = if k == m then x else 0

-- there is a thread with the number, which was given
abbrev pub Given : ℕ → Core → Type 0
Given f s = (is_there f s ≡ true) × (f ≤ s.made.threads)

-- From s to t the thread m comes to the place p, with just what p says, and all else stays. Whom it is put behind is there.
pub record Adds (m : ℕ) (p : Place) (s t : Core) : Type 0 where
  pub made : s.made.threads ≡ t.made.threads
  pub was : is_there m s ≡ true
  pub own : place_of m t ≡ Some p
  pub other : (k : ℕ) → (k == m) ≡ false → place_of k t ≡ place_of k s
  pub behind : (f : ℕ) → is_behind_of f p ≡ true → Given f s
  pub switch : (k : ℕ) → switch_entries k t.queues.switch ≡ switch_entries k s.queues.switch + gain k m (one_if (is_at_switch p))
  pub high : (k : ℕ) → entries k t.queues.high ≡ entries k s.queues.high + gain k m (one_if (is_at_high p))
  pub low : (k : ℕ) → entries k t.queues.low ≡ entries k s.queues.low + gain k m (one_if (is_at_low p))
  pub callers : (k f : ℕ) → times k (callers_of f t) ≡ times k (callers_of f s) + gain k m (one_if (is_behind_of f p))

module _ (m : ℕ) (p : Place) (s t : Core) (a : Adds m p s t) where
  -- the same threads are there
  adds_there : (k : ℕ) → is_there k t ≡ is_there k s
  adds_there k = grind (arith, nat_tests, a.other k, a.own, a.was)

  pub adds_given : (f : ℕ) → Given f s → Given f t
  adds_given f g = (adds_there f ∙ g.0, subst (λ (c : ℕ). f ≤ c) a.made g.1)

  -- the others stay
  adds_left : (k : ℕ) → (k == m) ≡ false → Left k s t
  adds_left k e = grind (arith, nat_tests, adds_there)

  -- the moved thread has its place
  adds_own : Loose m s → HasPlace m t
  adds_own l = record {
    number = λ g. omega (arith, l.number a.was, a.made);
    behind = λ f g. grind (arith, a.own, a.behind f);
    switch = grind (arith, nat_tests, a.switch m);
    high = grind (arith, nat_tests, a.high m);
    low = grind (arith, nat_tests, a.low m);
    callers = λ f. grind (arith, nat_tests, a.callers m f, a.behind f, adds_there f);
  }

  adds_other : (k : ℕ) → (k == m) ≡ false → HasPlace k s → HasPlace k t
  adds_other k e h = left_placed k s t (adds_left k e) (a.other k e) h

  -- a loose thread is put at a place
  pub adds_stand : {P : ℕ → Watch} (n : ℕ) (q : Option Place) (xs : List ℕ) → Stand P n q (m ∷ xs) s → Stand P n q xs t
  adds_stand {P = P} n q xs st = record {
    here = a.other n (by_count n m ((n == m) ≡ false) (λ e x. absurd (omega (arith, st.once n, own n))) (λ e x. e)) ∙ st.here;
    once = λ k. omega (arith, st.once k);
    loose = λ k h. by_count k m _ (λ e x. absurd (omega (arith, st.once k)))
        (λ e x. left_loose k s t (adds_left k e) (st.loose k (omega arith)));
    there = λ k h. by_count k m _ (λ e x. absurd (omega (arith, st.once k)))
        (λ e x. let r = st.there k (omega arith) in (r.0, a.other k e ∙ r.1));
    placed = λ k h. by_count k m (HasPlace k t)
        (λ e x. subst (λ (j : ℕ). Loose j s → HasPlace j t) (sym e) adds_own (st.loose k (omega (arith, st.once k))))
        (λ e x. adds_other k e (st.placed k (omega arith)));
    kept = λ k h. by_count k m _ (λ e x. absurd (omega (arith, (st.kept k h).0)))
        (λ e x. (omega (arith, (st.kept k h).0), ap (is_so (P k)) (a.other k e) ∙ (st.kept k h).1));
  }
    where
      own : (k : ℕ) → one_if (k == k) ≡ 1
      own k = ap one_if (eq_refl k)

-- the thread n itself is put at a place, and each thread has its place
pub adds_all : {P : ℕ → Watch} (n : ℕ) (q : Option Place) (p : Place) (s t : Core) → Adds n p s t → Stand P n q [] s → (k : ℕ) →
    HasPlace k t
adds_all n q p s t a st k =
    by_count k n _ (λ e x. subst (λ (j : ℕ). Loose j s → HasPlace j t) (sym e) (adds_own n p s t a) (st.loose k (omega arith)))
    (λ e x. adds_other n p s t a k e (st.placed k (omega arith)))

-- From s to t the thread m isn't any more where the place p says, and all else stays.
pub record Drops (m : ℕ) (p : Place) (s t : Core) : Type 0 where
  pub made : s.made.threads ≡ t.made.threads
  pub places : (k : ℕ) → place_of k t ≡ place_of k s
  pub switch : (k : ℕ) → switch_entries k s.queues.switch ≡ switch_entries k t.queues.switch + gain k m (one_if (is_at_switch p))
  pub high : (k : ℕ) → entries k s.queues.high ≡ entries k t.queues.high + gain k m (one_if (is_at_high p))
  pub low : (k : ℕ) → entries k s.queues.low ≡ entries k t.queues.low + gain k m (one_if (is_at_low p))
  pub callers : (k f : ℕ) → times k (callers_of f s) ≡ times k (callers_of f t) + gain k m (one_if (is_behind_of f p))

-- From the place p a thread comes to the place r.
pub moves_stand : {P : ℕ → Watch} (n : ℕ) (q : Option Place) (xs : List ℕ) (m : ℕ) (p r : Place) (s u t : Core) → Drops m p s u →
    Adds m r u t →
    place_of m s ≡ Some p → times m (n ∷ xs) ≡ 0 → (is_so (P m) (Some p) ≡ true → is_watched (P m) ≡ true → is_so (P m) (Some r) ≡ true) →
    Stand P n q xs s → Stand P n q xs t
moves_stand {P = P} n q xs m p r s u t drops adds is none so st = record {
  here = stays n (by_count n m _ (λ e x. absurd (grind (arith, nat_tests))) (λ e x. e)) ∙ st.here;
  once = st.once;
  loose = λ k h. left_loose k s t (left k (apart k h)) (st.loose k h);
  there = λ k h. let l = st.there k h in (l.0, stays k (apart k (omega (arith, h, st.once k))) ∙ l.1);
  placed = λ k h. by_number k m _ (λ e. subst (λ (j : ℕ). HasPlace j t) (sym e) (adds_own m r u t adds up))
      (λ e. left_placed k s t (left k e) (stays k e) (st.placed k h));
  kept = λ k h. let was = st.kept k h in
      (was.0, by_number k m _ (λ e. grind (arith, e, ap P e, adds.own, was.1)) (λ e. ap (is_so (P k)) (stays k e) ∙ was.1));
}
  where
    stays : (k : ℕ) → (k == m) ≡ false → place_of k t ≡ place_of k s
    stays k e = adds.other k e ∙ drops.places k

    apart : (k : ℕ) → times k (n ∷ xs) ≡ 1 → (k == m) ≡ false
    apart k h = by_number k m _ (λ e. zero_one none (subst (λ (j : ℕ). times j (n ∷ xs) ≡ 1) e h)) (λ e. e)

    left : (k : ℕ) → (k == m) ≡ false → Left k s t
    left k e = grind (arith, nat_tests, adds_there m r u t adds, drops.places)

    -- the thread, taken up
    up : Loose m u
    up = let was = st.placed m none in record {
      number = grind (arith, drops.places m, was.number);
      switch = grind (arith, nat_tests, drops.switch m, was.switch);
      high = grind (arith, nat_tests, drops.high m, was.high);
      low = grind (arith, nat_tests, drops.low m, was.low);
      callers = λ f. grind (arith, nat_tests, drops.callers m f, was.callers f);
    }

-- nothing is taken up of a thread at a free place
pub free_drops : (m : ℕ) (p : Place) (s : Core) → is_free p ≡ true → Drops m p s s
free_drops m p s free = grind arith

-- ---- The primitives that put a thread

pub put_high_adds : (m : ℕ) (w : Why) (r : Place) (s : Core) → place_of m s ≡ Some r → Adds m (Place.Ready Mark.High w) s (put_high m w s)
unfolding put_high push_high set_place on_thread
put_high_adds m w r s is = grind (arith, nat_tests, get-change, entries-append)

pub put_low_adds : (m : ℕ) (w : Why) (r : Place) (s : Core) → place_of m s ≡ Some r → Adds m (Place.Ready Mark.Low w) s (put_low m w s)
unfolding put_low push_low set_place on_thread
put_low_adds m w r s is = grind (arith, nat_tests, get-change, entries-append)

pub set_place_adds : (m : ℕ) (p r : Place) (s : Core) → is_free p ≡ true → place_of m s ≡ Some r → Adds m p s (set_place m p s)
unfolding set_place on_thread
set_place_adds m p r s free is = grind (arith, nat_tests, get-change)
