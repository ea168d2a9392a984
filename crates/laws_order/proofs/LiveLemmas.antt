-- The live works that are polled next, in a map by numbers.
use Rattle.std.proofs.Common.{ap, arith, refl, ◌∙◌}
use Rattle.std.proofs.lemmas.Bool.Decides.{nat_tests}
use Rattle.std.specs.Cmp.{unsigned_tied}
use Rattle.std.specs.FinMap.Entries.{below_all, find as seek, is_sorted}
use Rattle.std.specs.Ordering.{is_lt, nat_cmp}
use Rattle.std.specs.Prelude.{Bool, List, Some, T, [], cond, false, if◌then◌else◌, is_some, nat_lt, true, ℕ, ◌&&◌, ◌<◌, ◌==◌, ◌≡◌, ◌≤◌, ◌∷◌}
use Rattle.std.specs.declared.cmp.Ordering.TheVariants as ordering
use Rattle.machine_data.specs.Core.{Core}
use Rattle.machine_data.specs.Maps.{get}
use Rattle.machine_data.specs.Read.{is_live}
use Rattle.machine_data.specs.declared.records.Work.{Work}
use Rattle.machine_rules.proofs.CallThreads.{found_any}
use Rattle.machine_rules.specs.Works.{first_number, has_moving_work, is_moving, live_after, next_polled}

both_of : (a b : Bool) → T (a && b) → T a × T b
both_of true b p = (tt, p)
both_of false b p = absurd p

less_is : (k j : ℕ) → T (is_lt (nat_cmp k j)) → k < j
less_is k j h = by (nat_lt k j) (k == j) refl h
  where
    by : (b c : Bool) → nat_lt k j ≡ b → T (is_lt (cond b ordering.Less (cond c ordering.Equal ordering.Greater))) → k < j
    by true c is h = grind (arith, nat_tests, is)
    by false true is h = absurd h
    by false false is h = absurd h

below_found : {X : Type 0} (k : ℕ) (es : List (ℕ × X)) (j : ℕ) → T (below_all nat_cmp k es) → is_some (seek nat_cmp j es) ≡ true → k < j
below_found k [] j h there = absurd (cc)
below_found k (e ∷ es) j h there =
    let b = both_of (is_lt (nat_cmp k e.0)) (below_all nat_cmp k es) h in
    let less = less_is k e.0 b.0 in
    let rest = below_found k es j b.1 in
    let same = unsigned_tied j e.0 in
    grind (arith, nat_tests)

first_above : (n : ℕ) (es : List (ℕ × Work)) (i : ℕ) → first_number (live_after n es) ≡ Some i → n < i
first_above n [] i h = absurd (cc)
first_above n (e ∷ es) i h = let rest = first_above n es i in grind (arith, nat_tests)

none_skipped : (n : ℕ) (es : List (ℕ × Work)) (j : ℕ) (w : Work) → T (is_sorted nat_cmp es) → seek nat_cmp j es ≡ Some w → is_live w ≡ true → n < j →
    (i : ℕ) × ((first_number (live_after n es) ≡ Some i) × (i ≤ j))
none_skipped n [] j w sorted at live above = absurd (cc)
none_skipped n (e ∷ es) j w sorted at live above =
    let b = both_of (below_all nat_cmp e.0 es) (is_sorted nat_cmp es) sorted in
    by (is_live e.1 && nat_lt n e.0) refl b.0 (λ rest. none_skipped n es j w b.1 rest live above)
  where
    by : (t : Bool) → (is_live e.1 && nat_lt n e.0) ≡ t → T (below_all nat_cmp e.0 es) → (seek nat_cmp j es ≡ Some w → (i : ℕ) × ((first_number (live_after n es) ≡ Some i) × (i ≤ j))) →
        (i : ℕ) × ((first_number (live_after n (e ∷ es)) ≡ Some i) × (i ≤ j))
    by true is below rest =
        let later = below_found e.0 es j below in
        let same = unsigned_tied j e.0 in
        (e.0, (ap (λ (t : Bool). first_number (if t then e.0 ∷ live_after n es else live_after n es)) is, grind (arith, nat_tests, at)))
    by false is below rest =
        let same = unsigned_tied j e.0 in
        let found : seek nat_cmp j es ≡ Some w = grind (arith, nat_tests, at, live, above, is) in
        let r = rest found in
        (r.0, (ap (λ (t : Bool). first_number (if t then e.0 ∷ live_after n es else live_after n es)) is ∙ r.1.0, r.1.1))

-- the work that is polled next has a number above
pub next_above : (n i : ℕ) (s : Core) → next_polled n s ≡ Some i → n < i
unfolding next_polled
next_above n i s h = first_above n s.works.list i h

-- no live work is passed over
pub next_least : (n j : ℕ) (s : Core) (w : Work) → get s.works j ≡ Some w → is_live w ≡ true → n < j → (i : ℕ) × ((next_polled n s ≡ Some i) × (i ≤ j))
unfolding next_polled get
next_least n j s w at live above = none_skipped n s.works.list j w s.works.sorted at live above

pub moving_found : (s : Core) → has_moving_work s ≡ true → (i : ℕ) × ((w : Work) × ((get s.works i ≡ Some w) × (is_moving w ≡ true)))
unfolding has_moving_work get
moving_found s h = let r = found_any (λ (i : ℕ) (w : Work). is_moving w) s.works.list s.works.sorted h in (r.0, (r.1.0, (r.1.1.0, r.1.1.1)))
