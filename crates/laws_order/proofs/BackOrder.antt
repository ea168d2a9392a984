-- An item that is in hand is put back at the end of high or low: order stays.
use Rattle.laws_order.proofs.StayLemmas.{PlacesFit, places_in_order}
use Rattle.laws_order.proofs.QuietLemmas.{put_others, put_place}
use Rattle.laws_order.proofs.PieceLemmas.{placing_counted}
use Rattle.laws_order.specs.KeptOrder.{BackInOrder, put_back}
use Rattle.laws_order.specs.Pieces.{InOrderForAnyMain, SameInstances, state_in}
use Rattle.std.proofs.Common.{ap, arith, inl, inr, refl, subst, sym, ⊎_elim, ◌∙◌}
use Rattle.std.proofs.lemmas.Bool.Decides.{nat_tests}
use Rattle.std.specs.Option.{option_map_or}
use Rattle.std.specs.Prelude.{Bool, List, None, Option, Some, [], false, if◌then◌else◌, is_some, option_and_then, suc, true, zero, ℕ, ◌+◌, ◌++◌, ◌==◌, ◌∷◌, ◌≡◌, ◌⊎◌}
use Rattle.laws_states.proofs.WakeCounts.{woken_place}
use Rattle.laws_states.specs.Order.{Awake, InOrder, is_delivered, is_open, set_of_place, stands}
use Rattle.laws_states.specs.WakeLaw.{goes_on_at, goes_on_within}
use Rattle.machine_data.specs.Core.{Core, Unscripted}
use Rattle.machine_data.specs.Moves.{put_high, put_low}
use Rattle.machine_data.specs.Read.{callers_of, event_of, op_progress_of, is_waiting_on, place_of, undelivered_end}
use Rattle.machine_data.specs.Write.{on_thread, push_high, push_low, set_place}
use Rattle.machine_data.specs.declared.component.Component.{Component}
use Rattle.machine_data.specs.declared.records.Entry.{Entry}
use Rattle.machine_data.specs.declared.records.OpProgress.{OpProgress}
use Rattle.machine_data.specs.declared.records.Place.{Place}
use Rattle.machine_data.specs.declared.records.Subtask.{Subtask}
use Rattle.machine_data.specs.declared.records.Turn.{Turn}
use Rattle.machine_data.specs.declared.records.Why.{Why}
use Rattle.machine_data.specs.declared.statuses.Mark.{Mark}
use Rattle.machine_rules.proofs.PlacingLemmas.{placing_shifted, shifted_far}
use Rattle.machine_rules.proofs.StandLemmas.{by_number, entries-append}
use Rattle.machine_rules.specs.Places.{HasPlace, Placed, entries, is_at_high, is_at_low, is_at_switch, is_at_wait, is_behind_of, is_for_start, is_fresh, is_inside, is_there, one_if, says, switch_entries, times}
use Rattle.machine_rules.specs.Works.{is_ended_work}
use Rattle.machine_rules.specs.Primitives.{Put, placed_as, put_at}

stands_end : (test : Entry → Bool) (es : List Entry) (e : Entry) → test e ≡ false → stands test (es ++ e ∷ []) ≡ stands test es
stands_end test [] e none = grind (arith, none)
stands_end test (x ∷ es) e none = ap (λ (k : ℕ). one_if (test x) + k) (stands_end test es e none)

-- the entry of n at the mark
abbrev held : ℕ → Mark → Core → Core
held n m s = put_back (Some (m, Entry.Thread n)) s

-- the thread has an entry
abbrev is_queued_place : Place → Bool
is_queued_place (Place.Ready m w) = true
is_queued_place p = false

queued_inside : (q : Place) (far : OpProgress) → is_queued_place q ≡ true → is_inside q far ≡ true
queued_inside (Place.Ready m w) far is = refl
queued_inside q far is = absurd (grind (arith, is))

event_same : (sub : Subtask) (s t : Core) → undelivered_end (event_of sub (placed_as t s)) ≡ undelivered_end (event_of sub s)
event_same (Subtask.Guest k) s t = refl
event_same (Subtask.Host i) s t = refl

ended_same : (sub : Subtask) (s t : Core) → is_ended_work sub (placed_as t s) ≡ is_ended_work sub s
ended_same (Subtask.Guest k) s t = refl
ended_same (Subtask.Host i) s t = refl

callers_same : (e : Mark) → (e ≡ Mark.Switch → ⊥) → (n : ℕ) (w : Why) (s : Core) (f j : ℕ) → times j (callers_of f (put_at e n w s)) ≡ times j (callers_of f s)
unfolding put_high put_low push_high push_low set_place on_thread
callers_same Mark.High wrong n w s f j = refl
callers_same Mark.Low wrong n w s f j = refl
callers_same Mark.Switch wrong n w s f j = absurd (wrong refl)

-- the entries of a thread once n has one more at the end
abbrev Counted : ℕ → Core → Type 0
Counted j t = (switch_entries j t.queues.switch ≡ says is_at_switch (place_of j t)) × ((entries j t.queues.high ≡ says is_at_high (place_of j t)) × (entries j t.queues.low ≡ says is_at_low (place_of j t)))

high_queues : (n : ℕ) (w : Why) (s : Core) → ((put_high n w s).queues.switch ≡ s.queues.switch) × (((put_high n w s).queues.high ≡ s.queues.high ++ Entry.Thread n ∷ []) × ((put_high n w s).queues.low ≡ s.queues.low))
unfolding put_high push_high set_place on_thread
high_queues n w s = (refl, (refl, refl))

low_queues : (n : ℕ) (w : Why) (s : Core) → ((put_low n w s).queues.switch ≡ s.queues.switch) × (((put_low n w s).queues.high ≡ s.queues.high) × ((put_low n w s).queues.low ≡ s.queues.low ++ Entry.Thread n ∷ []))
unfolding put_low push_low set_place on_thread
low_queues n w s = (refl, (refl, refl))

-- how often a thread is at each mark, where n has no entry
abbrev Without : ℕ → ℕ → Core → Type 0
Without n j s = (switch_entries j s.queues.switch ≡ (if j == n then 0 else says is_at_switch (place_of j s)))
    × ((entries j s.queues.high ≡ (if j == n then 0 else says is_at_high (place_of j s))) × (entries j s.queues.low ≡ (if j == n then 0 else says is_at_low (place_of j s))))

marks_at : (e : Mark) → (e ≡ Mark.Switch → ⊥) → (n : ℕ) (w : Why) (s : Core) (j : ℕ) → Without n j s →
    place_of n (put_at e n w s) ≡ Some (Place.Ready e w) → ((j == n) ≡ false → place_of j (put_at e n w s) ≡ place_of j s) → Counted j (put_at e n w s)
marks_at Mark.High wrong n w s j a own rest =
    let end = entries-append j s.queues.high (Entry.Thread n) in
    let q = high_queues n w s in
    let x = ap (λ (o : Option ℕ). switch_entries j o) q.0 ∙ a.0 in
    let y = ap (λ (es : List Entry). entries j es) q.1.0 ∙ (end ∙ ap (λ (k : ℕ). k + one_if (j == n)) a.1.0) in
    let z = ap (λ (es : List Entry). entries j es) q.1.1 ∙ a.1.1 in
    by_number j n _
    (λ is. let own_j = subst (λ (k : ℕ). place_of k (put_high n w s) ≡ Some (Place.Ready Mark.High w)) (sym is) own in
    (grind (arith, nat_tests, x, own_j, is), (grind (arith, nat_tests, y, own_j, is), grind (arith, nat_tests, z, own_j, is))))
    (λ apart. let r = rest apart in (grind (arith, nat_tests, x, r, apart), (grind (arith, nat_tests, y, r, apart), grind (arith, nat_tests, z, r, apart))))
marks_at Mark.Low wrong n w s j a own rest =
    let end = entries-append j s.queues.low (Entry.Thread n) in
    let q = low_queues n w s in
    let x = ap (λ (o : Option ℕ). switch_entries j o) q.0 ∙ a.0 in
    let y = ap (λ (es : List Entry). entries j es) q.1.0 ∙ a.1.0 in
    let z = ap (λ (es : List Entry). entries j es) q.1.1 ∙ (end ∙ ap (λ (k : ℕ). k + one_if (j == n)) a.1.1) in
    by_number j n _
    (λ is. let own_j = subst (λ (k : ℕ). place_of k (put_low n w s) ≡ Some (Place.Ready Mark.Low w)) (sym is) own in
    (grind (arith, nat_tests, x, own_j, is), (grind (arith, nat_tests, y, own_j, is), grind (arith, nat_tests, z, own_j, is))))
    (λ apart. let r = rest apart in (grind (arith, nat_tests, x, r, apart), (grind (arith, nat_tests, y, r, apart), grind (arith, nat_tests, z, r, apart))))
marks_at Mark.Switch wrong n w s j a own rest = absurd (wrong refl)

stands_put : (test : Entry → Bool) (e : Mark) → (e ≡ Mark.Switch → ⊥) → (n : ℕ) (w : Why) (s : Core) → test (Entry.Thread n) ≡ false →
    (stands test (put_at e n w s).queues.high ≡ stands test s.queues.high) × (stands test (put_at e n w s).queues.low ≡ stands test s.queues.low)
unfolding put_high put_low push_high push_low set_place on_thread
stands_put test Mark.High wrong n w s none = (stands_end test s.queues.high (Entry.Thread n) none, refl)
stands_put test Mark.Low wrong n w s none = (refl, stands_end test s.queues.low (Entry.Thread n) none)
stands_put test Mark.Switch wrong n w s none = absurd (wrong refl)

stands_held : (test : Entry → Bool) (d : Mark) (n : ℕ) (s : Core) → test (Entry.Thread n) ≡ false →
    (stands test (held n d s).queues.high ≡ stands test s.queues.high) × (stands test (held n d s).queues.low ≡ stands test s.queues.low)
stands_held test Mark.Switch n s none = (refl, refl)
stands_held test Mark.High n s none = (grind (arith, none), refl)
stands_held test Mark.Low n s none = (refl, grind (arith, none))

module _ (c : Component) (p : Turn) (going : is_open p ≡ true) (m d : Mark) (n : ℕ) (w : Why) (s : Core) (at : place_of n s ≡ Some (Place.Ready d w))
    (low : m ≡ Mark.Switch → ⊥) (plain : is_for_start w ≡ false) (free : d ≡ Mark.Switch → s.queues.switch ≡ None) (h : InOrderForAnyMain c p (held n d s)) where
  abbrev u : Core
  u = held n d s

  abbrev t : Core
  t = put_at m n w s

  -- all but entries and places as in s
  abbrev v : Core
  v = placed_as t s

  o : InOrder c (state_in Unscripted p u)
  o = h Unscripted

  now : place_of n t ≡ Some (Place.Ready m w)
  now = put_place m n w s low (Place.Ready d w) at

  others : (j : ℕ) → (j == n) ≡ false → place_of j t ≡ place_of j s
  others j apart = put_others m n w s low j apart

  -- ---- Entries

  -- how often a thread is at each mark without the entry in hand
  alone : (j : ℕ) → (switch_entries j s.queues.switch ≡ (if j == n then 0 else says is_at_switch (place_of j s)))
      × ((entries j s.queues.high ≡ (if j == n then 0 else says is_at_high (place_of j s))) × (entries j s.queues.low ≡ (if j == n then 0 else says is_at_low (place_of j s))))
  alone j = by d at free (o.in_place.placed j)
    where
      by : (e : Mark) → place_of n s ≡ Some (Place.Ready e w) → (e ≡ Mark.Switch → s.queues.switch ≡ None) → HasPlace j (held n e s) →
          (switch_entries j s.queues.switch ≡ (if j == n then 0 else says is_at_switch (place_of j s)))
          × ((entries j s.queues.high ≡ (if j == n then 0 else says is_at_high (place_of j s))) × (entries j s.queues.low ≡ (if j == n then 0 else says is_at_low (place_of j s))))
      by Mark.Switch at none q = by_number j n _
          (λ is. let a = q.switch in let b = q.high in let e = q.low in let f = none refl in (grind (arith, nat_tests, f, is), (grind (arith, nat_tests, b, at, is), grind (arith, nat_tests, e, at, is))))
          (λ apart. let a = q.switch in let b = q.high in let e = q.low in let f = none refl in (grind (arith, nat_tests, a, f, apart), (grind (arith, nat_tests, b, apart), grind (arith, nat_tests, e, apart))))
      by Mark.High at none q = by_number j n _
          (λ is. let a = q.switch in let b = q.high in let e = q.low in (grind (arith, nat_tests, a, at, is), (grind (arith, nat_tests, b, at, is), grind (arith, nat_tests, e, at, is))))
          (λ apart. let a = q.switch in let b = q.high in let e = q.low in (grind (arith, nat_tests, a, apart), (grind (arith, nat_tests, b, apart), grind (arith, nat_tests, e, apart))))
      by Mark.Low at none q = by_number j n _
          (λ is. let a = q.switch in let b = q.high in let e = q.low in (grind (arith, nat_tests, a, at, is), (grind (arith, nat_tests, b, at, is), grind (arith, nat_tests, e, at, is))))
          (λ apart. let a = q.switch in let b = q.high in let e = q.low in (grind (arith, nat_tests, a, apart), (grind (arith, nat_tests, b, apart), grind (arith, nat_tests, e, apart))))

  -- a reading that hangs on no mark of the entry
  same_test : {Y : Type 0} (r : Option Place → Y) → r (Some (Place.Ready m w)) ≡ r (Some (Place.Ready d w)) → (j : ℕ) → r (place_of j v) ≡ r (place_of j s)
  same_test r same j = by_number j n _
      (λ is. ap (λ (k : ℕ). r (place_of k t)) is ∙ (ap r now ∙ (same ∙ (sym (ap r at) ∙ ap (λ (k : ℕ). r (place_of k s)) (sym is)))))
      (λ apart. ap r (others j apart))

  -- where a thread is that has no entry
  was_at : (j : ℕ) (q : Place) → is_queued_place q ≡ false → place_of j v ≡ Some q → place_of j s ≡ Some q
  was_at j q odd on = by_number j n _ (λ is. absurd (let e = now in grind (arith, e, on, odd, is))) (λ apart. sym (others j apart) ∙ on)

  stays_at : (j : ℕ) (q : Place) → is_queued_place q ≡ false → place_of j s ≡ Some q → place_of j v ≡ Some q
  stays_at j q odd on = by_number j n _ (λ is. absurd (grind (arith, at, on, odd, is))) (λ apart. others j apart ∙ on)

  far : (j : ℕ) → op_progress_of j v ≡ op_progress_of j s
  far j = shifted_far (placing_shifted (Put m n w) s) j

  placed : Placed v
  placed j = record {
    number = λ on. (o.in_place.placed j).number (sym (same_test (λ (q : Option Place). is_some q) refl j) ∙ on);
    behind = λ f on. (o.in_place.placed j).behind f (sym (same_test (says (is_behind_of f)) refl j) ∙ on);
    switch = marks.0;
    high = marks.1.0;
    low = marks.1.1;
    callers = λ f. same_callers f ∙ ((o.in_place.placed j).callers f ∙ (ap (λ (b : Bool). if b then says (is_behind_of f) (place_of j s) else 0) (sym (same_test (λ (q : Option Place). is_some q) refl f))
        ∙ ap (λ (k : ℕ). if is_there f v then k else 0) (sym (same_test (says (is_behind_of f)) refl j))));
  }
    where
      same_callers : (f : ℕ) → times j (callers_of f v) ≡ times j (callers_of f s)
      same_callers f = callers_same m low n w s f j

      marks : (switch_entries j v.queues.switch ≡ says is_at_switch (place_of j v)) × ((entries j v.queues.high ≡ says is_at_high (place_of j v)) × (entries j v.queues.low ≡ says is_at_low (place_of j v)))
      marks = marks_at m low n w s j (alone j) now (others j)

  -- a test that passes no thread's entry
  stands_same : (test : Entry → Bool) → test (Entry.Thread n) ≡ false → (stands test v.queues.high ≡ stands test u.queues.high) × (stands test v.queues.low ≡ stands test u.queues.low)
  stands_same test none =
      let a = stands_put test m low n w s none in
      let b = stands_held test d n s none in
      (a.0 ∙ sym b.0, a.1 ∙ sym b.1)

  fit : PlacesFit p u v
  fit = record {
    in_place = record { placed = placed; runs = λ j is. stays_at j Place.Running refl (o.in_place.runs j is) };
    entries = λ test none. stands_same test (none n);
    under = λ j k on. stays_at j (Place.Under k) refl on;
    was_under = λ j k on. was_at j (Place.Under k) refl on;
    blocked = λ j sub on. stays_at j (Place.Blocked sub) refl on;
    held = λ j y on. was_at j (Place.Held y) refl on;
    sets = λ j y on. sym (same_test (option_and_then set_of_place) refl j) ∙ on;
    delivered = λ j on. sym (same_test (λ (q : Option Place). option_map_or is_delivered q false) refl j) ∙ on;
    fresh = λ j on. sym (same_test is_fresh refl j) ∙ on;
    starts = λ k y is unstarted. same_test is_fresh refl k ∙ o.starts k y is unstarted;
    waits_placed = λ j y on. same_test (λ (q : Option Place). option_map_or (is_at_wait y) q false) refl j ∙ o.waits_placed j y (sym (far j) ∙ on);
    inside = λ j q on. inside j q on (by_queued q);
  }
    where
      by_queued : (q : Place) → (is_queued_place q ≡ true) ⊎ (is_queued_place q ≡ false)
      by_queued (Place.Ready e y) = inl refl
      by_queued q = inr refl

      inside : (j : ℕ) (q : Place) → place_of j v ≡ Some q → (is_queued_place q ≡ true) ⊎ (is_queued_place q ≡ false) → is_inside q (op_progress_of j v) ≡ true
      inside j q on (inl is) = queued_inside q (op_progress_of j v) is
      inside j q on (inr odd) = ap (is_inside q) (far j) ∙ o.inside j q (was_at j q odd on)

  goes_same : (k j : ℕ) → goes_on_within k v j ≡ goes_on_within k u j
  goes_same zero j = refl
  goes_same (suc k) j = same_test (goes_on_at (goes_on_within k v)) refl j ∙ go (λ i. goes_same k i) (place_of j s)
    where
      go : ((i : ℕ) → goes_on_within k v i ≡ goes_on_within k u i) → (q : Option Place) → goes_on_at (goes_on_within k v) q ≡ goes_on_at (goes_on_within k u) q
      go rest (Some (Place.Under i)) = rest i
      go rest (Some (Place.Behind i)) = rest i
      go rest None = refl
      go rest (Some Place.New) = refl
      go rest (Some Place.Running) = refl
      go rest (Some Place.Suspended) = refl
      go rest (Some (Place.Ready e y)) = refl
      go rest (Some (Place.Held y)) = refl
      go rest (Some (Place.Waiting y b)) = refl
      go rest (Some (Place.Blocked sub)) = refl

  awake : Awake p v
  awake =
      let a = o.awake going in
      record {
        alone = λ j on. a.alone j (was_at j Place.Running refl on);
        starts_there = λ k on. same_test (λ (q : Option Place). is_some q) refl k ∙ a.starts_there k on;
        blocked = record {
          events = λ j sub on. event_same sub u t ∙ a.blocked.events j sub (was_at j (Place.Blocked sub) refl on);
          works = λ j sub on. ended_same sub u t ∙ a.blocked.works j sub (was_at j (Place.Blocked sub) refl on);
        };
        callers = λ j f on. let r = a.callers j f (was_at j (Place.Behind f) refl on) in (r.0, goes_same r.0 j ∙ r.1);
        feet = λ j k f on under. a.feet j k f (was_at j (Place.Behind f) refl on) (was_at k (Place.Under f) refl under);
        free = record {
          under = λ j k on. ⊎_elim (λ none. inl (gone k none)) (λ live. inr (same_test is_fresh refl k ∙ live)) (a.free.under j k (was_at j (Place.Under k) refl on));
          behind = λ j f on fresh. behind f ((a.free.behind j f (was_at j (Place.Behind f) refl on) (sym (same_test is_fresh refl f) ∙ fresh)));
        };
        counted = placing_counted u v (record { only = refl; threads = λ k. (placing_shifted (Put m n w) s).threads k })
            (λ y j on. sym (same_test (λ (q : Option Place). option_map_or (is_waiting_on y) q false) refl j) ∙ on)
            (λ y j on. same_test (λ (q : Option Place). woken_place y q (op_progress_of j s)) refl j ∙ on) a.counted;
      }
    where
      gone : (k : ℕ) → place_of k s ≡ None → place_of k v ≡ None
      gone k none = by_number k n _ (λ is. absurd (grind (arith, at, none, is))) (λ apart. others k apart ∙ none)

      behind : (f : ℕ) → (place_of f s ≡ Some (Place.Ready Mark.Switch Why.Start)) × ((k : ℕ) → p ≡ Turn.Run k → ⊥) → (place_of f v ≡ Some (Place.Ready Mark.Switch Why.Start)) × ((k : ℕ) → p ≡ Turn.Run k → ⊥)
      behind f q = (by_number f n _ (λ is. absurd (let e = q.0 in grind (arith, at, e, plain, is))) (λ apart. others f apart ∙ q.0), q.1)

  back_keeps : InOrderForAnyMain c p t × SameInstances u t
  back_keeps = subst (λ (y : Core). InOrderForAnyMain c p y × SameInstances u y) (placing_shifted (Put m n w) s).only (
    λ k. places_in_order c (state_in k p u) (is_open p) (h k) t (λ j. (placing_shifted (Put m n w) s).threads j) p fit k (is_open p) (λ e. awake),
    record { instances = λ i. refl; handles = λ i. refl },
  )

pub back_in_order : BackInOrder
unfolding BackInOrder
back_in_order c p d m n w s going at low plain free h = back_keeps c p going m d n w s at low plain free h
