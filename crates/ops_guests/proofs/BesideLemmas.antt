-- Moves beside a thread that runs, or whose entry was taken: it stays as it is, and each other thread has its place.
use Rattle.std.proofs.Common.{ap, arith, refl, sym, ◌∙◌}
use Rattle.std.proofs.lemmas.Bool.Decides.{nat_tests}
use Rattle.std.specs.Option.{option_map_or}
use Rattle.std.specs.Prelude.{Bool, List, None, Option, Some, [], false, if◌then◌else◌, is_some, not, option_and_then, true, ℕ, ◌+◌, ◌==◌, ◌∷◌, ◌≡◌, ◌≤◌, ◌||◌}
use Rattle.machine_data.specs.Core.{Core}
use Rattle.machine_data.specs.Maps.{numbers}
use Rattle.machine_data.specs.Moves.{checked, first_entry, has_entry, held_why_of, is_callback_waiter, may_wake, promoted, promoted_first, promoted_unless, published, put_high, put_switch, released, released_one, stopped, unblocked, unqueued, wake, wake_joined, waken_by}
use Rattle.machine_data.specs.Read.{blocked_on, caller_of, goal_of, held_why, is_at, is_blocked_on, is_under, is_waiting_on, join_of, may_not_suspend, place_of, under_of}
use Rattle.machine_data.specs.Write.{push_high, set_end, set_event, set_high, set_low, set_switch}
use Rattle.machine_data.specs.declared.records.CallEnd.TheVariants as call_end
use Rattle.machine_data.specs.declared.records.Delivery.TheVariants as delivery
use Rattle.machine_data.specs.declared.records.Join.{Join}
use Rattle.machine_data.specs.declared.records.Join.TheVariants as join
use Rattle.machine_data.specs.declared.records.Place.{Place}
use Rattle.machine_data.specs.declared.records.Place.TheVariants as place
use Rattle.machine_data.specs.declared.records.Subtask.{Subtask}
use Rattle.machine_data.specs.declared.records.Subtask.TheVariants as subtask
use Rattle.machine_data.specs.declared.records.Why.{Why}
use Rattle.machine_data.specs.declared.records.Why.TheVariants as why
use Rattle.machine_data.specs.declared.statuses.Mark.TheVariants as mark
use Rattle.machine_data.specs.declared.statuses.Status.{Status}
use Rattle.machine_data.specs.declared.statuses.Status.TheVariants as status
use Rattle.ops_moves.proofs.TellLemmas.{result_quiet}
use Rattle.ops_moves.proofs.UntouchedLemmas.{set_end_untouched, set_event_untouched}
use Rattle.ops_guests.specs.Running.{Stand}
use Rattle.laws_places.proofs.Entries as entry_lemmas
use Rattle.laws_places.proofs.Entries.{has_stands}
use Rattle.laws_places.proofs.PlaceLaw.{ReadyAt, entry_ready}
use Rattle.machine_rules.proofs.MoveLemmas as moves
use Rattle.machine_rules.proofs.MoveLemmas.{is_parked, no_time, one_time}
use Rattle.machine_rules.proofs.PromotionLemmas.{first_has_entry}
use Rattle.machine_rules.proofs.StandLemmas.{Loose, by_number, place_kept, set_place_is}
use Rattle.machine_rules.proofs.StopLemmas as stops
use Rattle.machine_rules.proofs.StopLemmas.{Untouched, find_passes}
use Rattle.machine_rules.specs.Ends.{is_told, result_given, returned, told}
use Rattle.machine_rules.specs.Laws.{is_free}
use Rattle.machine_rules.specs.Places.{HasPlace, entries, switch_entries}

-- the thread at the place runs, or its entry is being taken
abbrev pub is_busy : Place → Bool
is_busy place.Running = true
is_busy (place.Ready m w) = true
is_busy _ = false

busy_as : (q : Place) → is_busy q ≡ true → moves.is_busy (Some q) ≡ true
busy_as q h = grind arith

pub under_place : (n m : ℕ) (s : Core) → under_of n s ≡ Some m → place_of m s ≡ Some (place.Under n)
unfolding under_of
under_place n m s h = under_at (place_of m s) (find_passes (λ k. is_at k s (is_under n)) (numbers s.threads) m h)
  where
    under_at : (o : Option Place) → option_map_or (is_under n) o false ≡ true → o ≡ Some (place.Under n)
    under_at o h = grind (arith, nat_tests)

pub free_loose : (n : ℕ) (p : Place) (s : Core) → place_of n s ≡ Some p → is_free p ≡ true → HasPlace n s → Loose n s
free_loose n p s at free h = moves.idle_loose n (Some p) s at free h

-- ---- All threads have their places

pub stand_of : (n : ℕ) (q : Place) (s : Core) → place_of n s ≡ Some q → is_free q ≡ true → ((k : ℕ) → HasPlace k s) → Stand n q [] s
stand_of n q s at free all = moves.stand_of n (Some q) s at free (λ k h. absurd (grind arith)) all

pub all_of : (n : ℕ) (q : Place) (s : Core) → is_free q ≡ true → Stand n q [] s → (k : ℕ) → HasPlace k s
all_of n q s free st = moves.all_of n (Some q) s free st

-- ---- A check, and a promotion

-- an entry at high or low is of the thread
abbrev pub Listed : ℕ → Core → Type 0
Listed m s = (has_entry m s.queues.high || has_entry m s.queues.low) ≡ true

listed_once : (m : ℕ) (s : Core) → Listed m s → 1 ≤ switch_entries m s.queues.switch + entries m s.queues.high + entries m s.queues.low
listed_once m s h = grind (arith, has_stands m s.queues.high, has_stands m s.queues.low)

-- who is loose has none
loose_unlisted : (k m : ℕ) (s : Core) → Loose k s → Listed m s → (m == k) ≡ false
loose_unlisted k m s l h = by_number m k ((m == k) ≡ false) (λ e. absurd (grind (arith, listed_once m s h))) (λ e. e)

checked_as : (P : Core → Type 0) (i : ℕ) (s : Core) → P s → ((m : ℕ) → s.queues.switch ≡ None → Listed m s → P (promoted m s)) → P (checked i s)
unfolding checked
checked_as P i s same more = by_switch (not (may_not_suspend i s)) s.queues.switch refl
  where
    by_first : (o : Option ℕ) → first_entry i s ≡ o → s.queues.switch ≡ None → P (promoted_first o s)
    by_first None e none = same
    by_first (Some m) e none = more m none (first_has_entry i s m e)

    by_switch : (a : Bool) (o : Option ℕ) → s.queues.switch ≡ o → P (if a || is_some o then s else promoted_first (first_entry i s) s)
    by_switch true o e = same
    by_switch false (Some m) e = same
    by_switch false None e = by_first (first_entry i s) refl e

module _ (n : ℕ) (q : Place) where
  promoted_stand : (m : ℕ) (s : Core) → s.queues.switch ≡ None → (m == n) ≡ false → ReadyAt (place_of m s) → Stand n q [] s → Stand n q [] (promoted m s)
  promoted_stand m s none apart r st = entry_lemmas.promoted_stand n (Some q) m r.0 r.1.0 s apart r.1.1 none st

  pub promoted_unless_stand : (m : ℕ) (s : Core) → (m == n) ≡ false → ReadyAt (place_of m s) → Stand n q [] s → Stand n q [] (promoted_unless m s)
  unfolding promoted_unless
  promoted_unless_stand m s apart r st = go s.queues.switch refl
    where
      go : (o : Option ℕ) → s.queues.switch ≡ o → Stand n q [] (if is_some o then s else promoted m s)
      go (Some k) e = st
      go None e = promoted_stand m s e apart r st

  pub checked_stand : (i : ℕ) (s : Core) → Stand n q [] s → Stand n q [] (checked i s)
  checked_stand i s st = checked_as (Stand n q []) i s st (λ m none h. listed m none h (loose_unlisted n m s (st.loose n (one_time n)) h))
    where
      listed : (m : ℕ) → s.queues.switch ≡ None → Listed m s → (m == n) ≡ false → Stand n q [] (promoted m s)
      listed m none h apart = promoted_stand m s none apart (entry_ready m s (st.placed m (no_time m n apart)) (listed_once m s h)) st

promoted_place : (k m : ℕ) (s : Core) → (m == k) ≡ false → place_of k (promoted m s) ≡ place_of k s
unfolding promoted set_switch unqueued set_high set_low
promoted_place k m s apart = grind (arith, nat_tests, set_place_is k m)

-- a thread that has no entry stays where it is
pub checked_place : (k i : ℕ) (s : Core) → Loose k s → place_of k (checked i s) ≡ place_of k s
checked_place k i s l = checked_as (λ t. place_of k t ≡ place_of k s) i s refl (λ m none h. promoted_place k m s (loose_unlisted k m s l h))

-- ---- A thread is put

module _ (n : ℕ) (q : Place) (busy : is_busy q ≡ true) where
  pub put_high_good : (m : ℕ) (w : Why) (p : Place) (s : Core) → place_of m s ≡ Some p → is_parked p ≡ true → Stand n q [] s → Stand n q [] (put_high m w s)
  put_high_good m w p s at parked st = moves.put_stand n (Some q) (busy_as q busy) mark.High m w p s at parked (λ h. absurd (grind arith)) st

  pub put_switch_good : (m : ℕ) (w : Why) (p : Place) (s : Core) → place_of m s ≡ Some p → is_parked p ≡ true → Stand n q [] s → Stand n q [] (put_switch m w s)
  put_switch_good m w p s at parked st = moves.put_stand n (Some q) (busy_as q busy) mark.Switch m w p s at parked (λ h. absurd (grind arith)) st

  released_one_good : (m : ℕ) (o : Option Place) (s : Core) → place_of m s ≡ o → Stand n q [] s → Stand n q [] (released_one m (option_and_then held_why o) s)
  released_one_good m (Some (place.Held w)) s at st = put_high_good m w (place.Held w) s at refl st
  released_one_good m _ s at st = st

  pub released_good : (ns : List ℕ) (s : Core) → Stand n q [] s → Stand n q [] (released ns s)
  unfolding released
  released_good [] s st = st
  released_good (m ∷ ns) s st = released_good ns (released_one m (held_why_of m s) s) (released_one_good m (place_of m s) s refl st)

-- ---- Primitives that leave places alone, and a stop

pub quiet_stand : (n : ℕ) (q : Place) (xs : List ℕ) (s t : Core) → Untouched s t → Stand n q xs s → Stand n q xs t
quiet_stand n q xs s t u st = stops.quiet_stand n (Some q) xs s t u st

pub stopped_stand : (n : ℕ) (q : Place) (f : ℕ) (s : Core) → Stand n q [] s → Stand n q [] (stopped f s)
stopped_stand n q f s st = stops.stopped_stand n (Some q) f s st

-- ---- Waiters

-- the thread, if there is one, waits on some set
abbrev pub Waits : Option ℕ → Core → Type 0
Waits None s = Unit {0}
Waits (Some m) s = (x : ℕ) × ((b : Bool) × (place_of m s ≡ Some (place.Waiting x b)))

pub waits_of : (x : ℕ) (w : Option ℕ) (s : Core) → may_wake x w s ≡ true → Waits w s
unfolding may_wake
waits_of x None s h = tt
waits_of x (Some m) s h = waiting_at (place_of m s) h
  where
    waiting_at : (o : Option Place) → option_map_or (is_waiting_on x) o false ≡ true → (y : ℕ) × ((b : Bool) × (o ≡ Some (place.Waiting y b)))
    waiting_at (Some (place.Waiting y b)) h = (y, (b, refl))
    waiting_at o h = absurd (grind arith)

pub waits_quiet : (w : Option ℕ) (s t : Core) → Untouched s t → Waits w s → Waits w t
waits_quiet None s t u h = tt
waits_quiet (Some m) s t u h = (h.0, (h.1.0, u.places m ∙ h.1.1))

pub blocked_place : (sub : Subtask) (s : Core) (j : ℕ) → blocked_on sub s ≡ Some j → (on : Subtask) × (place_of j s ≡ Some (place.Blocked on))
unfolding blocked_on
blocked_place sub s j h = blocked_at (place_of j s) (find_passes (λ k. is_at k s (is_blocked_on sub)) (numbers s.threads) j h)
  where
    blocked_at : (o : Option Place) → option_map_or (is_blocked_on sub) o false ≡ true → (on : Subtask) × (o ≡ Some (place.Blocked on))
    blocked_at (Some (place.Blocked on)) h = (on, refl)
    blocked_at o h = absurd (grind arith)

high_kept : (m j : ℕ) (w : Why) (s : Core) → (m == j) ≡ false → place_of m (put_high j w s) ≡ place_of m s
unfolding put_high push_high
high_kept m j w s apart = place_kept m j (place.Ready mark.High w) s apart

pub waits_unblocked : (sub : Subtask) (w : Option ℕ) (s t : Core) → Untouched s t → (o : Option ℕ) → blocked_on sub s ≡ o → Waits w t → Waits w (unblocked o t)
waits_unblocked sub w s t u None e h = h
waits_unblocked sub None s t u (Some j) e h = tt
waits_unblocked sub (Some m) s t u (Some j) e h = (h.0, (h.1.0, put_apart (blocked_place sub s j e)))
  where
    put_apart : (on : Subtask) × (place_of j s ≡ Some (place.Blocked on)) → place_of m (put_high j why.Resumption t) ≡ Some (place.Waiting h.0 h.1.0)
    put_apart p = high_kept m j why.Resumption t (by_number m j _ (λ e. absurd (both (sym h.1.1 ∙ (ap (λ (i : ℕ). place_of i t) e ∙ (u.places j ∙ p.1))))) (λ e. e)) ∙ h.1.1
      where
        both : {x : ℕ} {b : Bool} {on : Subtask} → Some (place.Waiting x b) ≡ Some (place.Blocked on) → ⊥
        both e = cc

-- ---- Telling

module _ (n : ℕ) (q : Place) (busy : is_busy q ≡ true) where
  unblocked_stand : (sub : Subtask) (s t : Core) → Untouched s t → (o : Option ℕ) → blocked_on sub s ≡ o → Stand n q [] t → Stand n q [] (unblocked o t)
  unblocked_stand sub s t u None e st = st
  unblocked_stand sub s t u (Some j) e st = let p = blocked_place sub s j e in put_high_good n q busy j why.Resumption (place.Blocked p.0) t (u.places j ∙ p.1) refl st

  wake_stand : (x : ℕ) (w : Option ℕ) (s : Core) → Waits w s → Stand n q [] s → Stand n q [] (wake x w s)
  unfolding wake
  wake_stand x None s h st = st
  wake_stand x (Some m) s h st = go (is_callback_waiter m s)
    where
      go : (b : Bool) → Stand n q [] (waken_by b x m s)
      go true = put_high_good n q busy m (why.Delivery (delivery.Set x)) (place.Waiting h.0 h.1.0) s h.1.1 refl st
      go false = put_high_good n q busy m why.Resumption (place.Waiting h.0 h.1.0) s h.1.1 refl st

  wake_joined_stand : (j : Join) (w : Option ℕ) (s : Core) → Waits w s → Stand n q [] s → Stand n q [] (wake_joined j w s)
  wake_joined_stand (join.Set x) w s h st = wake_stand x w s h st
  wake_joined_stand join.Nowhere w s h st = st
  wake_joined_stand (join.Watched m) w s h st = st

  published_stand : (sub : Subtask) (e : Status) (w : Option ℕ) (s : Core) → Waits w s → Stand n q [] s → Stand n q [] (published sub e w s)
  unfolding published
  published_stand sub e w s h st =
      let t = set_event sub (Some e) s in
      let u : Untouched s t = set_event_untouched sub (Some e) s in
      wake_joined_stand (join_of sub s) w (unblocked (blocked_on sub s) t) (waits_unblocked sub w s t u (blocked_on sub s) refl (waits_quiet w s t u h)) (unblocked_stand sub s t u (blocked_on sub s) refl (quiet_stand n q [] s t u st))

  pub told_stand : (k : ℕ) (e : Status) (w : Option ℕ) (s : Core) → Waits w s → Stand n q [] s → Stand n q [] (told k e w s)
  unfolding told
  told_stand k e w s h st = go (is_told k s)
    where
      go : (b : Bool) → Stand n q [] (if b then published (subtask.Guest k) e w s else s)
      go true = published_stand (subtask.Guest k) e w s h st
      go false = st

  pub returned_stand : (k v : ℕ) (w : Option ℕ) (s : Core) → Waits w s → Stand n q [] s → Stand n q [] (returned k v w s)
  unfolding returned
  returned_stand k v w s h st =
      let over = set_end k call_end.Returned s in
      let given = result_given (goal_of k s) (caller_of k s) k v over in
      let a = set_end_untouched k call_end.Returned s in
      let b = (result_quiet (goal_of k s) (caller_of k s) k v over).untouched in
      told_stand k status.Returned w given (waits_quiet w over given b (waits_quiet w s over a h)) (quiet_stand n q [] over given b (quiet_stand n q [] s over a st))
