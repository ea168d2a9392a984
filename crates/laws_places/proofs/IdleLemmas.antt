-- An idle state in order that has the facts on wakes is stalled.
use Rattle.laws_places.proofs.Laws.{[], any_found, any_thread, ap, arith, at_number, Bool, CallersGoOn, Core, Course, course_of, false, found_any, found_ready, get, goes_on_at, goes_on_within, has_end, has_ready_member, has_waiter, HasPlace, inl, InOrder, inr, is_behind, is_blocked_on_end, is_ended_work, is_finishing, is_held_for, is_host_of, is_late, is_passed_over, is_stage_ended, is_stalled, is_unended_take, is_woken_for, List, list_any, Mark, next_entry, None, NoneBlockedOnEnd, numbers, one_counted, one_if, Option, option_map, option_map_or, Place, place_of, Placed, ready_counts, refl, RunsAlone, Setting, Some, Stage, stands, State, Subtask, suc, sym, Thread, true, Turn, WakesCounted, Why, woken, Work, WorksQueued, WorksTold, zero, ℕ, ◌∙◌, ◌∷◌, ◌≡◌, ◌⊎◌}
use Rattle.laws_places.proofs.{OrderLemmas.reached_in_order, WakeLines.none_of}
use Rattle.laws_places.specs.{KeptPlaces.ReachedInOrder, PlaceWakes.BlockedByWorks, PlaceWakes.IdleIsStalled, PlaceWakes.ReachedCounted, PlaceWakes.ReachedGoOn, PlaceWakes.ReachedUnblocked}
use Rattle.machine_rules.specs.Stalled.{is_idle}

-- a thread that passes, by its number
any_place : (test : Thread → Bool) (s : Core) → any_thread test s ≡ true → (n : ℕ) × ((t : Thread) × ((get s.threads n ≡ Some t) × (test t ≡ true)))
unfolding get
any_place test s h = found_any (λ n t. test t) s.threads.list s.threads.sorted h

found_place : (test : Thread → Bool) (n : ℕ) (s : Core) (t : Thread) → get s.threads n ≡ Some t → test t ≡ true → any_thread test s ≡ true
unfolding get
found_place test n s t at is = any_found test n s.threads.list (grind arith)

abbrev is_active : Place → Bool
is_active (Place.Ready m w) = true
is_active Place.Running = true
is_active _ = false

abbrev Still : Core → Type 0
Still s = (n : ℕ) (p : Place) → place_of n s ≡ Some p → is_active p ≡ false

none_ready : (n : ℕ) (s : Core) (m : Mark) (w : Why) → HasPlace n s → next_entry s ≡ None → place_of n s ≡ Some (Place.Ready m w) → ⊥
unfolding next_entry
none_ready n s m w h none at = let a = h.switch in let b = h.high in let c = h.low in absurd (grind arith)

idle_still : (s : State) → Placed s.core → RunsAlone s.turn s.core → (e : Bool) → s.turn ≡ Turn.Take e → next_entry s.core ≡ None → Still s.core
idle_still s placed alone e turn none n (Place.Ready m w) at = absurd (none_ready n s.core m w (placed n) none at)
idle_still s placed alone e turn none n Place.Running at = let to = alone n at in absurd (grind arith)
idle_still s placed alone e turn none n _ at = refl

goes_by : (s : Core) (k n : ℕ) → Still s → ((m : ℕ) → goes_on_within k s m ≡ true → ⊥) → (o : Option Place) → place_of n s ≡ o →
    goes_on_at (goes_on_within k s) o ≡ true → ⊥
goes_by s k n still rest (Some (Place.Ready m w)) at on = let no = still n (Place.Ready m w) at in absurd (grind arith)
goes_by s k n still rest (Some Place.Running) at on = let no = still n Place.Running at in absurd (grind arith)
goes_by s k n still rest (Some (Place.Under m)) at on = rest m on
goes_by s k n still rest (Some (Place.Behind f)) at on = rest f on
goes_by s k n still rest o at on = absurd (grind arith)

none_goes : (s : Core) (k n : ℕ) → Still s → goes_on_within k s n ≡ true → ⊥
none_goes s zero n still h = absurd (grind arith)
none_goes s (suc k) n still h = goes_by s k n still (λ m. none_goes s k m still) (place_of n s) refl h

false_of : (b : Bool) → (b ≡ true → ⊥) → b ≡ false
false_of true h = absurd (h refl)
false_of false h = refl

behind_line : (s : Core) → Still s → CallersGoOn s → any_thread (λ t. is_behind t.place) s ≡ true → ⊥
behind_line s still goes h =
    let r = any_place (λ t. is_behind t.place) s h in
    let f = behind_of r.1.0.place r.1.1.1 in
    let on = goes r.0 f.0 (ap (option_map (λ (t : Thread). t.place)) r.1.1.0 ∙ ap (λ p. Some p) f.1) in none_goes s on.0 r.0 still on.1
  where
    behind_of : (p : Place) → is_behind p ≡ true → (f : ℕ) × (p ≡ Place.Behind f)
    behind_of p h = grind arith

woken_held : (x : ℕ) (t : Thread) → is_active t.place ≡ false → is_woken_for x t t.place ≡ true → is_held_for x t.place ≡ true
woken_held x t still h = grind arith

passed_line : (s : Core) → Still s → WakesCounted s → (x : ℕ) → is_passed_over x s ≡ true → ⊥
unfolding woken
passed_line s still counted x h =
    let waits : has_waiter x s ≡ true = grind arith in
    let ready : has_ready_member x s ≡ true = grind arith in
    let none : any_thread (λ t. is_held_for x t.place) s ≡ false = grind arith in
    let some = found_ready x s ready in
    let one = ready_counts x some.0 s some.1 in
    let more = counted x waits in
    let r = one_counted (λ (t : Thread). is_woken_for x t t.place) s.threads (omega (arith, one, more)) in
    by r.0 r.1 (get s.threads r.0) refl none
  where
    by : (n : ℕ) → at_number (λ (t : Thread). is_woken_for x t t.place) s.threads n ≡ true → (o : Option Thread) → get s.threads n ≡ o → any_thread (λ t. is_held_for x t.place) s ≡ false → ⊥
    by n on None at none = absurd (grind arith)
    by n on (Some t) at none =
        let held = woken_held x t (still n t.place (ap (option_map (λ (t : Thread). t.place)) at)) (grind (arith, on, at)) in
        let found = found_place (λ (t : Thread). is_held_for x t.place) n s t at held in absurd (grind arith)

none_passed : (s : Core) → Still s → WakesCounted s → (xs : List ℕ) → list_any (λ x. is_passed_over x s) xs ≡ false
none_passed s still counted [] = refl
none_passed s still counted (x ∷ xs) = let no = false_of (is_passed_over x s) (passed_line s still counted x) in let rest = none_passed s still counted xs in grind arith

blocked_line : (s : Core) → NoneBlockedOnEnd s → any_thread (λ t. is_blocked_on_end s t.place) s ≡ true → ⊥
blocked_line s none h =
    let r = any_place (λ t. is_blocked_on_end s t.place) s h in
    blocked_of r.0 r.1.0.place (ap (option_map (λ (t : Thread). t.place)) r.1.1.0) r.1.1.1
  where
    blocked_of : (n : ℕ) (p : Place) → place_of n s ≡ Some p → is_blocked_on_end s p ≡ true → ⊥
    blocked_of n (Place.Blocked sub) at h = let e = none.events n sub at in let live = none.works n sub at in absurd (grind arith)
    blocked_of n p at h = absurd (grind arith)

-- a work that hasn't ended, or whose entry is
blocked_by_works : (s : Core) → WorksQueued s → WorksTold s → NoneBlockedOnEnd s → BlockedByWorks s
blocked_by_works s queued told none n i at = by (get s.works i) refl (none.works n (Subtask.Host i) at)
  where
    staged : (x : Stage) → is_stage_ended x ≡ false → (h : ℕ) → h ≡ one_if (is_finishing x) → (b : Bool) → b ≡ is_late x →
        (b ≡ false) ⊎ (h ≡ 1)
    staged Stage.Finishing live h host b late = inr host
    staged Stage.Ended live h host b late = absurd (cc)
    staged x live h host b late = inl late

    by : (o : Option Work) → get s.works i ≡ o → is_ended_work (Subtask.Host i) s ≡ false →
        (has_end (course_of i s) ≡ false) ⊎ (stands (is_host_of i) s.queues.high ≡ 1)
    by None is live = absurd (grind (arith, is, live))
    by (Some w) is live =
        staged w.stage (sym (ap (λ o. is_stage_ended (option_map_or (λ (w : Work). w.stage) o Stage.Ended)) is) ∙ live)
        (stands (is_host_of i) s.queues.high) (queued.each i w is).host (has_end (course_of i s))
        (ap (λ o. has_end (option_map_or (λ (w : Work). w.course) o Course.NoValue)) is ∙ (told i w is).late)

take_of : (u : Turn) → is_unended_take u ≡ true → u ≡ Turn.Take false
take_of u h = grind arith

pub reached_go_on : ReachedGoOn
unfolding ReachedGoOn ReachedInOrder
reached_go_on x s r live = ((reached_in_order x s r).awake live).callers

pub reached_counted : ReachedCounted
unfolding ReachedCounted ReachedInOrder
reached_counted x s r live = ((reached_in_order x s r).awake live).counted

pub reached_unblocked : ReachedUnblocked
unfolding ReachedUnblocked ReachedInOrder
reached_unblocked x s r live =
    let h = reached_in_order x s r in
    let q = (h.awake live).blocked in
    let none = false_of (any_thread (λ t. is_blocked_on_end s.core t.place) s.core) (blocked_line s.core q) in
    (q, (grind arith, blocked_by_works s.core h.works h.works_told q))

idle_stalled : (x : Setting) (s : State) → InOrder x.component s → is_idle x s ≡ true → is_stalled x s ≡ true
unfolding is_idle is_stalled
idle_stalled x s h idle =
    let turn = take_of s.turn (grind arith) in
    let none : next_entry s.core ≡ None = grind arith in
    let still = idle_still s h.in_place.placed (h.awake (grind arith)).alone false turn none in
    let behind = false_of (any_thread (λ t. is_behind t.place) s.core) (behind_line s.core still (h.awake (grind arith)).callers) in
    let held = none_of s.core h.held s.core.instances.list in
    let passed = none_passed s.core still (h.awake (grind arith)).counted (numbers s.core.sets) in
    let ends = false_of (any_thread (λ t. is_blocked_on_end s.core t.place) s.core) (blocked_line s.core (h.awake (grind arith)).blocked) in
    grind arith

pub idle_is_stalled : IdleIsStalled
unfolding IdleIsStalled
idle_is_stalled x s h idle = idle_stalled x s h idle

-- so in such a state the first three lines of Stalled are all seven
pub stalled_as_idle : (x : Setting) (s : State) → InOrder x.component s → is_stalled x s ≡ is_idle x s
unfolding is_stalled
stalled_as_idle x s h = by (is_idle x s) refl (idle_stalled x s h)
  where
    by : (b : Bool) → is_idle x s ≡ b → (is_idle x s ≡ true → is_stalled x s ≡ true) → is_stalled x s ≡ is_idle x s
    by true is on = on is ∙ sym is
    by false is on = grind (arith, is)
