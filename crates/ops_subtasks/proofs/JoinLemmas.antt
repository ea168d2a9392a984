-- Joins.
use Rattle.std.proofs.Common.{ap, arith, refl, subst, sym, ◌∙◌}
use Rattle.std.specs.Option.{option_map_or}
use Rattle.std.specs.Prelude.{Bool, None, Option, Some, false, option_map, suc, true, zero, ℕ, ◌+◌, ◌<◌, ◌≡◌}
use Rattle.task_table.specs.declared.id.TableId.{TableId}
use Rattle.task_wait.specs.declared.keys.SetKey.{SetKey}
use Rattle.task_wait.specs.declared.keys.ThreadKey.{ThreadKey}
use Rattle.machine_data.specs.Core.{Core}
use Rattle.machine_data.specs.Labels.{choice_of, join_label}
use Rattle.machine_data.specs.Maps.{get}
use Rattle.machine_data.specs.Moves.{may_wake}
use Rattle.machine_data.specs.Read.{event_of, has_waiter, instance_of, is_blocked_on, is_waiting_on, is_watched, join_of, place_of, set_at, subtask_at}
use Rattle.machine_data.specs.Write.{on_call, on_work, set_join}
use Rattle.machine_data.specs.declared.records.Join.{Join}
use Rattle.machine_data.specs.declared.records.Place.{Place}
use Rattle.machine_data.specs.declared.records.Place.TheVariants as place
use Rattle.machine_data.specs.declared.records.Subtask.{Subtask}
use Rattle.machine_data.specs.declared.records.Subtask.TheVariants as subtask
use Rattle.machine_data.specs.declared.trap.Trap.TheVariants as trap
use Rattle.machine_data.specs.declared.trap.Trap.{Trap}
use Rattle.machine_data.specs.declared.statuses.Status.{Status}
use Rattle.ops_moves.specs.Idle.{AreIdleUnqueued}
use Rattle.ops_guests.specs.Ended.{ended}
use Rattle.core_primitives.specs.Preferences.{preference}
use Rattle.machine_rules.proofs.CalmLemmas.{join_done_none, join_to_none}
use Rattle.machine_rules.specs.Picks.{Preference, ReleasesNone, ShowsFirst, WakesFirst}
use Rattle.ops_guests.proofs.CalmLemmas.{loose_picks, wakes_as}
use Rattle.ops_guests.proofs.DoesLemmas.{PicksAs}
use Rattle.ops_guests.specs.OpResult.{Implements}
use Rattle.ops_subtasks.specs.Rules.{joins_of}
use Rattle.ops_guests.specs.Running.{IsRunning}
use Rattle.machine_rules.proofs.MoveLemmas.{no_time}
use Rattle.machine_rules.proofs.StandLemmas.{by_number}
use Rattle.machine_rules.specs.Finish.{Doer, NoAnswer, finish}
use Rattle.machine_rules.specs.Places.{HasPlace, is_at_high, is_at_low, says}
use Rattle.machine_rules.specs.Progress.{Continues, Progress, may, or_trap, trap_if}
use Rattle.machine_rules.specs.Sets.{join_done_by, join_rule, join_to_by, joins, may_wake_new, moved_over, wakes_joined}
use Rattle.core_primitives.specs.Apart.{IsUnqueued}
use Rattle.core_primitives.specs.Live.{live_subtask}
use Rattle.core_primitives.specs.Names.{join_in, subtask_in}
use Rattle.core_primitives.specs.StateView.{StateView, Tags, on_core, set_number, set_of, thread_of}
use Rattle.core_primitives.specs.declared.names.JoinId.{JoinId}
use Rattle.core_primitives.specs.declared.names.SubtaskId.{SubtaskId}
use Rattle.ops_subtasks.proofs.SteadyLemmas.{join_steady, still_runs}
use Rattle.ops_subtasks.proofs.SubtaskLemmas.{Alike, kept_alike}
use Rattle.ops_guests.specs.Shown.{goes_as}
use Rattle.ops_guests.specs.Steps.{label_of}
use Rattle.ops_guests.specs.declared.op_result.OpResult.{OpResult}

-- ---- Who waits or is blocked has no entry

-- the place is no mark
placed_idle : (n : ℕ) (p : Place) (s : Core) → place_of n s ≡ Some p → is_at_high p ≡ false → is_at_low p ≡ false → HasPlace n s → IsUnqueued n s
placed_idle n p s at high low h = record {
  high = h.high ∙ (ap (λ o. says is_at_high o) at ∙ grind (arith, high));
  low = h.low ∙ (ap (λ o. says is_at_low o) at ∙ grind (arith, low));
}

waiting_place : (x : ℕ) (o : Option Place) → option_map_or (is_waiting_on x) o false ≡ true → (b : Bool) × (o ≡ Some (place.Waiting x b))
waiting_place x o h = grind arith

blocked_place : (sub : Subtask) (o : Option Place) → option_map_or (is_blocked_on sub) o false ≡ true → (on : Subtask) × (o ≡ Some (place.Blocked on))
blocked_place sub o h = grind arith

pub running_idle : (n : ℕ) (s : Core) → IsRunning n s → AreIdleUnqueued s
running_idle n s st = record {
  waiters = λ x k h. let p = waiting_place x (place_of k s) h in placed_idle k (place.Waiting x p.0) s p.1 refl refl (placed k _ p.1 (λ e. waits e));
  blocked = λ sub k h. let p = blocked_place sub (place_of k s) h in placed_idle k (place.Blocked p.0) s p.1 refl refl (placed k _ p.1 (λ e. blocks e));
}
  where
    waits : {x : ℕ} {b : Bool} → Some place.Running ≡ Some (place.Waiting x b) → ⊥
    waits e = cc

    blocks : {on : Subtask} → Some place.Running ≡ Some (place.Blocked on) → ⊥
    blocks e = cc

    placed : (k : ℕ) (p : Place) → place_of k s ≡ Some p → (Some place.Running ≡ Some p → ⊥) → HasPlace k s
    placed k p at apart = by_number k n (HasPlace k s) (λ e. absurd (apart (sym st.here ∙ (ap (λ j. place_of j s) (sym e) ∙ at)))) (λ d. st.placed k (no_time k n d))

-- ---- A subtask that may be gone

done_alike : (d : Doer) (n : ℕ) (a b : Subtask) (w : Option ℕ) (s : Core) (x : Option ℕ) → Alike a b s → join_done_by d n a w s x ≡ join_done_by d n b w s x
unfolding moved_over
done_alike d n a b w s x like = ap (λ j. row j (event_of a s) (set_join a (joins x) s)) like.join ∙ (ap (λ e. row (join_of b s) e (set_join a (joins x) s)) like.event ∙ ap (λ c. row (join_of b s) (event_of b s) c) (like.joined (joins x)))
  where
    row : Join → Option Status → Core → Progress
    row j e c = trap_if (is_watched j) trap.WaitableSyncAndAsync (may (may_wake_new e x w s) (Continues (join_label n w) (finish d n NoAnswer (wakes_joined e x w c)) n))

to_alike : (d : Doer) (n y : ℕ) (w : Option ℕ) (s : Core) (a b : Subtask) → Alike a b s → join_to_by d n y w s a ≡ join_to_by d n y w s b
to_alike d n zero w s a b like = done_alike d n a b w s None like
to_alike d n (suc h) w s a b like = go (set_at (instance_of n s) (suc h) s)
  where
    go : (o : Option ℕ) → or_trap o trap.BadHandle (λ x. join_done_by d n a w s (Some x)) ≡ or_trap o trap.BadHandle (λ x. join_done_by d n b w s (Some x))
    go None = refl
    go (Some x) = done_alike d n a b w s (Some x) like

pub to_kept : (d : Doer) (n y : ℕ) (w : Option ℕ) (s : Core) → get s.calls 0 ≡ None → get s.works 0 ≡ None → (sub : Subtask) → join_to_by d n y w s sub ≡ join_to_by d n y w s (live_subtask sub s)
to_kept d n y w s calls works sub = to_alike d n y w s sub (live_subtask sub s) (kept_alike sub s calls works)

-- ---- The set's handle

pub to_set : (d : Doer) (n y x : ℕ) (w : Option ℕ) (s : Core) (q : Subtask) → (y ≡ 0 → ⊥) → Some x ≡ set_at (instance_of n s) y s → join_to_by d n y w s q ≡ join_done_by d n q w s (Some x)
to_set d n zero x w s q some at = absurd (some refl)
to_set d n (suc h) x w s q some at = ap (λ o. or_trap o trap.BadHandle (λ y. join_done_by d n q w s (Some y))) (sym at)

-- ---- A waiter is woken

wakes_kept : (e : Option Status) (x w : Option ℕ) (sub : Subtask) (j : Join) (s : Core) → may_wake_new e x w (set_join sub j s) ≡ may_wake_new e x w s
unfolding set_join on_call on_work may_wake has_waiter
wakes_kept (Some e) (Some x) (Some w) (subtask.Guest k) j s = refl
wakes_kept (Some e) (Some x) (Some w) (subtask.Host i) j s = refl
wakes_kept (Some e) (Some x) None (subtask.Guest k) j s = refl
wakes_kept (Some e) (Some x) None (subtask.Host i) j s = refl
wakes_kept (Some e) None w sub j s = refl
wakes_kept None x w sub j s = refl

-- a join answers nothing
nothing_shown : (g : Doer) (n : ℕ) (w : Option ℕ) (u : Core) → ended g n (goes_as (join_label n w) n) u ≡ finish g n NoAnswer u
nothing_shown g n None u = refl
nothing_shown g n (Some w) u = refl

woken_shown : (m : ℕ) (w : Option ℕ) → (choice_of (join_label m w)).woken ≡ w
woken_shown m None = refl
woken_shown m (Some w) = refl

module _ (n : TableId ThreadKey) (q : Subtask) (e : Option Status) (x w : Option ℕ) (s t u : StateView) (joined_is : t ≡ on_core (set_join q (joins x)) s) where
  pub joined_idle : IsRunning (thread_of s n) s.core → AreIdleUnqueued t.core
  joined_idle st = running_idle (thread_of t n) t.core (still_runs n (set_join q (joins x)) s t joined_is (join_steady q (joins x) s.core) st)

  done_is : (g : Doer) → is_watched (join_of q s.core) ≡ false → e ≡ event_of q s.core → may_wake_new e x w t.core ≡ true → join_done_by g (thread_of s n) q w s.core x ≡ Continues (join_label (thread_of s n) w) (finish g (thread_of s n) NoAnswer (moved_over q x w s.core)) (thread_of s n)
  done_is g apart event may_w =
      let N = thread_of s n in
      let choice : may_wake_new (event_of q s.core) x w s.core ≡ true = ap (λ o. may_wake_new o x w s.core) (sym event) ∙ (sym (wakes_kept e x w q (joins x) s.core) ∙ (ap (λ (v : StateView). may_wake_new e x w v.core) (sym joined_is) ∙ may_w)) in
      ap (λ b. trap_if b trap.WaitableSyncAndAsync (may (may_wake_new (event_of q s.core) x w s.core) (Continues (join_label N w) (finish g N NoAnswer (moved_over q x w s.core)) N))) apart
      ∙ ap (λ b. may b (Continues (join_label N w) (finish g N NoAnswer (moved_over q x w s.core)) N)) choice

  pub join_implements : (g : Doer) (m : ℕ) → m ≡ thread_of s n → is_watched (join_of q s.core) ≡ false → e ≡ event_of q s.core → may_wake_new e x w t.core ≡ true → u ≡ on_core (wakes_joined e x w) t → Implements (join_done_by g (thread_of s n) q (choice_of (join_label m w)).woken s.core x) s.core (goes_as (join_label m w) m) (ended g (thread_of s n) (goes_as (join_label m w) m) u.core)
  unfolding moved_over
  join_implements g m number apart event may_w d =
      let N = thread_of s n in
      let core = ap (λ (y : StateView). finish g N NoAnswer y.core) d ∙ (ap (λ (y : StateView). finish g N NoAnswer (wakes_joined e x w y.core)) joined_is ∙ ap (λ o. finish g N NoAnswer (wakes_joined o x w (set_join q (joins x) s.core))) event) in
      subst (λ (j : ℕ). Implements (join_done_by g N q (choice_of (join_label j w)).woken s.core x) s.core (goes_as (join_label j w) j) (ended g N (goes_as (join_label j w) j) u.core)) (sym number)
      (subst (λ (o : Option ℕ). Implements (join_done_by g N q o s.core x) s.core (goes_as (join_label N w) N) (ended g N (goes_as (join_label N w) N) u.core)) (sym (woken_shown N w))
      (subst (λ (p : Progress). Implements p s.core (goes_as (join_label N w) N) (ended g N (goes_as (join_label N w) N) u.core)) (sym (done_is g apart event may_w)) (refl, nothing_shown g N w u.core ∙ core)))

-- ---- The steps of a join

module _ (n : TableId ThreadKey) (sub : SubtaskId) (set : Option (TableId SetKey)) (j : JoinId) (s t : StateView) (left : t ≡ on_core (set_join (subtask_in s.tags sub) (join_in s.tags j)) s) (to : join_in s.tags j ≡ joins (option_map (λ id. set_of s id) set)) where
  joined_as : t ≡ on_core (set_join (subtask_in s.tags sub) (joins (option_map (λ id. set_of s id) set))) s
  joined_as = left ∙ ap (λ (k : Join). on_core (set_join (subtask_in s.tags sub) k) s) to

  same_tags : t.tags ≡ s.tags
  same_tags = ap (λ (v : StateView). v.tags) joined_as

  pub join_idle : IsRunning (thread_of s n) s.core → AreIdleUnqueued t.core
  join_idle st = joined_idle n (subtask_in s.tags sub) None (option_map (λ id. set_of s id) set) None s t t joined_as st

  module _ (waiter : Option (TableId ThreadKey)) (e : Option Status) (u : StateView) (woken : u ≡ on_core (wakes_joined e (option_map (λ id. set_of t id) set) (option_map (λ id. thread_of t id) waiter)) t) where
    woken_as : u ≡ on_core (wakes_joined e (option_map (λ id. set_of s id) set) (option_map (λ id. thread_of t id) waiter)) t
    woken_as = woken ∙ ap (λ (g : Tags). on_core (wakes_joined e (option_map (λ id. set_number g id) set) (option_map (λ id. thread_of t id) waiter)) t) same_tags

    pub set_joined_implements : (h : Doer) (m : ℕ) (r : OpResult) (o : Option ℕ) → m ≡ thread_of s n → r ≡ goes_as (join_label m o) m → o ≡ option_map (λ id. thread_of t id) waiter → is_watched (join_of (subtask_in s.tags sub) s.core) ≡ false → e ≡ event_of (subtask_in s.tags sub) s.core → may_wake_new e (option_map (λ id. set_of t id) set) (option_map (λ id. thread_of t id) waiter) t.core ≡ true → Implements (join_done_by h (thread_of s n) (subtask_in s.tags sub) (choice_of (label_of (thread_of s n) r)).woken s.core (option_map (λ id. set_of s id) set)) s.core r (ended h (thread_of s n) r u.core)
    set_joined_implements h m r o number shown chosen apart event may_w =
        let N = thread_of s n in
        let q = subtask_in s.tags sub in
        let x = option_map (λ id. set_of s id) set in
        let w = option_map (λ id. thread_of t id) waiter in
        let choice : may_wake_new e x w t.core ≡ true = ap (λ (g : Tags). may_wake_new e (option_map (λ id. set_number g id) set) w t.core) (sym same_tags) ∙ may_w in
        subst (λ (y : OpResult). Implements (join_done_by h N q (choice_of (label_of N y)).woken s.core x) s.core y (ended h N y u.core)) (sym (shown ∙ ap (λ (k : Option ℕ). goes_as (join_label m k) m) chosen))
        (join_implements n q e x w s t u joined_as h m number apart event choice woken_as)

pub to_zero : (d : Doer) (n y : ℕ) (w : Option ℕ) (s : Core) (q : Subtask) → y ≡ 0 → join_to_by d n y w s q ≡ join_done_by d n q w s None
to_zero d n y w s q e = ap (λ (k : ℕ). join_to_by d n k w s q) e

-- ---- Who is woken came first before the subtask joined

join_threads : (sub : Subtask) (j : Join) (s : Core) → (set_join sub j s).threads ≡ s.threads
unfolding set_join on_call on_work
join_threads (subtask.Guest k) j s = refl
join_threads (subtask.Host i) j s = refl

-- what comes first hangs on no set that a subtask is in
joined_preference : (sub : Subtask) (j : Join) (s : StateView) → preference (on_core (set_join sub j) s) ≡ preference s
unfolding set_join on_call on_work
joined_preference (subtask.Guest k) j s = refl
joined_preference (subtask.Host i) j s = refl

pub joined_first : (id : TableId ThreadKey) (sub : Subtask) (j : Join) (s t : StateView) → t ≡ on_core (set_join sub j) s → WakesFirst (preference t) t.core (thread_of t id) → WakesFirst (preference s) s.core (thread_of t id)
joined_first id sub j s t e first =
    wakes_as (preference s) s.core t.core (thread_of t id) (ap (λ (v : StateView). v.core.threads) e ∙ join_threads sub j s.core) (subst (λ (q : Preference). WakesFirst q t.core (thread_of t id)) (ap preference e ∙ joined_preference sub j s) first)

-- what a join picks that shows this
pub join_picks : (n : TableId ThreadKey) (sub : SubtaskId) (set : Option (TableId SetKey)) (s u : StateView) (r : OpResult) (m : ℕ) (o : Option ℕ) → r ≡ goes_as (join_label m o) m → ShowsFirst (preference s) s.core (join_label m o)
    → ((d : Doer) → Implements (joins_of s sub set d (thread_of s n) (choice_of (label_of (thread_of s n) r)) s.core) s.core r (ended d (thread_of s n) r u.core)) → PicksAs (joins_of s sub set) n s r u
join_picks n sub set s u r m o is shows meets =
    let N = thread_of s n in
    let shown = subst (λ (q : OpResult). ShowsFirst (preference s) s.core (label_of N q)) (sym is) shows in
    λ d. loose_picks (preference s) _ (label_of N r) s.core r (ended d N r u.core) (join_done_none d N s.core (subtask_in s.tags sub) (choice_of (label_of N r)).woken (option_map (λ id. set_of s id) set)) shown (meets d)

or_none : {X : Type 0} (o : Option X) (why : Trap) (next : X → Progress) → ((x : X) → ReleasesNone (next x)) → ReleasesNone (or_trap o why next)
or_none None why next none = tt
or_none (Some x) why next none = none x

-- a join releases no thread
pub join_none : (d : Doer) (n : ℕ) (s : Core) (h y : ℕ) (w : Option ℕ) → ReleasesNone (join_rule d n h y w s)
join_none d n s h y w = or_none (subtask_at (instance_of n s) h s) trap.BadHandle _ (join_to_none d n s y w)
