-- Cancels of guest calls.
use Rattle.std.proofs.Common.{T, ap, ap₂, arith, refl, subst, sym, ◌∙◌}
use Rattle.std.specs.Option.{option_map_or}
use Rattle.std.specs.Prelude.{Bool, List, None, Option, Some, [], false, if◌then◌else◌, is_some, not, option_map, true, ℕ, ◌+◌, ◌&&◌, ◌<◌, ◌==◌, ◌∷◌, ◌≡◌, ◌||◌}
use Rattle.task_table.specs.declared.id.TableId.{TableId}
use Rattle.task_wait.specs.declared.keys.GuestTaskKey.{GuestTaskKey}
use Rattle.task_wait.specs.declared.keys.ThreadKey.{ThreadKey}
use Rattle.machine_data.specs.Core.{Core}
use Rattle.machine_data.specs.Maps.{get}
use Rattle.machine_data.specs.Moves.{has_entry, less, less_switch, promoted_unless, put_switch, unqueued, withdrawn}
use Rattle.machine_data.specs.Read.{call_instance, cancel_was_asked, is_nil, is_second, event_of, has_ended, is_at, is_callback_yield, may_not_suspend, place_of, undelivered_end, was_started}
use Rattle.machine_data.specs.Write.{set_cancel_asked, on_call, on_instance, on_thread, remove_thread, set_do_not_suspend, set_end, set_exited, set_high, set_op_progress, set_join, set_low, set_task_event, set_saved_callee, set_switch, set_uninteresting}
use Rattle.machine_data.specs.declared.records.CallEnd.TheVariants as call_end
use Rattle.machine_data.specs.declared.records.OpProgress.TheVariants as op_progress
use Rattle.machine_data.specs.declared.records.Join.TheVariants as join
use Rattle.machine_data.specs.declared.records.Subtask.TheVariants as subtask
use Rattle.machine_data.specs.declared.records.Place.{Place}
use Rattle.machine_data.specs.declared.records.Place.TheVariants as place
use Rattle.machine_data.specs.declared.records.Thread.{Thread}
use Rattle.machine_data.specs.declared.records.Why.{Why}
use Rattle.machine_data.specs.declared.statuses.Mark.{Mark}
use Rattle.machine_data.specs.declared.statuses.TaskEvent.TheVariants as own
use Rattle.ops_guests.proofs.BesideLemmas.{promoted_unless_stand, put_switch_good}
use Rattle.ops_guests.proofs.RunLemmas.{stands_on}
use Rattle.ops_guests.specs.OpResult.{Implements}
use Rattle.ops_guests.specs.Running.{IsRunning}
use Rattle.ops_guests.specs.declared.op_result.OpResult.{OpResult}
use Rattle.ops_guests.specs.declared.op_result.OpResult.TheVariants as op_result
use Rattle.laws_places.proofs.Entries.{unqueued_cleared}
use Rattle.laws_places.proofs.PlaceLaw.{ReadyAt}
use Rattle.machine_rules.proofs.MoveLemmas.{no_time, one_time}
use Rattle.machine_rules.proofs.StandLemmas.{Loose, by_number, eq_refl}
use Rattle.machine_rules.proofs.StopLemmas.{fresh_apart}
use Rattle.ops_guests.specs.Ended.{ended}
use Rattle.ops_guests.specs.Shown.{goes_as}
use Rattle.machine_rules.specs.Finish.{Doer, OneNumber, finish}
use Rattle.machine_rules.specs.Cancels.{AlreadyEnded, AskedBefore, CallbackYields, CancelCase, Mode, OtherwiseRuns, StartNotRun, ThreadWaits, after_cancel_by, behind_switch, cancel_asks, cancel_case, cancel_ended_by, cancel_goes_behind, cancel_guest_by, cancel_label, cancel_promotes_yield, pauses, cancellable, is_waiting}
use Rattle.machine_rules.specs.Step.{is_among}
use Rattle.machine_rules.specs.Places.{HasPlace, entries, is_at_high, is_at_low, is_at_switch, is_fresh, one_if, says, switch_entries}
use Rattle.core_primitives.specs.Apart.{IsApart, IsBehindNobody, IsSwitchUnqueued, IsUnqueued}
use Rattle.core_primitives.specs.Live.{live_thread}
use Rattle.core_primitives.specs.StateView.{KeepsBut, StateView, Tags, call_of, lost_thread, on_core, thread_of, with_core}
use Rattle.ops_subtasks.proofs.EndLemmas.{cancel_ends}
use Rattle.ops_subtasks.proofs.SteadyLemmas.{Steady, asked_steady, marked_steady, steady_after, still_runs}

-- ---- The first thread of a call

place_kept : (k : ℕ) (s : Core) → get s.threads 0 ≡ None → place_of (live_thread k s) s ≡ place_of k s
place_kept k s nought = go (get s.threads k) refl
  where
    go : (o : Option Thread) → get s.threads k ≡ o → place_of (if is_some o then k else 0) s ≡ place_of k s
    go None e = ap (λ (o : Option Thread). option_map (λ (t : Thread). t.place) o) (nought ∙ sym e)
    go (Some t) e = refl

pub first_at_same : (f k : ℕ) (test : Place → Bool) (s : Core) → get s.threads 0 ≡ None → f ≡ live_thread k s → is_at f s test ≡ is_at k s test
first_at_same f k test s nought is = ap (λ (j : ℕ). is_at j s test) is ∙ ap (λ (o : Option Place). option_map_or test o false) (place_kept k s nought)

kept_there : (k : ℕ) (s : Core) → is_some (place_of k s) ≡ true → live_thread k s ≡ k
kept_there k s h = go (get s.threads k) refl h
  where
    go : (o : Option Thread) → get s.threads k ≡ o → is_some (option_map (λ (t : Thread). t.place) o) ≡ true → (if is_some o then k else 0) ≡ k
    go None e d = absurd (subst T (sym d) tt)
    go (Some t) e d = refl

pub first_there : (f k : ℕ) (s : Core) → f ≡ live_thread k s → is_some (place_of k s) ≡ true → f ≡ k
first_there f k s is h = is ∙ kept_there k s h

at_there : (o : Option Place) (test : Place → Bool) → option_map_or test o false ≡ true → is_some o ≡ true
at_there None test h = absurd (subst T (sym h) tt)
at_there (Some p) test h = refl

pub first_found : (f k : ℕ) (test : Place → Bool) (s : Core) → get s.threads 0 ≡ None → f ≡ live_thread k s → is_at f s test ≡ true → f ≡ k
first_found f k test s nought is h = first_there f k s is (at_there (place_of k s) test (sym (first_at_same f k test s nought is) ∙ h))

-- ---- A start is withdrawn

unqueued_switch : (m : ℕ) (s : Core) → (unqueued m s).queues.switch ≡ s.queues.switch
unfolding unqueued set_high set_low
unqueued_switch m s = go (has_entry m s.queues.high)
  where
    go : (b : Bool) → (if b then set_high (less m s.queues.high) s else set_low (less m s.queues.low) s).queues.switch ≡ s.queues.switch
    go true = refl
    go false = refl

switch_same : (o : Option ℕ) (s : Core) → s.queues.switch ≡ o → set_switch o s ≡ s
unfolding set_switch
switch_same o s e = ap (λ (p : Option ℕ). set_switch p s) (sym e)

abbrev pub taken_out : ℕ → Core → Core
taken_out m s = set_switch (less_switch m s.queues.switch) (unqueued m s)

pub out_same : (f : TableId ThreadKey) (s t : StateView) → less_switch (thread_of s f) s.core.queues.switch ≡ s.core.queues.switch → t ≡ on_core (unqueued (thread_of s f)) s → t ≡ on_core (taken_out (thread_of s f)) s
out_same f s t same e =
    let m = thread_of s f in
    e ∙ ap (λ (c : Core). with_core c s) (sym (switch_same (less_switch m s.core.queues.switch) (unqueued m s.core) (unqueued_switch m s.core ∙ sym same)))

pub out_switched : (f : TableId ThreadKey) (s t u : StateView) → less_switch (thread_of s f) s.core.queues.switch ≡ None → t ≡ on_core (unqueued (thread_of s f)) s → u ≡ on_core (set_switch None) t → u ≡ on_core (taken_out (thread_of s f)) s
out_switched f s t u none e d =
    d ∙ (ap (on_core (set_switch None)) e ∙ ap (λ (o : Option ℕ). with_core (set_switch o (unqueued (thread_of s f) s.core)) s) (sym none))

out_loose : (k : ℕ) (s : Core) → HasPlace k s → is_fresh (place_of k s) ≡ true → Loose k (taken_out k s)
out_loose k s h fresh = (unqueued_cleared k s h).own (fresh_apart (place_of k s) fresh)

pub out_apart : (f : TableId ThreadKey) (k : ℕ) (s t : StateView) → thread_of s f ≡ k → HasPlace k s.core → is_fresh (place_of k s.core) ≡ true → t ≡ on_core (taken_out (thread_of s f)) s → IsApart (thread_of t f) t.core
out_apart f k s t is h fresh e =
    let l = out_loose k s.core h fresh in
    subst (λ (v : StateView). IsApart (thread_of v f) v.core) (sym e)
    (subst (λ (j : ℕ). IsApart j (taken_out j s.core)) (sym is) (record { unqueued = record { high = l.high; low = l.low }; switch = l.switch; behind = l.callers }))

-- the thread is gone, and the call has ended
module _ (f : TableId ThreadKey) (k : TableId GuestTaskKey) (s a b c d e : StateView) (out : a ≡ on_core (taken_out (thread_of s f)) s) (gone : b.core ≡ remove_thread (thread_of a f) a.core) (keeps : KeepsBut (lost_thread (thread_of a f)) a.tags b.tags) (over : c ≡ on_core (set_end (call_of b k) call_end.StartCancelled) b) (left : d ≡ on_core (set_exited (call_of c k)) c) (dull : e ≡ on_core (set_uninteresting (call_of d k)) d) (first : thread_of s f ≡ call_of s k) (live : 0 < call_of s k) where
  same_call : call_of b k ≡ call_of s k
  same_call = keeps.calls k (λ z. absurd (none (subst (λ j. 0 < j) (sym (ap (λ (v : StateView). call_of v k) out) ∙ z) live))) ∙ ap (λ (v : StateView). call_of v k) out
    where
      none : ◌<◌ 0 0 → ⊥
      none h = omega (arith, h)

  all_is : e ≡ on_core (λ u. set_uninteresting (call_of b k) (set_exited (call_of b k) (set_end (call_of b k) call_end.StartCancelled u))) b
  all_is = dull ∙ (ap (λ (v : StateView). on_core (set_uninteresting (call_of v k)) v) left ∙ ap (λ (v : StateView). on_core (λ u. set_uninteresting (call_of v k) (set_exited (call_of v k) u)) v) over)

  pub withdrawn_core : e.core ≡ withdrawn (call_of s k) s.core
  unfolding withdrawn
  withdrawn_core =
      ap (λ (v : StateView). v.core) all_is
      ∙ (ap₂ (λ (j : ℕ) (u : Core). set_uninteresting j (set_exited j (set_end j call_end.StartCancelled u))) same_call gone
      ∙ (ap (λ (v : StateView). set_uninteresting (call_of s k) (set_exited (call_of s k) (set_end (call_of s k) call_end.StartCancelled (remove_thread (thread_of v f) v.core)))) out
      ∙ ap (λ (j : ℕ). set_uninteresting (call_of s k) (set_exited (call_of s k) (set_end (call_of s k) call_end.StartCancelled (remove_thread j (taken_out j s.core))))) first))

  pub withdrawn_tags : KeepsBut (lost_thread (call_of s k)) s.tags e.tags
  withdrawn_tags =
      subst (λ (g : Tags). KeepsBut (lost_thread (call_of s k)) s.tags g) (sym (ap (λ (v : StateView). v.tags) all_is))
      (subst (λ (j : ℕ). KeepsBut (lost_thread j) s.tags b.tags) first (subst (λ (v : StateView). KeepsBut (lost_thread (thread_of v f)) v.tags b.tags) out keeps))

fresh_apart_from : (n k : ℕ) (s : Core) → IsRunning n s → is_fresh (place_of k s) ≡ true → (k == n) ≡ false
fresh_apart_from n k s st fresh = by_number k n ((k == n) ≡ false) (λ e. absurd (none (sym fresh ∙ ap (λ (o : Option Place). is_fresh o) (ap (λ j. place_of j s) e ∙ st.here)))) (λ d. d)
  where
    none : true ≡ false → ⊥
    none e = cc

module _ (n : TableId ThreadKey) (k : ℕ) (s t : StateView) (keeps : KeepsBut (lost_thread k) s.tags t.tags) (st : IsRunning (thread_of s n) s.core) (fresh : is_fresh (place_of k s.core) ≡ true) where
  pub withdrawn_thread : thread_of t n ≡ thread_of s n
  withdrawn_thread = keeps.threads n (λ e. absurd (both (sym (fresh_apart_from (thread_of s n) k s.core st fresh) ∙ (ap (λ j. k == j) e ∙ eq_refl k))))
    where
      both : false ≡ true → ⊥
      both e = cc

-- ---- The callback goes first

switch_placed : (m : ℕ) (s : Core) → s.queues.switch ≡ Some m → HasPlace m s → IsUnqueued m s
switch_placed m s at h =
    let one : says is_at_switch (place_of m s) ≡ 1 = sym h.switch ∙ (ap (switch_entries m) at ∙ ap one_if (eq_refl m)) in
    let a = h.high in
    let b = h.low in
    go (place_of m s) one a b
  where
    go : (o : Option Place) → says is_at_switch o ≡ 1 → entries m s.queues.high ≡ says is_at_high o → entries m s.queues.low ≡ says is_at_low o → IsUnqueued m s
    go o one a b = record { high = a ∙ grind (arith, one); low = b ∙ grind (arith, one) }

pub running_switched : (n : ℕ) (s : Core) → IsRunning n s → IsSwitchUnqueued s
running_switched n s st m at = by_number m n (IsUnqueued m s)
    (λ e. let l = st.loose n (one_time n) in subst (λ (j : ℕ). IsUnqueued j s) (sym e) (record { high = l.high; low = l.low }))
    (λ d. switch_placed m s at (st.placed m (no_time m n d)))

at_wait : (o : Option Place) → option_map_or is_waiting o false ≡ true → (x : ℕ) × ((b : Bool) × (o ≡ Some (place.Waiting x b)))
at_wait o h = grind arith

at_yield : (o : Option Place) → option_map_or is_callback_yield o false ≡ true → ReadyAt o
at_yield o h = grind arith

-- the task is asked to end
pub asks_steady : (k : ℕ) (s : Core) → Steady s (cancel_asks k s)
unfolding cancel_asks
asks_steady k s = let t = set_task_event k (Some own.Cancelled) s in steady_after s t (set_cancel_asked k t) (asked_steady k (Some own.Cancelled) s) (marked_steady k t)

asked_runs : (n : TableId ThreadKey) (k : ℕ) (s a : StateView) → a ≡ on_core (cancel_asks k) s → IsRunning (thread_of s n) s.core → IsRunning (thread_of a n) a.core
asked_runs n k s a asked st = still_runs n (cancel_asks k) s a asked (asks_steady k s.core) st

place_asked : (f : TableId ThreadKey) (k : ℕ) (s a : StateView) → a ≡ on_core (cancel_asks k) s → place_of (thread_of a f) a.core ≡ place_of (thread_of s f) s.core
unfolding cancel_asks set_task_event set_cancel_asked on_call
place_asked f k s a asked = ap (λ (v : StateView). place_of (thread_of v f) v.core) asked

-- a thread that waits becomes the switch entry
module _ (n w : TableId ThreadKey) (k : ℕ) (s a b : StateView) (asked : a ≡ on_core (cancel_asks k) s) (st : IsRunning (thread_of s n) s.core) where
  pub asked_switched : IsSwitchUnqueued a.core
  asked_switched = running_switched (thread_of a n) a.core (asked_runs n k s a asked st)

  pub switched_runs : (y : Why) → is_at (thread_of s w) s.core is_waiting ≡ true → b ≡ on_core (put_switch (thread_of a w) y) a → IsRunning (thread_of b n) b.core
  switched_runs y waits put =
      let p = at_wait (place_of (thread_of s w) s.core) waits in
      stands_on n place.Running (put_switch (thread_of a w) y) a b put
      (put_switch_good (thread_of a n) place.Running refl (thread_of a w) y (place.Waiting p.0 p.1.0) a.core (place_asked w k s a asked ∙ p.1.1) refl (asked_runs n k s a asked st))

module _ (n f : TableId ThreadKey) (k : ℕ) (s a b : StateView) (asked : a ≡ on_core (cancel_asks k) s) (first : thread_of s f ≡ k) (st : IsRunning (thread_of s n) s.core) where
  runs_asked : IsRunning (thread_of a n) a.core
  runs_asked = asked_runs n k s a asked st

  first_place : (p : Option Place) → place_of k s.core ≡ p → place_of (thread_of a f) a.core ≡ p
  first_place p at = place_asked f k s a asked ∙ (ap (λ (j : ℕ). place_of j s.core) first ∙ at)

  pub promoted_runs : is_at k s.core is_callback_yield ≡ true → b ≡ on_core (promoted_unless (thread_of a f)) a → IsRunning (thread_of b n) b.core
  promoted_runs yields put =
      let p = at_yield (place_of k s.core) yields in
      stands_on n place.Running (promoted_unless (thread_of a f)) a b put (promoted_unless_stand (thread_of a n) place.Running (thread_of a f) a.core (other p) (p.0, (p.1.0, first_place _ p.1.1)) runs_asked)
    where
      both : {x : Mark} {w : Why} → Some place.Running ≡ Some (place.Ready x w) → ⊥
      both e = cc

      other : ReadyAt (place_of k s.core) → (thread_of a f == thread_of a n) ≡ false
      other p = by_number (thread_of a f) (thread_of a n) ((thread_of a f == thread_of a n) ≡ false) (λ e. absurd (both (sym runs_asked.here ∙ (ap (λ j. place_of j a.core) (sym e) ∙ first_place _ p.1.1)))) (λ d. d)

pub running_behind : (n : ℕ) (s : Core) → IsRunning n s → IsBehindNobody n s
running_behind n s st = (st.loose n (one_time n)).callers

-- ---- The canceller goes behind

module _ (n : TableId ThreadKey) (k : TableId GuestTaskKey) (i : ℕ) (b : Bool) (s p q t : StateView) (saved : p ≡ on_core (set_saved_callee (thread_of s n) (Some b)) s) (cleared : q ≡ on_core (set_do_not_suspend i false) p) (watched : t ≡ on_core (set_join (subtask.Guest (call_of q k)) (join.Watched (thread_of q n))) q) where
  watched_as : t ≡ on_core (λ u. set_join (subtask.Guest (call_of s k)) (join.Watched (thread_of s n)) (set_do_not_suspend i false (set_saved_callee (thread_of s n) (Some b) u))) s
  watched_as =
      watched
      ∙ (ap (λ (v : StateView). on_core (set_join (subtask.Guest (call_of v k)) (join.Watched (thread_of v n))) v) cleared
      ∙ ap (λ (v : StateView). on_core (λ u. set_join (subtask.Guest (call_of v k)) (join.Watched (thread_of v n)) (set_do_not_suspend i false u)) v) saved)

  pub watched_behind : IsRunning (thread_of s n) s.core → IsBehindNobody (thread_of t n) t.core
  unfolding set_join on_call set_do_not_suspend on_instance set_saved_callee on_thread
  watched_behind st = subst (λ (v : StateView). IsBehindNobody (thread_of v n) v.core) (sym watched_as) (running_behind (thread_of s n) s.core st)

  pub went_behind : (u v : StateView) → i ≡ call_instance (call_of s k) s.core → b ≡ may_not_suspend i s.core → u ≡ on_core (behind_switch (thread_of t n) t.core.queues.switch) t → v ≡ on_core (set_op_progress (thread_of u n) (op_progress.Cancels (subtask.Guest (call_of u k)))) u → v ≡ on_core (cancel_goes_behind (thread_of s n) (call_of s k)) s
  unfolding cancel_goes_behind set_join on_call set_do_not_suspend on_instance set_saved_callee on_thread
  went_behind u v at flag stood far =
      let N = thread_of s n in
      let K = call_of s k in
      far
      ∙ (ap (λ (y : StateView). on_core (set_op_progress (thread_of y n) (op_progress.Cancels (subtask.Guest (call_of y k)))) y) stood
      ∙ (ap (λ (y : StateView). on_core (λ c. set_op_progress (thread_of y n) (op_progress.Cancels (subtask.Guest (call_of y k))) (behind_switch (thread_of y n) y.core.queues.switch c)) y) watched_as
      ∙ (ap (λ (j : ℕ). with_core (set_op_progress N (op_progress.Cancels (subtask.Guest K)) (behind_switch N s.core.queues.switch (set_join (subtask.Guest K) (join.Watched N) (set_do_not_suspend j false (set_saved_callee N (Some b) s.core))))) s) at
      ∙ ap (λ (c : Bool). with_core (set_op_progress N (op_progress.Cancels (subtask.Guest K)) (behind_switch N s.core.queues.switch (set_join (subtask.Guest K) (join.Watched N) (set_do_not_suspend (call_instance K s.core) false (set_saved_callee N (Some c) s.core))))) s) (flag ∙ ap (λ (j : ℕ). may_not_suspend j s.core) at))))

-- ---- Which case it is

-- by the tests, one after another
abbrev case_of : (ended started asked none yields : Bool) → CancelCase
case_of ended started asked none yields =
    if ended then AlreadyEnded else
    if not started then StartNotRun else
    if asked then AskedBefore else
    if not none then ThreadWaits else
    if yields then CallbackYields else OtherwiseRuns

-- it has ended
pub ended_implements : (mode : Mode) (n : ℕ) (r : Doer) (k : ℕ) (s : Core) (c : OpResult) (u : Core) → has_ended k s ≡ true → Implements (cancel_ended_by r mode n (subtask.Guest k) s (undelivered_end (event_of (subtask.Guest k) s))) s c u → Implements (cancel_guest_by r mode n k s (cancel_case k s)) s c u
ended_implements mode n r k s c u over implements =
    subst (λ (y : CancelCase). Implements (cancel_guest_by r mode n k s y) s c u)
    (sym (ap (λ (b : Bool). case_of b (was_started k s) (is_second s.version && cancel_was_asked k s) (is_nil (cancellable k s)) (is_at k s is_callback_yield)) over)) implements

module _ (mode : Mode) (n : ℕ) (r : Doer) (k : ℕ) (s : Core) (unended : has_ended k s ≡ false) where
  unended_case : cancel_case k s ≡ case_of false (was_started k s) (is_second s.version && cancel_was_asked k s) (is_nil (cancellable k s)) (is_at k s is_callback_yield)
  unended_case = ap (λ (b : Bool). case_of b (was_started k s) (is_second s.version && cancel_was_asked k s) (is_nil (cancellable k s)) (is_at k s is_callback_yield)) unended

  -- the start is withdrawn, and nothing is saved any more
  pub withdrawn_implements : was_started k s ≡ false → (m : ℕ) (c : OpResult) (u : Core) → m ≡ n → c ≡ goes_as (cancel_label mode m 3) m → u ≡ set_saved_callee n None (withdrawn k s) → Implements (cancel_guest_by r mode n k s (cancel_case k s)) s c (ended r n c u)
  withdrawn_implements fresh m c u number is core =
      subst (λ (y : CancelCase). Implements (cancel_guest_by r mode n k s y) s c (ended r n c u)) (sym (unended_case ∙ ap (λ (b : Bool). case_of false b (is_second s.version && cancel_was_asked k s) (is_nil (cancellable k s)) (is_at k s is_callback_yield)) fresh)) (
        is ∙ ap (λ (j : ℕ). goes_as (cancel_label mode j 3) j) number,
        ap (λ (y : OpResult). ended r n y u) is ∙ (cancel_ends mode r n m 3 u ∙ ap (λ (y : Core). finish r n (OneNumber 3) y) core),
      )

  module _ (started : was_started k s ≡ true) where
    started_case : cancel_case k s ≡ case_of false true (is_second s.version && cancel_was_asked k s) (is_nil (cancellable k s)) (is_at k s is_callback_yield)
    started_case = unended_case ∙ ap (λ (b : Bool). case_of false b (is_second s.version && cancel_was_asked k s) (is_nil (cancellable k s)) (is_at k s is_callback_yield)) started

    -- a second cancel is a trap
    pub asked_case : (is_second s.version && cancel_was_asked k s) ≡ true → cancel_case k s ≡ AskedBefore
    asked_case asked = started_case ∙ ap (λ (b : Bool). case_of false true b (is_nil (cancellable k s)) (is_at k s is_callback_yield)) asked

    module _ (first : (is_second s.version && cancel_was_asked k s) ≡ false) where
      first_case : cancel_case k s ≡ case_of false true false (is_nil (cancellable k s)) (is_at k s is_callback_yield)
      first_case = started_case ∙ ap (λ (b : Bool). case_of false true b (is_nil (cancellable k s)) (is_at k s is_callback_yield)) first

      -- a thread waits that may be taken
      pub waits_case : (w : ℕ) → is_among w (cancellable k s) ≡ true → cancel_case k s ≡ ThreadWaits
      waits_case w among = first_case ∙ ap (λ (b : Bool). case_of false true false b (is_at k s is_callback_yield)) (some (cancellable k s) among)
        where
          some : (ns : List ℕ) → is_among w ns ≡ true → is_nil ns ≡ false
          some [] none = absurd (cc)
          some (m ∷ ns) there = refl

      module _ (awake : cancellable k s ≡ []) where
        awake_case : cancel_case k s ≡ (if is_at k s is_callback_yield then CallbackYields else OtherwiseRuns)
        awake_case = first_case ∙ ap (λ (ns : List ℕ). case_of false true false (is_nil ns) (is_at k s is_callback_yield)) awake

        pub awake_other : cancel_case k s ≡ ThreadWaits → ⊥
        awake_other e = by (is_at k s is_callback_yield) (sym awake_case ∙ e)
          where
            by : (b : Bool) → (if b then CallbackYields else OtherwiseRuns) ≡ ThreadWaits → ⊥
            by true is = absurd (cc)
            by false is = absurd (cc)

        pub yields_implements : (m : ℕ) (u : Core) → is_at k s is_callback_yield ≡ true → m ≡ n → u ≡ cancel_promotes_yield n k s → Implements (cancel_guest_by r mode n k s (cancel_case k s)) s (op_result.Stops (pauses m)) u
        yields_implements m u yields number core =
            subst (λ (c : CancelCase). Implements (cancel_guest_by r mode n k s c) s (op_result.Stops (pauses m)) u) (sym (awake_case ∙ ap (λ (b : Bool). if b then CallbackYields else OtherwiseRuns) yields))
            (ap (λ (j : ℕ). op_result.Stops (pauses j)) number, core)

        pub runs_implements : (c : OpResult) (u : Core) → is_at k s is_callback_yield ≡ false → Implements (after_cancel_by r mode n (subtask.Guest k) (cancel_asks k s)) s c u → Implements (cancel_guest_by r mode n k s (cancel_case k s)) s c u
        runs_implements c u other implements = subst (λ (y : CancelCase). Implements (cancel_guest_by r mode n k s y) s c u) (sym (awake_case ∙ ap (λ (b : Bool). if b then CallbackYields else OtherwiseRuns) other)) implements
