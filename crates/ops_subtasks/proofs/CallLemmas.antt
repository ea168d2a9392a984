-- A call that was made beside the thread that runs, and its start queued.
use Rattle.std.proofs.Common.{ap, ap₂, arith, le_refl, refl, subst, sym, ◌∙◌}
use Rattle.std.proofs.lemmas.Bool.Decides.{nat_tests}
use Rattle.std.specs.Prelude.{Bool, List, None, Option, Some, [], false, is_some, option_map, ℕ, ◌+◌, ◌<◌, ◌==◌, ◌≡◌, ◌≤◌}
use Rattle.task_table.specs.declared.id.TableId.{TableId}
use Rattle.task_wait.specs.declared.keys.GuestTaskKey.{GuestTaskKey}
use Rattle.task_wait.specs.declared.keys.ThreadKey.{ThreadKey}
use Rattle.machine_data.proofs.CommuteLemmas.{get-change}
use Rattle.machine_data.proofs.MapLemmas.{get-insert_same}
use Rattle.machine_data.specs.Core.{Core}
use Rattle.machine_data.specs.Moves.{behind_one, put_switch}
use Rattle.machine_data.specs.Read.{may_not_suspend, place_of, thread_group}
use Rattle.machine_data.specs.Write.{add_call, add_thread, on_instance, on_thread, set_do_not_suspend, set_op_progress, set_saved_callee}
use Rattle.machine_data.specs.declared.component.Callee.{Callee}
use Rattle.machine_data.specs.declared.component.ExportKind.{ExportKind}
use Rattle.machine_data.specs.declared.component.ExportKind.TheVariants as kind
use Rattle.machine_data.specs.declared.records.Call.{Call}
use Rattle.machine_data.specs.declared.records.Caller.{Caller}
use Rattle.machine_data.specs.declared.records.Caller.TheVariants as caller
use Rattle.machine_data.specs.declared.records.Goal.{Goal}
use Rattle.machine_data.specs.declared.records.OpProgress.TheVariants as op_progress
use Rattle.machine_data.specs.declared.records.Place.{Place}
use Rattle.machine_data.specs.declared.records.Place.TheVariants as place
use Rattle.machine_data.specs.declared.records.Script.TheVariants as script
use Rattle.machine_data.specs.declared.records.Subtask.TheVariants as subtask
use Rattle.machine_data.specs.declared.records.Thread.{Thread}
use Rattle.machine_data.specs.declared.records.Why.TheVariants as why
use Rattle.ops_guests.proofs.BesideLemmas.{put_switch_good, quiet_stand}
use Rattle.ops_guests.proofs.RunLemmas.{own_apart, stands_on}
use Rattle.ops_guests.specs.Running.{IsRunning, Stand}
use Rattle.laws_places.proofs.Entries.{added_stand}
use Rattle.machine_rules.proofs.MoveLemmas.{no_time, one_time}
use Rattle.machine_rules.proofs.StandLemmas.{Loose, by_number, eq_refl}
use Rattle.machine_rules.proofs.StopLemmas.{Untouched}
use Rattle.ops_subtasks.specs.Starts.{call_starts}
use Rattle.machine_rules.specs.Calls.{call_clears_flag, call_made, call_queues, new_call, new_thread, next_thread}
use Rattle.machine_rules.specs.Places.{HasPlace, is_at_high, is_at_low, is_at_switch, one_if, says, switch_entries}
use Rattle.machine_rules.specs.Scripts.{registers_for}
use Rattle.core_primitives.specs.Apart.{IsBehindNobody, IsSwitchUnqueued, IsUnqueued}
use Rattle.core_primitives.specs.StateView.{Keeps, StateView, call_of, on_core, thread_of}

-- ---- What is at switch has no other entry

one_entry : (o : Option Place) → says is_at_switch o + (says is_at_high o + says is_at_low o) ≤ 1
one_entry o = grind arith

switched_placed : (m : ℕ) (s : Core) → s.queues.switch ≡ Some m → HasPlace m s → IsUnqueued m s
switched_placed m s at h =
    let one : ◌≡◌ {A = ℕ} 1 (says is_at_switch (place_of m s)) = sym (ap one_if (eq_refl m)) ∙ (sym (ap (switch_entries m) at) ∙ h.switch) in
    let o = one_entry (place_of m s) in
    let x = h.high in
    let y = h.low in
    record { high = omega (arith, one, o, x, y); low = omega (arith, one, o, x, y) }

module _ (n : ℕ) (q : Place) (s : Core) (st : Stand n q [] s) where
  own : Loose n s
  own = st.loose n (one_time n)

  pub switch_unqueued : IsSwitchUnqueued s
  switch_unqueued m at = by_number m n (IsUnqueued m s) (λ e. absurd (none (sym own.switch ∙ (ap (switch_entries n) at ∙ (ap (λ (k : ℕ). switch_entries n (Some k)) e ∙ ap one_if (eq_refl n)))))) (λ e. switched_placed m s at (st.placed m (no_time m n e)))
    where
      none : ◌≡◌ {A = ℕ} 0 1 → ⊥
      none h = omega (arith, h)

  -- a number that is given next is another one
  pub not_next : (n == s.made.threads + 1) ≡ false
  not_next = by_number n (s.made.threads + 1) _ (λ e. absurd (high e (own.number (ap (λ (o : Option Place). is_some o) st.here)))) (λ e. e)
    where
      high : n ≡ s.made.threads + 1 → n ≤ s.made.threads → ⊥
      high e h = omega (arith, e, h)

-- ---- A call made

module _ (f : Caller) (e : Callee) (x : ExportKind) (g : Goal) (group : ℕ) (words : List ℕ) where
  added_untouched : (k : ℕ) (c : Call) (s : Core) → Untouched s (add_call k c s)
  unfolding add_call
  added_untouched k c s = record { places = λ k. refl; switch = λ k. refl; high = λ k. refl; low = λ k. refl; callers = refl; made = le_refl _ }

  pub made_stand : (n : ℕ) (s : Core) → IsRunning n s → IsRunning n (call_made f e x g group words s)
  unfolding call_made add_call
  made_stand n s st =
      let k = next_thread s in
      let c = new_call f e x g group in
      added_stand n (Some place.Running) (new_thread k false script.Start (registers_for words) None) (add_call k c s) (not_next n place.Running s st) refl (quiet_stand n place.Running [] s (add_call k c s) (added_untouched k c s) st)

  pub made_new : (s : Core) → place_of (next_thread s) (call_made f e x g group words s) ≡ Some place.New
  unfolding call_made add_thread add_call
  made_new s = ap (option_map (λ (t : Thread). t.place)) (get-insert_same s.threads (next_thread s) (new_thread (next_thread s) false script.Start (registers_for words) None))

-- ---- The flag

saved_untouched : (n j : ℕ) (b : Option Bool) (s : Core) → Untouched s (set_do_not_suspend j false (set_saved_callee n b s))
unfolding set_do_not_suspend on_instance set_saved_callee on_thread
saved_untouched n j b s = record { places = λ k. grind (arith, nat_tests, get-change); switch = λ k. refl; high = λ k. refl; low = λ k. refl; callers = refl; made = le_refl _ }

cleared_stand : (n j : ℕ) (x : ExportKind) (s : Core) → IsRunning n s → IsRunning n (call_clears_flag n j x s)
cleared_stand n j kind.Sync s st = st
cleared_stand n j kind.Blocking s st = quiet_stand n place.Running [] s _ (saved_untouched n j (Some (may_not_suspend j s)) s) st
cleared_stand n j kind.Stackful s st = quiet_stand n place.Running [] s _ (saved_untouched n j (Some (may_not_suspend j s)) s) st
cleared_stand n j kind.Callback s st = quiet_stand n place.Running [] s _ (saved_untouched n j (Some (may_not_suspend j s)) s) st

-- ---- As contracts see it

-- a call that begins leaves its thread behind nobody until it goes behind the callee's start
pub cleared_behind : (n m : TableId ThreadKey) (x : ExportKind) (j : ℕ) (t u v : StateView) → IsRunning (thread_of t n) t.core → place_of (thread_of t m) t.core ≡ Some place.New → u ≡ on_core (put_switch (thread_of t m) why.Start) t → v ≡ on_core (call_clears_flag (thread_of u n) j x) u → IsBehindNobody (thread_of v n) v.core
cleared_behind n m x j t u v runs new d c =
    let a = stands_on n place.Running (put_switch (thread_of t m) why.Start) t u d (put_switch_good (thread_of t n) place.Running refl (thread_of t m) why.Start place.New t.core new refl runs) in
    let b = stands_on n place.Running (call_clears_flag (thread_of u n) j x) u v c (cleared_stand (thread_of u n) j x u.core a) in
    (own_apart (thread_of v n) place.Running v.core b).behind

pub starts_is : (n m : TableId ThreadKey) (k : TableId GuestTaskKey) (j : ℕ) (x : ExportKind) (t u v y z : StateView) → u ≡ on_core (put_switch (thread_of t m) why.Start) t → v ≡ on_core (call_clears_flag (thread_of u n) j x) u → y ≡ on_core (behind_one (thread_of v m) (thread_of v n)) v → z ≡ on_core (set_op_progress (thread_of y n) (op_progress.Calls (subtask.Guest (call_of y k)))) y → z ≡ on_core (call_starts (thread_of t n) (thread_of t m) (call_of t k) j x) t
starts_is n m k j x t u v y z pu pv py pz = rw (pz, py, pv, pu) refl

module _ (n m : TableId ThreadKey) (f : Caller) (e : Callee) (x : ExportKind) (g : Goal) (group : ℕ) (words : List ℕ) (s t : StateView) (live : 0 < thread_of s n) (keeps : Keeps s.tags t.tags) (st : IsRunning (thread_of s n) s.core) (core : t.core ≡ call_made f e x g group words s.core) where
  pub made_runs : IsRunning (thread_of t n) t.core
  made_runs = subst (λ (k : ℕ). IsRunning k t.core) (sym (keeps.threads n live)) (subst (IsRunning (thread_of s n)) (sym core) (made_stand f e x g group words (thread_of s n) s.core st))

  pub made_new_in : thread_of t m ≡ next_thread s.core → place_of (thread_of t m) t.core ≡ Some place.New
  made_new_in named = ap₂ (λ (k : ℕ) (y : Core). place_of k y) named core ∙ made_new f e x g group words s.core

pub queued_is : (n m : TableId ThreadKey) (k : TableId GuestTaskKey) (N : ℕ) (e : Callee) (x : ExportKind) (g : Goal) (words : List ℕ) (s : Core) (t z : StateView) → thread_of t n ≡ N → thread_of t m ≡ next_thread s → call_of t k ≡ next_thread s → t.core ≡ call_made (caller.Thread N) e x g (thread_group N s) words s → z ≡ on_core (call_starts (thread_of t n) (thread_of t m) (call_of t k) e.instance x) t → z.core ≡ call_queues N e x g words s
unfolding call_queues
queued_is n m k N e x g words s t z pn pm pk pt pz = rw (pz, pn, pm, pk, pt) refl
