-- The work of a host call, made beside the thread that runs.
use Rattle.std.proofs.Common.{T, ap, ap₂, arith, le_refl, refl, subst, sym, ◌∙◌}
use Rattle.std.specs.List.{list_any}
use Rattle.std.specs.Prelude.{Bool, List, None, Option, Some, [], false, find, if◌then◌else◌, is_some, not, option_and_then, true, ℕ, ◌++◌, ◌+◌, ◌<◌, ◌∷◌, ◌≡◌, ◌||◌}
use Rattle.task_table.specs.declared.id.TableId.{TableId}
use Rattle.task_wait.specs.declared.keys.HostTaskKey.{HostTaskKey}
use Rattle.task_wait.specs.declared.keys.ThreadKey.{ThreadKey}
use Rattle.machine_data.proofs.MapLemmas.{change-field, get-insert_same, get-remove_same}
use Rattle.machine_data.specs.Core.{Core}
use Rattle.machine_data.specs.Maps.{Records, get}
use Rattle.std.specs.Option.{option_map_or}
use Rattle.ops_moves.proofs.TellLemmas.{map_or_is}
use Rattle.machine_rules.proofs.PlacingLemmas.{Shifted, placing_shifted, shifted_made, shifts_shifted}
use Rattle.machine_rules.proofs.WalkMoves.{checked_shifts}
use Rattle.machine_rules.specs.Primitives.{Stop}
use Rattle.machine_data.specs.Moves.{checked, first_entry, first_low, group_settled, has_entry, is_group_done, less, promoted, promoted_first, unqueued, why_of}
use Rattle.machine_data.specs.Read.{course_of, entry_thread, foot_of, instance_of, is_entry_in, is_entry_of, may_not_suspend, thread_group}
use Rattle.machine_data.specs.Write.{add_work, count_work, give_handle, on_thread, on_work, push_high, remove_group, remove_work, set_high, set_op_progress, set_low, set_place, set_subtask_handle, set_switch}
use Rattle.machine_data.specs.declared.component.HostDef.{HostDef}
use Rattle.machine_data.specs.declared.records.Entry.{Entry}
use Rattle.machine_data.specs.declared.records.Entry.TheVariants as entry
use Rattle.machine_data.specs.declared.records.Place.TheVariants as place
use Rattle.machine_data.specs.declared.records.Subtask.{Subtask}
use Rattle.machine_data.specs.declared.records.Subtask.TheVariants as subtask
use Rattle.machine_data.specs.declared.records.Course.TheVariants as course
use Rattle.machine_data.specs.declared.records.MadeCounts.{MadeCounts}
use Rattle.machine_data.specs.declared.records.Work.{Work}
use Rattle.machine_data.specs.declared.records.WorkCaller.{WorkCaller}
use Rattle.machine_data.specs.declared.records.WorkCaller.TheVariants as work_caller
use Rattle.machine_data.specs.declared.statuses.Mark.TheVariants as mark
use Rattle.ops_guests.proofs.BesideLemmas.{checked_stand, quiet_stand}
use Rattle.ops_guests.proofs.RunLemmas.{stands_on}
use Rattle.ops_guests.specs.Running.{IsRunning}
use Rattle.machine_rules.proofs.StandLemmas.{entries-append}
use Rattle.machine_rules.proofs.StopLemmas.{Untouched}
use Rattle.machine_data.specs.Labels.{choice_of}
use Rattle.machine_data.specs.declared.label.CallLabel.TheVariants as call_label
use Rattle.machine_data.specs.declared.label.Label.TheVariants as label
use Rattle.ops_guests.specs.OpResult.{Implements}
use Rattle.ops_guests.specs.Shown.{goes_as}
use Rattle.ops_subtasks.specs.Rules.{answers_work}
use Rattle.machine_rules.specs.Calls.{call_stops, call_sync_host_stops, host_with_handle, new_work, next_work, settle_group_of, with_handle, work_deleted, work_group, work_queued, work_value}
use Rattle.machine_rules.specs.Finish.{Doer, OneNumber, finish}
use Rattle.core_primitives.specs.StateView.{Keeps, KeepsBut, StateView, lost_work, on_core, thread_of, work_of}

-- ---- An entry that is of no thread, behind the others

or_false : (b : Bool) → b || false ≡ b
or_false true = refl
or_false false = refl

any_append : (test : Entry → Bool) (es : List Entry) (e : Entry) → test e ≡ false → list_any test (es ++ e ∷ []) ≡ list_any test es
any_append test [] e not_so = ap (λ b. b || false) not_so
any_append test (d ∷ es) e not_so = ap (λ b. test d || b) (any_append test es e not_so)

find_append : (test : Entry → Bool) (es : List Entry) (e : Entry) → test e ≡ false → find test (es ++ e ∷ []) ≡ find test es
find_append test [] e not_so = ap (λ b. if b then Some e else None) not_so
find_append test (d ∷ es) e not_so = ap (λ (o : Option Entry). if test d then Some d else o) (find_append test es e not_so)

less_more : (b c : Bool) (d : Entry) (xs ys : List Entry) (e : Entry) → b || c ≡ true → (c ≡ true → ys ≡ xs ++ e ∷ []) → (zs : List Entry) → (if b then zs ++ e ∷ [] else d ∷ ys) ≡ (if b then zs else d ∷ xs) ++ e ∷ []
less_more true c d xs ys e has more zs = refl
less_more false c d xs ys e has more zs = ap (λ l. d ∷ l) (more has)

less_append : (m : ℕ) (es : List Entry) (e : Entry) → has_entry m es ≡ true → less m (es ++ e ∷ []) ≡ less m es ++ e ∷ []
less_append m [] e has = absurd (subst T (sym has) tt)
less_append m (d ∷ es) e has = less_more (is_entry_of m d) (has_entry m es) d (less m es) (less m (es ++ e ∷ [])) e has (λ h. less_append m es e h) es

-- ---- A check, and a work made: each first

module _ (f : WorkCaller) (host : HostDef) (g : Option ℕ) where
  unqueued_made : (m : ℕ) (s : Core) → unqueued m (work_queued f host g s) ≡ work_queued f host g (unqueued m s)
  unfolding unqueued work_queued push_high add_work count_work set_high set_low
  unqueued_made m s = go (has_entry m s.queues.high) refl (any_append (is_entry_of m) s.queues.high (entry.Push (next_work s)) refl)
    where
      go : (b : Bool) → has_entry m s.queues.high ≡ b → has_entry m (s.queues.high ++ entry.Push (next_work s) ∷ []) ≡ has_entry m s.queues.high → unqueued m (work_queued f host g s) ≡ work_queued f host g (unqueued m s)
      go true is same = rw (same, is, less_append m s.queues.high (entry.Push (next_work s)) is) refl
      go false is same = rw (same, is) refl

  promoted_made : (m : ℕ) (s : Core) → promoted m (work_queued f host g s) ≡ work_queued f host g (promoted m s)
  unfolding promoted work_queued push_high add_work count_work set_switch set_place on_thread
  promoted_made m s = ap (λ (c : Core). set_switch (Some m) (set_place m (place.Ready mark.Switch (why_of m (work_queued f host g s))) c)) (unqueued_made m s) ∙ promoted_last m s (unqueued m s)
    where
      promoted_last : (m : ℕ) (s t : Core) → set_switch (Some m) (set_place m (place.Ready mark.Switch (why_of m (work_queued f host g s))) (work_queued f host g t)) ≡ work_queued f host g (set_switch (Some m) (set_place m (place.Ready mark.Switch (why_of m s)) t))
      promoted_last m s t = refl

  first_made : (i : ℕ) (s : Core) → first_entry i (work_queued f host g s) ≡ first_entry i s
  unfolding first_entry work_queued push_high add_work count_work
  first_made i s = ap (λ (o : Option Entry). first_low i s (option_and_then entry_thread o)) (find_append (is_entry_in i s) s.queues.high (entry.Push (next_work s)) refl)

  checked_made : (i : ℕ) (s : Core) → checked i (work_queued f host g s) ≡ work_queued f host g (checked i s)
  unfolding checked work_queued push_high add_work count_work
  checked_made i s = ap (λ b. if b then work_queued f host g s else promoted_first (first_entry i (work_queued f host g s)) (work_queued f host g s)) (stays_made i s) ∙ by_test (not (may_not_suspend i s) || is_some s.queues.switch)
    where
      stays_made : (i : ℕ) (s : Core) → (not (may_not_suspend i (work_queued f host g s)) || is_some (work_queued f host g s).queues.switch) ≡ (not (may_not_suspend i s) || is_some s.queues.switch)
      stays_made i s = refl

      by_first : (o : Option ℕ) → promoted_first o (work_queued f host g s) ≡ work_queued f host g (promoted_first o s)
      by_first None = refl
      by_first (Some m) = promoted_made m s

      by_test : (b : Bool) → (if b then work_queued f host g s else promoted_first (first_entry i (work_queued f host g s)) (work_queued f host g s)) ≡ work_queued f host g (if b then s else promoted_first (first_entry i s) s)
      by_test true = refl
      by_test false = ap (λ (o : Option ℕ). promoted_first o (work_queued f host g s)) (first_made i s) ∙ by_first (first_entry i s)

  queued_untouched : (s : Core) → Untouched s (work_queued f host g s)
  unfolding work_queued push_high add_work count_work
  queued_untouched s = record { places = λ k. refl; switch = λ k. refl; high = λ k. let e = entries-append k s.queues.high (entry.Push (next_work s)) in omega (arith, e); low = λ k. refl; callers = refl; made = le_refl _ }

-- ---- As contracts see it

pub thread_left : (n : TableId ThreadKey) (i : ℕ) (s t : StateView) → 0 < thread_of s n → KeepsBut (lost_work i) s.tags t.tags → thread_of t n ≡ thread_of s n
thread_left n i s t live keeps = keeps.threads n (λ e. absurd (none (subst (λ m. 0 < m) e live)))
  where
    none : ◌<◌ 0 0 → ⊥
    none h = omega (arith, h)

module _ (n : TableId ThreadKey) (f : WorkCaller) (host : HostDef) (g : Option ℕ) (s t : StateView) (live : 0 < thread_of s n) (keeps : Keeps s.tags t.tags) (core : t.core ≡ work_queued f host g s.core) where
  queued_runs : IsRunning (thread_of s n) s.core → IsRunning (thread_of t n) t.core
  queued_runs st = subst (λ (k : ℕ). IsRunning k t.core) (sym (keeps.threads n live)) (subst (IsRunning (thread_of s n)) (sym core) (quiet_stand (thread_of s n) place.Running [] s.core _ (queued_untouched f host g s.core) st))

  pub queued_check_runs : (i : ℕ) (u : StateView) → IsRunning (thread_of s n) s.core → u ≡ on_core (checked i) t → IsRunning (thread_of u n) u.core
  queued_check_runs i u st d = stands_on n place.Running (checked i) t u d (checked_stand (thread_of t n) place.Running i t.core (queued_runs st))

pub host_stops_is : (n : TableId ThreadKey) (id : TableId HostTaskKey) (host : HostDef) (i : ℕ) (s t u v : StateView) → 0 < thread_of s n → Keeps s.tags t.tags → i ≡ instance_of (thread_of s n) s.core → work_of t id ≡ next_work s.core → t.core ≡ work_queued (work_caller.Sync (thread_of s n)) host (Some (thread_group (thread_of s n) s.core)) s.core → u ≡ on_core (checked i) t → v ≡ on_core (call_stops (thread_of u n) (subtask.Host (work_of u id))) u → v.core ≡ call_sync_host_stops (thread_of s n) host s.core
unfolding call_sync_host_stops
host_stops_is n id host i s t u v live keeps at named core d f =
    let N = thread_of s n in
    let G = Some (thread_group N s.core) in
    ap (λ (y : StateView). y.core) f
    ∙ (ap (λ (y : StateView). call_stops (thread_of y n) (subtask.Host (work_of y id)) y.core) d
    ∙ (ap₂ (λ (k j : ℕ). call_stops k (subtask.Host j) (checked i t.core)) (keeps.threads n live) named
    ∙ (ap (λ (c : Core). call_stops N (subtask.Host (next_work s.core)) (checked i c)) core
    ∙ (ap (λ (c : Core). call_stops N (subtask.Host (next_work s.core)) c) (checked_made (work_caller.Sync N) host G i s.core)
    ∙ ap (λ (j : ℕ). call_stops N (subtask.Host (next_work s.core)) (work_queued (work_caller.Sync N) host G (checked j s.core))) at))))

pub host_pending_is : (n : TableId ThreadKey) (q : ℕ) (host : HostDef) (s t : StateView) → t.core ≡ with_handle (instance_of (thread_of s n) s.core) (subtask.Host (next_work s.core)) (work_queued (work_caller.Async (thread_of s n) q) host (Some (thread_group (thread_of s n) s.core)) s.core) → t.core ≡ host_with_handle (thread_of s n) q host s.core
unfolding host_with_handle
host_pending_is n q host s t core = core

-- ---- What the work that was made goes on with

queued_course : (f : WorkCaller) (host : HostDef) (g : Option ℕ) (t : Core) → course_of (next_work t) (work_queued f host g t) ≡ course.Continues host
unfolding work_queued push_high add_work count_work
queued_course f host g t = ap (λ (o : Option Work). option_map_or (λ w. w.course) o course.NoValue) (get-insert_same t.works (t.made.works + 1) (new_work f host g))

pending_course : (n q : ℕ) (host : HostDef) (s : Core) → course_of (next_work s) (host_with_handle n q host s) ≡ course.Continues host
unfolding host_with_handle with_handle set_subtask_handle give_handle on_work
pending_course n q host s =
    let made = work_queued (work_caller.Async n q) host (Some (thread_group n s)) s in
    map_or_is (λ (w : Work). w.course) course.NoValue _ _ (change-field (λ (w : Work). w.course) (next_work s) _ (λ w. refl) made.works (next_work s))
    ∙ queued_course (work_caller.Async n q) host (Some (thread_group n s)) s

shifted_works : {s t : Core} → Shifted s t → t.works ≡ s.works
shifted_works h = sym (ap (λ (c : Core). c.works) h.only)

stops_works : (n : ℕ) (sub : Subtask) (s : Core) → (call_stops n sub s).works ≡ s.works
unfolding call_stops set_op_progress set_place on_thread
stops_works n sub s = shifted_works (placing_shifted (Stop (foot_of n s)) s)

stops_course : (n : ℕ) (host : HostDef) (s : Core) → course_of (next_work s) (call_sync_host_stops n host s) ≡ course.Continues host
unfolding call_sync_host_stops
stops_course n host s =
    let t = checked (instance_of n s) s in
    let made = work_queued (work_caller.Sync n) host (Some (thread_group n s)) t in
    ap (λ (m : Records Work). option_map_or (λ w. w.course) (get m (next_work s)) course.NoValue) (stops_works n (subtask.Host (next_work s)) made)
    ∙ (ap (λ (r : MadeCounts). course_of (r.works + 1) made) (sym (shifted_made (shifts_shifted (checked_shifts (instance_of n s) s))))
    ∙ queued_course (work_caller.Sync n) host (Some (thread_group n s)) t)

pub goes_on_pending : (id : TableId HostTaskKey) (n q : ℕ) (host : HostDef) (s : Core) (t : StateView) → work_of t id ≡ next_work s → t.core ≡ host_with_handle n q host s → course_of (work_of t id) t.core ≡ course.Continues host
goes_on_pending id n q host s t named core = ap₂ (λ (k : ℕ) (c : Core). course_of k c) named core ∙ pending_course n q host s

pub goes_on_stopped : (id : TableId HostTaskKey) (n : ℕ) (host : HostDef) (s : Core) (t : StateView) → work_of t id ≡ next_work s → t.core ≡ call_sync_host_stops n host s → course_of (work_of t id) t.core ≡ course.Continues host
goes_on_stopped id n host s t named core = ap₂ (λ (k : ℕ) (c : Core). course_of k c) named core ∙ stops_course n host s

pub work_gone : (i : ℕ) (s : Core) → get (work_deleted i s).works i ≡ None
unfolding work_deleted remove_work group_settled remove_group
work_gone i s = by_group (work_group i s)
  where
    settled : (b : Bool) (g : ℕ) (t : Core) → get t.works i ≡ None → get (if b then remove_group g t else t).works i ≡ None
    settled true g t none = none
    settled false g t none = none

    by_group : (o : Option ℕ) → get (settle_group_of o (remove_work i s)).works i ≡ None
    by_group None = get-remove_same s.works i
    by_group (Some g) = settled (is_group_done g (remove_work i s)) g (remove_work i s) (get-remove_same s.works i)

-- the answer of a call whose work is gone
pub work_answers : (n : TableId ThreadKey) (d : Doer) (i m v : ℕ) (s t : StateView) → m ≡ thread_of s n → v ≡ work_value i s.core → t.core ≡ work_deleted i s.core → Implements (answers_work i d (thread_of s n) (choice_of (label.Call (call_label.CallSync m v))) s.core) s.core (goes_as (label.Call (call_label.CallSync m v)) m) (finish d (thread_of s n) (OneNumber v) t.core)
work_answers n d i m v s t number value core = (
  ap₂ (λ (k w : ℕ). goes_as (label.Call (call_label.CallSync k w)) k) number value,
  ap₂ (λ (w : ℕ) (c : Core). finish d (thread_of s n) (OneNumber w) c) value core,
)
