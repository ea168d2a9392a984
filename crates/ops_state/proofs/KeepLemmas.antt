-- The calls keep that no wake is lost.
use Rattle.std.proofs.Common.{arith, refl, subst, sym}
use Rattle.std.proofs.lemmas.Bool.Decides.{nat_tests}
use Rattle.std.specs.Prelude.{Bool, None, Option, Some, false, if◌then◌else◌, option_map, true, ℕ, ◌≡◌}
use Rattle.ops_state.specs.Currents.{LosesNoWake, entered, is_left, left_for, now_runs, number_in, runner}
use Rattle.ops_state.specs.Woken.{member_woken, set_joined}
use Rattle.ops_state.specs.declared.currents.CurrentThread.{CurrentThread}
use Rattle.machine_data.specs.Core.{Core}
use Rattle.machine_data.specs.Moves.{PickedTaskEvent, ended, may_publish, published, stopped, taken, taken_own}
use Rattle.machine_data.specs.Read.{event_of}
use Rattle.machine_data.specs.Write.{set_event, set_join, set_place}
use Rattle.machine_data.specs.declared.records.Join.{Join}
use Rattle.machine_data.specs.declared.records.Place.TheVariants as place
use Rattle.machine_data.specs.declared.records.Subtask.{Subtask}
use Rattle.machine_data.specs.declared.statuses.Mark.{Mark}
use Rattle.machine_data.specs.declared.statuses.TaskEvent.{TaskEvent}
use Rattle.machine_data.specs.declared.statuses.Status.{Status}
use Rattle.machine_rules.specs.Sets.{joins, may_wake_new, wakes_joined}
use Rattle.machine_rules.specs.Takes.{popped}
use Rattle.task_table.specs.declared.id.TableId.{TableId}
use Rattle.task_wait.specs.declared.keys.SetKey.{SetKey}
use Rattle.task_wait.specs.declared.keys.ThreadKey.{ThreadKey}
use Rattle.core_primitives.specs.StateView.{StateView, on_core, set_of, thread_of}
use Rattle.laws_order.proofs.{MoveLemmas.give_keeps, MoveLemmas.join_keeps, MoveLemmas.publish_keeps, MoveLemmas.take_keeps, MoveLemmas.wake_keeps, PopLemmas.pop_keeps, StopLemmas.stop_keeps, ThreadLemmas.end_keeps, ThreadLemmas.run_keeps, ThreadLemmas.suspend_keeps, ThreadLemmas.suspended_runs}
use Rattle.laws_order.specs.WakesKept.{EndKeeps, GiveKeeps, JoinKeeps, MayComeToRun, MayLeave, NoWakeLost, PopKeeps, PublishKeeps, RunKeeps, StopKeeps, SuspendKeeps, TakeKeeps, WakeKeeps}

core_kept : (f : Core → Core) (s t : StateView) → t ≡ on_core f s → (NoWakeLost s.core → NoWakeLost (f s.core)) → NoWakeLost s.core → NoWakeLost t.core
core_kept f s t e keeps h = subst (λ (v : StateView). NoWakeLost v.core) (sym e) (keeps h)

pub published_kept : (sub : Subtask) (e : Status) (w : Option ℕ) (s t : StateView) → may_publish sub w s.core ≡ true → t ≡ on_core (published sub e w) s → NoWakeLost s.core → NoWakeLost t.core
unfolding PublishKeeps
published_kept sub e w s t may is = core_kept (published sub e w) s t is (publish_keeps sub e w s.core may)

pub woken_kept : (sub : Subtask) (w : Option ℕ) (s t : StateView) → may_publish sub w s.core ≡ true → t ≡ on_core (member_woken sub w) s → NoWakeLost s.core → NoWakeLost t.core
unfolding WakeKeeps
woken_kept sub w s t may is = core_kept (member_woken sub w) s t is (wake_keeps sub w s.core may)

pub joined_kept : (sub : Subtask) (x w : Option ℕ) (s t : StateView) → may_wake_new (event_of sub s.core) x w s.core ≡ true → t ≡ on_core (set_joined sub x w) s → NoWakeLost s.core → NoWakeLost t.core
unfolding JoinKeeps
joined_kept sub x w s t may is = core_kept (set_joined sub x w) s t is (join_keeps sub x w s.core may)

pub taken_kept : (sub : Subtask) (s t : StateView) → t ≡ on_core (set_event sub None) s → NoWakeLost s.core → NoWakeLost t.core
unfolding TakeKeeps
taken_kept sub s t is = core_kept (set_event sub None) s t is (take_keeps sub s.core)

pub own_taken_kept : (e : TaskEvent) (k : ℕ) (s t : StateView) → t ≡ on_core (taken_own e k) s → NoWakeLost s.core → NoWakeLost t.core
unfolding GiveKeeps taken
own_taken_kept e k s t is = core_kept (taken_own e k) s t is (give_keeps (PickedTaskEvent e) k s.core)

pub stopped_kept : (f : ℕ) (s t : StateView) → t ≡ on_core (stopped f) s → NoWakeLost s.core → NoWakeLost t.core
unfolding StopKeeps
stopped_kept f s t is = core_kept (stopped f) s t is (stop_keeps f s.core)

pub ended_kept : (n : ℕ) (s t : Core) → t ≡ ended n s → MayLeave n s → NoWakeLost s → NoWakeLost t
unfolding EndKeeps
ended_kept n s t is may h = subst (λ (c : Core). NoWakeLost c) (sym is) (end_keeps n s may h)

pub popped_kept : (m : Mark) (s t : StateView) → t ≡ on_core (popped m) s → NoWakeLost s.core → NoWakeLost t.core
unfolding PopKeeps
popped_kept m s t is = core_kept (popped m) s t is (pop_keeps m s.core)

-- by the steps of a join
pub joined_by : (sub : Subtask) (event : Option Status) (set : Option (TableId SetKey)) (waiter : Option (TableId ThreadKey)) (j : Join) (s u t : StateView) → event ≡ event_of sub s.core →
    u ≡ on_core (set_join sub j) s → j ≡ joins (option_map (λ id. set_of s id) set) →
    t ≡ on_core (wakes_joined event (option_map (λ id. set_of u id) set) (option_map (λ id. thread_of u id) waiter)) u →
    may_wake_new event (option_map (λ id. set_of s id) set) (option_map (λ id. thread_of s id) waiter) s.core ≡ true → NoWakeLost s.core → NoWakeLost t.core
joined_by sub event set waiter j s u t is_event is_u is_j is_t may =
    joined_kept sub x w s t (subst (λ (o : Option Status). may_wake_new o x w s.core ≡ true) is_event may)
    (subst (λ (i : Join). t ≡ on_core (λ c. wakes_joined (event_of sub s.core) x w (set_join sub i c)) s) is_j
    (subst (λ (o : Option Status). t ≡ on_core (λ c. wakes_joined o x w (set_join sub j c)) s) is_event
    (subst (λ (v : StateView). t ≡ on_core (wakes_joined event (option_map (λ id. set_of v id) set) (option_map (λ id. thread_of v id) waiter)) v) is_u is_t)))
  where
    x : Option ℕ
    x = option_map (λ id. set_of s id) set

    w : Option ℕ
    w = option_map (λ id. thread_of s id) waiter

-- ---- Another thread runs

left_kept : (old new : Option ℕ) (s : Core) → LosesNoWake old new s → NoWakeLost s → NoWakeLost (left_for old new s)
unfolding SuspendKeeps
left_kept None new s k h = h
left_kept (Some n) new s k h = by (is_left n new s) refl
  where
    by : (b : Bool) → is_left n new s ≡ b → NoWakeLost (if b then set_place n place.Suspended s else s)
    by true is = suspend_keeps n s (k.leaves n refl is) h
    by false is = h

left_runs : (old : Option ℕ) (n : ℕ) (s : Core) → LosesNoWake old (Some n) s → MayComeToRun n (left_for old (Some n) s)
left_runs None n s k = k.runs n refl
left_runs (Some m) n s k = by (is_left m (Some n) s) refl
  where
    by : (b : Bool) → is_left m (Some n) s ≡ b → MayComeToRun n (if b then set_place m place.Suspended s else s)
    by true is = suspended_runs m n s (grind (arith, nat_tests, is)) (k.runs n refl)
    by false is = k.runs n refl

entered_kept : (old new : Option ℕ) (s : Core) → LosesNoWake old new s → NoWakeLost s → NoWakeLost (entered new (left_for old new s))
unfolding RunKeeps
entered_kept old None s k h = left_kept old None s k h
entered_kept old (Some n) s k h = run_keeps n (left_for old (Some n) s) (left_runs old n s k) (left_kept old (Some n) s k h)

pub set_kept : (c : CurrentThread) (s t : StateView) → t ≡ now_runs c s → LosesNoWake (runner s) (number_in s c) s.core → NoWakeLost s.core → NoWakeLost t.core
set_kept c s t is k h = subst (λ (v : StateView). NoWakeLost v.core) (sym is) (entered_kept (runner s) (number_in s c) s.core k h)
