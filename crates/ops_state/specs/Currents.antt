-- Another thread runs.
use Rattle.std.specs.Prelude.{Bool, None, Option, Some, [], false, if◌then◌else◌, not, option_map, true, ℕ, ◌&&◌, ◌≡◌}
use Rattle.ops_state.specs.Named.{IsLive}
use Rattle.ops_state.specs.declared.currents.CurrentThread.{CurrentThread}
use Rattle.ops_state.specs.declared.currents.CurrentThread.TheVariants as current
use Rattle.machine_data.specs.Core.{Core}
use Rattle.machine_data.specs.Read.{callers_of, foot_of, is_at, task_of}
use Rattle.machine_data.specs.Write.{set_place}
use Rattle.machine_data.specs.declared.records.Place.{Place}
use Rattle.machine_data.specs.declared.records.Place.TheVariants as place
use Rattle.machine_rules.specs.Chains.{is_running}
use Rattle.task_table.specs.Table.{is_number}
use Rattle.task_table.specs.declared.id.TableId.{TableId}
use Rattle.task_wait.specs.declared.keys.ThreadKey.{ThreadKey}
use Rattle.core_primitives.specs.StateView.{StateView, call_of, on_core, thread_of, with_current}
use Rattle.laws_order.specs.WakesKept.{MayComeToRun, MaySuspend}

-- the thread's id, if one is named
abbrev pub thread_in : CurrentThread → Option (TableId ThreadKey)
thread_in (current.Guest q) = Some q.thread
thread_in current.None = None

-- its number
abbrev pub number_in : StateView → CurrentThread → Option ℕ
number_in s c = option_map (λ id. thread_of s id) (thread_in c)

-- the number of the thread that runs
abbrev pub runner : StateView → Option ℕ
runner s = option_map (λ id. thread_of s id) s.current

-- The thread that runs, with its call.
abbrev pub IsCurrent : StateView → CurrentThread → Type 0
IsCurrent s (current.Guest q) = (s.current ≡ Some q.thread) × (call_of s q.task ≡ task_of (thread_of s q.thread) s.core)
IsCurrent s current.None = s.current ≡ None

-- it is new, runs or is suspended, or is under the thread that runs
abbrev pub is_free_beside : Option ℕ → Place → Bool
is_free_beside old place.New = true
is_free_beside old place.Running = true
is_free_beside old place.Suspended = true
is_free_beside old (place.Under n) = is_number n old
is_free_beside old _ = false

-- the thread n runs, and another one, or none, is to run
abbrev pub is_left : ℕ → Option ℕ → Core → Bool
is_left n new s = not (is_number n new) && is_at n s is_running

-- the thread that is to run has no entry, and neither waits nor is behind another
abbrev pub MayRun : StateView → CurrentThread → Type 0
MayRun s (current.Guest q) = IsLive s q × (is_at (thread_of s q.thread) s.core (is_free_beside (runner s)) ≡ true)
MayRun s current.None = Unit {0}

-- A thread that is suspended by this has no callers at its foot.
abbrev pub LeavesNobody : Option ℕ → Option ℕ → Core → Type 0
LeavesNobody None new s = Unit {0}
LeavesNobody (Some n) new s = is_left n new s ≡ true → callers_of (foot_of n s) s ≡ []

-- the thread that runs is suspended, where it isn't the one that is to run
abbrev pub left_for : Option ℕ → Option ℕ → Core → Core
left_for None new s = s
left_for (Some n) new s = if is_left n new s then set_place n place.Suspended s else s

abbrev pub entered : Option ℕ → Core → Core
entered None s = s
entered (Some n) s = set_place n place.Running s

-- the thread that is to run runs, and the one that ran is suspended
abbrev pub now_runs : CurrentThread → StateView → StateView
now_runs c s = with_current (thread_in c) (on_core (λ core. entered (number_in s c) (left_for (runner s) (number_in s c) core)) s)

-- Who is suspended by this may be suspended, and who is to run may come to run, so that no wake is lost.
pub record LosesNoWake (old new : Option ℕ) (s : Core) : Type 0 where
  pub leaves : (n : ℕ) → old ≡ Some n → is_left n new s ≡ true → MaySuspend n s
  pub runs : (n : ℕ) → new ≡ Some n → MayComeToRun n s

-- so is it where this thread, or none, is to run
abbrev pub LosesNoWakeFor : CurrentThread → StateView → Type 0
LosesNoWakeFor c s = LosesNoWake (runner s) (number_in s c) s.core
