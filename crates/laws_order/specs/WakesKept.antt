-- No wake is lost in a core, and the moves that a host makes between the steps keep that.
use Rattle.machine_data.specs.declared.op.Op.{Op}
use Rattle.std.specs.Prelude.{Bool, None, Option, Some, [], false, if◌then◌else◌, true, ℕ, ◌==◌, ◌≡◌, ◌⊎◌}
use Rattle.laws_states.specs.Order.{InOrder, InOrderAs, InsideOps, Strands, is_open}
use Rattle.laws_states.specs.WakeTable.{is_woken}
use Rattle.laws_states.specs.WakeLaw.{BehindFeet, CallersGoOn, NoneAdmitted, NoneBlockedOnEnd, WakesCounted}
use Rattle.machine_data.specs.Core.{Core, State}
use Rattle.machine_data.specs.Moves.{PickedEvent, ended, may_publish, published, stopped, taken, wake_joined}
use Rattle.machine_data.specs.Read.{callers_of, event_of, foot_of, has_ready_member, op_progress_of, is_at, is_inside_wait, join_of, place_of, under_of}
use Rattle.machine_data.specs.Write.{set_event, set_join, set_place}
use Rattle.machine_data.specs.declared.component.Component.{Component}
use Rattle.machine_data.specs.declared.label.Label.{Label}
use Rattle.machine_data.specs.declared.records.Place.TheVariants as place
use Rattle.machine_data.specs.declared.records.Subtask.{Subtask}
use Rattle.machine_data.specs.declared.statuses.Mark.{Mark}
use Rattle.machine_data.specs.declared.statuses.Status.{Status}
use Rattle.machine_rules.specs.Places.{is_at_switch, is_behind_of, is_there, says, times}
use Rattle.machine_rules.specs.Sets.{joins, may_wake_new, wakes_joined}
use Rattle.machine_rules.specs.Stalled.{Setting}
use Rattle.machine_rules.specs.Step.{Step}
use Rattle.machine_rules.specs.Takes.{popped}

-- ---- A core in which no wake is lost

-- at most one thread is blocked on a subtask
abbrev pub OneBlocked : Core → Type 0
OneBlocked s = (n m : ℕ) (sub : Subtask) → place_of n s ≡ Some (place.Blocked sub) → place_of m s ≡ Some (place.Blocked sub) → n ≡ m

-- a thread is among the callers of another one that is there exactly where it is behind that one, once
abbrev pub CallersBehind : Core → Type 0
CallersBehind s = (n f : ℕ) → times n (callers_of f s) ≡ (if is_there f s then says (is_behind_of f) (place_of n s) else 0)

-- what is at switch is ready there
abbrev pub SwitchReady : Core → Type 0
SwitchReady s = (m : ℕ) → s.queues.switch ≡ Some m → is_at m s is_at_switch ≡ true

-- The four facts of `wakes`, and what else is so of each core in order on which they are. A thread whose item was taken, and that
-- hasn't gone on yet, counts as ready.
pub record NoWakeLost (s : Core) : Type 0 where
  pub counted : WakesCounted s
  pub callers : CallersGoOn s
  pub held : NoneAdmitted s
  pub blocked : NoneBlockedOnEnd s
  pub inside : InsideOps s
  pub alone : OneBlocked s
  pub behind : CallersBehind s
  pub switch : SwitchReady s

-- in each state in order whose turns aren't over no wake is lost
unfoldable pub OrderLosesNoWake : Type 0
OrderLosesNoWake = (c : Component) (s : State) → InOrder c s → is_open s.turn ≡ true → NoWakeLost s.core

-- nor in each such state in which each thread has this op
unfoldable pub OrderLosesNoWakeAs : Type 0
OrderLosesNoWakeAs = (ops : ℕ → Op) (c : Component) (s : State) → InOrderAs ops c s → is_open s.turn ≡ true → NoWakeLost s.core

-- ---- Steps

-- who waits on a set after a step, and didn't before it, finds no ready member in it
unfoldable pub WaitsFindNothing : Type 0
WaitsFindNothing = (x : Setting) (s : State) (l : Label) (t : State) → InOrder x.component s → Step x s l t → is_open t.turn ≡ true →
    (n y : ℕ) (by_callback : Bool) → place_of n t.core ≡ Some (place.Waiting y by_callback) →
    (place_of n s.core ≡ Some (place.Waiting y by_callback)) ⊎ (has_ready_member y t.core ≡ false)

-- ---- Moves

abbrev pub KeepsWakes : Core → Core → Type 0
KeepsWakes s t = NoWakeLost s → NoWakeLost t

-- a subtask gets an event, who is blocked on it goes on, and this waiter of its set, if there is one, is woken
unfoldable pub PublishKeeps : Type 0
PublishKeeps = (sub : Subtask) (e : Status) (w : Option ℕ) (s : Core) → may_publish sub w s ≡ true → KeepsWakes s (published sub e w s)

-- a waiter of the set of a subtask that has an event is woken, if there is one
unfoldable pub WakeKeeps : Type 0
WakeKeeps = (sub : Subtask) (w : Option ℕ) (s : Core) → may_publish sub w s ≡ true → KeepsWakes s (wake_joined (join_of sub s) w s)

-- a subtask leaves its set and joins the other one, if one is given, of which this waiter is woken where the subtask has an event
unfoldable pub JoinKeeps : Type 0
JoinKeeps = (sub : Subtask) (x w : Option ℕ) (s : Core) → may_wake_new (event_of sub s) x w s ≡ true →
    KeepsWakes s (wakes_joined (event_of sub s) x w (set_join sub (joins x) s))

-- the event of a subtask is taken
unfoldable pub TakeKeeps : Type 0
TakeKeeps = (sub : Subtask) (s : Core) → KeepsWakes s (set_event sub None s)

-- what is given to a call is taken
unfoldable pub GiveKeeps : Type 0
GiveKeeps = (g : PickedEvent) (k : ℕ) (s : Core) → KeepsWakes s (taken g k s)

-- the first entry of a mark is taken
unfoldable pub PopKeeps : Type 0
PopKeeps = (m : Mark) (s : Core) → KeepsWakes s (popped m s)

-- a strand stops
unfoldable pub StopKeeps : Type 0
StopKeeps = (f : ℕ) (s : Core) → KeepsWakes s (stopped f s)

-- The thread is there, is at no mark and is behind nobody, and nobody is behind it or under it. It isn't woken: its item isn't in
-- hand, and it isn't inside a wait in which it was resumed.
pub record MayLeave (n : ℕ) (s : Core) : Type 0 where
  pub there : is_there n s ≡ true
  pub switch : (m : ℕ) → s.queues.switch ≡ Some m → (m == n) ≡ false
  pub behind : (f : ℕ) → place_of n s ≡ Some (place.Behind f) → ⊥
  pub callers : callers_of n s ≡ []
  pub under : under_of n s ≡ None
  pub idle : (x : ℕ) → is_woken x n s ≡ false

-- a thread ends
unfoldable pub EndKeeps : Type 0
EndKeeps = (n : ℕ) (s : Core) → MayLeave n s → KeepsWakes s (ended n s)

-- The thread is there, is at no mark and is behind nobody. Where it is woken for a set, it is inside a wait on that set.
pub record MayComeToRun (n : ℕ) (s : Core) : Type 0 where
  pub there : is_there n s ≡ true
  pub switch : (m : ℕ) → s.queues.switch ≡ Some m → (m == n) ≡ false
  pub behind : (f : ℕ) → place_of n s ≡ Some (place.Behind f) → ⊥
  pub inside : (x : ℕ) → is_woken x n s ≡ true → is_inside_wait x (op_progress_of n s) ≡ true

-- a thread runs
unfoldable pub RunKeeps : Type 0
RunKeeps = (n : ℕ) (s : Core) → MayComeToRun n s → KeepsWakes s (set_place n place.Running s)

-- The thread runs, outside of a wait. Nobody is behind the foot of its strand, where those who are under another rise in number, each under
-- one alone, and nobody is under a thread that another one is behind.
pub record MaySuspend (n : ℕ) (s : Core) : Type 0 where
  pub runs : place_of n s ≡ Some place.Running
  pub outside : (x : ℕ) → is_inside_wait x (op_progress_of n s) ≡ false
  pub callers : callers_of (foot_of n s) s ≡ []
  pub strands : Strands s
  pub feet : BehindFeet s

-- a thread that ran is suspended
unfoldable pub SuspendKeeps : Type 0
SuspendKeeps = (n : ℕ) (s : Core) → MaySuspend n s → KeepsWakes s (set_place n place.Suspended s)
