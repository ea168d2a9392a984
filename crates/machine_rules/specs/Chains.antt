-- Each step as a chain of primitives.
use Rattle.machine_rules.specs.MainOps.{is_spawn, spawned_at}
use Rattle.machine_data.specs.declared.records.Subtask.{Subtask}
use Rattle.machine_rules.specs.Works.{has_end}
use Rattle.machine_rules.specs.Calls.{next_work}
use Rattle.machine_rules.specs.SubtaskEnds.{end_for, handed_as, written_as, direct_return, sync_answered}
use Rattle.machine_data.specs.declared.statuses.Status.{Status}
use Rattle.std.specs.Option.{option_map_or}
use Rattle.std.specs.Prelude.{Bool, None, Option, Some, false, is_some, length, true, ℕ, ◌+◌, ◌==◌, ◌≡◌, ◌≤◌, ◌⊎◌}
use Rattle.machine_data.specs.Core.{Core, Main, Scripted, State, Unscripted, MainPlace}
use Rattle.machine_data.specs.Maps.{get}
use Rattle.machine_data.specs.Moves.{ended, is_callback_waiter}
use Rattle.machine_data.specs.Read.{position_of, event_of, is_waiter, join_of, foot_of, goal_of, has_ended, is_async_lifted, is_direct, is_explicit, kind_of, may_not_enter, place_of, task_of, undelivered_end, course_of, op_progress_of, work_caller_of}
use Rattle.machine_data.specs.declared.label.Label.{Label}
use Rattle.machine_data.specs.declared.outcome.Outcome.{Outcome}
use Rattle.machine_data.specs.declared.records.Place.{Place}
use Rattle.machine_data.specs.declared.records.Turn.{Turn}
use Rattle.machine_rules.specs.Ends.{is_told}
use Rattle.machine_rules.specs.Allowed.{Allowed, IsRunner, MayShift, SaysEnd, is_exit, IsPolled, IsNamed, IsUnwind, IsSettling, Leaves, MayLand, MayMove, Stays, wake_why}
use Rattle.machine_data.specs.declared.records.OpProgress.{OpProgress}
use Rattle.machine_rules.specs.Laws.{is_free}
use Rattle.machine_rules.specs.Once.{begun_holder}
use Rattle.machine_rules.specs.Places.{is_inside}
use Rattle.machine_rules.specs.Outcome.{outcome_of_label}
use Rattle.machine_rules.specs.Scenes.{Scene, scene_as}
use Rattle.machine_rules.specs.Scripts.{ops_of, script_of}
use Rattle.machine_rules.specs.OpParts.{is_data_op, is_exit_op}
use Rattle.machine_data.specs.Labels.{choice_of}
use Rattle.machine_data.specs.declared.op.Op.{Op}
use Rattle.machine_rules.specs.Stalled.{Setting}
use Rattle.machine_rules.specs.Finish.{SomeHost}
use Rattle.machine_rules.specs.Step.{Progresses, Step, scripted_op_rule, op_rule}
use Rattle.machine_rules.specs.Turns.{settled_turn}
use Rattle.machine_rules.specs.Primitives.{GoBehind, Move, Places, Placing, RemoveThread, SetOpProgress, Stop, Primitive, after_primitive}
use Rattle.machine_data.specs.declared.statuses.Status.TheVariants as status
use Rattle.machine_data.specs.declared.records.Subtask.TheVariants as subtask
use Rattle.machine_data.specs.declared.records.OpProgress.TheVariants as op_progress
use Rattle.machine_data.specs.declared.label.Label.TheVariants as label
use Rattle.machine_data.specs.declared.label.TakeLabel.TheVariants as take_label
use Rattle.machine_data.specs.declared.label.LoopLabel.TheVariants as loop_label
use Rattle.machine_data.specs.declared.records.Join.TheVariants as join
use Rattle.machine_data.specs.declared.statuses.Mark.TheVariants as mark
use Rattle.machine_data.specs.declared.records.Place.TheVariants as place
use Rattle.machine_data.specs.declared.records.Turn.TheVariants as turn
use Rattle.machine_data.specs.declared.records.WorkCaller.TheVariants as work_caller

-- From b one primitive after another, each where it may be done.
pub data Chain (may : Primitive → Core → Type 0) (b : Core) : Core → Type 0 where
  NoPrimitive : Chain may b b
  Then : (s : Core) → (w : Primitive) → Chain may b s → may w s → Chain may b (after_primitive w s)

-- the primitives of a step
abbrev pub Walk : Scene → Core → Core → Type 0
Walk a b t = Chain (Allowed a) b t

-- its primitives while the running thread stays where it is
abbrev pub Stay : Scene → Core → Core → Type 0
Stay a b t = Chain (Stays a) b t

abbrev pub Settles : Core → Core → Type 0
Settles b t = Chain IsSettling b t

-- where the thread comes to is right for an op that has come that far
abbrev pub lands_inside : Placing → OpProgress → Bool
lands_inside (Move n p) h = is_inside p h
lands_inside _ h = true

-- it comes there with its op as far as before
abbrev pub lands_alone : Placing → Bool
lands_alone (Move n place.Suspended) = false
lands_alone (Move n p) = is_inside p op_progress.Fresh
lands_alone (GoBehind f n) = false
lands_alone _ = true

-- The strand of the thread has stopped.
pub record Halted (a : Scene) (b : Core) (n : ℕ) (s : Core) : Type 0 where
  -- where its foot is seen
  pub at : Core
  pub first : Stay a b at
  pub before : Core
  pub stays : Stay a at before
  pub rest : Stay a (after_primitive (Places (Stop (foot_of n at))) before) s

-- the thread that comes to a place at which it doesn't go on
abbrev pub leaving : Placing → Option ℕ
leaving (Move n place.Running) = None
leaving (Move n p) = Some n
leaving _ = None

abbrev pub Halts : Scene → Core → Option ℕ → Core → Type 0
Halts a b None s = Unit {0}
Halts a b (Some n) s = Halted a b n s

-- The running thread, or the one that was taken, stays and then comes to one place, or is gone.
pub data Trip (a : Scene) (b : Core) : Core → Type 0 where
  Remains : (t : Core) → Stay a b t → ((m : ℕ) → a.next ≡ turn.Run m → a.turn ≡ turn.Run m) →
      ((m : ℕ) → IsRunner a m → a.next ≡ turn.Run m) → Trip a b t
  Lands : (s : Core) → (p : Placing) → Stay a b s → MayLand a p s → lands_alone p ≡ true → Halts a b (leaving p) s →
      Trip a b (after_primitive (Places p) s)
  -- and its op has come that far
  LandsAt : (s : Core) → (p : Placing) → (n : ℕ) → (h : OpProgress) → Stay a b s → MayLand a p s → lands_inside p h ≡ true →
      Allowed a (SetOpProgress n h) (after_primitive (Places p) s) → Halts a b (leaving p) s →
      Trip a b (after_primitive (SetOpProgress n h) (after_primitive (Places p) s))
  Quits : (s t : Core) → (n : ℕ) → Stay a b s → Leaves a n → Settles (after_primitive (RemoveThread n) s) t → Halted a b n s → Trip a b t
  -- a direct callee exits, and the thread under it goes on
  GoesBack : (s t : Core) → (n m v : ℕ) → Stay a b s → IsRunner a n → a.turn ≡ turn.Run n → a.next ≡ turn.Run m →
      place_of m a.base ≡ Some (place.Under n) → direct_return a.base a.label ≡ Some (m, task_of n a.base) →
      Settles (after_primitive (RemoveThread n) s) t → MayMove a m place.Running t →
      Trip a b (after_primitive (SetOpProgress m (op_progress.Answered v)) (after_primitive (Places (Move m place.Running)) t))
  Collapses : (t : Core) → a.next ≡ turn.Over → Chain (IsUnwind a) b t → Trip a b t

-- the core in which the thread runs or has been taken; where there is none, that of the step
abbrev pub start_of : Scene → Core → Core
start_of a s = option_map_or (λ n. a.base) a.runner s

-- only changes of where other threads are
abbrev pub IsShift : Primitive → Core → Type 0
IsShift (Places p) s = MayShift p s
IsShift _ s = ⊥

abbrev pub Shifts : Core → Core → Type 0
Shifts b t = Chain IsShift b t

abbrev pub is_running : Place → Bool
is_running place.Running = true
is_running _ = false

abbrev pub is_take : Turn → Bool
is_take (turn.Take ended) = true
is_take _ = false

-- the call is gone, or has ended
abbrev pub is_over : ℕ → Core → Bool
is_over k s = option_map_or (λ c. is_some c.«end») (get s.calls k) true

-- the call's first thread runs, and its exit ends the call
abbrev pub ExitsCall : Scene → ℕ → Type 0
ExitsCall a k = (n : ℕ) × (IsRunner a n × ((k ≡ task_of n a.base) × ((is_explicit n a.base ≡ false) ×
    ((is_direct (goal_of k a.base) ≡ true) ⊎ (is_async_lifted (kind_of k a.base) ≡ false)))))

-- Which call comes to its end.
pub data EndsCall (a : Scene) (k : ℕ) : Type 0 where
  -- that of the running thread, which has none
  EndsOwn : (n : ℕ) → IsRunner a n → k ≡ task_of n a.base → has_ended k a.base ≡ false → EndsCall a k
  EndsByExit : ExitsCall a k → EndsCall a k
  -- a subtask that a handle names, which has none
  EndsSubtask : IsNamed a (subtask.Guest k) → has_ended k a.base ≡ false → EndsCall a k

-- the work, which is the next one, is made, but not kept
abbrev pub IsReadyAtOnce : Scene → Core → ℕ → Type 0
IsReadyAtOnce a t i = (i ≡ next_work a.base) × ((t.made.works ≡ i) × (t.works ≡ a.base.works))

-- What becomes of those who are blocked on the subtask, as it ends or its event is set: by the changes of places from `before` to `after`
-- one of them gets its entry, if there is one.
pub record Unblocking (a : Scene) (t : Core) (sub : Subtask) : Type 0 where
  pub first : Core
  pub home : first.threads ≡ a.base.threads
  pub before : Core
  pub after : Core
  pub stays : Stay a first before
  pub shifts : Shifts before after
  pub rest : Walk a after t
  -- who is blocked on it still was so beside another one
  pub freed : (n : ℕ) → place_of n after ≡ Some (place.Blocked sub) →
      (m : ℕ) × ((place_of m before ≡ Some (place.Blocked sub)) × ((n == m) ≡ false))

-- How a step comes to write an end of a subtask.
pub data Writes (a : Scene) (t : Core) : Subtask → Type 0 where
  -- the call has it on the way
  WritesCall : (k : ℕ) (u : Core) → EndsCall a k → is_over k u ≡ true → Walk a u t → Writes a t (subtask.Guest k)
  -- the work is polled
  WritesPolled : (i : ℕ) → a.label ≡ label.Loop (loop_label.FutureEnds i) → IsPolled a i a.base → has_end (course_of i t) ≡ true →
      -- who called it in sync, and is blocked on it, goes on
      ((n : ℕ) → work_caller_of i a.base ≡ work_caller.Sync n → Unblocking a t (subtask.Host i)) → Writes a t (subtask.Host i)
  -- a host is ready at its first poll
  WritesAtOnce : (i : ℕ) → IsReadyAtOnce a t i → Writes a t (subtask.Host i)
  -- the event of a withdrawn start was there, which never is
  WritesNever : (sub : Subtask) → undelivered_end (event_of sub a.base) ≡ Some status.StartCancelled → Writes a t sub

-- How a step comes to hand an end of a subtask out.
pub data HandsOut (a : Scene) (t : Core) : Subtask → Status → Type 0 where
  -- it takes the event
  TakesEvent : (sub : Subtask) (e : Status) → undelivered_end (event_of sub a.base) ≡ Some e → undelivered_end (event_of sub t) ≡ None →
      HandsOut a t sub e
  -- main takes the result
  TakesResult : (k : ℕ) → is_some (get a.base.results k) ≡ true → get t.results k ≡ None → HandsOut a t (subtask.Guest k) status.Returned
  -- it writes the end itself: of a direct call, or of a start that is withdrawn
  WritesToo : (k : ℕ) (e : Status) → SaysEnd a k e → (is_direct (goal_of k a.base) ≡ true) ⊎ (e ≡ status.StartCancelled) →
      HandsOut a t (subtask.Guest k) e
  -- a host is ready at its first poll
  HandsAtOnce : (i : ℕ) → IsReadyAtOnce a t i →
      written_as a.ops a.base a.label t ≡ Some (end_for status.Returned (subtask.Host i)) →
      HandsOut a t (subtask.Host i) status.Returned
  -- the sync call of a host is answered
  Answers : (n i : ℕ) → IsRunner a n → op_progress_of n a.base ≡ op_progress.Calls (subtask.Host i) → get t.works i ≡ None →
      HandsOut a t (subtask.Host i) status.Returned

-- From s to t one thread that waits on the set is woken, if there is one.
abbrev pub WakesOne : ℕ → Core → Core → Type 0
WakesOne x s t = ((n : ℕ) → is_waiter x n s ≡ false) ⊎
    ((m : ℕ) × ((is_waiter x m s ≡ true) × (place_of m t ≡ Some (place.Ready mark.High (wake_why x (is_callback_waiter m s))))))

-- What becomes of those who wait on the subtask's set, too, as its event is set: one of them gets its entry, if there is one.
pub record Frees (a : Scene) (t : Core) (sub : Subtask) : Type 0 where
  pub unblocks : Unblocking a t sub
  pub woken : (x : ℕ) → join_of sub unblocks.before ≡ join.Set x → WakesOne x unblocks.before unblocks.after

-- Whether an end that the label says is set as the event of its subtask.
pub data EndTells (a : Scene) (t : Core) : Subtask → Status → Type 0 where
  TellsNow : (sub : Subtask) (e : Status) → Frees a t sub → EndTells a t sub e
  -- that of a direct call, or of one that main made, isn't
  TellsNever : (k : ℕ) (e : Status) → is_told k a.base ≡ false → EndTells a t (subtask.Guest k) e
  -- that of a withdrawn start isn't
  TellsNone : (sub : Subtask) → EndTells a t sub status.StartCancelled
  -- that of a host's work is, as its entry is taken
  TellsLater : (i : ℕ) (e : Status) → EndTells a t (subtask.Host i) e

-- the work whose entry is taken
abbrev pub host_taken : Label → Option ℕ
host_taken (label.Take (take_label.Host m i)) = Some i
host_taken (label.Take (take_label.HostWakes m i w)) = Some i
host_taken _ = None

-- What the label of a step says of the ends of subtasks.
pub record EndPrimitives (a : Scene) (t : Core) : Type 0 where
  pub writes : (sub : Subtask) (e : Status) → written_as a.ops a.base a.label t ≡ Some (end_for e sub) → Writes a t sub
  pub hands : (sub : Subtask) (e : Status) → handed_as a.ops a.main a.base a.label t ≡ Some (end_for e sub) → HandsOut a t sub e
  pub tells : (sub : Subtask) (e : Status) → written_as a.ops a.base a.label t ≡ Some (end_for e sub) → EndTells a t sub e
  pub takes : (i : ℕ) → host_taken a.label ≡ Some i → Frees a t (subtask.Host i)
  -- the op that answers is done
  pub answers : (n : ℕ) → sync_answered a.label ≡ Some n → op_progress_of n t ≡ op_progress.Fresh

-- What the last primitives of a step leave.
pub record LastPrimitives (a : Scene) (t : Core) : Type 0 where
  -- a thread that was taken is at a place that says nothing of entries, or gone
  pub laid : (n : ℕ) → IsRunner a n → is_take a.turn ≡ true → option_map_or is_free (place_of n t) true ≡ true
  -- a thread whose turn comes was running already, or runs now
  pub runs : (n : ℕ) → a.next ≡ turn.Run n → (a.turn ≡ turn.Run n) ⊎ (option_map_or is_running (place_of n t) true ≡ true)
  -- a label that gives an outcome ends the turns
  pub outcome : (o : Outcome) → outcome_of_label a.label ≡ Some o → a.next ≡ turn.Over
  -- a thread that exits is gone
  pub gone : (n : ℕ) → IsRunner a n → is_exit a.label ≡ true → get t.threads n ≡ None
  -- what the label says of ends is so
  pub says : EndPrimitives a t
  -- a holding entry that begins to run finds its instance open, and shuts it
  pub shut : (i : ℕ) → begun_holder a.base a.label ≡ Some i → (may_not_enter i a.base ≡ false) ×
      (is_some (get t.instances i) ≡ true → may_not_enter i t ≡ true)

-- what main's script names as a spawn it named so before the step to t, or it is one
abbrev pub SpawnsNamed : MainPlace → Core → MainPlace → Type 0
SpawnsNamed p t q = (k : ℕ) → ((j : ℕ) × (spawned_at q k ≡ spawned_at p j)) ⊎ (is_spawn (spawned_at q k) t ≡ true)

-- a main that is a script stays one, and so does one that isn't
abbrev pub SameMain : Main → Core → Main → Type 0
SameMain (Scripted p) t (Scripted q) = SpawnsNamed p t q
SameMain Unscripted t Unscripted = Unit {0}
SameMain _ t _ = ⊥

-- A step seen as a chain, in which each thread has this op.
pub record WalkedAs (ops : ℕ → Op) (x : Setting) (s : State) (l : Label) (t : State) : Type 0 where
  pub next : Turn
  pub turn : t.turn ≡ settled_turn t.core next
  pub main : SameMain s.main t.core t.main
  pub walk : Walk (scene_as ops x s l next) s.core t.core
  pub trip : Trip (scene_as ops x s l next) (start_of (scene_as ops x s l next) s.core) t.core
  pub ends : LastPrimitives (scene_as ops x s l next) t.core

abbrev pub Walked : Setting → State → Label → State → Type 0
Walked x s l t = WalkedAs (ops_of x.component s.core) x s l t

-- each step is a chain of primitives, each where it may be done
abbrev pub StepsAreWalks : Type 0
StepsAreWalks = (x : Setting) (s : State) (l : Label) (t : State) → Step x s l t → Walked x s l t

-- The rule at any op is a chain of primitives in which the running thread has that op, where one that isn't an exit is at a place
-- in its script.
unfoldable pub RulesAreWalks : Type 0
RulesAreWalks = (ops : ℕ → Op) (x : Setting) (s : State) (n : ℕ) (l : Label) (o : Op) (t : State) → s.turn ≡ turn.Run n → ops n ≡ o →
    (is_exit_op o ≡ false → position_of n s.core + 1 ≤ length (script_of x.component n s.core)) →
    Progresses s s.core n (scripted_op_rule x.component n s.core (choice_of l) o) l t → WalkedAs ops x s l t

-- So is the rule as a host has it done, of any op but one on registers and memory cells, wherever the thread is in its script.
unfoldable pub HostRulesAreWalks : Type 0
HostRulesAreWalks = (ops : ℕ → Op) (x : Setting) (s : State) (n : ℕ) (l : Label) (o : Op) (t : State) → s.turn ≡ turn.Run n → ops n ≡ o →
    is_data_op o ≡ false → Progresses s s.core n (op_rule SomeHost x.component n s.core (choice_of l) o) l t → WalkedAs ops x s l t
