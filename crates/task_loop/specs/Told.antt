-- What the steps of a run, and the calls between runs, tell of groups.
use Rattle.store_notices.specs.Moves.{AnswersAsHook, StopsAt, finishes, moved}
use Rattle.store_notices.specs.Runs.{AreGroupsBefore, moment, running_in}
use Rattle.store_notices.specs.declared.tells.GroupsBefore.{GroupsBefore}
use Rattle.ops_state.specs.declared.error.TaskError.{TaskError}
use Rattle.ops_state.specs.declared.error.TaskError.TheVariants as task_error
use Rattle.ops_state.specs.declared.name_calls.QualifiedThreadId.{QualifiedThreadId}
use Rattle.std.specs.Option.{option_map_or}
use Rattle.std.specs.Prelude.{Bool, Err, List, None, OnErr, OnOk, Option, Result, Some, [], false, true, ℕ, ◌++◌, ◌+◌, ◌==◌, ◌∷◌, ◌≡◌, ◌⊎◌}
use Rattle.task_group.specs.Listeners.{AnsweredErr, Listeners, ToldListeners, ToldWithHookOk}
use Rattle.task_loop.specs.AnswersOk.{IsHookIsOk, FewerIn}
use Rattle.machine_data.specs.Core.{Core, Main}
use Rattle.machine_data.specs.declared.component.Component.{Component}
use Rattle.machine_data.specs.declared.records.Notice.{Notice}
use Rattle.machine_data.specs.declared.records.NoticeKind.TheVariants as notice
use Rattle.machine_data.specs.declared.records.Turn.{Turn}
use Rattle.machine_data.specs.declared.records.Turn.TheVariants as turn
use Rattle.machine_data.specs.declared.trap.Trap.TheVariants as trap
use Rattle.machine_rules.specs.Notices.{finish_notices, is_in, moment_notices, start_notices, told_of}
use Rattle.machine_rules.specs.Stalled.{Setting}
use Rattle.ops_turns.specs.Turn.{Turned, running_of, state_at}
use Rattle.ops_turns.specs.declared.made.MadeStep.{MadeStep}
pub use Rattle.ops_turns.specs.StepResult.{turn_of}
use Rattle.ops_turns.specs.declared.mains.MainStep.{MainStep}
use Rattle.ops_turns.specs.declared.mains.MainStep.TheVariants as step
use Rattle.core_primitives.specs.Groups.{asked, ended_groups, tracked_group, CountsEnded}
use Rattle.core_primitives.specs.StateView.{StateView}

-- main's op tells of the group that it made, and of those that it finished
abbrev pub main_notices : MainStep → Core → Core → List Notice
main_notices (step.Did l) s t = start_notices l t ++ finish_notices s.groups t.groups
main_notices _ s t = []

-- some notices were told, or none
abbrev pub TellsSome : Listeners → Listeners → Type 0
TellsSome old new = (ns : List Notice) × ToldListeners ns old new

-- the same thread runs on
abbrev pub runs_on : Turn → Turn → Bool
runs_on (turn.Run n) (turn.Run m) = n == m
runs_on _ _ = false

-- the group of the thread that runs at this turn, as long as it is tracked; default: 0
abbrev pub group_running : StateView → Turn → ℕ
group_running s p = running_in s.tags.tracked s.core p

-- the group of the thread that runs in a store, as long as it is tracked; default: 0
abbrev pub current_group : StateView → ℕ
current_group s = option_map_or (λ n. tracked_group n s) (running_of s) 0

-- the notices of the step that was made, if one was
abbrev pub notices_made : Turn → Main → Core → Option MadeStep → Main → Core → List Notice
notices_made p m s None n t = []
notices_made p m s (Some made) n t = moment_notices (moment (state_at s m p) made.label (state_at t n made.turn))

-- The step was made as `Turned` says, and its notices were told, to which the hook answered no error, unless it is a refused start.
pub record TurnTold
    (x : Setting) (p : Turn) (m : Main) (s : StateView) (old : Listeners) (made : Option MadeStep) (n : Main) (t : StateView) (new : Listeners) :
    Type 0 where
  pub turned : Turned x p m s made n t
  pub told : ToldListeners (notices_made p m s.core made n t.core) old new
  pub hook_is_ok : IsHookIsOk made old new
  pub fewer : FewerIn p s.core t.core

-- what is told of a step of the running thread, whatever main is
abbrev pub RunTold : Component → ℕ → StateView → Listeners → MadeStep → StateView → Listeners → Type 0
RunTold c n s old made t new = (x : Setting) → x.component ≡ c → (m : Main) → TurnTold x (turn.Run n) m s old (Some made) m t new

-- ---- What is asked before a step or a call

-- of a turn in which no thread runs
abbrev pub groups_before_work : (worked : Option ℕ) → GroupsBefore
groups_before_work worked = record { running = 0; worked = worked }

-- of that of a thread of this group
abbrev pub groups_before_run : (running : ℕ) → GroupsBefore
groups_before_run running = record { running = running; worked = None }

-- and of a call between runs
abbrev pub groups_before_call : StateView → GroupsBefore
groups_before_call s = groups_before_run (current_group s)

-- ---- What a step or a call tells before which these were the groups, and which has left the state t; then the core was asked which groups have
-- ---- ended, and u is the state

-- the old group is left and the new one entered, and those that have ended finish
abbrev pub told_by : GroupsBefore → StateView → List Notice
told_by a t = moved a (current_group t) ++ finishes (ended_groups t)

-- all of it
pub record TellsWhole (a : GroupsBefore) (t u : StateView) (old new : Listeners) : Type 0 where
  pub told : ToldListeners (told_by a t) old new
  pub asked : u ≡ asked t

-- All of a step of this turn, before which each group that had ended was told of: the groups that are told of are those that were live.
pub record TellsTurn (s : StateView) (p : Turn) (u : StateView) (old new : Listeners) : Type 0 where
  pub asked : GroupsBefore
  pub is_asked : AreGroupsBefore s.core p asked
  pub positive : is_in s.core.groups 0 ≡ false
  -- the state that the step has left
  pub left : StateView
  pub known : left.tags.tracked ≡ s.tags.tracked
  pub counted : CountsEnded left
  pub told : TellsWhole asked left u old new

-- The hook answered an error to an exit or an enter: nothing behind it was told, and no group was forgotten.
pub record StopsAtMove (a : GroupsBefore) (t u : StateView) (old new : Listeners) : Type 0 where
  pub same : u ≡ t
  pub stops : StopsAt (moved a (current_group t)) old new

-- It answered one to a finish: all was told all the same.
pub record StopsAtFinish (a : GroupsBefore) (t u : StateView) (old new : Listeners) : Type 0 where
  pub asked : u ≡ asked t
  pub between : Listeners
  pub moved : ToldWithHookOk (moved a (current_group t)) old between
  pub finished : ToldListeners (finishes (ended_groups t)) between new
  pub answered : AnsweredErr between new

abbrev pub TellsPart : GroupsBefore → StateView → StateView → Listeners → Listeners → Type 0
TellsPart a t u old new = StopsAtMove a t u old new ⊎ StopsAtFinish a t u old new

-- A call that tells it answers an error just where the hook did.
pub record TellsOut {A E : Type 0} (a : GroupsBefore) (answer : Result A E) (t u : StateView) (old new : Listeners) : Type 0 where
  pub whole : OnOk answer (TellsWhole a t u old new)
  pub part : OnErr answer (TellsPart a t u old new)
  pub hook : AnswersAsHook answer old new

-- ---- Calls between runs

-- refusal 22
abbrev pub refused_by_hook : {A : Type 0} → Result A TaskError
refused_by_hook = Err (task_error.Trap trap.HookFailed)

-- The hook answered no error: what the call resulted in is answered.
pub record HookAnswersOk {A : Type 0} (a : GroupsBefore) (answer r : Result A TaskError) (t u : StateView) (old new : Listeners) : Type 0 where
  pub hook_is_ok : AnsweredErr old new → ⊥
  pub answers : r ≡ answer
  pub told : TellsWhole a t u old new

-- It answered an error, which only a hook that listens does: then 22 is answered.
pub record HookRefuses {A : Type 0} (listens : Bool) (a : GroupsBefore) (r : Result A TaskError) (t u : StateView) (old new : Listeners) :
    Type 0 where
  pub hears : listens ≡ true
  pub failed : AnsweredErr old new
  pub answers : r ≡ refused_by_hook
  pub told : TellsPart a t u old new

abbrev pub TellsCall : {A : Type 0} → (listens : Bool) → GroupsBefore → (answer r : Result A TaskError) → (t u : StateView) →
    (old new : Listeners) → Type 0
TellsCall listens a answer r t u old new = HookAnswersOk a answer r t u old new ⊎ HookRefuses listens a r t u old new

-- ---- Groups that begin

-- the next group starts
abbrev pub start_of_group : Core → Notice
start_of_group s = told_of notice.Start (s.made.groups + 1)

-- and finishes again
abbrev pub finish_of_group : Core → Notice
finish_of_group s = told_of notice.Finish (s.made.groups + 1)

-- The hook answered an error to a start: as the next group started, or as it finished again, since it was out of memory for the
-- call. Then all groups finished.
pub record StartFails (s : Core) (old new : Listeners) : Type 0 where
  pub between : Listeners
  pub stops : StopsAt (start_of_group s ∷ finish_of_group s ∷ []) old between
  pub finished : ToldListeners (finishes s.groups) between new

-- what a new task tells: it starts a group where it has no caller
abbrev pub begun_notices : Option QualifiedThreadId → Core → List Notice
begun_notices (Some id) s = []
begun_notices None s = start_of_group s ∷ []
