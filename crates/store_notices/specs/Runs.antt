-- What the steps of a run have told of groups.
use Rattle.laws_labels.specs.Tells.{worked_group}
use Rattle.store_notices.specs.Moves.{moved}
use Rattle.store_notices.specs.declared.tells.GroupsBefore.{GroupsBefore}
use Rattle.laws_labels.specs.Own.{is_data, is_main_turn}
use Rattle.std.specs.List.{list_all}
use Rattle.std.specs.Prelude.{List, None, Option, [], false, option_and_then, true, ℕ, ◌++◌, ◌∷◌, ◌≡◌}
use Rattle.task_group.specs.Listeners.{Listeners, ToldListeners}
use Rattle.machine_data.specs.Core.{Core, State}
use Rattle.machine_data.specs.Read.{thread_group}
use Rattle.machine_data.specs.declared.label.Label.{Label}
use Rattle.machine_data.specs.declared.records.Turn.{Turn}
use Rattle.machine_data.specs.declared.records.Turn.TheVariants as turn
use Rattle.machine_rules.specs.History.{Moment, history}
use Rattle.machine_rules.specs.Notices.{finish_notices, is_in, moment_notices, notices, running_group, start_notices, work_notices}
use Rattle.machine_rules.specs.Run.{Run}
use Rattle.machine_rules.specs.Stalled.{Setting}
use Rattle.machine_rules.specs.Step.{Step}
use Rattle.core_primitives.specs.Groups.{if_tracked, some_if_tracked}

-- A run was added to the trace, and its notices were told.
pub record HasTold (x : Setting) (s : State) (before : List Label) (t : State) (after : List Label) (old new : Listeners) :
    Type 0 where
  pub added : List Label
  pub trace : after ≡ before ++ added
  pub run : Run x s added t
  pub told : ToldListeners (notices (history x s added t run)) old new

abbrev pub moment : State → Label → State → Moment
moment s l t = record { before = s; label = l; after = t }

-- the group of the thread that runs at this turn, if it is among these; 0: none runs, or its group is none of them
abbrev pub running_in : List ℕ → Core → Turn → ℕ
running_in gs s (turn.Run n) = if_tracked gs (thread_group n s)
running_in gs s _ = 0

-- the group of the work that the turn works on, if it is among these
abbrev pub worked_in : List ℕ → Core → Turn → Option ℕ
worked_in gs s p = option_and_then (some_if_tracked gs) (worked_group s p)

-- This is asked in the turn, before its step.
pub record AreGroupsBefore (s : Core) (p : Turn) (a : GroupsBefore) : Type 0 where
  pub running : a.running ≡ running_in s.groups s p
  pub worked : a.worked ≡ worked_in s.groups s p

-- nothing is told of no run
abbrev pub NothingTold : Type 0
NothingTold = (x : Setting) (s : State) (before : List Label) (l : Listeners) → HasTold x s before s before l l

-- one more step, whose notices are told
abbrev pub StepTold : Type 0
StepTold =
    (x : Setting) (s : State) (before : List Label) (m : State) (mid : List Label) (l : Label) (t : State) (old between new : Listeners) →
    HasTold x s before m mid old between → Step x m l t → ToldListeners (moment_notices (moment m l t)) between new →
    HasTold x s before t (mid ++ l ∷ []) old new

-- ops on registers and memory cells tell nothing
abbrev pub DataTold : Type 0
DataTold =
    (x : Setting) (s : State) (before : List Label) (m : State) (mid ls : List Label) (t : State) (n : ℕ) (old new : Listeners) →
    HasTold x s before m mid old new → m.turn ≡ turn.Run n → Run x m ls t → list_all is_data ls ≡ true →
    HasTold x s before t (mid ++ ls) old new

-- In any turn but main's the notices of a step are the exits and enters that are told by the groups before it, and the finishes of
-- the groups that were live before it and aren't after it.
abbrev pub OtherTurnsTold : Type 0
OtherTurnsTold =
    (x : Setting) (s : State) (l : Label) (t : State) (a : GroupsBefore) → Step x s l t → is_main_turn s.turn ≡ false →
    AreGroupsBefore s.core s.turn a → is_in s.core.groups 0 ≡ false →
    moved a (running_in s.core.groups t.core t.turn) ++ finish_notices s.core.groups t.core.groups ≡ moment_notices (moment s l t)

-- at main's turn no thread runs, before the step and after it, and no work is worked on: what it made and finished is told
abbrev pub MainTold : Type 0
MainTold =
    (s : State) (l : Label) (t : State) → s.turn ≡ turn.Main → running_group t.core t.turn ≡ None → work_notices l s.core ≡ [] →
    moment_notices (moment s l t) ≡ start_notices l t.core ++ finish_notices s.core.groups t.core.groups
