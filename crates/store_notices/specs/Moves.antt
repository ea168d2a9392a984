-- The notices of exits, enters and finishes, and how they are told. A group of number 0 is none: nothing is told of it.
use Rattle.std.specs.Prelude.{List, OnErr, OnOk, Result, [], if◌then◌else◌, is_some, map, ℕ, ◌++◌, ◌==◌, ◌∷◌, ◌≡◌}
use Rattle.store_notices.specs.declared.tells.GroupsBefore.{GroupsBefore}
use Rattle.task_group.specs.Listeners.{AnsweredErr, Listeners, ToldListeners, ToldWithHookOk, errors_of}
use Rattle.machine_data.specs.declared.records.Notice.{Notice}
use Rattle.machine_data.specs.declared.records.NoticeKind.{NoticeKind}
use Rattle.machine_data.specs.declared.records.NoticeKind.TheVariants as notice
use Rattle.machine_rules.specs.Notices.{around, told_of}

-- ---- Which

abbrev pub one : NoticeKind → ℕ → List Notice
one kind g = if g == 0 then [] else told_of kind g ∷ []

-- where another group runs, or none, the old one is left and the new one entered
abbrev pub switched : (old new : ℕ) → List Notice
switched old new = if old == new then [] else one notice.Exit old ++ one notice.Enter new

-- the exits and enters of a step before which these were the groups, and after which a thread of this group runs
abbrev pub moved : GroupsBefore → (running : ℕ) → List Notice
moved a running = switched a.running running ++ around a.worked

abbrev pub finishes : List ℕ → List Notice
finishes gs = map (told_of notice.Finish) gs

-- ---- How

-- The hook answered an error to one of these notices: those before it were told, and it answered `Ok` to each; none behind it was told.
pub record StopsAt (all : List Notice) (old new : Listeners) : Type 0 where
  pub before : List Notice
  pub failed : Notice
  pub behind : List Notice
  pub parts : before ++ failed ∷ behind ≡ all
  pub between : Listeners
  pub hook_is_ok : ToldWithHookOk before old between
  pub last : ToldListeners (failed ∷ []) between new
  pub answered : AnsweredErr between new

-- A call answers an error just where the hook answered one in it, and leaves that there is a hook, or none.
pub record AnswersAsHook {A E : Type 0} (answer : Result A E) (old new : Listeners) : Type 0 where
  pub failed : OnErr answer (AnsweredErr old new)
  pub hook_is_ok : OnOk answer (errors_of new ≡ errors_of old)
  pub hook : is_some new.hook ≡ is_some old.hook

-- These are told, as far as the hook answers no error.
pub record TellsAsFar {A E : Type 0} (notices : List Notice) (answer : Result A E) (old new : Listeners) : Type 0 where
  pub told : OnOk answer (ToldWithHookOk notices old new)
  pub stops : OnErr answer (StopsAt notices old new)
  pub hook : is_some new.hook ≡ is_some old.hook
