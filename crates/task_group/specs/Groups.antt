-- What a contract sees of the groups of a store, and which notices their calls give.
use Rattle.std.specs.Prelude.{◌≡◌, ℕ, ◌+◌, ◌≤◌, ◌==◌, nat_lt, List, [], ◌∷◌, map, Option, Some, None, Bool, true, false, is_some, IsSome, if◌then◌else◌, refl, ◌++◌}
use Rattle.std.specs.Coded.{Coded, code_by, coded×, coded_ℕ}
use Rattle.std.specs.FinMap as finite
use Rattle.machine_data.specs.declared.records.Notice.{Notice}
use Rattle.machine_data.specs.declared.records.NoticeKind.{NoticeKind}
use Rattle.machine_data.specs.declared.records.NoticeKind.TheVariants.{Enter, Exit, Finish}
use Rattle.task_group.specs.declared.notice.TaskGroupId.{TaskGroupId}
use Rattle.task_group.specs.Heard.{notice_of, finish_of, start_of}
use Rattle.task_group.specs.Listeners.{Listeners, listeners_code, errors_of, AnsweredErr, ToldListeners}
use Rattle.task_group.specs.Counts.{Counts, count_in}

-- the live groups with their counts, how many groups were made, and who is told
pub record Groups : Type 0 where
  pub live : Counts
  pub made : ℕ
  pub listeners : Listeners

abbrev pub groups_code : Coded Groups
groups_code =
    code_by
    (Counts × (ℕ × Listeners))
    (coded× (finite.code coded_ℕ coded_ℕ) (coded× coded_ℕ listeners_code))
    (λ g. (g.live, (g.made, g.listeners)))
    (λ p. record { live = p.0; made = p.1.0; listeners = p.1.1 })
    (λ _. refl)

-- no live group has a number that wasn't given
abbrev pub IsKnown : Counts → ℕ → Type 0
IsKnown live made = (number : ℕ) → IsSome (finite.get live number) → number ≤ made

-- the number of the next group, where this one is wanted: that one, if it is above those that were given
abbrev pub numbered : (made number : ℕ) → ℕ
numbered made number = if nat_lt made number then number else made + 1

-- a notice of a group, which isn't told of a finished one or of none
abbrev pub notice_at : Counts → NoticeKind → Option TaskGroupId → List Notice
notice_at live kind None = []
notice_at live kind (Some id) =
    if is_some (finite.get live id.number) then notice_of kind id ∷ [] else []

-- the group finishes with its last task
abbrev pub finish_at : Counts → TaskGroupId → List Notice
finish_at live id = if count_in live id.number == 1 then finish_of id ∷ [] else []

abbrev pub finish_number : ℕ → Notice
finish_number number = record { kind = Finish; group = number }

-- each live group finishes, in order of number
abbrev pub finish_all : Counts → List Notice
finish_all live = map finish_number (finite.keys live)

abbrev pub same_group : Option TaskGroupId → Option TaskGroupId → Bool
same_group None None = true
same_group None (Some _) = false
same_group (Some _) None = false
same_group (Some a) (Some b) = a.number == b.number

-- the hook is told of the exit, and then of the enter unless it answered the exit with an error
pub record Switches (exits enters : List Notice) (old new : Listeners) : Type 0 where
  pub between : Listeners
  pub exited : ToldListeners exits old between
  pub entered : errors_of between ≡ errors_of old → ToldListeners enters between new
  pub stopped : AnsweredErr old between → new ≡ between

-- what is told of the group that is made next
abbrev pub told_of_next : Groups → List Notice
told_of_next g = start_of (record { number = g.made + 1 }) ∷ []

-- what is told of a visit of a group: that it is entered, and exited
abbrev pub told_of_visit : Counts → TaskGroupId → List Notice
told_of_visit live id = notice_at live Enter (Some id) ++ notice_at live Exit (Some id)

-- One group is exited, and another one entered, as far as they are live.
abbrev pub SwitchesGroups : (from to : Option TaskGroupId) → (old new : Groups) → Type 0
SwitchesGroups from to old new = Switches (notice_at old.live Exit from) (notice_at old.live Enter to) old.listeners new.listeners
