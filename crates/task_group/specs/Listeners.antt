-- Who is told of groups: the hook, if there is one, and the list of notices that is kept.
use Rattle.std.specs.List.{list_all}
use Rattle.std.specs.Prelude.{◌≡◌, ℕ, ◌-◌, ◌<◌, ◌≤◌, ◌↔◌, Bool, List, [], ◌++◌, length, take, Option, None, is_some, true, refl}
use Rattle.std.specs.Option.{option_map, option_and_then, option_map_or}
use Rattle.std.specs.Coded.{Coded, code_by, coded×, coded_ℕ, coded_list, coded_option}
use Rattle.machine_data.specs.declared.records.Notice.{Notice}
use Rattle.machine_data.specs.contracts.records.Notice as notice
use Rattle.task_group.specs.Heard.{Heard, heard_code}

-- what the hook heard, the notices that were kept, and how many are kept at most
pub record Listeners : Type 0 where
  pub hook : Option Heard
  pub notices : List Notice
  pub room : ℕ

abbrev pub listeners_code : Coded Listeners
listeners_code =
    code_by
    (Option Heard × (List Notice × ℕ))
    (coded× (coded_option heard_code) (coded× (coded_list notice.the_row.coded) coded_ℕ))
    (λ l. (l.hook, (l.notices, l.room)))
    (λ p. record { hook = p.0; notices = p.1.0; room = p.1.1 })
    (λ _. refl)

-- no hook, and no notice is kept
abbrev pub nobody : Listeners
nobody = record { hook = None; notices = []; room = 0 }

-- the notices that the hook was told, where there is one and it tells that
abbrev pub told_of : Listeners → Option (List Notice)
told_of l = option_and_then (λ h. h.told) l.hook

-- whether the hook answered `Ok` to each notice, where there is one and it tells that
abbrev pub answers_of : Listeners → Option (List Bool)
answers_of l = option_and_then (λ h. h.answers) l.hook

-- how many errors the hook answered
abbrev pub errors_of : Listeners → ℕ
errors_of l = option_map_or (λ h. h.errors) l.hook 0

-- the hook answered an error in this call
abbrev pub AnsweredErr : Listeners → Listeners → Type 0
AnsweredErr old new = errors_of old < errors_of new

abbrev pub all_ok : List Bool → Bool
all_ok answers = list_all (λ ok. ok) answers

-- the hook was told these notices, in this order and no others, and the same are kept as far as the room reaches; it answered to each,
-- and its count of errors is as before exactly where it answered `Ok` to all
pub record ToldListeners (ns : List Notice) (old new : Listeners) : Type 0 where
  pub same_hook : is_some new.hook ≡ is_some old.hook
  pub told : told_of new ≡ option_map (λ notices. notices ++ ns) (told_of old)
  pub kept : new.notices ≡ old.notices ++ take (old.room - length old.notices) ns
  pub same_room : new.room ≡ old.room
  pub errors : errors_of old ≤ errors_of new
  pub answers : List Bool
  pub each : length answers ≡ length ns
  pub answered : answers_of new ≡ option_map (λ before. before ++ answers) (answers_of old)
  pub hook_is_ok : (errors_of new ≡ errors_of old) ↔ (all_ok answers ≡ true)

-- they were told, and the hook answered `Ok` to each
pub record ToldWithHookOk (ns : List Notice) (old new : Listeners) : Type 0 where
  pub told : ToldListeners ns old new
  pub hook_is_ok : errors_of new ≡ errors_of old
