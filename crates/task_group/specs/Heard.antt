-- What a hook means, and what a call of it changes.
use Rattle.std.specs.Prelude.{◌≡◌, ℕ, ◌<◌, List, [], ◌∷◌, ◌++◌, Option, Bool, false, IsTrue, refl}
use Rattle.std.specs.Option.{option_map}
use Rattle.std.specs.Coded.{Coded, code_by, coded×, coded_bool, coded_ℕ, coded_list, coded_option}
use Rattle.machine_data.specs.declared.records.Notice.{Notice}
use Rattle.machine_data.specs.declared.records.NoticeKind.{NoticeKind}
use Rattle.machine_data.specs.declared.records.NoticeKind.TheVariants.{Start, Enter, Exit, Finish}
use Rattle.task_group.specs.declared.notice.TaskGroupId.{TaskGroupId}
use Rattle.machine_data.specs.contracts.records.Notice as notice

-- the notices that a hook was told, and whether it answered `Ok` to each, where it tells these, and how many errors it answered
pub record Heard : Type 0 where
  pub told : Option (List Notice)
  pub answers : Option (List Bool)
  pub errors : ℕ

abbrev pub heard_code : Coded Heard
heard_code =
    code_by
    (Option (List Notice) × (Option (List Bool) × ℕ))
    (coded× (coded_option (coded_list notice.the_row.coded)) (coded× (coded_option (coded_list coded_bool)) coded_ℕ))
    (λ h. (h.told, (h.answers, h.errors)))
    (λ p. record { told = p.0; answers = p.1.0; errors = p.1.1 })
    (λ _. refl)

abbrev pub notice_of : NoticeKind → TaskGroupId → Notice
notice_of kind id = record { kind = kind; group = id.number }

abbrev pub start_of : TaskGroupId → Notice
start_of id = notice_of Start id

abbrev pub enter_of : TaskGroupId → Notice
enter_of id = notice_of Enter id

abbrev pub exit_of : TaskGroupId → Notice
exit_of id = notice_of Exit id

abbrev pub finish_of : TaskGroupId → Notice
finish_of id = notice_of Finish id

-- a hook was told this notice: its list has it at the end, as that of its answers has what it answered, and its count of errors rose
-- exactly where that wasn't `Ok`
pub record Tells (n : Notice) (old new : Heard) (ok : Bool) : Type 0 where
  pub told : new.told ≡ option_map (λ notices. notices ++ n ∷ []) old.told
  pub answered : new.answers ≡ option_map (λ answers. answers ++ ok ∷ []) old.answers
  pub kept : IsTrue ok → new.errors ≡ old.errors
  pub raised : ok ≡ false → old.errors < new.errors
  pub limit : old.errors ≡ 18446744073709551615 → IsTrue ok
