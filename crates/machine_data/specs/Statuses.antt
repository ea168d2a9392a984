-- The numbers under which a subtask's status is handed to a guest, as the component model's public standard gives them.
use Rattle.std.specs.Prelude.{ℕ, ◌+◌, ◌*◌, Option, None, Some}
use Rattle.machine_data.specs.declared.statuses.Status.{Status}
use Rattle.machine_data.specs.declared.statuses.Status.TheVariants as status

-- 0 to 4, in the order of the variants
abbrev pub status_code : Status → ℕ
status_code status.Starting = 0
status_code status.Started = 1
status_code status.Returned = 2
status_code status.StartCancelled = 3
status_code status.ReturnCancelled = 4

-- a subtask's handle in all but the low four bits, its status in those
abbrev pub packed : ℕ → Status → ℕ
packed h e = 16 * h + status_code e

-- what a call answers: the packed status, or without a handle the status alone
abbrev pub packed_status : Status → Option ℕ → ℕ
packed_status e None = status_code e
packed_status e (Some h) = packed h e
