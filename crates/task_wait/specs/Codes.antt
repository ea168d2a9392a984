-- The numbers under which an event is handed to a guest.
use Rattle.std.specs.Prelude.{ℕ, ◌%◌, ◌/◌}
use Rattle.machine_data.specs.Statuses.{status_code}
use Rattle.task_wait.specs.declared.codes.Event.{Event}
use Rattle.task_wait.specs.declared.codes.Event.TheVariants as event

-- the event's number, then its payload
abbrev pub parts_of : Event → ℕ × ℕ
parts_of event.None = (0, 0)
parts_of (event.Subtask status) = (1, status_code status)
parts_of (event.StreamRead code) = (2, code)
parts_of (event.StreamWrite code) = (3, code)
parts_of (event.FutureRead code) = (4, code)
parts_of (event.FutureWrite code) = (5, code)
parts_of event.Cancelled = (6, 0)

-- the low four bits of a number, then the rest
abbrev pub unpacked : ℕ → ℕ × ℕ
unpacked code = (code % 16, code / 16)
