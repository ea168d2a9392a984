-- Notices in little room: a word has what happened in its low two bits, and the group's number above them.
use Rattle.std.specs.Prelude.{ℕ, ◌==◌, ◌/◌, ◌%◌, List, ◌++◌, map, if◌then◌else◌}
use Rattle.machine_data.specs.declared.records.Notice.{Notice}
use Rattle.machine_data.specs.declared.records.NoticeKind.{NoticeKind}
use Rattle.machine_data.specs.declared.records.NoticeKind.TheVariants.{Start, Enter, Exit, Finish}

abbrev pub kind_at : ℕ → NoticeKind
kind_at code = if code == 0 then Start else if code == 1 then Enter else if code == 2 then Exit else Finish

abbrev pub code_of : NoticeKind → ℕ
code_of Start = 0
code_of Enter = 1
code_of Exit = 2
code_of Finish = 3

abbrev pub opened : ℕ → Notice
opened word = record { kind = kind_at (word % 4); group = word / 4 }

-- the notices of the words, and then those that are kept whole
abbrev pub listed : List ℕ → List Notice → List Notice
listed words whole = map opened words ++ whole
