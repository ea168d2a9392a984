-- What a hook of these tests has heard.
use Rattle.std.specs.Prelude.{Bool, List, None, Some, ℕ}
use Rattle.task_group.specs.Heard.{Heard}
use Rattle.machine_data.specs.declared.records.Notice.{Notice}

-- it counts its errors alone
abbrev pub counting : (errors : ℕ) → Heard
counting errors = record { told = None; answers = None; errors = errors }

-- it keeps what it was told, and what it answered
abbrev pub keeping : (told : List Notice) → (answers : List Bool) → (errors : ℕ) → Heard
keeping told answers errors = record { told = Some told; answers = Some answers; errors = errors }
