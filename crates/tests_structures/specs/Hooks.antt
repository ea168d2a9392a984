-- What a hook of these tests has heard.
use Rattle.std.specs.Prelude.{None, ℕ}
use Rattle.task_group.specs.Heard.{Heard}

-- it counts its errors alone
abbrev pub counting : (errors : ℕ) → Heard
counting errors = record { told = None; answers = None; errors = errors }
