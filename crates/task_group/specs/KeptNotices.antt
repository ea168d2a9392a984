-- The notices that are kept, and the room for them.
use Rattle.std.specs.Prelude.{ℕ, ◌≡◌, ◌<◌, ◌≤◌, ◌^◌, List, []}
use Rattle.machine_data.specs.declared.records.Notice.{Notice}

pub record Kept : Type 0 where
  pub notices : List Notice
  pub room : ℕ

-- none, and no room
abbrev pub nothing : Kept
nothing = record { notices = []; room = 0 }

-- There is room in both parts, and words are added only as long as none is kept whole.
pub record IsSound (notices : List Notice) (below room words_room whole_room : ℕ) : Type 0 where
  pub words : room ≤ words_room
  pub whole : room ≤ whole_room
  pub fit : below ≤ 2 ^ 30
  pub first : 0 < below → notices ≡ []
