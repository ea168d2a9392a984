-- What the cells of a run's spawns keep, as the run asks them.
use Rattle.beside_main.specs.Headline.{HasEntries}
use Rattle.beside_works.specs.Counts.{met_count}
use Rattle.beside_works.specs.Shared.{listed}
use Rattle.beside_works.specs.Views.{met_list, own_list, spawn_cell, spawn_view, split_count}
use Rattle.beside_works.specs.declared.cells.SharedSpawn.{SharedSpawn}
use Rattle.std.specs.Prelude.{List, Some, [], length, map, slice_get, ℕ, ◌∷◌, ◌≡◌}
use Rattle.task_abort.specs.PhaseLog.{IsLegal}
use Rattle.task_abort.specs.Staged.{LastRound, Numbered, staged}
use Rattle.task_abort.specs.declared.log.LogEntry.{LogEntry}

-- what was split off and met stays, and so does what was made when all aborts had been
pub record KeepsCell (a b : SharedSpawn) : Type 0 where
  pub cell : spawn_cell b ≡ spawn_cell a
  pub split : split_count b ≡ split_count a
  pub met : met_list b ≡ met_list a
  pub round : (n : ℕ) → LastRound (spawn_view a) n → LastRound (spawn_view b) n

abbrev pub KeepsCells : List SharedSpawn → List SharedSpawn → Type 0
KeepsCells [] [] = Unit {0}
KeepsCells (a ∷ olds) (b ∷ news) = KeepsCell a b × KeepsCells olds news
KeepsCells [] (b ∷ news) = ⊥
KeepsCells (a ∷ olds) [] = ⊥

-- no pass was split off them, none was met, and no call was made
abbrev pub AreNew : List SharedSpawn → Type 0
AreNew [] = Unit {0}
AreNew (s ∷ cells) = ((split_count s ≡ 0) × ((met_list s ≡ []) × (own_list s ≡ []))) × AreNew cells

-- each pass that was split off was met
abbrev pub AreMet : List SharedSpawn → Type 0
AreMet cells = map split_count cells ≡ map met_count cells

-- the run's calls after its first so many on each were made when all aborts had been
abbrev pub AreEarly : List SharedSpawn → List ℕ → Type 0
AreEarly [] [] = Unit {0}
AreEarly (s ∷ cells) (n ∷ ns) = LastRound (spawn_view s) n × AreEarly cells ns
AreEarly [] (n ∷ ns) = ⊥
AreEarly (s ∷ cells) [] = ⊥

-- the counts are those of the run's calls on each
abbrev pub AreCounts : List SharedSpawn → List ℕ → Type 0
AreCounts cells ns = ns ≡ map (λ s. length (own_list s)) cells

-- the log of a cell, put together by stages
pub record IsLog (s : SharedSpawn) (early : ℕ) (log : List (LogEntry ℕ)) : Type 0 where
  pub staged : log ≡ staged (own_list s) (listed (met_list s)) early
  pub legal : IsLegal log
  pub entries : Numbered 0 (listed (met_list s)) → HasEntries (own_list s) (listed (met_list s)) early log

abbrev pub AreLogsOf : List SharedSpawn → List ℕ → List (List (LogEntry ℕ)) → Type 0
AreLogsOf cells early logs =
    (k : ℕ) (log : List (LogEntry ℕ)) → slice_get logs k ≡ Some log →
    (s : SharedSpawn) × ((n : ℕ) × ((slice_get cells k ≡ Some s) × ((slice_get early k ≡ Some n) × IsLog s n log)))
