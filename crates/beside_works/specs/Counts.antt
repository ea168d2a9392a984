-- How often an aborter aborts each spawn.
use Rattle.std.specs.Prelude.{List, [], count_by, drop, length, map, suc, take, zero, ℕ, ◌+◌, ◌==◌, ◌∷◌, ◌++◌}
use Rattle.beside_works.specs.Views.{found_list, met_list, pass_cell_of, place_of}
use Rattle.beside_works.specs.declared.cells.AborterPass.{AborterPass}
use Rattle.beside_works.specs.declared.cells.SharedSpawn.{SharedSpawn}
use Rattle.beside_works.specs.declared.log.Found.{Found}
use Rattle.task_abort.specs.Cells.{CellId}

abbrev pub cells_in : List AborterPass → List CellId
cells_in ps = map pass_cell_of ps

abbrev pub places_in : List AborterPass → List ℕ
places_in ps = map place_of ps

-- how many aborts each has made
abbrev pub counts_in : List AborterPass → List ℕ
counts_in ps = map (λ p. length (found_list p)) ps

-- one more of the spawn, counted from 1
abbrev pub added : ℕ → List ℕ → List ℕ
added zero ns = ns
added (suc k) [] = []
added (suc zero) (n ∷ ns) = (n + 1) ∷ ns
added (suc (suc k)) (n ∷ ns) = n ∷ added (suc k) ns

-- each spawn from the one after k on has as many more as it is in the line
abbrev pub added_each : List ℕ → ℕ → List ℕ → List ℕ
added_each line k [] = []
added_each line k (n ∷ ns) = (n + count_by (λ s. s == k + 1) line) ∷ added_each line (k + 1) ns

-- each number k more
abbrev pub later : ℕ → List ℕ → List ℕ
later k ns = map (λ n. n + k) ns

-- each of the first i numbers one more
abbrev pub raised : ℕ → List ℕ → List ℕ
raised i ns = map (λ k. k + 1) (take i ns) ++ drop i ns

-- ---- What was met

-- an aborter's number, and how many aborts it has made
abbrev pub brief : Found → ℕ × ℕ
brief f = (f.number, length f.found.items)

abbrev pub met_of : SharedSpawn → List (ℕ × ℕ)
met_of s = map brief (met_list s)

abbrev pub met_count : SharedSpawn → ℕ
met_count s = length (met_list s)

-- each cell's list has the aborter with this number last, with its own count of aborts
abbrev pub with_each : ℕ → List ℕ → List (List (ℕ × ℕ)) → List (List (ℕ × ℕ))
with_each number (n ∷ ns) (ms ∷ mss) = (ms ++ (number, n) ∷ []) ∷ with_each number ns mss
with_each number ns mss = mss
