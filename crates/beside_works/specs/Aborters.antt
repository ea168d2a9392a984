-- What an aborter is at first, and what it has done.
use Rattle.beside_works.specs.declared.cells.SharedSpawn.{SharedSpawn}
use Rattle.std.specs.Prelude.{List, Some, [], count_by, false, length, replicate, slice_get, take, ℕ, ◌+◌, ◌++◌, ◌<◌, ◌==◌, ◌∷◌, ◌≡◌, ◌⊎◌, map, true}
use Rattle.beside_works.specs.Counts.{added_each, cells_in, counts_in, later, places_in, with_each, added, met_of}
use Rattle.beside_works.specs.Lines.{line_at}
use Rattle.beside_works.specs.declared.line.Aborter.{Aborter}
use Rattle.task_abort.specs.Cells.{CellId}

-- ---- At first

-- The aborter after k others. It has a pass of each cell, where so many were split off before them, and has aborted nothing.
pub record IsNew (ids : List CellId) (splits : List ℕ) (k : ℕ) (a : Aborter) : Type 0 where
  pub number : a.number ≡ k + 1
  pub cells : cells_in a.passes.items ≡ ids
  pub places : places_in a.passes.items ≡ later k splits
  pub counts : counts_in a.passes.items ≡ replicate (length splits) 0
  pub out_of_memory : a.out_of_memory ≡ false

-- so each is, in order, after k others
abbrev pub AreNew : List CellId → List ℕ → ℕ → List Aborter → Type 0
AreNew ids splits k [] = Unit {0}
AreNew ids splits k (a ∷ all) = IsNew ids splits k a × AreNew ids splits (k + 1) all

-- ---- What it has done

-- these are some of the line's, in its order
abbrev pub IsPartOf : List ℕ → List ℕ → Type 0
IsPartOf [] line = Unit {0}
IsPartOf (s ∷ made) [] = ⊥
IsPartOf (s ∷ made) (t ∷ line) = ((s ≡ t) × IsPartOf made line) ⊎ IsPartOf (s ∷ made) line

-- It has made aborts of its line, in order, and all of them unless it was out of memory. Of each spawn there are as many more as
-- were made.
pub record HasRun (line : List ℕ) (a b : Aborter) : Type 0 where
  pub number : b.number ≡ a.number
  pub cells : cells_in b.passes.items ≡ cells_in a.passes.items
  pub places : places_in b.passes.items ≡ places_in a.passes.items
  pub made : List ℕ
  pub part : IsPartOf made line
  pub counts : counts_in b.passes.items ≡ added_each made 0 (counts_in a.passes.items)
  pub whole : b.out_of_memory ≡ false → made ≡ line
  pub out_of_memory : b.out_of_memory ≡ false → a.out_of_memory ≡ false

-- each of them has run, by its line among these
abbrev pub HaveRun : List (List ℕ) → List Aborter → List Aborter → Type 0
HaveRun lines [] [] = Unit {0}
HaveRun lines (a ∷ olds) (b ∷ news) = HasRun (line_at lines a.number) a b × HaveRun lines olds news
HaveRun lines [] (b ∷ news) = ⊥
HaveRun lines (a ∷ olds) [] = ⊥

-- ---- As they are met

-- each has a pass of each cell, split off after those before it
abbrev pub CanMeet : List CellId → List ℕ → List Aborter → Type 0
CanMeet ids places [] = Unit {0}
CanMeet ids places (a ∷ all) =
    (cells_in a.passes.items ≡ ids) × ((places_in a.passes.items ≡ places) × CanMeet ids (later 1 places) all)

-- what the cells list, once all were met
abbrev pub with_all : List Aborter → List (List (ℕ × ℕ)) → List (List (ℕ × ℕ))
with_all [] mss = mss
with_all (a ∷ all) mss = with_all all (with_each a.number (counts_in a.passes.items) mss)

-- Some of them were met: all before one of them, and that one in the first k cells.
abbrev pub MetInPart : List Aborter → List (List (ℕ × ℕ)) → List (List (ℕ × ℕ)) → Type 0
MetInPart [] olds news = ⊥
MetInPart (a ∷ all) olds news =
    ((k : ℕ) × (news ≡ with_each a.number (take k (counts_in a.passes.items)) olds))
    ⊎ MetInPart all (with_each a.number (counts_in a.passes.items) olds) news

-- how often each line names spawn j, with the lines' numbers, from this one on
abbrev pub briefs : List (List ℕ) → ℕ → ℕ → List (ℕ × ℕ)
briefs [] number j = []
briefs (line ∷ lines) number j = (number, count_by (λ s. s == j) line) ∷ briefs lines (number + 1) j

-- it was out of memory for none of them
abbrev pub NoneOutOfMemory : List Aborter → Type 0
NoneOutOfMemory [] = Unit {0}
NoneOutOfMemory (a ∷ all) = (a.out_of_memory ≡ false) × NoneOutOfMemory all

-- Once new aborters of these lines have run, and were met, and it was out of memory for none, each cell lists all of them in order,
-- each with as many aborts as its line names the cell's spawn.
abbrev pub AbortsAreMet : Type 0
AbortsAreMet =
    (ids : List CellId) (splits : List ℕ) (lines : List (List ℕ)) (olds news : List Aborter) (mss : List (List (ℕ × ℕ))) (i : ℕ)
    (ms : List (ℕ × ℕ)) → AreNew ids splits 0 olds → length olds ≡ length lines → HaveRun lines olds news → NoneOutOfMemory news →
    i < length splits → slice_get mss i ≡ Some ms → slice_get (with_all news mss) i ≡ Some (ms ++ briefs lines 1 (i + 1))

-- ---- Of one abort, and of one aborter whose passes are taken in

-- It is counted for that spawn, or there was no memory for it.
abbrev pub CountsAbort : (spawn : ℕ) → (old new : Aborter) → Type 0
CountsAbort spawn a b = ((b.out_of_memory ≡ a.out_of_memory) × (counts_in b.passes.items ≡ added spawn (counts_in a.passes.items)))
    ⊎ ((b.out_of_memory ≡ true) × (counts_in b.passes.items ≡ counts_in a.passes.items))

-- Only its passes of the first cells, so many as may be, were taken in.
abbrev pub MeetsSome : Aborter → (old new : List SharedSpawn) → Type 0
MeetsSome a old new = (k : ℕ) × (map met_of new ≡ with_each a.number (take k (counts_in a.passes.items)) (map met_of old))
