-- The places of the resource table, over all kinds of entries: which are free, and how many were ever given.
use Rattle.std.specs.List.Sorted.{IsNonDecreasingBy, IsPermutation}
use Rattle.std.specs.Prelude.{◌≡◌, ℕ, ◌+◌, ◌-◌, List, [], ◌∷◌, drop, length, map, nat_lt, if◌then◌else◌, take}

-- the free places, the one freed last first, and how many places were given at least once
pub record Places : Type 0 where
  pub free : List ℕ
  pub made : ℕ

-- no place was given yet
abbrev pub no_places : Places
no_places = record { free = []; made = 0 }

-- the place freed last, else the first that was never given; places run from 0
abbrev pub next_of : List ℕ → ℕ → ℕ
next_of [] made = made
next_of (place ∷ _) made = place

abbrev pub made_of : List ℕ → ℕ → ℕ
made_of [] made = made + 1
made_of (_ ∷ _) made = made

-- the place that is given next, and the places when it was
abbrev pub next_place : Places → ℕ
next_place p = next_of p.free p.made

abbrev pub taken : Places → Places
taken p = record { free = drop 1 p.free; made = made_of p.free p.made }

-- the place is free again; where all places are free none was given
abbrev pub given : ℕ → Places → Places
given place p = if nat_lt (length p.free) p.made then record p { free = place ∷ p.free } else p

-- these places are given back, one after the other
abbrev pub given_each : List ℕ → Places → Places
given_each [] p = p
given_each (place ∷ places) p = given_each places (given place p)

-- how many places were given and aren't free
abbrev pub used : Places → ℕ
used p = p.made - length p.free

-- The places of what these names name are given back, in order of its number. No more are given back than were taken.
pub record GivenInOrder (number place : ℕ → ℕ) (names : List ℕ) (old new : Places) : Type 0 where
  pub order : List ℕ
  pub same : IsPermutation (take (used old) names) order
  pub rises : IsNonDecreasingBy number order
  pub places : new ≡ given_each (map place order) old

-- What was given since so many places were free are names: the places of what they name are given in their stead.
abbrev pub PutsInOrder : (number place : ℕ → ℕ) (kept : ℕ) (old new : Places) → Type 0
PutsInOrder number place kept old new =
    (names : List ℕ) (before : Places) → old ≡ given_each names before → kept ≡ length before.free →
    GivenInOrder number place names before new
