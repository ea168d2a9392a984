-- Which groups a core tracks: those that are live, and those that have ended since it was last asked which.
use Rattle.std.specs.Prelude.{Bool, List, [], false, filter, length, suc, true, zero, ℕ, ◌+◌, ◌<◌, ◌||◌, ◌∷◌, ◌≡◌, ◌≤◌}
use Rattle.table_lists.specs.Members.{Once, has}

-- so many numbers that follow this one
abbrev pub after : (low count : ℕ) → List ℕ
after low zero = []
after low (suc n) = suc low ∷ after (suc low) n

abbrev pub is_tracked : (ended live : List ℕ) → ℕ → Bool
is_tracked ended live n = has n ended || has n live

-- those of the groups that were made, in order
abbrev pub tracked_of : (ended live : List ℕ) → (made : ℕ) → List ℕ
tracked_of ended live made = filter (is_tracked ended live) (after 0 made)

-- Of the groups that have ended each is there once. None is live, and each was made. There is room for the live ones, too.
pub record AreEnded (ended : List ℕ) (space : ℕ) (live : List ℕ) (made : ℕ) : Type 0 where
  pub once : Once ended
  pub apart : (n : ℕ) → has n ended ≡ true → has n live ≡ false
  pub within : (n : ℕ) → has n ended ≡ true → (0 < n) × (n ≤ made)
  pub room : length ended + length live ≤ space
