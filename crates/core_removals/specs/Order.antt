-- The order of a release: by the places of threads in the resource table.
use Rattle.core_places.specs.Picks.{thread_order}
use Rattle.std.specs.Ordering.{is_lt}
use Rattle.std.specs.Prelude.{◌≡◌, ℕ, false, IsPermutation, List, [], ◌∷◌}
use Rattle.machine_data.specs.Moves.{released}
use Rattle.machine_data.specs.Read.{admitted_held}
use Rattle.core_primitives.specs.StateView.{on_core}
use Rattle.core_records.specs.Seen.{seen}
use Rattle.table_lists.specs.Rows.{Each}
use Rattle.core_records.specs.Sound.{EachEntry}
use Rattle.core_records.specs.declared.parts.CoreParts.{CoreParts}

-- the thread m doesn't come before the thread n
abbrev pub NotBefore : CoreParts → ℕ → ℕ → Type 0
NotBefore a n m =
    EachEntry (λ g. g.number ≡ n → EachEntry (λ h. h.number ≡ m → is_lt (thread_order a.version h g) ≡ false) a.threads) a.threads

-- no thread of the list comes before one that is earlier in it
abbrev pub AreInOrder : CoreParts → List ℕ → Type 0
AreInOrder a [] = Unit {0}
AreInOrder a (n ∷ ns) = Each (NotBefore a n) ns × AreInOrder a ns

-- The held threads of the instance that are admitted are at high, in that order.
abbrev pub ReleasesInOrder : (instance : ℕ) → (old new : CoreParts) → Type 0
ReleasesInOrder i a b = (order : List ℕ) ×
    (AreInOrder a order × (IsPermutation (admitted_held i (seen a).core) order × (seen b ≡ on_core (released order) (seen a))))
