-- What a release finds: a list that has each number that passes a test, once, so that it may represent the machine's search through
-- all its records.
use Rattle.std.specs.Prelude.{◌≡◌, ◌==◌, ◌&&◌, ℕ, Bool, false, List, [], ◌∷◌, is_some}
use Rattle.std.specs.List.{list_any}
use Rattle.machine_data.specs.Core.{Core}
use Rattle.machine_data.specs.Moves.{held_why_of}
use Rattle.machine_data.specs.Read.{instance_of}

abbrev pub has : ℕ → List ℕ → Bool
has n xs = list_any (λ m. n == m) xs

-- no number is twice in the list
abbrev pub Once : List ℕ → Type 0
Once [] = Unit {0}
Once (x ∷ xs) = (has x xs ≡ false) × Once xs

-- The list has just the numbers that pass, each once.
pub record IsMembers (test : ℕ → Bool) (list : List ℕ) : Type 0 where
  pub once : Once list
  pub are : (n : ℕ) → has n list ≡ test n

-- the thread is held in the instance
abbrev pub is_held_in : ℕ → Core → ℕ → Bool
is_held_in i s n = (instance_of n s == i) && is_some (held_why_of n s)
