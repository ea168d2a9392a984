-- A walk from the end of a list to the place of a new entry. No public clause cites this module.
use Rattle.std.specs.Prelude.{◌≡◌, ℕ, ◌+◌, ◌==◌, if◌then◌else◌, Bool, false, List, [], ◌∷◌, ◌++◌, Option, Some, None, option_map}
use Rattle.std.specs.List.{list_any}
use Rattle.table_links.specs.Links.{head_of, last_of}

-- what is behind was found not to be less, and the last entry before it is the next to be looked at
pub record IsWalk {P : Type 0} (less : P → Bool) (list : List (ℕ × P)) (last : Option (ℕ × P)) (place : Option ℕ) : Type 0 where
  pub front : List (ℕ × P)
  pub back : List (ℕ × P)
  pub parts : list ≡ front ++ back
  pub last_is : last ≡ last_of front
  pub place_is : place ≡ option_map (λ e. e.0) (head_of back)
  pub above : list_any (λ e. less e.1) back ≡ false

module _ {P : Type 0} where
  abbrev pub position_of : ℕ → List (ℕ × P) → ℕ
  position_of n [] = 0
  position_of n (e ∷ es) = if e.0 == n then 1 else position_of n es + 1

  -- how many entries there are up to this one
  abbrev pub up_to : Option (ℕ × P) → List (ℕ × P) → ℕ
  up_to None list = 0
  up_to (Some e) list = position_of e.0 list
