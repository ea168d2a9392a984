-- Which texts are scenarios, and the bad line of each other text. Nothing here is about a reader.
use Rattle.std.specs.Prelude.{◌≡◌, ℕ, ◌+◌, ◌≤◌, ◌-◌, List, [], ◌∷◌, ◌++◌, length, map, take, ◌==◌, if◌then◌else◌}
use Rattle.std.specs.List.{onto_first, slice_split}
use Rattle.text_scenario.specs.declared.tree.ScenarioText.{ScenarioText}
use Rattle.text_scenario.specs.Spelling.{Lines, lines_of}
use Rattle.text_scenario.specs.Placement.{IsWellFormed}

-- the lines of a text: each ends at a line feed, which the last may lack
abbrev pub lines : List ℕ → List (List ℕ)
lines [] = []
lines (b ∷ bs) = if b == 10 then [] ∷ lines bs else onto_first b (lines bs)

-- a line's tokens, with one space between them
abbrev pub tokens : List ℕ → List (List ℕ)
tokens line = slice_split (λ b. b == 32) line

-- the tokens of each line of a text
abbrev pub spelled : List ℕ → Lines
spelled text = map tokens (lines text)

-- the text represents this tree
pub record IsTextOf (s : ScenarioText) (text : List ℕ) : Type 0 where
  pub well_formed : IsWellFormed s
  pub lines : spelled text ≡ lines_of s

-- these lines begin a scenario
abbrev pub PartBegins : Lines → Type 0
PartBegins front = (s : ScenarioText) × (rest : Lines) × IsWellFormed s × (lines_of s ≡ front ++ rest)

-- Line n is the bad one: the lines before it begin a scenario, and with it they begin none; or it is one past the last, and
-- the text is none.
pub record IsBadLine (text : List ℕ) (n : ℕ) : Type 0 where
  pub counts : (1 ≤ n) × (n ≤ length (lines text) + 1)
  pub before : PartBegins (take (n - 1) (spelled text))
  pub at : n ≤ length (lines text) → PartBegins (take n (spelled text)) → ⊥
  pub past : (s : ScenarioText) → IsTextOf s text → ⊥
