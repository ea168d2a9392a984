-- An input: a scenario, and the lines of requests after it.
use Rattle.serve_requests.specs.RequestLines.{AreRequests, IsBadRequest}
use Rattle.serve_requests.specs.declared.input.Input.{Input}
use Rattle.text_scenario.specs.Grammar.{IsBadLine, IsTextOf, spelled}
use Rattle.text_scenario.specs.declared.read.TextError.{TextError}
use Rattle.text_scenario.specs.declared.read.TextError.TheVariants as errors
use Rattle.text_scenario.specs.declared.tree.ScenarioText.{ScenarioText}
use Rattle.std.proofs.Common.{get_or}
use Rattle.std.specs.Prelude.{Err, List, Ok, Result, [], codes, length, ℕ, ◌++◌, ◌+◌, ◌-◌, ◌<◌, ◌∷◌, ◌≡◌, ◌≢◌, ◌⊎◌}

-- a line without a line feed
abbrev pub IsLine : List ℕ → Type 0
IsLine bytes = (k : ℕ) → k < length bytes → get_or bytes k 0 ≢ 10

-- each is a line, and none is `end`
abbrev pub NoneEnds : List (List ℕ) → Type 0
NoneEnds [] = Unit {0}
NoneEnds (l ∷ ls) = (IsLine l × (l ≢ codes "end")) × NoneEnds ls

-- these lines, each with its line feed
abbrev pub fed : List (List ℕ) → List ℕ
fed [] = []
fed (l ∷ ls) = l ++ 10 ∷ fed ls

-- The scenario is the input up to and with its first line `end`, so many lines; without such a line it is the whole input.
pub data IsCut (input scenario rest : List ℕ) (count : ℕ) : Type 0 where
  Ends : (before : List (List ℕ)) → NoneEnds before → scenario ≡ fed (before ++ codes "end" ∷ []) → scenario ++ rest ≡ input →
      count ≡ length before + 1 → IsCut input scenario rest count
  Whole : (before : List (List ℕ)) → (last : List ℕ) → NoneEnds before → IsLine last → scenario ≡ fed before ++ last → scenario ≡ input →
      rest ≡ [] → count ≡ length before → IsCut input scenario rest count

-- Line n of the input is the bad one: it is that of the scenario, or that of the requests, whose lines count on.
abbrev pub IsBadIn : List ℕ → List ℕ → ℕ → ℕ → Type 0
IsBadIn scenario rest count n =
    IsBadLine scenario n ⊎ ((tree : ScenarioText) × IsTextOf tree scenario × (count < n) × IsBadRequest tree.instances rest (n - count))

-- the scenario's tree and the requests, or the bad line; it may be out of memory
abbrev pub ReadsParts : List ℕ → List ℕ → ℕ → Result Input TextError → Type 0
ReadsParts scenario rest count (Ok read) =
    IsTextOf read.scenario scenario × AreRequests read.scenario.instances (spelled rest) read.requests.items
ReadsParts scenario rest count (Err (errors.Bad n)) = IsBadIn scenario rest count n
ReadsParts scenario rest count (Err errors.NoMemory) = Unit {0}
