-- What the tokens of a line are read as. ChooseLines has the tokens of each choice.
use Rattle.choice_offers.specs.Choices.{chosen_of}
use Rattle.choice_offers.specs.declared.choice.Choice.{Choice}
use Rattle.choice_run.specs.ChooseLines.{IsNarrow, choice_tokens, member_tokens, release_tokens, wake_tokens}
use Rattle.laws_choices.specs.Offer.{Chosen}
use Rattle.std.specs.List.{All}
use Rattle.std.specs.Prelude.{Err, IfSome, List, None, Ok, Option, Result, Some, [], decimal, length, map, ℕ, ◌++◌, ◌<◌, ◌∷◌, ◌≡◌, ◌≤◌}
use Rattle.text_lines.specs.declared.line.LineError.TheVariants as errors
use Rattle.text_lines.specs.declared.line.LineError.{LineError}
use Rattle.text_scenario.specs.Grammar.{tokens}

-- the words begin with this one
abbrev pub BeginsWith : List ℕ → List (List ℕ) → Type 0
BeginsWith name [] = ⊥
BeginsWith name (w ∷ ws) = w ≡ name

-- the words say this number by the name, or don't begin with the name; and these are behind
abbrev pub IsNamed : List ℕ → ℕ → List (List ℕ) → Option ℕ → List (List ℕ) → Type 0
IsNamed name most ws None rest = (rest ≡ ws) × (BeginsWith name ws → ⊥)
IsNamed name most ws (Some n) rest = (ws ≡ name ∷ decimal n ∷ rest) × (n ≤ most)

-- the words begin with the name, and no number up to this one follows
abbrev pub IsUnnamed : List ℕ → ℕ → List (List ℕ) → Type 0
IsUnnamed name most ws = BeginsWith name ws × ((n : ℕ) (rest : List (List ℕ)) → ws ≡ name ∷ decimal n ∷ rest → n ≤ most → ⊥)

-- what the words say by the name, and the words behind; or they are unnamed
abbrev pub Names : List ℕ → ℕ → List (List ℕ) → Option (Option ℕ × List (List ℕ)) → Type 0
Names name most ws None = IsUnnamed name most ws
Names name most ws (Some r) = IsNamed name most ws r.0 r.1

-- numbers of 64 bits
abbrev pub AreNarrow : List ℕ → Type 0
AreNarrow ns = All (λ n. n ≤ 18446744073709551615) ns

-- the words are these numbers, or no numbers; it may be out of memory
abbrev pub ReadsNumbers : List (List ℕ) → Result (List ℕ) LineError → Type 0
ReadsNumbers ws (Ok ns) = (ws ≡ map decimal ns) × AreNarrow ns
ReadsNumbers ws (Err errors.Bad) = (ns : List ℕ) → AreNarrow ns → ws ≡ map decimal ns → ⊥
ReadsNumbers ws (Err errors.NoMemory) = Unit {0}

-- the words say this release, or none
abbrev pub ReadsRelease : List (List ℕ) → Result (List ℕ) LineError → Type 0
ReadsRelease ws (Ok ns) = (ws ≡ release_tokens ns) × AreNarrow ns
ReadsRelease ws (Err errors.Bad) = (ns : List ℕ) → AreNarrow ns → ws ≡ release_tokens ns → ⊥
ReadsRelease ws (Err errors.NoMemory) = Unit {0}

-- the tokens after `choose`
abbrev pub tokens_after : Chosen → List (List ℕ)
tokens_after c = wake_tokens c.waiter ++ (member_tokens c.member ++ release_tokens c.release)

abbrev pub ReadsAfter : List (List ℕ) → Result Choice LineError → Type 0
ReadsAfter ws (Ok c) = (ws ≡ tokens_after (chosen_of c)) × IsNarrow (chosen_of c)
ReadsAfter ws (Err errors.Bad) = (c : Chosen) → IsNarrow c → ws ≡ tokens_after c → ⊥
ReadsAfter ws (Err errors.NoMemory) = Unit {0}

-- the words of a line are those of no choice
abbrev pub IsNone : List (List ℕ) → Type 0
IsNone ws = (c : Chosen) → IsNarrow c → ws ≡ choice_tokens c → ⊥

abbrev pub ReadsChoice : List (List ℕ) → Result Choice LineError → Type 0
ReadsChoice ws (Ok c) = (ws ≡ choice_tokens (chosen_of c)) × IsNarrow (chosen_of c)
ReadsChoice ws (Err errors.Bad) = IsNone ws
ReadsChoice ws (Err errors.NoMemory) = Unit {0}

-- The choice of a line is one more, and there was room for it.
pub record Takes (line : List ℕ) (before after : List Chosen) : Type 0 where
  pub choice : Chosen
  pub few : length before < 100000
  pub more : after ≡ before ++ choice ∷ []
  pub says : tokens line ≡ choice_tokens choice
  pub narrow : IsNarrow choice
