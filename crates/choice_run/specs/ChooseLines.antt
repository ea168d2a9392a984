-- Which lines say choices, and the bad line of others. Nothing here is about a reader.
use Rattle.laws_choices.specs.Offer.{Chosen}
use Rattle.std.specs.Global.{Vec}
use Rattle.std.specs.List.{All}
use Rattle.std.specs.Prelude.{Err, IfSome, List, None, Ok, Option, Result, Some, [], codes, decimal, length, map, take, ℕ, ◌+◌, ◌++◌, ◌-◌, ◌∷◌, ◌≡◌, ◌≤◌}
use Rattle.text_scenario.specs.Grammar.{lines, spelled}
use Rattle.text_scenario.specs.Spelling.{Lines}
use Rattle.text_scenario.specs.declared.read.TextError.TheVariants as errors
use Rattle.text_scenario.specs.declared.read.TextError.{TextError}
use Rattle.choice_offers.specs.Choices.{chosen_of}
use Rattle.choice_offers.specs.declared.choice.Choice.{Choice}

abbrev pub wake_tokens : Option ℕ → List (List ℕ)
wake_tokens None = []
wake_tokens (Some n) = codes "wake" ∷ decimal n ∷ []

abbrev pub member_tokens : Option ℕ → List (List ℕ)
member_tokens None = []
member_tokens (Some h) = codes "member" ∷ decimal h ∷ []

abbrev pub release_tokens : List ℕ → List (List ℕ)
release_tokens [] = []
release_tokens (n ∷ ns) = codes "release" ∷ map decimal (n ∷ ns)

-- `choose`, and then any of ` wake N`, ` member H` and ` release N*`
abbrev pub choice_tokens : Chosen → List (List ℕ)
choice_tokens c = codes "choose" ∷ (wake_tokens c.waiter ++ (member_tokens c.member ++ release_tokens c.release))

-- Its numbers have 64 bits, and its handle has 32.
pub record IsNarrow (c : Chosen) : Type 0 where
  pub waiter : IfSome c.waiter (λ n. n ≤ 18446744073709551615)
  pub member : IfSome c.member (λ h. h ≤ 4294967295)
  pub release : All (λ n. n ≤ 18446744073709551615) c.release

abbrev pub EachIsNarrow : List Chosen → Type 0
EachIsNarrow [] = Unit {0}
EachIsNarrow (c ∷ cs) = IsNarrow c × EachIsNarrow cs

-- these lines say these choices
pub record AreChoices (ls : Lines) (cs : List Chosen) : Type 0 where
  pub few : length cs ≤ 100000
  pub narrow : EachIsNarrow cs
  pub lines : ls ≡ map choice_tokens cs

-- Line n, from 1, is the bad one: the lines before it say choices, and with it they say none.
pub record IsBadChoice (text : List ℕ) (n : ℕ) : Type 0 where
  pub counts : (1 ≤ n) × (n ≤ length (lines text))
  pub before : (cs : List Chosen) × AreChoices (take (n - 1) (spelled text)) cs
  pub at : (cs : List Chosen) → AreChoices (take n (spelled text)) cs → ⊥

-- A text's lines say choices, or the bad one is told, where the first one has this number; it may be out of memory.
abbrev pub ReadsChoices : List ℕ → ℕ → Result (Vec Choice) TextError → Type 0
ReadsChoices text first (Ok cs) = AreChoices (spelled text) (map chosen_of cs.items)
ReadsChoices text first (Err (errors.Bad n)) = (first ≤ n) × IsBadChoice text (n + 1 - first)
ReadsChoices text first (Err errors.NoMemory) = Unit {0}
