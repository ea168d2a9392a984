-- What the printed line of a label tells of its choice.
use Rattle.laws_choices.specs.Steps.{NothingOpen}
use Rattle.std.specs.Prelude.{IfSome, List, Some, decimal, ℕ, ◌++◌, ◌<◌, ◌^◌, ◌∷◌, ◌≡◌}
use Rattle.laws_states.specs.Order.{WaitsAtHome}
use Rattle.machine_data.specs.Core.{State}
use Rattle.machine_data.specs.Labels.{Choice, choice_of, member_of, woken_of}
use Rattle.machine_data.specs.declared.label.Label.{Label}
use Rattle.machine_rules.specs.Stalled.{Setting}
use Rattle.machine_rules.specs.Step.{Step}
use Rattle.machine_rules.specs.Texts.{label_text}

-- the text's last token is this number
abbrev pub EndsIn : List ℕ → ℕ → Type 0
EndsIn text n = (front : List ℕ) × (text ≡ front ++ 32 ∷ decimal n)

-- its last two tokens are these numbers
abbrev pub EndsInTwo : List ℕ → ℕ → ℕ → Type 0
EndsInTwo text m n = (front : List ℕ) × (text ≡ (front ++ 32 ∷ decimal m) ++ 32 ∷ decimal n)

-- the waiter that a label shows is the last token of its line
unfoldable pub LineShowsWaiter : Type 0
LineShowsWaiter = (l : Label) (w : ℕ) → woken_of l ≡ Some w → EndsIn (label_text l) w

-- the member that a label shows is the last token but one, and a number of 64 bits follows
unfoldable pub LineShowsMember : Type 0
LineShowsMember = (l : Label) (h : ℕ) → member_of l ≡ Some h → (v : ℕ) × ((v < 2 ^ 64) × EndsInTwo (label_text l) h v)

-- numbers of 64 bits that are a text's last token are one
unfoldable pub LastReadBack : Type 0
LastReadBack = (text : List ℕ) (m n : ℕ) → m < 2 ^ 64 → n < 2 ^ 64 → EndsIn text m → EndsIn text n → m ≡ n

-- so are those that are its last token but one
unfoldable pub NextReadBack : Type 0
NextReadBack = (text : List ℕ) (m n v w : ℕ) → m < 2 ^ 64 → n < 2 ^ 64 → v < 2 ^ 64 → w < 2 ^ 64 →
    EndsInTwo text m v → EndsInTwo text n w → m ≡ n

-- what the choice names are numbers of 64 bits
abbrev pub IsNarrow : Choice → Type 0
IsNarrow ch = IfSome ch.woken (λ w. w < 2 ^ 64) × IfSome ch.member (λ h. h < 2 ^ 64)

-- two labels that are lawful in one state in which nothing is open, and that print one line, show one choice
unfoldable pub LineTellsChoice : Type 0
LineTellsChoice = (x : Setting) (s : State) → NothingOpen x s → WaitsAtHome s.core → (l k : Label) (t u : State) → Step x s l t → Step x s k u →
    IsNarrow (choice_of l) → IsNarrow (choice_of k) → label_text l ≡ label_text k → choice_of l ≡ choice_of k
