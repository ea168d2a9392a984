-- What a step may choose, and what it chooses.
use Rattle.std.specs.List.{list_any}
use Rattle.std.specs.Prelude.{Bool, IsPermutation, List, None, Option, Some, [], false, true, ℕ, ◌==◌, ◌||◌, ◌∷◌, ◌≡◌}
use Rattle.machine_data.specs.Labels.{Choice}
use Rattle.machine_data.specs.Read.{is_nil}

-- What a step chooses: the waiter that it wakes, the handle of the member whose event it takes, and the order in which it releases threads.
pub record Chosen : Type 0 where
  pub waiter : Option ℕ
  pub member : Option ℕ
  pub release : List ℕ

-- Among which it chooses: threads that wait on a set, handles of ready members of a set, and the held threads that it releases.
pub record Offer : Type 0 where
  pub waiters : List ℕ
  pub members : List ℕ
  pub held : List ℕ

-- what a label shows of it
abbrev pub shown : Chosen → Choice
shown c = record { woken = c.waiter; member = c.member }

-- one of them, and none just where there is none
abbrev pub is_one_of : List ℕ → Option ℕ → Bool
is_one_of ns None = is_nil ns
is_one_of ns (Some n) = list_any (λ m. m == n) ns

-- The choice fits the offer.
pub record FitsOffer (c : Chosen) (o : Offer) : Type 0 where
  pub waiter : is_one_of o.waiters c.waiter ≡ true
  pub member : is_one_of o.members c.member ≡ true
  pub release : IsPermutation o.held c.release

-- ---- Open offers

abbrev pub has_two : List ℕ → Bool
has_two (a ∷ b ∷ ns) = true
has_two ns = false

-- two of a kind are offered
abbrev pub is_open : Offer → Bool
is_open o = has_two o.waiters || (has_two o.members || has_two o.held)

abbrev pub first_of : List ℕ → Option ℕ
first_of [] = None
first_of (n ∷ ns) = Some n

-- the first of each kind
abbrev pub first_choice : Offer → Chosen
first_choice o = record { waiter = first_of o.waiters; member = first_of o.members; release = o.held }

-- the first of each kind fits every offer
abbrev pub FirstFits : Type 0
FirstFits = (o : Offer) → FitsOffer (first_choice o) o

-- an offer that isn't open is fitted by that alone
abbrev pub ClosedHasOne : Type 0
ClosedHasOne = (o : Offer) → is_open o ≡ false → (c : Chosen) → FitsOffer c o → c ≡ first_choice o
