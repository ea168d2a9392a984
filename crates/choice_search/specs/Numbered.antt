-- The choices that fit an offer, each by its numbers.
use Rattle.laws_choices.specs.Offer.{Chosen, FitsOffer, Offer}
use Rattle.std.specs.Prelude.{List, [], length, min, slice_get, slice_index, suc, zero, remove, ℕ, ◌%◌, ◌*◌, ◌/◌, ◌<◌, ◌∷◌, ◌≡◌}

-- as a number of 64 bits: the greatest one, if it is greater
abbrev pub most : ℕ → ℕ
most n = min n 18446744073709551615

-- one of so many, or none of none
abbrev pub ways_of_one : ℕ → ℕ
ways_of_one zero = 1
ways_of_one (suc n) = suc n

-- the orders of so many
abbrev pub orders : ℕ → ℕ
orders zero = 1
orders (suc n) = suc n * orders n

-- how many choices fit
abbrev pub choice_count : Offer → ℕ
choice_count o = ways_of_one (length o.waiters) * ways_of_one (length o.members) * orders (length o.held)

-- the order with this number of as many threads as the first number says: one thread after another, by its place among those that are left
unfoldable pub ordered : ℕ → List ℕ → ℕ → List ℕ
ordered zero ns k = []
ordered (suc n) ns k = slice_index ns (k % suc n) ∷ ordered n (remove ns (k % suc n)) (k / suc n)

abbrev pub order_at : List ℕ → ℕ → List ℕ
order_at ns k = ordered (length ns) ns k

-- the choice with this number
abbrev pub choice_at : Offer → ℕ → Chosen
choice_at o k = record {
  waiter = slice_get o.waiters (k % ways_of_one (length o.waiters));
  member = slice_get o.members (k / ways_of_one (length o.waiters) % ways_of_one (length o.members));
  release = order_at o.held (k / ways_of_one (length o.waiters) / ways_of_one (length o.members));
}

-- each choice that fits has a number
pub record HasNumber (o : Offer) (c : Chosen) : Type 0 where
  pub number : ℕ
  pub below : number < choice_count o
  pub is : choice_at o number ≡ c

unfoldable pub EachIsNumbered : Type 0
EachIsNumbered = (o : Offer) (c : Chosen) → FitsOffer c o → HasNumber o c
