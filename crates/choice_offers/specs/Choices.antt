-- Choices and offers as the laws of choices have them.
use Rattle.laws_choices.specs.Offer.{Chosen}
use Rattle.laws_choices.specs.Offer as laws
use Rattle.std.specs.List.{list_all}
use Rattle.std.specs.Prelude.{Bool, List, count_by, length, ℕ, ◌&&◌, ◌==◌}
use Rattle.choice_offers.specs.declared.choice.Choice.{Choice}
use Rattle.choice_offers.specs.declared.choice.Offer.{Offer}

abbrev pub chosen_of : Choice → Chosen
chosen_of c = record { waiter = c.waiter; member = c.member; release = c.release }

abbrev pub offer_of : Offer → laws.Offer
offer_of o = record { waiters = o.waiters; members = o.members; held = o.held }

-- as many, and each of the one list as often in the other
abbrev pub same_counts : List ℕ → List ℕ → Bool
same_counts xs ys = (length xs == length ys) && list_all (λ n. count_by (λ m. m == n) xs == count_by (λ m. m == n) ys) xs
