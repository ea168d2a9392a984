-- In a new core no handle names anything.
use Rattle.choice_offers.specs.Listings.{HandlesKnown}
use Rattle.core_records.specs.Seen.{nothing}
use Rattle.machine_data.specs.Core.{fresh}
use Rattle.machine_data.specs.Maps.{get-empty}
use Rattle.machine_data.specs.Read.{subtask_at}
use Rattle.std.proofs.Common.{arith, sym, ◌∙◌}
use Rattle.std.specs.Prelude.{None, ℕ, ◌≡◌}

none_at : (i h : ℕ) → subtask_at i h nothing.core ≡ None
unfolding fresh
none_at i h = grind (arith, get-empty)

pub none_named : HandlesKnown nothing.core
none_named = λ i h sub names. absurd (let none = sym (none_at i h) ∙ names in cc)
