use Rattle.std.proofs.Common.{subst, sym, ℕ, ◌<◌, ◌∙◌}
use Rattle.core_records.proofs.CountLemmas.{none_given, none_less, some_given, some_less}
use Rattle.std.specs.BTreeMap.{is_at}
use Rattle.std.specs.Ordering.{nat_cmp}
use Rattle.core_records.proofs.rooms.ResultRooms.has_given.Goals as goal

pub returns-clause-none : goal.returns-clause-none
returns-clause-none c less call =
    rw (← c.self.view_is)
    (none_given (is_at (nat_cmp call)) c.self.inside.rooms.entries (sym c.self.invariant ∙ none_less c.self.inside.given less))

pub returns-clause-some : goal.returns-clause-some
returns-clause-some c more =
    rw (← c.self.view_is)
    (some_given c.self.inside.rooms.entries c.len-few.ensures.ordered (subst (λ (n : ℕ). 0 < n) c.self.invariant (some_less c.self.inside.given more)))
