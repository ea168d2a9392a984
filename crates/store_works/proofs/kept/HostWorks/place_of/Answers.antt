-- The key that is there is the number.
use Rattle.std.proofs.Common.{ap, sym, ◌∙◌}
use Rattle.std.specs.Prelude.{Some, ℕ}
use Rattle.store_works.proofs.kept.HostWorks.place_of.Goals as goal

pub returns-in-Some-clause-some : goal.returns-in-Some-clause-some
returns-in-Some-clause-some g c =
    let work = c.in-Some.field-0-1.now in
    (work, sym c.in-Some.ensures.entry ∙ ap (λ (k : ℕ). Some (k, work)) c.if-found-number.true)
