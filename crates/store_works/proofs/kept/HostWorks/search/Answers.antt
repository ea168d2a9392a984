-- The key that is found is the number.
use Rattle.std.proofs.Common.{ap, sym, ◌∙◌}
use Rattle.std.specs.Prelude.{Some, ℕ}
use Rattle.store_works.proofs.KeptLemmas.{key_is}
use Rattle.store_works.proofs.kept.HostWorks.search.Goals as goal

pub returns-in-Some-clause-some : goal.returns-in-Some-clause-some
returns-in-Some-clause-some g c =
    let work = c.in-Some.field-0-2.now in
    let es = c.args.self.now.works.entries in
    (work, c.in-Some.ensures.entry ∙ ap (λ (k : ℕ). Some (k, work)) (sym (key_is c.args.number c.in-Some.field-0-1.now es c.in-Some.ensures.key)))
