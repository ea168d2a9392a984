use Rattle.core_places.proofs.EntryLemmas.{recounted_length}
use Rattle.core_places.proofs.entry_states.recount.Goals as goal
use Rattle.core_records.proofs.Core.{ap, length, subst, sym, Table, ℕ, ◌-◌, ◌∙◌, ◌≤◌}
use Rattle.core_records.specs.declared.{set_records.WaitSet.WaitSet, single.Single.Single}

pub one_more-requires-clause-few : goal.one_more-requires-clause-few
one_more-requires-clause-few c = subst (λ (n : ℕ). n ≤ 4294967295) (sym (ap (λ (t : Table (Single WaitSet)). length t.places) c.one_less.ensures ∙ recounted_length (λ n. n - 1) c.args.from.rep c.args.from.serial c.args.sets.now)) c.requires.few
