use Rattle.core_records.proofs.Core.{arith, ◌-◌}
use Rattle.core_places.proofs.EntryLemmas.{none_past}
use Rattle.core_places.proofs.entry_states.one_less.Goals as goal

pub returns-else-rep-lt4294967295 : goal.returns-else-rep-lt4294967295
returns-else-rep-lt4294967295 c = none_past (λ n. n - 1) c.args.sets.now c.args.id.rep c.args.id.serial c.requires.few (omega (arith, c.if-rep-lt4294967295.false, c.rep.ensures))
