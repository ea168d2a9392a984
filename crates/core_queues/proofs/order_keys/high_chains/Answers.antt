use Rattle.core_records.proofs.Core.{High, IsSome, subst}
use Rattle.core_queues.proofs.BareLemmas.{at_index, high_made, instance_queue_bare}
use Rattle.core_queues.proofs.order_keys.high_chains.Goals as goal

pub unreachable-requires : goal.unreachable-requires
unreachable-requires c = let none = subst IsSome c.in-None.is (high_made c.args.parts.now c.requires.sound c.args.instance c.requires.within) in absurd (cc)

pub returns-clause-instance_queue : goal.returns-clause-instance_queue
returns-clause-instance_queue c = instance_queue_bare c.args.parts.now (c.args.instance, High) c.index.result.now (at_index c.args.parts.now.instances.items c.args.instance c.index.result.now c.requires.within c.index.ensures)
