use Rattle.core_records.proofs.Core.{arith, seen, ◌+◌, ◌<◌, ◌^◌}
use Rattle.core_makes.proofs.call_makes.prepare.Goals as goal

pub overflow_add-number : goal.overflow_add-number
unfolding seen
overflow_add-number c = let few : c.args.parts.now.made.threads + 1 < 2 ^ 64 = c.requires.few in omega arith
