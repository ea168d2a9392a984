use Rattle.tests_hosts.proofs.waits.add_instance.Goals as goal
use Rattle.std.proofs.Common.{arith}

pub add_instance-requires : goal.add_instance-requires
add_instance-requires g c = let few = c.requires in omega (arith, few)
