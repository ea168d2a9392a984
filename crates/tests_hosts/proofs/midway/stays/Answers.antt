use Rattle.tests_hosts.proofs.midway.stays.Goals as goal
use Rattle.machine_data.specs.Core.{Unscripted}

pub leaves_none-requires : goal.leaves_none-requires
leaves_none-requires c = (c.requires.running.order.order Unscripted).in_place.placed
