use Rattle.tests_hosts.proofs.midway.ends.Goals as goal
use Rattle.machine_data.specs.Core.{Unscripted}

pub ends_thread-requires : goal.ends_thread-requires
ends_thread-requires c = (c.requires.running.order.order Unscripted).in_place.placed
