-- What a host's own code may wait for.
use Rattle.futures.specs.declared.task.Poll.{Poll}
use Rattle.futures.specs.declared.task.Poll.TheVariants.{Pending, Ready}
use Rattle.std.specs.Prelude.{Bool, false, true}

abbrev pub ready_if : Bool → Poll (Unit {0})
ready_if true = Ready tt
ready_if false = Pending
