use Rattle.core_records.proofs.Core.{subst}
use Rattle.core_removals.specs.Raised.{IsHere}
use Rattle.core_removals.proofs.spawned_works.raise_group.Goals as goal

pub one_more-requires-clause-few : goal.one_more-requires-clause-few
one_more-requires-clause-few c = c.requires.few c.in-Some.found (c.in-Some.id.rep, (c.in-Some.id.serial, subst (IsHere c.args.groups.now) c.in-Some.is c.requires.here))
