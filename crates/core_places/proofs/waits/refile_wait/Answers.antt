use Rattle.core_places.proofs.waits.refile_wait.Goals as goal
use Rattle.core_places.specs.Waits.{MayRefile, RefilesWait}
use Rattle.core_records.proofs.Core.{refl, subst, sym}

pub refile-requires : goal.refile-requires
refile-requires c = subst (MayRefile c.args.waits.now) c.in-Some.is c.requires

pub returns-in-Some : goal.returns-in-Some
returns-in-Some c = subst (RefilesWait c.args.waits.now c.refile.new.waits) (sym c.in-Some.is) c.refile.ensures

pub returns-in_default : goal.returns-in_default
returns-in_default c = subst (RefilesWait c.args.waits.now c.args.waits.now) (sym c.in_default.is) refl
