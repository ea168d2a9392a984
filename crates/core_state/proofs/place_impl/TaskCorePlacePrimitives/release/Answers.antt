use Rattle.core_records.proofs.Core.{StateView, subst, sym}
use Rattle.machine_rules.specs.Places.{Placed}
use Rattle.core_state.proofs.place_impl.TaskCorePlacePrimitives.release.Goals as goal

pub release-requires-clause-placed : goal.release-requires-clause-placed
release-requires-clause-placed c = subst (λ (s : StateView). Placed s.core) (sym c.self.view_is) c.requires
