-- A nursery over the steps of others.
use Rattle.task_nursery.specs.Children.{WasSpawned}
use Rattle.task_nursery.specs.Scope.{IsOf, Scope}
use Rattle.task_nursery.specs.declared.children.Kept.{Kept}
use Rattle.task_nursery.specs.declared.children.Kept.TheVariants as kept
use Rattle.task_store.specs.Spawned.{spawned_later}
use Rattle.ops_turns.specs.Later.{WorksLast}
use Rattle.core_primitives.specs.StateView.{StateView}

pub was_later : (k : Kept) (s t : StateView) → WorksLast s t → WasSpawned k s → WasSpawned k t
was_later (kept.Work work) s t last was = spawned_later work s t last was
was_later (kept.Call f call) s t last was = tt
was_later (kept.Returned v) s t last was = tt
was_later kept.Ended s t last was = tt

-- its works were spawned in later states, too
pub scope_later : (n : Scope) (s t : StateView) → WorksLast s t → IsOf n s → IsOf n t
scope_later n s t last are i k at = was_later k s t last (are i k at)
