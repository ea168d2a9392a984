-- A call of a closure, seen as one at what its references show.
use Rattle.std.specs.Borrow.{MutBor}
use Rattle.std.specs.Fn.{Once}
use Rattle.std.specs.Prelude.{◌≡◌}
use Rattle.task_store.specs.Called.{CalledAtAccess}
use Rattle.task_store.specs.declared.access.Access.{Access}
use Rattle.task_store.specs.declared.store.Store.{Store}

module _ {T P H G F R : Type 0} (g : Once F (MutBor (Access T P H G) × Unit {0}) (R × (MutBor (Access T P H G) × Unit {0}))) where
  pub called_access : {f : F} {s t : Store T H G} {r : R} {p q : MutBor (Access T P H G)}
      → g.post f (p, tt) (r, (q, tt)) → p.now.store.now ≡ s → (p.now.store.ghost_name ≡ q.now.store.ghost_name → t ≡ q.now.store.now) → CalledAtAccess g f s r t
  called_access {p} {q} called shows leaves = record { shown = p; shows = shows; left = q; called = called; leaves = leaves }
