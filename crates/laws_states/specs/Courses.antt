-- Which steps make host works, and which change what a work is still to do. They are seen as chains of primitives, in which each
-- thread has an op: as steps of a run are, and what a host has the running thread do.
use Rattle.std.specs.Prelude.{is_some, true, ℕ, ◌+◌, ◌≡◌, ◌≤◌, ◌⊎◌}
use Rattle.machine_data.specs.Core.{State}
use Rattle.machine_data.specs.Maps.{get}
use Rattle.machine_data.specs.Read.{op_progress_of}
use Rattle.machine_data.specs.declared.label.Label.{Label}
use Rattle.machine_data.specs.declared.records.Turn.TheVariants as turn
use Rattle.machine_data.specs.declared.records.Work.{Work}
use Rattle.machine_data.specs.declared.op.Op.{Op}
use Rattle.machine_rules.specs.Chains.{WalkedAs}
use Rattle.machine_rules.specs.Laws.{LaterBy}
use Rattle.machine_rules.specs.OpParts.{queues_work}
use Rattle.machine_rules.specs.Stalled.{Setting}

-- the work is still to do the same
pub record SameCourse (v w : Work) : Type 0 where
  pub course : w.course ≡ v.course

-- At each turn but that of futures, a work that was made before is gone, or is still to do the same.
unfoldable pub CoursesStay : Type 0
CoursesStay = (ops : ℕ → Op) (x : Setting) (s : State) (l : Label) (t : State) → WalkedAs ops x s l t →
    ((n : ℕ) → s.turn ≡ turn.Futures n → ⊥) → (i : ℕ) → i ≤ s.core.made.works → LaterBy SameCourse (get s.core.works i) (get t.core.works i)

-- Who makes a work: main spawns it, or the op that the running thread has calls a host.
pub data MakesWork (ops : ℕ → Op) (s : State) : Type 0 where
  Spawns : s.turn ≡ turn.Main → MakesWork ops s
  CallsHost : (n : ℕ) → s.turn ≡ turn.Run n → queues_work (op_progress_of n s.core) (ops n) ≡ true → MakesWork ops s

-- Where each work has a number that was given, a work that is there after a step was made before it, or is made in it, with the next
-- number.
unfoldable pub WorksAreCalled : Type 0
WorksAreCalled = (ops : ℕ → Op) (x : Setting) (s : State) (l : Label) (t : State) → WalkedAs ops x s l t →
    ((i : ℕ) → is_some (get s.core.works i) ≡ true → i ≤ s.core.made.works) →
    (i : ℕ) → is_some (get t.core.works i) ≡ true → (i ≤ s.core.made.works) ⊎ ((i ≡ s.core.made.works + 1) × MakesWork ops s)
