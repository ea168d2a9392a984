-- The cells of host works, by their records.
use Rattle.std.specs.Prelude.{Bool, None, Option, Some, false, is_some, true, ℕ, ◌≡◌, ◌≤◌}
use Rattle.laws_states.specs.Order.{HostsAwaited, InOrder, WorksKnown, WorksTold}
use Rattle.machine_data.specs.Core.{Core, MainPlace, Scripted, State}
use Rattle.machine_data.specs.Maps.{get}
use Rattle.machine_data.specs.Read.{place_of}
use Rattle.machine_data.specs.declared.records.Place.TheVariants as place
use Rattle.machine_data.specs.declared.label.Label.{Label}
use Rattle.machine_data.specs.declared.op.Op.{Op}
use Rattle.machine_data.specs.declared.records.Turn.{Turn}
use Rattle.machine_data.specs.declared.records.Turn.TheVariants as turn
use Rattle.machine_data.specs.declared.records.Work.{Work}
use Rattle.machine_data.specs.declared.records.WorkCaller.{WorkCaller}
use Rattle.machine_data.specs.declared.records.WorkCaller.TheVariants as callers
use Rattle.machine_data.specs.declared.statuses.Phase.{Phase}
use Rattle.machine_data.specs.declared.statuses.Phase.TheVariants as phases
use Rattle.machine_rules.specs.Chains.{WalkedAs}
use Rattle.machine_rules.specs.Laws.{LaterBy}
use Rattle.machine_rules.specs.MainOps.{spawned_at}
use Rattle.machine_rules.specs.Stalled.{Setting}
use Rattle.machine_rules.specs.Step.{Step}
use Rattle.machine_rules.specs.Works.{has_end}

-- The phase of the cell of a work with this phase: a spawned work's is its own. A guest asks its call to end by the core alone, and the
-- cell is told when the poll is due.
abbrev pub phase_told : WorkCaller → Phase → Phase
phase_told callers.Spawn p = p
phase_told f p = phases.Running

abbrev pub cell_phase : Work → Phase
cell_phase w = phase_told w.caller w.phase

pub record SameCell (v w : Work) : Type 0 where
  pub cell : cell_phase w ≡ cell_phase v
  pub caller : w.caller ≡ v.caller

-- main is a script that has spawned nothing
pub record SpawnedNothing (s : State) : Type 0 where
  pub place : MainPlace
  pub is : s.main ≡ Scripted place
  pub spawned : (k : ℕ) → spawned_at place k ≡ 0

-- a thread runs, or an entry is taken
pub data IsInside : Turn → Type 0 where
  Runs : (n : ℕ) → IsInside (turn.Run n)
  Takes : (ended : Bool) → IsInside (turn.Take ended)

-- At each turn but that of futures the cell of a work that was made before keeps its phase, if the work is still there. It is said of a
-- main that has spawned nothing, so that it aborts no work.
unfoldable pub CellsStay : Type 0
CellsStay = (x : Setting) (s : State) (l : Label) (t : State) → Step x s l t → ((n : ℕ) → s.turn ≡ turn.Futures n → ⊥) → SpawnedNothing s →
    get s.core.works 0 ≡ None → WorksKnown s.core →
    (i : ℕ) → i ≤ s.core.made.works → LaterBy SameCell (get s.core.works i) (get t.core.works i)

-- At a turn of a thread, or of a take, that is so whatever main is.
unfoldable pub CellsStayInside : Type 0
CellsStayInside = (x : Setting) (s : State) (l : Label) (t : State) → Step x s l t → IsInside s.turn →
    get s.core.works 0 ≡ None → WorksKnown s.core →
    (i : ℕ) → i ≤ s.core.made.works → LaterBy SameCell (get s.core.works i) (get t.core.works i)

-- ---- What is so of a work that a turn of a thread, or of a take, leaves

abbrev pub is_spawned : WorkCaller → Bool
is_spawned callers.Spawn = true
is_spawned f = false

-- the work is as it was: by the same caller, still to do the same, its cell in the same phase
pub record SameWork (v w : Work) : Type 0 where
  pub cell : cell_phase w ≡ cell_phase v
  pub caller : w.caller ≡ v.caller
  pub course : w.course ≡ v.course

-- what was there is as it was, or had ended and is gone; what is new is a guest's call
abbrev pub StaysWork : Option Work → Option Work → Type 0
StaysWork None None = Unit {0}
StaysWork None (Some w) = is_spawned w.caller ≡ false
StaysWork (Some v) None = has_end v.course ≡ true
StaysWork (Some v) (Some w) = SameWork v w

-- What the works of a state rest on where the thread n runs, whatever its script: each has a number that was given, and an end just where
-- its stage says so; who is inside a sync call of a host waits for its work.
pub record RunsWorks (n : ℕ) (s : Core) : Type 0 where
  pub runs : place_of n s ≡ Some place.Running
  pub made : (i : ℕ) → is_some (get s.works i) ≡ true → i ≤ s.made.works
  pub known : WorksKnown s
  pub told : WorksTold s
  pub awaited : HostsAwaited s

-- A step seen as a chain of primitives, in which each thread has an op, keeps cells so where main has spawned nothing.
unfoldable pub CellsStayWalked : Type 0
CellsStayWalked = (ops : ℕ → Op) (x : Setting) (s : State) (l : Label) (t : State) → WalkedAs ops x s l t →
    ((n : ℕ) → s.turn ≡ turn.Futures n → ⊥) → SpawnedNothing s → get s.core.works 0 ≡ None → WorksKnown s.core →
    (i : ℕ) → i ≤ s.core.made.works → LaterBy SameCell (get s.core.works i) (get t.core.works i)

-- Where a thread runs, each work is as it was, whatever main is.
unfoldable pub WorksStayRunning : Type 0
WorksStayRunning = (x : Setting) (s : State) (l : Label) (t : State) (n : ℕ) → RunsWorks n s.core → Step x s l t → s.turn ≡ turn.Run n →
    get s.core.works 0 ≡ None → (i : ℕ) → StaysWork (get s.core.works i) (get t.core.works i)

-- So it is of a chain of primitives, in which each thread has an op, where main has spawned nothing.
unfoldable pub WorksStayWalked : Type 0
WorksStayWalked = (ops : ℕ → Op) (x : Setting) (s : State) (l : Label) (t : State) (n : ℕ) → RunsWorks n s.core → WalkedAs ops x s l t →
    s.turn ≡ turn.Run n → SpawnedNothing s → get s.core.works 0 ≡ None → (i : ℕ) → StaysWork (get s.core.works i) (get t.core.works i)

-- Where an entry is taken, it is so in a state in order.
unfoldable pub WorksStayTaken : Type 0
WorksStayTaken = (x : Setting) (s : State) (l : Label) (t : State) (ended : Bool) → InOrder x.component s → Step x s l t →
    s.turn ≡ turn.Take ended → get s.core.works 0 ≡ None → (i : ℕ) → StaysWork (get s.core.works i) (get t.core.works i)
