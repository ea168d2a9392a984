-- The calls that a run itself makes on the cells of its spawns.
use Rattle.beside_main.specs.declared.asked.Cells.{Cells}
use Rattle.beside_main.specs.declared.spawns.Spawns.{Spawns}
use Rattle.beside_works.specs.Views.{is_finished, own_list}
use Rattle.beside_works.specs.declared.cells.SharedSpawn.{SharedSpawn}
use Rattle.laws_beside.specs.Courses.{Own}
use Rattle.laws_beside.specs.Own.{if_same, is_before}
use Rattle.laws_beside.specs.Wide.{Round}
use Rattle.machine_data.specs.Core.{MainPlace}
use Rattle.machine_data.specs.declared.label.Label.{Label}
use Rattle.machine_data.specs.declared.label.Label.TheVariants as label
use Rattle.machine_data.specs.declared.label.LoopLabel.{LoopLabel}
use Rattle.machine_data.specs.declared.label.LoopLabel.TheVariants as loop_label
use Rattle.machine_rules.specs.MainOps.{spawned_at}
use Rattle.std.specs.Prelude.{Bool, List, None, Option, Some, [], false, length, map, slice_get, true, ℕ, ◌++◌, ◌+◌, ◌<◌, ◌∷◌, ◌≡◌, ◌≤◌, ◌⊎◌}
use Rattle.task_abort.specs.declared.log.CallMade.{CallMade}
use Rattle.task_abort.specs.declared.log.PhaseCall.{PhaseCall}
use Rattle.task_abort.specs.declared.log.PhaseCall.TheVariants.{Finish, PollFuture}
use Rattle.task_run.specs.Script.{place_of}
use Rattle.task_run.specs.declared.script.ScriptMain.{ScriptMain}

-- ---- Calls

-- what the run has called on a cell, in order
abbrev pub calls_in : SharedSpawn → List PhaseCall
calls_in s = map (λ (m : CallMade). m.call) (own_list s)

-- on the cells of the spawns from the k-th on these calls more were made
abbrev pub Adds : (ℕ → List PhaseCall) → ℕ → (olds news : List SharedSpawn) → Type 0
Adds f k [] [] = Unit {0}
Adds f k (a ∷ olds) (b ∷ news) = (calls_in b ≡ calls_in a ++ f k) × Adds f (k + 1) olds news
Adds f k [] (b ∷ news) = ⊥
Adds f k (a ∷ olds) [] = ⊥

-- these are all that were made on them
abbrev pub AreCalled : (ℕ → List PhaseCall) → ℕ → List SharedSpawn → Type 0
AreCalled f k [] = Unit {0}
AreCalled f k (s ∷ cells) = (calls_in s ≡ f k) × AreCalled f (k + 1) cells

-- these calls on the spawn whose cell is at this place, and on no other
abbrev pub on_place : ℕ → List PhaseCall → ℕ → List PhaseCall
on_place p calls k = if_same (p + 1) k calls

-- the work at this place, if there is one, isn't known to be over
abbrev pub IsOpenAt : ℕ → List SharedSpawn → Type 0
IsOpenAt p cells = (s : SharedSpawn) → slice_get cells p ≡ Some s → is_finished s ≡ false

-- ---- The spawns that main has made

-- these rise from above n, and none is above the last
abbrev pub IsRising : ℕ → List ℕ → ℕ → Type 0
IsRising n [] last = n ≤ last
IsRising n (m ∷ ms) last = (n < m) × IsRising m ms last

-- one more at most
abbrev pub GrowsBy : List ℕ → List ℕ → Type 0
GrowsBy ms ns = (ns ≡ ms) ⊎ ((n : ℕ) × (ns ≡ ms ++ n ∷ []))

-- the numbers of the works that main has spawned are noted
pub record AreNoted (m : ScriptMain) (s : Spawns) : Type 0 where
  pub numbers : s.numbers.items ≡ (place_of m).spawns
  pub count : s.count ≡ length s.numbers.items

-- where the work with this number is among them
abbrev pub IsPlaceOf : ℕ → Option ℕ → List ℕ → Type 0
IsPlaceOf i None ns = (p : ℕ) → slice_get ns p ≡ Some i → ⊥
IsPlaceOf i (Some p) ns = (slice_get ns p ≡ Some i) × ((q : ℕ) → slice_get ns q ≡ Some i → q ≡ p)

-- ---- The spawn that was polled in a step

-- on the spawn at this place, if there is one
abbrev pub on_last : Option ℕ → List PhaseCall → ℕ → List PhaseCall
on_last None calls k = []
on_last (Some p) calls k = on_place p calls k

-- its work, if there is one, isn't known to be over
abbrev pub IsOpenLast : Option ℕ → List SharedSpawn → Type 0
IsOpenLast None cells = Unit {0}
IsOpenLast (Some p) cells = IsOpenAt p cells

-- a poll with this label has ended the work
abbrev pub ends_poll : LoopLabel → Bool
ends_poll (loop_label.FutureEnds j) = true
ends_poll (loop_label.FutureAborted j) = true
ends_poll _ = false

abbrev pub ends_work : Option Label → Bool
ends_work (Some (label.Loop l)) = ends_poll l
ends_work _ = false

abbrev pub finish_if : Bool → List PhaseCall
finish_if true = Finish ∷ []
finish_if false = []

-- A work was polled: its spawn is the one that was polled last, and its cell was polled; if it is none's, no cell was.
pub record HasPolledCell (i : ℕ) (p : MainPlace) (a b : Cells) : Type 0 where
  pub spawn : (k : ℕ) (calls : List PhaseCall) → 1 ≤ k → if_same i (spawned_at p k) calls ≡ on_last b.polled calls k
  pub adds : Adds (on_last b.polled (PollFuture ∷ [])) 1 a.list.items b.list.items
  pub still : IsOpenLast b.polled b.list.items

-- that the work is over was noted at the cell that was polled, if it is, and no spawn is being polled any more
abbrev pub NotesOver : (over : Bool) → (a b : Cells) → Type 0
NotesOver over a b = Adds (on_last a.polled (finish_if over)) 1 a.list.items b.list.items × (b.polled ≡ None)

-- so it is if main's spawns are noted, and rise
abbrev pub PollsCell : ℕ → ScriptMain → (a b : Cells) → Type 0
PollsCell i m a b =
    0 < i → AreNoted m a.spawns → (last : ℕ) → IsRising 0 (place_of m).spawns last → HasPolledCell i (place_of m) a b

-- ---- Main's turn

-- these calls were made, in a turn in which no work is polled
abbrev pub CallsMade : (ℕ → List PhaseCall) → (a b : Cells) → Type 0
CallsMade f a b = Adds f 1 a.list.items b.list.items × (b.polled ≡ a.polled)

-- this call, on spawn j
abbrev pub HasCalled : PhaseCall → ℕ → (a b : Cells) → Type 0
HasCalled call j a b = CallsMade (λ k. if_same j k (call ∷ [])) a b

-- ---- The calls of a run

-- all that were made are early
abbrev pub IsEarly : Own → Type 0
IsEarly own = (k : ℕ) → own.early k ≡ length (own.calls k)

-- What the cells list goes on as the run's calls do. All calls are early as long as the last round is to come, and none of those after it.
pub record Follows (r : Round) (own after : Own) (olds news : List SharedSpawn) : Type 0 where
  pub called : AreCalled own.calls 1 olds → AreCalled after.calls 1 news
  pub early : is_before r ≡ true → IsEarly own → IsEarly after
  pub late : is_before r ≡ false → (k : ℕ) → after.early k ≡ own.early k
