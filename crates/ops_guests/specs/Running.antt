-- What ops ask of the thread that runs, or whose entry was taken.
use Rattle.task_wait.specs.declared.keys.ThreadKey.{ThreadKey}
use Rattle.task_wait.specs.declared.keys.GuestTaskKey.{GuestTaskKey}
use Rattle.task_table.specs.declared.id.TableId.{TableId}
use Rattle.core_primitives.specs.StateView.{StateView, call_of, thread_of}
use Rattle.std.specs.Prelude.{List, Some, [], false, is_some, true, ℕ, ◌≡◌, ◌<◌}
use Rattle.machine_data.specs.Core.{Core}
use Rattle.machine_data.specs.Maps.{get}
use Rattle.machine_data.specs.Read.{set_at, task_of}
use Rattle.machine_data.specs.declared.records.Place.{Place}
use Rattle.machine_data.specs.declared.records.Place.TheVariants as places
use Rattle.machine_data.specs.declared.records.Why.{Why}
use Rattle.machine_data.specs.declared.records.Why.TheVariants as why
use Rattle.machine_data.specs.declared.statuses.Mark.{Mark}
use Rattle.machine_rules.proofs.StandLemmas as rules
use Rattle.machine_rules.proofs.StandLemmas.{nobody}
use Rattle.machine_rules.specs.Places.{is_there}

-- The thread is at the place; it and those of the list have no entry and are among no callers, and each other thread has its place.
abbrev pub Stand : ℕ → Place → List ℕ → Core → Type 0
Stand n q xs s = rules.Stand nobody n (Some q) xs s

-- The thread runs, and each thread has its place.
abbrev pub IsRunning : ℕ → Core → Type 0
IsRunning n s = Stand n places.Running [] s

-- A handle of a set names one that is there.
abbrev pub SetsThere : Core → Type 0
SetsThere s = (i h x : ℕ) → set_at i h s ≡ Some x → is_some (get s.sets x) ≡ true

-- The thread is on top of its strand: whom it is under is gone. All others have their places.
pub record IsTopmost (n : ℕ) (s : Core) : Type 0 where
  pub place : Place
  pub stand : Stand n place [] s
  pub apart : (p : ℕ) → place ≡ places.Under p → is_there p s ≡ false

-- The start of the thread was taken from its mark, and each other thread has its place.
abbrev pub IsStartTaken : ℕ → Core → Type 0
IsStartTaken n s = (m : Mark) × Stand n (places.Ready m why.Start) [] s

-- The thread's entry was taken, which represented this, and each other thread has its place.
abbrev pub IsTaken : ℕ → Why → Core → Type 0
IsTaken n w s = (m : Mark) × Stand n (places.Ready m w) [] s

-- The id is that of the thread's call, which is there.
pub record IsTaskOf (call : TableId GuestTaskKey) (id : TableId ThreadKey) (s : StateView) : Type 0 where
  pub named : 0 < call_of s call
  pub is : call_of s call ≡ task_of (thread_of s id) s.core
