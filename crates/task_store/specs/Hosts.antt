-- The host works that a store holds.
use Rattle.laws_order.specs.Cells.{is_spawned, phase_told}
use Rattle.store_works.specs.KeptWorks.{Found, HeldWork, after_poll, held}
use Rattle.std.specs.Prelude.{◌==◌, ◌≡◌, ◌≤◌, Bool, None, Option, Some, cond, false, is_some, option_map, true, ℕ}
use Rattle.machine_data.specs.Core.{Core}
use Rattle.machine_data.specs.Maps.{get}
use Rattle.machine_data.specs.declared.component.HostDef.{HostDef}
use Rattle.machine_data.specs.declared.records.Course.{Course}
use Rattle.machine_data.specs.declared.records.Course.TheVariants as courses
use Rattle.machine_data.specs.declared.records.Work.{Work}
use Rattle.machine_data.specs.declared.records.WorkCaller.{WorkCaller}
use Rattle.machine_data.specs.declared.statuses.HostPoll.{HostPoll}
use Rattle.machine_data.specs.declared.statuses.Phase.{Phase}
use Rattle.machine_data.specs.declared.statuses.Phase.TheVariants as phases
use Rattle.machine_rules.specs.MainOps.{is_complete}
use Rattle.machine_rules.specs.Works.{has_end}
use Rattle.task_store.specs.declared.store.Store.{Store}

-- one that has ended isn't held
abbrev pub held_of : Course → Phase → Option HeldWork
held_of (courses.Continues d) p = Some (Found d p)
held_of _ p = None

-- What is held of a work is what its record says: what it is still to do, and the phase of its cell. A spawned work is complete just
-- where it has ended.
pub record HoldsWork (o : Option HeldWork) (f : WorkCaller) (p : Phase) (c : Course) : Type 0 where
  pub held : o ≡ held_of c (phase_told f p)
  pub spawned : is_spawned f ≡ true → is_complete p ≡ has_end c

abbrev pub HoldsAt : Option HeldWork → Option Work → Type 0
HoldsAt o None = o ≡ None
HoldsAt o (Some w) = HoldsWork o w.caller w.phase w.course

-- Just the works that haven't ended are held. No work has the number 0.
pub record HoldsWorks (held : ℕ → Option HeldWork) (s : Core) : Type 0 where
  pub each : (i : ℕ) → HoldsAt (held i) (get s.works i)
  pub first : get s.works 0 ≡ None

-- what the store holds of the work with this number
abbrev pub held_by : {T H G : Type 0} → (H → HostDef) → Store T H G → ℕ → Option HeldWork
held_by course store i = held course store.works i

abbrev pub HoldsHosts : {T H G : Type 0} → (H → HostDef) → Store T H G → Type 0
HoldsHosts course store = HoldsWorks (held_by course store) store.state.core

-- each work that is there has a number that was given
abbrev pub WorksNumbered : Core → Type 0
WorksNumbered s = (i : ℕ) → is_some (get s.works i) ≡ true → i ≤ s.made.works

-- a work that is still to do this, and that nobody has aborted
abbrev pub running : HostDef → Option HeldWork
running d = Some (Found d phases.Running)

-- what is held once a call has polled a host first, whose work is still to do this, and the work k that it has made, if any, goes on
abbrev pub held_after_call : Option ℕ → Option HostDef → (ℕ → Option HeldWork) → ℕ → Option HeldWork
held_after_call None d left i = left i
held_after_call (Some k) None left i = left i
held_after_call (Some k) (Some d) left i = cond (k == i) (running d) (left i)

-- the same works are held as before, but for that with this number, of which this is held
abbrev pub HoldsBut : ℕ → Option HeldWork → (old new : ℕ → Option HeldWork) → Type 0
HoldsBut n o old new = (i : ℕ) → new i ≡ cond (n == i) o (old i)

-- but for that which a guest's call has polled first, if it has made one
abbrev pub HoldsCalled : {T H G : Type 0} → (H → HostDef) → Option ℕ → Option H → (s t : Store T H G) → Type 0
HoldsCalled course work called s t =
    (i : ℕ) → held_by course t i ≡ held_after_call work (option_map course called) (held_by course s) i

-- what is held of a work once its call polled it first, found this, and was made, or was refused
abbrev pub settled : Bool → HostPoll → Option HeldWork → Option HeldWork
settled true a o = after_poll (Some a) o
settled false a o = None
