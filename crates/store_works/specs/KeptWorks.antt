-- The works that are held.
use Rattle.store_works.specs.Course.{MayTell, one_fewer}
use Rattle.store_works.specs.Joined.{joined_phase, joined_work}
use Rattle.store_works.specs.declared.kept.HostWorks.{HostWorks}
use Rattle.machine_data.specs.declared.statuses.HostPoll.{HostPoll}
use Rattle.machine_data.specs.declared.statuses.HostPoll.TheVariants as polls
use Rattle.std.specs.HashMap.{get}
use Rattle.std.specs.Option.{option_and_then, option_map, option_map_or}
use Rattle.std.specs.Prelude.{[], Bool, None, Option, Some, false, nat_eq, true, ℕ, ◌≡◌, cond, ◌==◌}
use Rattle.task_abort.specs.PhaseLog.{after}
use Rattle.task_abort.specs.declared.log.PhaseCall.TheVariants.{Abort}
use Rattle.machine_data.specs.declared.component.HostDef.{HostDef}
use Rattle.machine_data.specs.declared.statuses.Phase.{Phase}
use Rattle.machine_data.specs.declared.statuses.Phase.TheVariants as phases

-- What a work that is held is still to do, and the phase of its cell.
pub record HeldWork : Type 0 where
  pub left : HostDef
  pub phase : Phase

abbrev pub Found : HostDef → Phase → HeldWork
Found d p = record { left = d; phase = p }

-- the work with this number, none if none is held
abbrev pub held : {H : Type 0} → (H → HostDef) → HostWorks H → ℕ → Option HeldWork
held course kept i = option_map (λ joined. Found (course (joined_work joined)) (joined_phase joined)) (get nat_eq kept.works i)

-- none is held
abbrev pub HoldsNone : {H : Type 0} → HostWorks H → Type 0
HoldsNone kept = kept.works.entries ≡ []

-- one that isn't held is over
abbrev pub found_phase : Option HeldWork → Phase
found_phase o = option_map_or (λ (w : HeldWork). w.phase) o phases.Complete

abbrev pub after_abort : Option HeldWork → Option HeldWork
after_abort o = option_map (λ (w : HeldWork). record w { phase = after Abort w.phase }) o

-- what a poll may answer: nothing of a work that isn't running
abbrev pub MayAnswerIn : Phase → HostDef → Option HostPoll → Type 0
MayAnswerIn phases.Running d (Some a) = MayTell d a
MayAnswerIn phases.Running d None = ⊥
MayAnswerIn p d a = a ≡ None

abbrev pub MayAnswer : Option HeldWork → Option HostPoll → Type 0
MayAnswer None a = a ≡ None
MayAnswer (Some w) a = MayAnswerIn w.phase w.left a

abbrev pub is_over : Option HostPoll → Bool
is_over None = true
is_over (Some (polls.Value v)) = true
is_over (Some a) = false

abbrev pub unless_over : Bool → HeldWork → Option HeldWork
unless_over true w = None
unless_over false w = Some (record w { left = one_fewer w.left })

-- what is held of it once it answered so
abbrev pub after_poll : Option HostPoll → Option HeldWork → Option HeldWork
after_poll a o = option_and_then (λ (w : HeldWork). unless_over (is_over a) w) o

-- This work is held under the number, and runs; all else is as before.
abbrev pub HoldsMore : {H : Type 0} → (H → HostDef) → (number : ℕ) → H → (old new : HostWorks H) → Type 0
HoldsMore course number work old new =
    (i : ℕ) → held course new i ≡ cond (number == i) (Some (Found (course work) phases.Running)) (held course old i)
