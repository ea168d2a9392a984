-- What a step of a thread, or the taking of an entry, results in.
use Rattle.std.specs.Prelude.{ℕ, Bool, true, false, Option, Some, None, List}
use Rattle.machine_data.specs.declared.statuses.HostPoll.{HostPoll}
use Rattle.machine_data.specs.declared.trap.Trap.{Trap}
use Rattle.machine_data.specs.declared.label.Label.{Label}
use Rattle.machine_data.specs.Core.{Core}

pub data Progress : Type 0 where
  -- a thread goes on running
  Continues : (label : Label) → (new : Core) → (running : ℕ) → Progress
  -- nothing runs any more
  Stops : (label : Label) → (new : Core) → Progress
  Traps : (trap : Trap) → Progress
  -- a host work failed at its first poll
  Fails : (work : ℕ) → Progress
  -- what the label shows isn't lawful
  Never : Progress
  -- any order of these threads, which the label doesn't show
  Ordered : (held : List ℕ) → (next : List ℕ → Progress) → Progress
  -- any one of these threads, which the label doesn't show
  OneOf : (among : List ℕ) → (next : ℕ → Progress) → Progress
  -- a host is polled that is open: whatever it answers, which the label may not show
  Asks : (next : HostPoll → Progress) → Progress

abbrev pub trap_if : Bool → Trap → Progress → Progress
trap_if true t p = Traps t
trap_if false t p = p

-- the trap where there is nothing
abbrev pub or_trap : {X : Type 0} → Option X → Trap → (X → Progress) → Progress
or_trap None t next = Traps t
or_trap (Some x) t next = next x

-- where the choice is lawful
abbrev pub may : Bool → Progress → Progress
may true p = p
may false p = Never

abbrev pub or_never : {X : Type 0} → Option X → (X → Progress) → Progress
or_never None next = Never
or_never (Some x) next = next x
