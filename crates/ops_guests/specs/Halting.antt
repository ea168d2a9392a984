-- Whether a thread suspends or yields, as the code says it; and the thread that goes on first.
use Rattle.std.specs.Prelude.{Bool, Err, None, Ok, Option, Result, Some, false, true, ℕ, ◌==◌, ◌≡◌}
use Rattle.machine_data.specs.Core.{Core}
use Rattle.machine_data.specs.Moves.{promoted_unless, put_switch}
use Rattle.machine_data.specs.Read.{instance_of, thread_at}
use Rattle.machine_data.specs.declared.label.Label.{Label}
use Rattle.machine_data.specs.declared.trap.Trap.{Trap}
use Rattle.machine_data.specs.declared.trap.Trap.TheVariants as trap
use Rattle.ops_guests.specs.Does.{Rule}
use Rattle.machine_rules.specs.Cancels.{pauses}
use Rattle.machine_rules.specs.Finish.{Doer}
use Rattle.machine_rules.specs.Progress.{Progress, Stops, Traps}
use Rattle.machine_rules.specs.Threads.{Halt, Suspension, Yielding, halt_rule, halted, has_yielded, resume_why, then_promote_rule}
use Rattle.core_primitives.specs.StateView.{StateView, with_core}

abbrev pub halt_of : (yielding : Bool) → Halt
halt_of true = Yielding
halt_of false = Suspension

-- What comes of a thread that another one has go on first, by its handle: it does, or nothing is to be done for it, or that is refused.
pub data First : Type 0 where
  GoesFirst : (new : Core) → First
  StaysBehind : First
  Refused : (why : Trap) → First

abbrev pub refused_if : Bool → Trap → First → First
refused_if true t f = Refused t
refused_if false t f = f

abbrev pub or_refused : {X : Type 0} → Option X → Trap → (X → First) → First
or_refused None t next = Refused t
or_refused (Some x) t next = next x

-- trap 11 (CannotResumeThread) where it is this thread, or neither an explicit one that wasn't started nor suspended
abbrev pub resumed_found : ℕ → Core → ℕ → First
resumed_found n s m =
    refused_if (m == n) trap.CannotResumeThread (
    or_refused (resume_why m s) trap.CannotResumeThread (
    λ w. GoesFirst (put_switch m w s)))

-- it gets the switch entry; trap 16 (BadHandle) where the handle names no thread
abbrev pub resumed_first : ℕ → ℕ → Core → First
resumed_first n h s = or_refused (thread_at (instance_of n s) h s) trap.BadHandle (resumed_found n s)

abbrev pub promoted_if : Bool → ℕ → Core → First
promoted_if true m s = GoesFirst (promoted_unless m s)
promoted_if false m s = StaysBehind

-- trap 11 (CannotResumeThread) where it is this thread
abbrev pub promoted_found : ℕ → Core → ℕ → First
promoted_found n s m = refused_if (m == n) trap.CannotResumeThread (promoted_if (has_yielded m s) m s)

-- where it has yielded its entry moves to switch, unless one is there; trap 16 (BadHandle) where the handle names no thread
abbrev pub promoted_first : ℕ → ℕ → Core → First
promoted_first n h s = or_refused (thread_at (instance_of n s) h s) trap.BadHandle (promoted_found n s)

-- It resulted in this, and nothing else is changed.
abbrev pub ComesFirst : First → StateView → Result Bool Trap → StateView → Type 0
ComesFirst (GoesFirst new) s r t = (r ≡ Ok true) × (t ≡ with_core new s)
ComesFirst StaysBehind s r t = (r ≡ Ok false) × (t ≡ s)
ComesFirst (Refused why) s r t = (r ≡ Err why) × (t ≡ s)

-- then the strand stops, or the plain op follows
abbrev pub halts_then : Doer → Halt → ℕ → Label → Core → First → Progress
halts_then d x n l s (GoesFirst new) = Stops (pauses n) (halted x n new)
halts_then d x n l s StaysBehind = halt_rule d x n l s
halts_then d x n l s (Refused why) = Traps why

-- another thread goes on first, by its handle, or the plain op follows, which shows this label
abbrev pub promotes_first : Halt → (handle : ℕ) → Label → Rule
promotes_first x h l d n ch s = then_promote_rule d x n h l s
