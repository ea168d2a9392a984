-- What is known of works that are settled when they are made, and of open ones.
use Rattle.std.specs.Prelude.{Bool, List, Option, Some, false, true, ℕ, ◌≡◌}
use Rattle.machine_data.specs.Core.{Core, Main, State, Unscripted}
use Rattle.machine_data.specs.Read.{course_of, goes_open, is_aborted, phase_of}
use Rattle.machine_data.specs.Write.{set_trapped}
use Rattle.machine_data.specs.declared.component.Component.{Component}
use Rattle.machine_data.specs.declared.component.HostDef.{HostDef}
use Rattle.machine_data.specs.declared.component.HostDef.TheVariants as host_def
use Rattle.machine_data.specs.declared.label.Label.{Label}
use Rattle.machine_data.specs.declared.label.Label.TheVariants as label
use Rattle.machine_data.specs.declared.label.LoopLabel.TheVariants as loop_label
use Rattle.machine_data.specs.declared.op.Op.{Op}
use Rattle.machine_data.specs.declared.records.Turn.TheVariants as turn
use Rattle.machine_data.specs.declared.statuses.HostPoll.{HostPoll}
use Rattle.machine_data.specs.declared.statuses.HostPoll.TheVariants as host_poll
use Rattle.machine_rules.specs.Chains.{WalkedAs}
use Rattle.machine_rules.specs.Run.{Run}
use Rattle.machine_rules.specs.Scripts.{HasOpen, host_at}
use Rattle.machine_rules.specs.Stalled.{Setting}
use Rattle.machine_rules.specs.Step.{Step}
use Rattle.machine_rules.specs.Turns.{goes_to}
use Rattle.machine_rules.specs.Works.{Asked, Poll, next_polled, poll_ends, poll_of, poll_pends}

-- no work is open
abbrev pub NoneOpen : Core → Type 0
NoneOpen s = (i : ℕ) → goes_open (course_of i s) ≡ false

-- No host of the component is open, and main is a script: so is each text.
pub record IsSettled (c : Component) (m : Main) : Type 0 where
  pub hosts : HasOpen c → ⊥
  pub main : m ≡ Unscripted → ⊥

-- Then no step makes an open work, whatever op a thread has, nor does a run.
unfoldable pub SettledStays : Type 0
SettledStays = (ops : ℕ → Op) (x : Setting) (s : State) (l : Label) (t : State) → IsSettled x.component s.main → WalkedAs ops x s l t →
    NoneOpen s.core → NoneOpen t.core × IsSettled x.component t.main

unfoldable pub RunsStaySettled : Type 0
RunsStaySettled = (x : Setting) (s : State) (ls : List Label) (t : State) → IsSettled x.component s.main → Run x s ls t → NoneOpen s.core →
    NoneOpen t.core × IsSettled x.component t.main

-- the polls of a host, and its end, are known before it is called
abbrev pub IsKnown : HostDef → Type 0
IsKnown host = (polls : Option ℕ) × ((value : Option ℕ) × (host ≡ host_def.Settled polls value))

-- the poll asks the work, which answers as it likes
abbrev pub is_asked : Poll → Bool
is_asked (Asked next) = true
is_asked _ = false

-- And then no poll is left to what a work answers: what a host does at its first is known, and so is what each live work does.
unfoldable pub NoneIsAsked : Type 0
NoneIsAsked = (c : Component) (s : Core) → (HasOpen c → ⊥) → NoneOpen s → ((h : ℕ) → IsKnown (host_at c h)) × ((i : ℕ) → is_asked (poll_of i s) ≡ false)

-- ---- Open works

-- the label says what the work has answered, and the state has the value
abbrev pub HasAnswered : State → ℕ → HostPoll → Label → State → Type 0
HasAnswered s i host_poll.Pending l t = (l ≡ label.Loop (loop_label.FuturePends i)) × (t ≡ goes_to s (poll_pends i host_def.Open s.core) (turn.Futures i))
HasAnswered s i (host_poll.Value v) l t = (l ≡ label.Loop (loop_label.FutureEnds i)) × (t ≡ goes_to s (poll_ends i (Some v) s.core) (turn.Take true))
HasAnswered s i host_poll.Failed l t = (l ≡ label.Loop (loop_label.FutureFails i)) × (t ≡ goes_to s (set_trapped s.core) turn.Over)

-- Where the next live work is open and wasn't aborted, each answer of it makes a step, and each step is made by one.
unfoldable pub OpenWorksAnswer : Type 0
OpenWorksAnswer = (x : Setting) (s : State) (n i : ℕ) → s.turn ≡ turn.Futures n → next_polled n s.core ≡ Some i →
    is_aborted (phase_of i s.core) ≡ false → goes_open (course_of i s.core) ≡ true → (l : Label) (t : State) →
    ((answer : HostPoll) → HasAnswered s i answer l t → Step x s l t) × (Step x s l t → (answer : HostPoll) × HasAnswered s i answer l t)
