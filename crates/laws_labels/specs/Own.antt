-- Whose a label is.
use Rattle.std.specs.Prelude.{Bool, List, None, Option, Some, false, not, option_map, true, ℕ, ◌&&◌, ◌≡◌}
use Rattle.machine_data.specs.Core.{Core, State}
use Rattle.machine_data.specs.Read.{next_entry}
use Rattle.machine_data.specs.declared.label.Label.{Label}
use Rattle.machine_data.specs.declared.label.Label.TheVariants as label
use Rattle.machine_data.specs.declared.label.LoopLabel.TheVariants as loop_label
use Rattle.machine_data.specs.declared.label.TakeLabel.{TakeLabel}
use Rattle.machine_data.specs.declared.label.TakeLabel.TheVariants as take
use Rattle.machine_data.specs.declared.outcome.Outcome.{Outcome}
use Rattle.machine_data.specs.declared.outcome.Outcome.TheVariants as outcome
use Rattle.machine_data.specs.declared.records.Entry.{Entry}
use Rattle.machine_data.specs.declared.records.Turn.{Turn}
use Rattle.machine_data.specs.declared.records.Turn.TheVariants as turn
use Rattle.machine_data.specs.declared.trap.Trap.{Trap}
use Rattle.machine_data.specs.declared.trap.Trap.TheVariants as trap
use Rattle.machine_data.specs.declared.statuses.Mark.{Mark}
use Rattle.machine_rules.specs.Outcome.{outcome_of_label}
use Rattle.machine_data.specs.declared.statuses.HostPoll.{HostPoll}
use Rattle.machine_rules.specs.Progress.{Asks, Fails, Continues, Never, Ordered, Progress, Stops, Traps, OneOf}
use Rattle.machine_rules.specs.Stalled.{Setting}
use Rattle.machine_rules.specs.Step.{Step}

-- a label of the running thread's op
abbrev pub is_own : Label → Bool
is_own (label.Main l) = false
is_own (label.Loop l) = false
is_own (label.Take l) = false
is_own _ = true

-- of an op on registers and memory cells
abbrev pub is_data : Label → Bool
is_data (label.Data l) = true
is_data _ = false

-- of any other op of the running thread
abbrev pub is_done : Label → Bool
is_done l = is_own l && not (is_data l)

-- the mark at which the entry was that a taking shows
abbrev pub mark_of : TakeLabel → Mark
mark_of (take.Thread m n) = m
mark_of (take.ThreadWakes m n w) = m
mark_of (take.Held m n) = m
mark_of (take.HeldWakes m n w) = m
mark_of (take.Again m n) = m
mark_of (take.Event m g n) = m
mark_of (take.EventWakes m e n w) = m
mark_of (take.Push m i) = m
mark_of (take.Host m i) = m
mark_of (take.HostWakes m i w) = m

-- none if it is no label of a taking
abbrev pub mark_taken : Label → Option Mark
mark_taken (label.Take l) = Some (mark_of l)
mark_taken _ = None

-- whether it is the entry of a host call that was taken
abbrev pub is_of_host : TakeLabel → Bool
is_of_host (take.Host m i) = true
is_of_host (take.HostWakes m i w) = true
is_of_host _ = false

-- the mark, and that
abbrev pub taking_shown : Label → Option (Mark × Bool)
taking_shown (label.Take l) = Some (mark_of l, is_of_host l)
taking_shown _ = None

-- a label of main: it did an op, answered, or waits
abbrev pub is_of_main : Label → Bool
is_of_main (label.Main l) = true
is_of_main (label.Loop loop_label.MainPends) = true
is_of_main _ = false

-- The traps in which a rule can end: 1 to 14, 16 to 18, 25. The others are those of a deadlock, of borrows that are left, of refused
-- starts and runs, of the hook, and of a store that can't be lent.
abbrev pub is_rule_trap : Trap → Bool
is_rule_trap trap.AsyncDeadlock = false
is_rule_trap trap.ScopeExit = false
is_rule_trap trap.CannotEnterComponent = false
is_rule_trap trap.RecursiveRun = false
is_rule_trap trap.HookFailed = false
is_rule_trap trap.StoreTaken = false
is_rule_trap trap.StoreAbsent = false
is_rule_trap _ = true

-- What it shows, where it goes on or stops, is such a label; and if it traps, it is such a trap.
abbrev pub Shows : (Label → Type 0) → Progress → Type 0
Shows P (Continues l new m) = P l
Shows P (Stops l new) = P l
Shows P (OneOf ns next) = (m : ℕ) → Shows P (next m)
Shows P (Ordered held next) = (order : List ℕ) → Shows P (next order)
Shows P (Asks next) = (answer : HostPoll) → Shows P (next answer)
Shows P (Traps t) = is_rule_trap t ≡ true
Shows P (Fails i) = Unit {0}
Shows P Never = Unit {0}

-- ---- What is so of each step

abbrev pub is_main_turn : Turn → Bool
is_main_turn turn.Main = true
is_main_turn _ = false

-- main's labels are those of its turns
abbrev pub MainAtItsTurns : Type 0
MainAtItsTurns = (x : Setting) (s : State) (l : Label) (t : State) → Step x s l t → is_of_main l ≡ is_main_turn s.turn

-- Of an entry that is taken at this turn: it is the next one.
abbrev pub TakesNext : Turn → Core → Mark → Type 0
TakesNext (turn.Take ended) s m = (e : Entry) × (next_entry s ≡ Some (m, e))
TakesNext _ s m = ⊥

-- a label of a taking is at a turn of takings, and shows the mark of the entry that was next
abbrev pub TakingsShowMarks : Type 0
TakingsShowMarks = (x : Setting) (s : State) (l : Label) (t : State) → Step x s l t → (m : Mark) → mark_taken l ≡ Some m →
    TakesNext s.turn s.core m

-- ---- What a step shows of the entry that is next

abbrev pub is_rest : Label → Bool
is_rest (label.Loop loop_label.Rest) = true
is_rest _ = false

-- the mark of the entry that is next in the turn
abbrev pub next_mark : Turn → Core → Option Mark
next_mark (turn.Take ended) s = option_map (λ e. e.0) (next_entry s)
next_mark _ s = None

-- a turn of takings without an entry rests
abbrev pub rests_by : Turn → Option Mark → Bool
rests_by (turn.Take ended) None = true
rests_by _ _ = false

-- a step that gives no outcome takes the entry that is next in its turn, and rests just where none is in a turn of takings
abbrev pub GoingsShowNext : Type 0
GoingsShowNext = (x : Setting) (s : State) (l : Label) (t : State) → Step x s l t → outcome_of_label l ≡ None →
    (mark_taken l ≡ next_mark s.turn s.core) × (is_rest l ≡ rests_by s.turn (next_mark s.turn s.core))

-- a label that gives an outcome shows no taking
abbrev pub EndsTakeNone : Type 0
EndsTakeNone = (l : Label) (o : Outcome) → outcome_of_label l ≡ Some o → mark_taken l ≡ None

-- ---- By which traps a step ends

-- that of a deadlock
abbrev pub is_deadlock_trap : Trap → Bool
is_deadlock_trap trap.CannotBlockSyncTask = true
is_deadlock_trap trap.AsyncDeadlock = true
is_deadlock_trap _ = false

-- a trap is one of a rule, and a deadlock's is one of its own
abbrev pub is_of_rules : Outcome → Bool
is_of_rules (outcome.Trap t) = is_rule_trap t
is_of_rules (outcome.Deadlock t) = is_deadlock_trap t
is_of_rules _ = true

-- so is the outcome that the label of a step gives
abbrev pub EndsAreOfRules : Type 0
EndsAreOfRules = (x : Setting) (s : State) (l : Label) (t : State) → Step x s l t →
    (o : Outcome) → outcome_of_label l ≡ Some o → is_of_rules o ≡ true
