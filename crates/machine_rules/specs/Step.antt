-- The steps of the machine, by turn and label.
use Rattle.std.specs.List.{list_any}
use Rattle.std.specs.Prelude.{◌==◌, Bool, IsPermutation, List, None, Option, Some, false, true, ℕ, ◌≡◌}
use Rattle.machine_data.specs.declared.component.Component.{Component}
use Rattle.machine_data.specs.declared.records.Entry.{Entry}
use Rattle.machine_data.specs.declared.label.Label.{Label}
use Rattle.machine_data.specs.declared.scenario.MainOpDef.{MainOpDef}
use Rattle.machine_data.specs.declared.statuses.HostPoll.{HostPoll}
use Rattle.machine_data.specs.declared.statuses.Mark.{Mark}
use Rattle.machine_data.specs.declared.op.Op.{Op}
use Rattle.machine_data.specs.declared.trap.Trap.{Trap}
use Rattle.machine_data.specs.declared.records.Turn.{Turn}
use Rattle.machine_data.specs.declared.label.CallLabel.TheVariants as call_label
use Rattle.machine_data.specs.declared.records.Entry.TheVariants as entry
use Rattle.machine_data.specs.declared.label.Label.TheVariants as label
use Rattle.machine_data.specs.declared.label.LoopLabel.TheVariants as loop_label
use Rattle.machine_data.specs.declared.label.MainLabel.TheVariants as main_label
use Rattle.machine_data.specs.declared.op.Op.TheVariants as op
use Rattle.machine_data.specs.declared.records.Turn.TheVariants as turn
use Rattle.machine_data.specs.Core.{Core, Main, MainPlace, Scripted, State, Unscripted}
use Rattle.machine_data.specs.Labels.{Choice, choice_of}
use Rattle.machine_data.specs.Moves.{ended}
use Rattle.machine_data.specs.Read.{next_entry, strand_of}
use Rattle.machine_data.specs.Write.{remove_threads, set_trapped}
use Rattle.machine_rules.specs.Cancels.{call_answer, subtask_rule}
use Rattle.machine_rules.specs.Data.{data_rule}
use Rattle.machine_rules.specs.MainOps.{Answers, Does, MainAct, MainProgress, Pends, act_of, advanced_main, line_of, main_rule, may_act, op_at}
use Rattle.machine_rules.specs.Progress.{Fails, Continues, Never, OneOf, Ordered, Progress, Stops, Traps, Asks}
use Rattle.machine_rules.specs.Scripts.{op_of}
use Rattle.machine_rules.specs.Sets.{set_answer, set_rule}
use Rattle.machine_rules.specs.Stalled.{Setting, deadlock_trap, is_unended_take, may_deadlock}
use Rattle.machine_rules.specs.Takes.{popped, take_rule}
use Rattle.machine_rules.specs.Finish.{Doer, OwnScript}
use Rattle.machine_rules.specs.Task.{task_rule}
use Rattle.machine_rules.specs.Threads.{thread_answer, thread_rule}
use Rattle.machine_rules.specs.Turns.{at_turn, goes_to}
use Rattle.machine_rules.specs.Works.{Ends, FailsNow, Poll, StillPends, has_moving_work, next_polled, poll_pends, poll_of, poll_ends, Asked}

-- ---- What runs

-- the running thread's op, by its group the rule of an op: what it results in, by whoever has the thread do it; those on registers
-- and memory cells are a script's alone
abbrev pub op_rule : Doer → Component → ℕ → Core → Choice → Op → Progress
op_rule d c n s ch (op.Data o) = data_rule c n s o
op_rule d c n s ch (op.Task o) = task_rule d n s ch o
op_rule d c n s ch (op.Set o) = set_rule d n s ch o
op_rule d c n s ch (op.Call o) = subtask_rule d c n s o
op_rule d c n s ch (op.Thread o) = thread_rule d c n s o

-- the register of the op's answer; default: it has none
abbrev pub answer_register : Op → ℕ
answer_register (op.Set o) = set_answer o
answer_register (op.Call o) = call_answer o
answer_register (op.Thread o) = thread_answer o
answer_register _ = 0

-- who has an op done in a run of scripts
abbrev pub own_script : Op → Doer
own_script o = OwnScript (answer_register o)

-- as the thread's script has it done
abbrev pub scripted_op_rule : Component → ℕ → Core → Choice → Op → Progress
scripted_op_rule c n s ch o = op_rule (own_script o) c n s ch o

-- what the next step of the running thread results in, where it chooses so
unfoldable pub did : Component → ℕ → Core → Choice → Progress
did c n s ch = scripted_op_rule c n s ch (op_of c n s)

-- the strand of n is gone, the store is trapped and all groups are finished
unfoldable pub unwound : ℕ → Core → Core
unwound n s = set_trapped (remove_threads (strand_of n s) s)

abbrev pub trap_label : ℕ → Trap → Label
trap_label n t = label.Loop (loop_label.Trap t n)

abbrev pub is_among : ℕ → List ℕ → Bool
is_among m ns = list_any (λ n. m == n) ns

-- From s, where n runs or was taken in the core, the progress shows the label and leads to t.
abbrev pub Progresses : State → Core → ℕ → Progress → Label → State → Type 0
Progresses s base n (Continues label new m) l t = (l ≡ label) × (t ≡ goes_to s new (turn.Run m))
Progresses s base n (Stops label new) l t = (l ≡ label) × (t ≡ goes_to s new turn.Main)
Progresses s base n (Traps trap) l t = (l ≡ trap_label n trap) × (t ≡ goes_to s (unwound n base) turn.Over)
Progresses s base n (Fails i) l t = (l ≡ label.Call (call_label.Fails n i)) × (t ≡ goes_to s (unwound n base) turn.Over)
Progresses s base n Never l t = ⊥
Progresses s base n (Ordered ns next) l t = (order : List ℕ) × (IsPermutation ns order × Progresses s base n (next order) l t)
Progresses s base n (OneOf ns next) l t = (m : ℕ) × ((is_among m ns ≡ true) × Progresses s base n (next m) l t)
Progresses s base n (Asks next) l t = (answer : HostPoll) × Progresses s base n (next answer) l t

-- ---- The turns

-- the ops of main: of a script the op at its place, else any act that a main may do
abbrev pub MainProgresses : State → MainPlace → MainOpDef → MainProgress → Label → State → Type 0
MainProgresses s p o (Does l new) x t = (x ≡ label.Main l) × (t ≡ at_turn s new (Scripted (advanced_main o l p)) turn.Main)
MainProgresses s p o Pends x t = (x ≡ label.Loop loop_label.MainPends) × (t ≡ goes_to s s.core (turn.Futures 0))
MainProgresses s p o (Answers v) x t = (x ≡ label.Main (main_label.Answer v)) × (t ≡ goes_to s s.core turn.Over)

abbrev pub ScriptStep : Setting → State → MainPlace → Option MainOpDef → Label → State → Type 0
ScriptStep x s p None l t = (l ≡ label.Loop loop_label.MainPends) × (t ≡ goes_to s s.core (turn.Futures 0))
ScriptStep x s p (Some o) l t = MainProgresses s p o (main_rule x.component (line_of p o) s.core (act_of p o)) l t

abbrev pub OpenProgresses : State → MainProgress → Label → State → Type 0
OpenProgresses s (Does l new) x t = (x ≡ label.Main l) × (t ≡ goes_to s new turn.Main)
OpenProgresses s Pends x t = ⊥
OpenProgresses s (Answers v) x t = (x ≡ label.Main (main_label.Answer v)) × (t ≡ goes_to s s.core turn.Over)

-- a main that is no script does such an act, in an op that is the k-th of its kind or names it
abbrev pub OpenAct : Setting → State → ℕ → MainAct → Label → State → Type 0
OpenAct x s k act l t = (may_act x.component s.core act ≡ true) × OpenProgresses s (main_rule x.component k s.core act) l t

-- it may pend, or do any act that a main may do in this core
abbrev pub OpenStep : Setting → State → Label → State → Type 0
OpenStep x s (label.Loop loop_label.MainPends) t = t ≡ goes_to s s.core (turn.Futures 0)
OpenStep x s l t = (k : ℕ) × ((act : MainAct) × OpenAct x s k act l t)

abbrev pub MainStep : Setting → State → Main → Label → State → Type 0
MainStep x s (Scripted p) l t = ScriptStep x s p (op_at x.script p) l t
MainStep x s Unscripted l t = OpenStep x s l t

-- a live work is polled
abbrev pub Polled : State → ℕ → Poll → Label → State → Type 0
Polled s i (StillPends host) l t = (l ≡ label.Loop (loop_label.FuturePends i)) × (t ≡ goes_to s (poll_pends i host s.core) (turn.Futures i))
Polled s i (Ends v) l t = (l ≡ label.Loop (loop_label.FutureEnds i)) × (t ≡ goes_to s (poll_ends i v s.core) (turn.Take true))
Polled s i FailsNow l t = (l ≡ label.Loop (loop_label.FutureFails i)) × (t ≡ goes_to s (set_trapped s.core) turn.Over)
Polled s i (Asked next) l t = (answer : HostPoll) × Polled s i (next answer) l t

abbrev pub FuturesStep : State → Option ℕ → Label → State → Type 0
FuturesStep s None l t = ⊥
FuturesStep s (Some i) l t = Polled s i (poll_of i s.core) l t

abbrev pub RestStep : State → Bool → Label → State → Type 0
RestStep s true l t = (l ≡ label.Loop loop_label.Rest) × (t ≡ goes_to s s.core turn.Main)
RestStep s false l t = ⊥

abbrev pub DeadlockStep : State → Bool → Label → State → Type 0
DeadlockStep s true l t = (l ≡ label.Loop (loop_label.Deadlock (deadlock_trap s.core))) × (t ≡ goes_to s (set_trapped s.core) turn.Over)
DeadlockStep s false l t = ⊥

-- nothing is there: the turn rests where some live work goes on, else it may be a deadlock
abbrev pub EmptyFor : Setting → State → Bool → Label → State → Type 0
EmptyFor x s true l t = RestStep s (is_unended_take s.turn) l t
EmptyFor x s false l t = DeadlockStep s (may_deadlock x s) l t

abbrev pub EmptyStep : Setting → State → Label → State → Type 0
EmptyStep x s l t = EmptyFor x s (has_moving_work s.core) l t

abbrev pub entry_number : Entry → ℕ
entry_number (entry.Thread n) = n
entry_number (entry.Push i) = i
entry_number (entry.Host i) = i

abbrev pub TakeStep : Setting → State → Option (Mark × Entry) → Label → State → Type 0
TakeStep x s None l t = EmptyStep x s l t
TakeStep x s (Some e) l t = let base = popped e.0 s.core in Progresses s base (entry_number e.1) (take_rule e.0 (choice_of l) base e.1) l t

abbrev pub RunStep : Component → State → ℕ → Label → State → Type 0
RunStep c s n l t = Progresses s s.core n (did c n s.core (choice_of l)) l t

abbrev pub TurnStep : Setting → State → Turn → Label → State → Type 0
TurnStep x s turn.Main l t = MainStep x s s.main l t
TurnStep x s (turn.Futures n) l t = FuturesStep s (next_polled n s.core) l t
TurnStep x s (turn.Take ended) l t = TakeStep x s (next_entry s.core) l t
TurnStep x s (turn.Run n) l t = RunStep x.component s n l t
TurnStep x s turn.Over l t = ⊥

-- what a step in this turn is where each thread has this op, and this one has it done
abbrev pub TurnStepAs : (Op → Doer) → (ℕ → Op) → Setting → State → Turn → Label → State → Type 0
TurnStepAs by ops x s (turn.Run n) l t = Progresses s s.core n (op_rule (by (ops n)) x.component n s.core (choice_of l) (ops n)) l t
TurnStepAs by ops x s p l t = TurnStep x s p l t

unfoldable pub StepAs : (Op → Doer) → (ℕ → Op) → Setting → State → Label → State → Type 0
StepAs by ops x s l t = TurnStepAs by ops x s s.turn l t

-- From s the machine may show the label, and then is in t.
unfoldable pub Step : Setting → State → Label → State → Type 0
Step x s l t = TurnStep x s s.turn l t
