-- What an op answers, which its label shows, is what it is finished with, whoever has it done.
use Rattle.std.specs.Prelude.{Bool, List, false, true, ℕ, ◌≡◌}
pub use Rattle.ops_dispatch.specs.InPlace.{is_finished}
use Rattle.machine_data.specs.Core.{Core}
use Rattle.machine_data.specs.Labels.{Choice}
use Rattle.machine_data.specs.declared.component.Component.{Component}
use Rattle.machine_data.specs.declared.label.CallLabel.TheVariants as call_label
use Rattle.machine_data.specs.declared.label.Label.{Label}
use Rattle.machine_data.specs.declared.label.Label.TheVariants as label
use Rattle.machine_data.specs.declared.op.Op.{Op}
use Rattle.machine_data.specs.declared.statuses.HostPoll.{HostPoll}
use Rattle.ops_guests.specs.Shown.{shown}
use Rattle.ops_guests.specs.declared.op_result.OpAnswer.{OpAnswer}
use Rattle.ops_guests.specs.declared.op_result.OpAnswer.TheVariants as op_answer
use Rattle.machine_rules.specs.Finish as rules
use Rattle.machine_rules.specs.Finish.{Doer, NoAnswer, OneEvent, OneNumber, finish}
use Rattle.machine_rules.specs.Progress.{Asks, Fails, Continues, Never, Ordered, Progress, Stops, Traps, OneOf}
use Rattle.machine_rules.specs.Step.{op_rule}

-- ---- What an op is finished with

-- an op that has answered so; a direct call that begins isn't finished
abbrev pub finished_with : OpAnswer → rules.OpAnswer
finished_with op_answer.Nothing = NoAnswer
finished_with (op_answer.Number v) = OneNumber v
finished_with (op_answer.Value v) = OneNumber v
finished_with (op_answer.Event g) = OneEvent g
finished_with (op_answer.Entered m) = NoAnswer
finished_with op_answer.NoneDue = NoAnswer

-- a direct callee runs, and the op isn't done yet
abbrev pub is_entered : Label → Bool
is_entered (label.Call (call_label.Enters n m)) = true
is_entered _ = false

-- ---- Whoever has an op done

-- the thread goes on, and a and b are one core, finished for the one and for the other with what the label shows
abbrev pub FinishedAs : Bool → Doer → Doer → (n m : ℕ) → Label → (a b : Core) → Type 0
FinishedAs true d e n m l a b = a ≡ b
FinishedAs false d e n m l a b =
    (m ≡ n) × ((core : Core) × ((a ≡ finish d n (finished_with (shown l)) core) × (b ≡ finish e n (finished_with (shown l)) core)))

-- Two results are one but for how the op is finished.
abbrev pub IsAlike : Doer → Doer → ℕ → Progress → Progress → Type 0
IsAlike d e n (Continues l a m) (Continues k b j) = (l ≡ k) × ((m ≡ j) × FinishedAs (is_entered l) d e n m l a b)
IsAlike d e n (Stops l a) (Stops k b) = (l ≡ k) × (a ≡ b)
IsAlike d e n (Traps why) (Traps other) = why ≡ other
IsAlike d e n (Fails i) (Fails j) = i ≡ j
IsAlike d e n Never Never = Unit {0}
IsAlike d e n (OneOf ns next) (OneOf ms then) = (ns ≡ ms) × ((m : ℕ) → IsAlike d e n (next m) (then m))
IsAlike d e n (Ordered ns next) (Ordered ms then) = (ns ≡ ms) × ((order : List ℕ) → IsAlike d e n (next order) (then order))
IsAlike d e n (Asks next) (Asks then) = (answer : HostPoll) → IsAlike d e n (next answer) (then answer)
IsAlike d e n p q = ⊥

-- Whoever has an op done, it shows the same, and answers what it shows: a script's register gets what a host is answered. Where it is done
-- the thread goes on.
unfoldable pub AnswersAreShown : Type 0
AnswersAreShown = (d e : Doer) (c : Component) (n : ℕ) (s : Core) (ch : Choice) (o : Op) → is_finished o ≡ true →
    IsAlike d e n (op_rule d c n s ch o) (op_rule e c n s ch o)
