-- The summary of a run: how many labels of each kind it has, and its outcome.
use Rattle.run_trace.specs.Opened.{opened}
use Rattle.run_trace.specs.declared.kinds.LabelKind.{LabelKind}
use Rattle.std.specs.Prelude.{ℕ, Bool, true, false, List, ◌++◌, ◌≡◌, codes, cond, count_by, decimal, length}
use Rattle.machine_data.specs.declared.label.CallLabel.TheVariants as call_label
use Rattle.machine_data.specs.declared.label.Label.{Label}
use Rattle.machine_data.specs.declared.label.Label.TheVariants as label
use Rattle.machine_data.specs.declared.label.SetLabel.TheVariants as set_label
use Rattle.machine_data.specs.declared.label.TakeLabel.TheVariants as take
use Rattle.machine_data.specs.declared.label.TaskLabel.TheVariants as task_label
use Rattle.machine_data.specs.declared.label.ThreadLabel.TheVariants as thread_label
use Rattle.machine_data.specs.declared.outcome.Outcome.{Outcome}
use Rattle.machine_rules.specs.Texts.{line_text, outcome_text}

-- its line begins with `take`
abbrev pub takes : Label → Bool
takes (label.Take l) = true
takes _ = false

-- its line has ` held`
abbrev pub holds : Label → Bool
holds (label.Take (take.Held m n)) = true
holds (label.Take (take.HeldWakes m n w)) = true
holds _ = false

-- its line has ` wakes`
abbrev pub wakes : Label → Bool
wakes (label.Take (take.ThreadWakes m n w)) = true
wakes (label.Take (take.HeldWakes m n w)) = true
wakes (label.Take (take.EventWakes m e n w)) = true
wakes (label.Take (take.HostWakes m i w)) = true
wakes (label.Task (task_label.TaskCancelWakes n w)) = true
wakes (label.Task (task_label.ExitWakes n w)) = true
wakes (label.Set (set_label.WaitWakes e n w)) = true
wakes (label.Set (set_label.JoinWakes n w)) = true
wakes (label.RetWakes n v w) = true
wakes _ = false

-- its line ends with ` pauses`, or has ` pauses future`
abbrev pub pauses : Label → Bool
pauses (label.Thread (thread_label.Pauses n)) = true
pauses (label.Call (call_label.PausesPolls n i)) = true
pauses _ = false

-- a label of this kind counts as so many takings, held ones, ones that wake and ones that pause
pub record CountsAs (kind : LabelKind) (taken held waking pausing : ℕ) : Type 0 where
  pub takes : (s : ℕ) (own all : List ℕ) → cond (takes (opened kind s own all)) 1 0 ≡ taken
  pub holds : (s : ℕ) (own all : List ℕ) → cond (holds (opened kind s own all)) 1 0 ≡ held
  pub wakes : (s : ℕ) (own all : List ℕ) → cond (wakes (opened kind s own all)) 1 0 ≡ waking
  pub pauses : (s : ℕ) (own all : List ℕ) → cond (pauses (opened kind s own all)) 1 0 ≡ pausing

abbrev pub counted : List ℕ → ℕ → List ℕ
counted what n = line_text (what ++ decimal n)

-- how many labels there are, how many of each kind, and the outcome
abbrev pub summary : List Label → Outcome → List ℕ
summary labels o =
    counted (codes "steps ") (length labels)
    ++ counted (codes "takes ") (count_by takes labels)
    ++ counted (codes "holds ") (count_by holds labels)
    ++ counted (codes "wakes ") (count_by wakes labels)
    ++ counted (codes "pauses ") (count_by pauses labels)
    ++ line_text (outcome_text o)
