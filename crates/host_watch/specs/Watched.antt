-- What a step of main shows of what it has made, and what a main and a work are that are watched.
use Rattle.std.specs.Prelude.{Bool, None, Option, Some, not, true, ℕ, ◌+◌, ◌≡◌}
use Rattle.machine_data.specs.declared.component.HostDef.{HostDef}
use Rattle.machine_data.specs.declared.label.Label.{Label}
use Rattle.machine_data.specs.declared.label.Label.TheVariants as label
use Rattle.machine_data.specs.declared.label.MainLabel.TheVariants as main_label
use Rattle.ops_turns.specs.declared.mains.MainStep.{MainStep}
use Rattle.ops_turns.specs.declared.mains.MainStep.TheVariants as step
use Rattle.task_loop.specs.Says.{Says}
use Rattle.host_watch.specs.declared.mains.WatchedMain.{WatchedMain}

-- the thread that a label shows as main's new one, and the work
abbrev pub label_thread : Label → Option ℕ
label_thread (label.Main (main_label.Start k n)) = Some n
label_thread _ = None

abbrev pub label_work : Label → Option ℕ
label_work (label.Main (main_label.Spawn k i)) = Some i
label_work _ = None

-- the same of a step
abbrev pub thread_shown : MainStep → Option ℕ
thread_shown (step.Did l) = label_thread l
thread_shown _ = None

abbrev pub work_shown : MainStep → Option ℕ
work_shown (step.Did l) = label_work l
work_shown _ = None

-- of so many there are so many afterwards: what is shown is the one that was made; where nothing is shown, none was made
abbrev pub IsShown : Option ℕ → ℕ → ℕ → Type 0
IsShown None before after = after ≡ before
IsShown (Some n) before after = (n ≡ after) × (after ≡ before + 1)

-- a label may be shown, by whether something was returned to main, and whether a task was interesting, before the step
abbrev pub label_may : Label → Bool → Bool → Bool
label_may (label.Main (main_label.Finish k v)) returned interesting = returned
label_may (label.Main main_label.Quiet) returned interesting = not interesting
label_may _ returned interesting = true

-- whether the store is trapped after a step with this label, by whether it was before
abbrev pub label_traps : Label → Bool → Bool
label_traps (label.Main (main_label.StartRefused why k)) before = true
label_traps _ before = before

-- the same of a step
abbrev pub may_show : MainStep → Bool → Bool → Bool
may_show (step.Did l) returned interesting = label_may l returned interesting
may_show _ returned interesting = true

abbrev pub trapped_by : MainStep → Bool → Bool
trapped_by (step.Did l) before = label_traps l before
trapped_by _ before = before

-- a watched main says what the main says that it holds
abbrev pub watched_says : {M : Type 0} → Says M → Says (WatchedMain M)
watched_says says = record {
  part = λ w. says.part w.main;
  script = λ w. says.script w.main;
  suits = λ w c. says.suits w.main c;
  knows = λ w s. says.knows w.main s;
  does = λ w s q v t. says.does w.main s q v.main t;
}
